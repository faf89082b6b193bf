-- Filled books over their changes, and what is chosen of them.
use Rattle.std.proofs.Common.{◌≡◌, ℕ, false, not, List, [], ◌∷◌, Some, None, IsSome, IfSome, zero, suc, take, map, sym, ◌∙◌, refl}
use Rattle.std.specs.Prelude.{◌==◌}
use Rattle.std.specs.List.{AllByRecursion, Contains, slice_get}
use Rattle.std.proofs.lemmas.Bool.{eq-eqb, true≢false}
use Rattle.plain_sets.specs.Ordered.{ordered, firsts}
use Rattle.plain_sets.proofs.OrderLaws.{all_weaker, placed-all, ordered-all}
use Rattle.plain_sets.proofs.OrderSame.{all_at, filter-all}
use Rattle.plain_sets.proofs.OrderFirst.{all_from}
use Rattle.plain_sets.proofs.FirstLaws.{firsts-all}
use Rattle.homa_plain.specs.Grants.{chosen_by}
use Rattle.homa_grants.specs.Books.{Book}
use Rattle.homa_grants.specs.Entries.{Entry, entry_key, entry_peer, entry_of, without, entered, with_remaining, IsOwnOrder}
use Rattle.homa_grants.proofs.EntryLaws.{found-passes, none-passes}
use Rattle.bench_books.specs.Filled.{IsFilled}

-- only a slot's own message has the slot as its order
pub own_order : (slot : ℕ) (b : Book) → IsFilled b → IsOwnOrder slot slot b.entries
own_order slot b filled =
    all_weaker (λ (e : Entry). e.order ≡ e.slot) (λ (e : Entry). e.order ≡ slot → e.slot ≡ slot) (λ e own is. sym own ∙ is) b.entries filled.orders

-- a filled book with a message whose order is its slot
pub filled_entered : (b : Book) (e : Entry) → e.order ≡ e.slot → IsFilled b → IsFilled (record b { entries = entered e b.entries })
filled_entered b e own filled = record {
  slots = filled.slots;
  hosts = filled.hosts;
  orders = placed-all entry_key (λ f. f.order ≡ f.slot) e (without e.slot b.entries) own
      (filter-all (λ f. f.order ≡ f.slot) (λ f. not (f.slot == e.slot)) b.entries filled.orders);
}

-- a filled book in which other bytes of a message are missing
pub filled_changed : (slot remaining : ℕ) (b : Book) → IsFilled b
    → IsFilled (record b { entries = with_remaining remaining (entry_of slot b.entries) b.entries })
filled_changed slot remaining b filled =
    elim (entry_of slot b.entries) as (λ o. entry_of slot b.entries ≡ o → IsFilled (record b { entries = with_remaining remaining o b.entries })) [
      | None ↦ λ is. filled
      | Some e ↦ λ is. filled_entered b (record e { remaining = remaining })
          (found-passes (λ f. f.order ≡ f.slot) (λ f. f.slot == slot) b.entries e filled.orders is).0 filled
    ] refl

-- a message is found under its slot
own_found : (es : List Entry) (e : Entry) → Contains es e → IsSome (entry_of e.slot es)
own_found es e c =
    elim (entry_of e.slot es) as (λ o. entry_of e.slot es ≡ o → IsSome o) [
      | None ↦ λ none. absurd
          (true≢false (sym (eq-eqb e.slot e.slot refl) ∙ all_at (λ f. (f.slot == e.slot) ≡ false) es e (none-passes (λ f. f.slot == e.slot) es none) c))
      | Some f ↦ λ is. refl
    ] refl

-- what holds of all holds of the first of a front
first_front : (P : ℕ → Type 0) (k : ℕ) (es : List Entry) → AllByRecursion (λ e. P e.slot) es → IfSome (slice_get (map (λ (e : Entry). e.slot) (take k es)) 0) P
first_front P zero es all = tt
first_front P (suc k) [] all = tt
first_front P (suc k) (e ∷ es) all = all.0

-- the slot that is chosen first has a message
pub chosen_found : (k : ℕ) (es : List Entry) → IfSome (slice_get (map (λ (e : Entry). e.slot) (chosen_by entry_peer entry_key k es)) 0)
    (λ slot. IsSome (entry_of slot es))
chosen_found k es =
    first_front (λ slot. IsSome (entry_of slot es)) k (firsts entry_peer (ordered entry_key es))
    (firsts-all entry_peer (λ e. IsSome (entry_of e.slot es)) (ordered entry_key es)
    (ordered-all entry_key (λ e. IsSome (entry_of e.slot es)) es (all_from (λ e. IsSome (entry_of e.slot es)) es (own_found es))))
