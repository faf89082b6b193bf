-- What is noted where the message that arrives under a slot changes: where nothing was, no GRANT is due.
use Rattle.std.proofs.Common.{◌≡◌, ℕ, Bool, true, false, cond, ◌==◌, Option, Some, None, is_some, List, [], ◌∷◌, ◌++◌, map, refl, sym, ap, subst, ◌∙◌, inl, inr}
use Rattle.std.specs.List.{AllByRecursion, Contains}
use Rattle.std.proofs.lemmas.Bool.{eq-eqb, true≢false}
use Rattle.std.proofs.lemmas.List.{map-append}
use Rattle.std.proofs.lemmas.List.Elements.{Contains-append_right}
use Rattle.std.proofs.lemmas.List.Sorted.{Contains-permutation}
use Rattle.plain_sets.specs.Ordered.{ordered}
use Rattle.plain_sets.proofs.OrderLaws.{permutation-ordered}
use Rattle.plain_sets.proofs.OrderSame.{here, none_in, at_head}
use Rattle.homa_plain.specs.Timers.{Place, OfClient, OfServer}
use Rattle.homa_plain.specs.Sending.{Arriving, arrivals}
use Rattle.homa_grants.specs.Entries as entry
use Rattle.host_view.specs.Seen.{Seen, AreEntered, entry_of}
use Rattle.host_view.specs.Follow.{ChangesAt, arrival_at, booked}
use Rattle.homa_plain.specs.Grants.{grants}
use Rattle.host_books.specs.declared.books.Books.{Books}
use Rattle.host_books.specs.declared.books.Arrival.{Arrival}
use Rattle.host_books.specs.Duties.{entries_in, changed_by, noted}
use Rattle.host_books.specs.Granted.{due_grants}
use Rattle.host_books.specs.Stood.{Stood}
use Rattle.host_books.proofs.BookThings.{arrival_things, same_entry}
use Rattle.host_books.proofs.Follows.{placed_here, without, own_slot}
use Rattle.host_books.proofs.Splits.{Split, at, split}

-- a slot has an entry where one of the entries is its own
found : (slot : ℕ) (es : List entry.Entry) (x : entry.Entry) → Contains es x → x.slot ≡ slot → is_some (entry.entry_of slot es) ≡ true
found slot [] x c e = absurd (none_in x c)
found slot (y ∷ ys) x c e =
    elim (y.slot == slot) as (λ b. (y.slot == slot) ≡ b → is_some (cond b (Some y) (entry.entry_of slot ys)) ≡ true) [
      | true ↦ λ h. refl
      | false ↦ λ h. elim (at_head y x ys c) [
        | inl is ↦ absurd (true≢false (sym (eq-eqb y.slot slot (ap (λ (z : entry.Entry). z.slot) is ∙ e)) ∙ h))
        | inr rest ↦ found slot ys x rest e
      ]
    ] refl

noted_true : (slot : ℕ) (b : Books) → is_some (entry.entry_of slot b.grants.entries) ≡ true → noted slot b ≡ true
noted_true slot b e = by_flag b.changed where
  by_flag : (c : Bool) → cond c true (is_some (entry.entry_of slot b.grants.entries)) ≡ true
  by_flag true = refl
  by_flag false = e

-- nothing is noted of a slot without a message
pub noted_none : (slot : ℕ) (b : Books) → is_some (entry.entry_of slot b.grants.entries) ≡ false → noted slot b ≡ b.changed
noted_none slot b e = by_flag b.changed where
  by_flag : (c : Bool) → cond c true (is_some (entry.entry_of slot b.grants.entries)) ≡ c
  by_flag true = refl
  by_flag false = e

-- where the book of grants stays, it is the slot's own message that is noted
pub noted_same : (slot : ℕ) (a : Option Arrival) (b : Books)
    → booked entry.entry_key (λ (e : entry.Entry). e.slot) slot (entries_in slot a) b.grants.entries ≡ b.grants.entries → changed_by slot a b ≡ noted slot b
noted_same slot None b same = refl
noted_same slot (Some a) b same =
    let x : entry.Entry = record { slot = slot; peer = a.peer.0; remaining = a.remaining; order = a.order } in
    sym (noted_true slot b (found slot b.grants.entries x
    (subst (λ (es : List entry.Entry). Contains es x) same
    (placed_here entry.entry_key x (without (λ (e : entry.Entry). e.slot) slot b.grants.entries))) refl))

neither : (c d : Bool) → cond c true d ≡ false → (c ≡ false) × (d ≡ false)
neither true d e = absurd (true≢false e)
neither false d e = (refl, e)

none_mapped : {X Y : Type 0} (f : X → Y) (xs : List X) → [] ≡ map f xs → xs ≡ []
none_mapped f [] e = refl
none_mapped f (x ∷ xs) e = absurd cc

at_place : (h : Seen) (p : Place) → at arrival_things h.host p ≡ arrival_at h p
at_place h (OfClient id) = refl
at_place h (OfServer id) = refl

module _ (place : Place) (n : ℕ) (old new : Seen) (change : ChangesAt place n old new) (stood : Stood place old new) (b : Books)
    (are : AreEntered old b.grants.entries) (granted : b.changed ≡ false → due_grants old.settings old.host ≡ []) where
  parts : Split arrival_things place old.host new.host
  parts = split arrival_things place old.host new.host change.clients change.servers

  -- a message of the row would have an entry under the slot
  entered : (x : Arriving) (xs : List Arriving) → at arrival_things old.host place ≡ x ∷ xs → is_some (entry.entry_of n b.grants.entries) ≡ true
  entered x xs e =
      let es = map (entry_of old) (arrivals old.host) in
      let are_parts : es ≡ map (entry_of old) parts.front ++ (entry_of old x ∷ map (entry_of old) (xs ++ parts.back)) =
      ap (map (entry_of old)) (parts.old ∙ ap (λ (ys : List Arriving). parts.front ++ (ys ++ parts.back)) e)
      ∙ map-append (entry_of old) parts.front (x ∷ (xs ++ parts.back)) in
      let listed : Contains es (entry_of old x) = subst (λ (ys : List entry.Entry). Contains ys (entry_of old x)) (sym are_parts)
      (Contains-append_right (map (entry_of old) parts.front) (entry_of old x ∷ map (entry_of old) (xs ++ parts.back)) (entry_of old x)
      (here (entry_of old x) (map (entry_of old) (xs ++ parts.back)))) in
      let there : Contains b.grants.entries (entry_of old x) = subst (λ (ys : List entry.Entry). Contains ys (entry_of old x)) (sym are)
      (Contains-permutation es (ordered entry.entry_key es) (entry_of old x) (permutation-ordered entry.entry_key es) listed) in
      let own = subst (AllByRecursion (λ (y : Arriving). (entry_of old y).slot ≡ n)) e
      (own_slot arrival_things (λ (y : entry.Entry). y.slot) entry_of (λ h y. refl) same_entry place n old new change stood) in
      found n b.grants.entries (entry_of old x) there own.0

  none_before : is_some (entry.entry_of n b.grants.entries) ≡ false → at arrival_things old.host place ≡ []
  none_before none = by_list (at arrival_things old.host place) refl where
    by_list : (xs : List Arriving) → at arrival_things old.host place ≡ xs → xs ≡ []
    by_list [] e = refl
    by_list (x ∷ xs) e = absurd (true≢false (sym (entered x xs e) ∙ none))

  -- where no message arrived in the row and none does now, what arrives is the same
  stay : at arrival_things old.host place ≡ [] → at arrival_things new.host place ≡ [] → arrivals new.host ≡ arrivals old.host
  stay before after = parts.new ∙ ap (λ (ys : List Arriving). parts.front ++ (ys ++ parts.back)) (after ∙ sym before) ∙ sym parts.old

  -- and no GRANT is due, if none was
  pub still_granted : (a : Option Arrival) → entries_in n a ≡ map (entry_of new) (arrival_at new place) → changed_by n a b ≡ false
      → due_grants new.settings new.host ≡ []
  still_granted None e same =
      let both = neither b.changed (is_some (entry.entry_of n b.grants.entries)) same in
      let after = at_place new place ∙ none_mapped (entry_of new) (arrival_at new place) e in
      let arrive = stay (none_before both.1) after in
      (λ i. grants (λ (m : Arriving). m.message) (change.settings i).overcommit (change.settings i).window (arrive i)) ∙ granted both.0
  still_granted (Some a) e same = absurd (true≢false same)
