-- What the books answer is what the plain step asks for.
use Rattle.std.proofs.Common.{◌≡◌, ◌≢◌, ℕ, Bool, true, false, cond, Option, Some, None, List, [], ◌∷◌, map, refl, sym, ap, ◌∙◌}
use Rattle.std.specs.Prelude.{nat_le, take}
use Rattle.std.specs.List.{AllByRecursion, filter}
use Rattle.std.specs.Option.{option_map}
use Rattle.std.proofs.lemmas.List.{take-map}
use Rattle.plain_sets.specs.Ordered.{ordered, firsts, first_of, KeysDiffer, DiffersFrom}
use Rattle.plain_sets.proofs.OrderLaws.{permutation-ordered}
use Rattle.plain_sets.proofs.OrderSame.{ordered-permuted, ordered-map_same, ordered-filter}
use Rattle.homa_plain.specs.Timers.{due, first_due}
use Rattle.homa_plain.specs.Grants.{chosen_by, choice_key}
use Rattle.homa_plain.specs.Grants as choice
use Rattle.homa_plain.specs.Timers.{Timer, timer_key, timers}
use Rattle.homa_plain.specs.Sending.{Arriving, arrivals}
use Rattle.homa_plain.proofs.ChoiceLaws.{chosen-map}
use Rattle.step_laws.specs.StepLaws.{HasOwnOrders}
use Rattle.step_laws.proofs.Places.{timers-keys, arrivals-keys}
use Rattle.homa_timers.specs.Armed as armed
use Rattle.homa_grants.specs.Entries.{Entry, entry_key, entry_peer}
use Rattle.host_view.specs.Seen.{Seen, AreArmed, AreEntered, timer_of, entry_of}

-- things in order are in order
pub ordered-twice : {X : Type 0} (key : X → ℕ × ℕ) (xs : List X) → KeysDiffer key xs → ordered key (ordered key xs) ≡ ordered key xs
ordered-twice key xs differ = sym (ordered-permuted key xs (ordered key xs) (permutation-ordered key xs) differ)

module _ {X Y : Type 0} (key : X → ℕ × ℕ) (key' : Y → ℕ × ℕ) (f : X → Y) (same : (x : X) → key' (f x) ≡ key x) where
  from-map : (x : X) (ys : List X) → DiffersFrom key x ys → DiffersFrom key' (f x) (map f ys)
  from-map x [] differ = tt
  from-map x (y ∷ ys) differ = (λ e. differ.0 (sym (same x) ∙ e ∙ same y), from-map x ys differ.1)

  -- a map that keeps the keys keeps them different
  pub differ-map : (xs : List X) → KeysDiffer key xs → KeysDiffer key' (map f xs)
  differ-map [] differ = tt
  differ-map (x ∷ xs) differ = (from-map x xs differ.0, differ-map xs differ.1)

  test-map : (p : X → Bool) (p' : Y → Bool) → ((x : X) → p' (f x) ≡ p x) → (xs : List X) → filter p' (map f xs) ≡ map f (filter p xs)
  test-map p p' alike [] = refl
  test-map p p' alike (x ∷ xs) = ap (λ b. cond b (f x ∷ filter p' (map f xs)) (filter p' (map f xs))) (alike x) ∙ ap (λ ys. cond (p x) (f x ∷ ys) ys)
      (test-map p p' alike xs) ∙ out (p x) where
        out : (b : Bool) → cond b (f x ∷ map f (filter p xs)) (map f (filter p xs)) ≡ map f (cond b (x ∷ filter p xs) (filter p xs))
        out true = refl
        out false = refl

  -- the things that are due, of a book that holds the things in order
  pub due-map : (now : ℕ) (xs : List X) → KeysDiffer key xs → due key' now (ordered key' (map f xs)) ≡ map f (due key now xs)
  unfolding due
  due-map now xs differ =
      ap (take 32) (
      ordered-filter key' (λ y. nat_le (key' y).0 now) (ordered key' (map f xs))
      ∙ ap (filter (λ y. nat_le (key' y).0 now)) (ordered-twice key' (map f xs) (differ-map xs differ) ∙ ordered-map_same key key' f same xs)
      ∙ test-map (λ x. nat_le (key x).0 now) (λ y. nat_le (key' y).0 now) (λ x. ap (λ k. nat_le k.0 now) (same x)) (ordered key xs)
      ∙ ap (map f) (sym (ordered-filter key (λ x. nat_le (key x).0 now) xs)))
      ∙ take-map f 32 (ordered key (filter (λ x. nat_le (key x).0 now) xs))

first-map : {X Y : Type 0} (f : X → Y) (xs : List X) → first_of (map f xs) ≡ option_map f (first_of xs)
first-map f [] = refl
first-map f (x ∷ xs) = refl

-- the first timer of the book that is due is that of the first row that is due
pub first_due-book : (h : Seen) (book : List armed.Timer) (now : ℕ) → HasOwnOrders h.host → AreArmed h book
    → first_of (due armed.timer_key now book) ≡ option_map (timer_of h) (first_of (due timer_key now (timers h.settings h.host)))
first_due-book h book now own are =
    ap (λ b. first_of (due armed.timer_key now b)) are
    ∙ ap first_of (due-map timer_key armed.timer_key (timer_of h) (λ t. refl) now (timers h.settings h.host) (timers-keys h.settings h.host own))
    ∙ first-map (timer_of h) (due timer_key now (timers h.settings h.host))

-- the messages of the book that are chosen are the chosen ones
pub chosen-book : (h : Seen) (book : List Entry) (k : ℕ) → HasOwnOrders h.host → AreEntered h book
    → chosen_by entry_peer entry_key k book ≡ map (entry_of h) (choice.chosen (λ (a : Arriving). a.message) k (arrivals h.host))
chosen-book h book k own are =
    let key : Arriving → ℕ × ℕ = λ a. choice_key a.message in
    ap (chosen_by entry_peer entry_key k) are
    ∙ ap (λ l. take k (firsts entry_peer l))
    (ordered-twice entry_key (map (entry_of h) (arrivals h.host))
    (differ-map key entry_key (entry_of h) (λ a. refl) (arrivals h.host) (arrivals-keys h.host own)))
    ∙ chosen-map (λ (a : Arriving). choice.sender a.message) entry_peer (entry_of h) (λ a. refl) key entry_key (λ a. refl) k (arrivals h.host)
