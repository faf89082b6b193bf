-- The first of the timers that are due.
use Rattle.std.proofs.Common.{◌≡◌, ℕ, zero, suc, ◌<◌, ◌≤◌, ◌↔◌, true, false, cond, List, [], ◌∷◌, Option, Some, None, IsNone, IfSome, take, map, refl}
use Rattle.std.proofs.Common.{sym, ap, ◌∙◌, arith}
use Rattle.std.specs.Prelude.{nat_le}
use Rattle.std.specs.Bool.{then_some}
use Rattle.std.specs.Option.{option_map}
use Rattle.std.specs.List.{AllByRecursion, filter}
use Rattle.std.proofs.lemmas.Bool.{leb-true, leb-false}
use Rattle.std.proofs.lemmas.Bool.Decides.{nat_tests}
use Rattle.plain_sets.specs.Ordered.{is_below, first_of, IsInOrder, SendersDiffer}
use Rattle.plain_sets.proofs.OrderLaws.{all_weaker}
use Rattle.plain_sets.proofs.OrderSame.{ordered-sorted, ordered-filter}
use Rattle.homa_plain.specs.Timers.{due, most_acts}
use Rattle.place_heap.specs.Order as heap
use Rattle.place_heap.specs.Order.{Item}
use Rattle.host_heap.proofs.Books.{keys-differ}
use Rattle.homa_timers.specs.Armed.{Timer, timer_key, timer_of, NoneDue}

-- the first of a front that isn't empty is the first of all
first_take : {X : Type 0} (n : ℕ) (xs : List X) → 0 < n → first_of (take n xs) ≡ first_of xs
first_take zero xs pos = absurd (omega arith)
first_take (suc n) [] pos = refl
first_take (suc n) (x ∷ xs) pos = refl

-- a key that isn't below another has no lower first number
first_number : (a m b n : ℕ) → is_below (b, n) (a, m) ≡ false → a ≤ b
first_number a m b n h = grind (arith, nat_tests)

-- things whose deadline is later don't pass
none-pass : (now : ℕ) (ts : List Timer) → NoneDue now ts → filter (λ t. nat_le t.at now) ts ≡ []
none-pass now [] all = refl
none-pass now (t ∷ ts) all = let no : nat_le t.at now ≡ false = grind (arith, nat_tests, all.0) in rw no (none-pass now ts all.1)

-- behind a timer that isn't due none is
later : (now : ℕ) (t : Timer) (ts : List Timer) → now < t.at → AllByRecursion (λ u. is_below (timer_key u) (timer_key t) ≡ false) ts → NoneDue now ts
later now t ts less all =
    all_weaker (λ u. is_below (timer_key u) (timer_key t) ≡ false) (λ u. now < u.at)
    (λ u h. let le = first_number t.at t.order u.at u.order h in omega arith) ts all

-- the slot that is due first, by the first item of a heap
abbrev pub due_slot : ℕ → Option Item → Option ℕ
due_slot now None = None
due_slot now (Some x) = then_some (nat_le x.1.first now) x.0

-- of timers in order whose orders differ those that are due are a front of those that pass
due-sorted : (now : ℕ) (ts : List Timer) → IsInOrder timer_key ts → SendersDiffer (λ t. t.order) ts
    → first_of (due timer_key now ts) ≡ first_of (filter (λ t. nat_le t.at now) ts)
unfolding due
due-sorted now ts up differ =
    let sorted = ordered-filter timer_key (λ t. nat_le t.at now) ts ∙ ap (filter (λ t. nat_le t.at now))
    (ordered-sorted timer_key ts up (keys-differ timer_key ts differ)) in
    ap (λ l. first_of (take most_acts l)) sorted ∙ first_take most_acts (filter (λ t. nat_le t.at now) ts) (omega arith)

-- which slot is due first
pub due-first : (now : ℕ) (xs : List Item) → IsInOrder timer_key (map timer_of xs) → SendersDiffer (λ t. t.order) (map timer_of xs)
    → due_slot now (heap.first_of xs) ≡ option_map (λ t. t.slot) (first_of (due timer_key now (map timer_of xs)))
due-first now xs up differ = by xs up ∙ ap (option_map (λ t. t.slot)) (sym (due-sorted now (map timer_of xs) up differ)) where
  by : (xs : List Item) → IsInOrder timer_key (map timer_of xs)
      → due_slot now (heap.first_of xs) ≡ option_map (λ t. t.slot) (first_of (filter (λ t. nat_le t.at now) (map timer_of xs)))
  by [] up = refl
  by (x ∷ xs) up =
      elim (nat_le x.1.first now) as
      (λ b. nat_le x.1.first now ≡ b → then_some b x.0 ≡ option_map (λ t. t.slot)
      (first_of (cond b (timer_of x ∷ filter (λ t. nat_le t.at now) (map timer_of xs)) (filter (λ t. nat_le t.at now) (map timer_of xs))))) [
        | true ↦ λ e. refl
        | false ↦ λ e. ap (λ l. option_map (λ t. t.slot) (first_of l))
            (sym (none-pass now (map timer_of xs) (later now (timer_of x) (map timer_of xs) (leb-false _ _ e) up.0)))
      ] refl

-- none is where no timer has come to its deadline
pub due-none : (now : ℕ) (xs : List Item) → IsInOrder timer_key (map timer_of xs) → IsNone (due_slot now (heap.first_of xs)) ↔ NoneDue now (map timer_of xs)
due-none now [] up = (λ _. tt, λ _. refl)
due-none now (x ∷ xs) up =
    elim (nat_le x.1.first now) as (λ b. nat_le x.1.first now ≡ b → IsNone (then_some b x.0) ↔ NoneDue now (map timer_of (x ∷ xs))) [
      | true ↦ λ e. (λ h. absurd cc, λ all. absurd (omega (arith, leb-true x.1.first now e, all.0)))
      | false ↦ λ e. (λ h. (leb-false x.1.first now e, later now (timer_of x) (map timer_of xs) (leb-false x.1.first now e) up.0), λ all. refl)
    ] refl

-- and else it is below the number of slots
pub due-within : (now slots : ℕ) (xs : List Item) → AllByRecursion (λ t. t.slot < slots) (map timer_of xs)
    → IfSome (due_slot now (heap.first_of xs)) (λ slot. slot < slots)
due-within now slots [] within = tt
due-within now slots (x ∷ xs) within = elim (nat_le x.1.first now) as (λ b. IfSome (then_some b x.0) (λ slot. slot < slots)) [ true ↦ within.0 | false ↦ tt ]
