-- The ranges of amounts, by their places.
use Rattle.std.proofs.Common.{◌≡◌, refl, sym, subst, ℕ, zero, suc, ◌<◌, ◌≤◌, ltb, leb, Bool, true, false, ◌&&◌, List, [], ◌∷◌, map, length}
use Rattle.std.proofs.Common.{get_or, set, inl, inr, arith}
use Rattle.std.proofs.Common.{get_or-set_other, get_or-set_same}
use Rattle.std.proofs.lemmas.Bool.{cases_eq, and_parts, leb-true, ltb-true}
use Rattle.experiment.specs.declared.amounts.Amount.{Amount}
use Rattle.experiment.specs.declared.amounts.Amount.TheVariants.{Link, Delay, Switch, HostDelay, ServiceTime, Overhead, Buffer, CardLimit, Tick, Spread}
use Rattle.experiment.specs.declared.amounts.Amount.TheVariants.{Loss, Repeat, Jitter, Load, Exact, Service, Incast, Burst, Warm, Measure, Seed}
use Rattle.experiment.specs.declared.amounts.Amount.TheVariants.{Seeds, Parts, Events}
use Rattle.experiment.specs.Amounts.{index, least, most, amounts, AreWithin}

below : (a : Amount) → ltb (index a) 24 ≡ true
below Link = refl
below Delay = refl
below Switch = refl
below HostDelay = refl
below ServiceTime = refl
below Overhead = refl
below Buffer = refl
below CardLimit = refl
below Tick = refl
below Spread = refl
below Loss = refl
below Repeat = refl
below Jitter = refl
below Load = refl
below Exact = refl
below Service = refl
below Incast = refl
below Burst = refl
below Warm = refl
below Measure = refl
below Seed = refl
below Seeds = refl
below Parts = refl
below Events = refl

pub index_below : (a : Amount) → index a < 24
index_below a = ltb-true (index a) 24 (below a)

pub least_at : (a : Amount) → get_or (map least amounts) (index a) 0 ≡ least a
least_at Link = refl
least_at Delay = refl
least_at Switch = refl
least_at HostDelay = refl
least_at ServiceTime = refl
least_at Overhead = refl
least_at Buffer = refl
least_at CardLimit = refl
least_at Tick = refl
least_at Spread = refl
least_at Loss = refl
least_at Repeat = refl
least_at Jitter = refl
least_at Load = refl
least_at Exact = refl
least_at Service = refl
least_at Incast = refl
least_at Burst = refl
least_at Warm = refl
least_at Measure = refl
least_at Seed = refl
least_at Seeds = refl
least_at Parts = refl
least_at Events = refl

pub most_at : (a : Amount) → get_or (map most amounts) (index a) 0 ≡ most a
most_at Link = refl
most_at Delay = refl
most_at Switch = refl
most_at HostDelay = refl
most_at ServiceTime = refl
most_at Overhead = refl
most_at Buffer = refl
most_at CardLimit = refl
most_at Tick = refl
most_at Spread = refl
most_at Loss = refl
most_at Repeat = refl
most_at Jitter = refl
most_at Load = refl
most_at Exact = refl
most_at Service = refl
most_at Incast = refl
most_at Burst = refl
most_at Warm = refl
most_at Measure = refl
most_at Seed = refl
most_at Seeds = refl
most_at Parts = refl
most_at Events = refl

-- a number within the range of its amount takes the place of another
pub within_set : (numbers : List ℕ) (a : Amount) (i n : ℕ) → length numbers ≡ 24 → i ≡ index a → AreWithin numbers → least a ≤ n → n ≤ most a
    → AreWithin (set numbers i n)
within_set numbers a i n len at within low high = record {
  least = λ k inside. elim (cases_eq k i) [
    | inl same ↦ (
        let inside' : i < length numbers = omega (arith, len, same, inside) in
        let e : get_or (map least amounts) i 0 ≡ least a = rw at (least_at a) in
        rw (same, e) (subst (λ m. least a ≤ m) (sym (get_or-set_same numbers i n 0 inside')) low)
        )
    | inr other ↦ subst (λ m. get_or (map least amounts) k 0 ≤ m) (sym (get_or-set_other numbers i k n 0 other)) (within.least k inside)
  ];
  most = λ k inside. elim (cases_eq k i) [
    | inl same ↦ (
        let inside' : i < length numbers = omega (arith, len, same, inside) in
        let e : get_or (map most amounts) i 0 ≡ most a = rw at (most_at a) in
        rw (same, e) (subst (λ m. m ≤ most a) (sym (get_or-set_same numbers i n 0 inside')) high)
        )
    | inr other ↦ subst (λ m. m ≤ get_or (map most amounts) k 0) (sym (get_or-set_other numbers i k n 0 other)) (within.most k inside)
  ];
}

-- each number of a list is at most that of another at its place
abbrev pub all_most : List ℕ → List ℕ → Bool
all_most [] ys = true
all_most (x ∷ xs) [] = false
all_most (x ∷ xs) (y ∷ ys) = leb x y && all_most xs ys

pub most_each : (xs ys : List ℕ) → all_most xs ys ≡ true → (k : ℕ) → get_or xs k 0 ≤ get_or ys k 0
most_each [] ys e k = omega arith
most_each (x ∷ xs) [] e k = absurd cc
most_each (x ∷ xs) (y ∷ ys) e zero = leb-true x y (and_parts (leb x y) (all_most xs ys) e).0
most_each (x ∷ xs) (y ∷ ys) e (suc k) = most_each xs ys (and_parts (leb x y) (all_most xs ys) e).1 k
