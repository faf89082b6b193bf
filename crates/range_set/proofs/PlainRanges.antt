-- Lists of plain ranges: ends, fronts, and what is kept of them.
use Rattle.std.proofs.Common.{◌≡◌, ℕ, suc, ◌+◌, ◌-◌, ◌<◌, ◌≤◌, true, false, ◌||◌, cond, ltb, min, max, List, [], ◌∷◌, ◌++◌, length, length-append}
use Rattle.std.proofs.Common.{append_assoc, refl, sym, ap, ◌∙◌, arith}
use Rattle.std.proofs.lemmas.Bool.{cond_both, ltb-false, lt-ltb, le-ltb, cases_lt, true≢false}
use Rattle.std.proofs.Common.{inl, inr}
use Rattle.plain_sets.specs.Ranges.{Range as PlainRange, range, in_ranges, AreApart, width_of, absorbed, joined, led, parted}
use Rattle.plain_sets.proofs.NumberLaws.{beyond}
use Rattle.plain_sets.proofs.RangeChanges.{apart-parted}
use Rattle.range_set.specs.declared.kept.Range.{Range}
use Rattle.range_set.specs.Kept.{plain, AreSmall}
use Rattle.range_set.specs.Lists.{rest_of}

-- the plain ranges of two lists
pub plain_append : (xs ys : List Range) → plain (xs ++ ys) ≡ plain xs ++ plain ys
plain_append [] ys = refl
plain_append (x ∷ xs) ys = ap (λ rs. range x.from x.to ∷ rs) (plain_append xs ys)

-- a range appended stands in front of what follows
pub plain_pushed : (xs : List Range) (r : Range) (rs : List PlainRange) → plain (xs ++ r ∷ []) ++ rs ≡ plain xs ++ (range r.from r.to ∷ rs)
plain_pushed xs r rs = ap (λ ys. ys ++ rs) (plain_append xs (r ∷ [])) ∙ append_assoc (plain xs) (range r.from r.to ∷ []) rs

-- there are as many plain ranges
pub length-plain : (xs : List Range) → length (plain xs) ≡ length xs
length-plain [] = refl
length-plain (x ∷ xs) = ap suc (length-plain xs)

-- a range in front, or none
pub led-append : (a b : ℕ) (rs : List PlainRange) → led a b [] ++ rs ≡ led a b rs
led-append a b rs = elim (ltb a b) as (λ t. cond t (range a b ∷ []) [] ++ rs ≡ cond t (range a b ∷ rs) rs) [ true ↦ refl | false ↦ refl ]

-- no range in front
pub led-none : (a b : ℕ) (rs : List PlainRange) → b ≤ a → led a b rs ≡ rs
led-none a b rs h = rw (le-ltb a b h) refl

-- a range in front
pub led-some : (a b : ℕ) (rs : List PlainRange) → a < b → led a b rs ≡ range a b ∷ rs
led-some a b rs h = rw (lt-ltb a b h) refl

-- two ranges in front, or none
pub two_led : (xs rest : List PlainRange) (f t g u : ℕ) → ((xs ++ led f t []) ++ led g u []) ++ rest ≡ xs ++ led f t (led g u rest)
two_led xs rest f t g u =
    append_assoc (xs ++ led f t []) (led g u []) rest ∙ append_assoc xs (led f t []) (led g u [] ++ rest)
    ∙ ap (λ ys. xs ++ ys) (ap (λ ys. led f t [] ++ ys) (led-append g u rest) ∙ led-append f t (led g u rest))

-- room for the first of them
pub room_first : (xs ys : List PlainRange) (f t : ℕ) → length xs + length (led f t []) ≤ length (xs ++ led f t ys)
room_first xs ys f t = omega (arith, ap (λ zs. length (xs ++ zs)) (led-append f t ys), length-append xs (led f t [] ++ ys), length-append (led f t []) ys)

-- room for the second
pub room_second : (xs rest : List PlainRange) (f t g u : ℕ) → length (xs ++ led f t []) + length (led g u []) ≤ length (xs ++ led f t (led g u rest))
room_second xs rest f t g u =
    omega (arith, ap length (two_led xs rest f t g u), length-append ((xs ++ led f t []) ++ led g u []) rest, length-append (xs ++ led f t []) (led g u []))

-- a range in front adds its width
pub width-led : (a b : ℕ) (rs : List PlainRange) → width_of (led a b rs) ≡ b - a + width_of rs
width-led a b rs = cond_both (ltb a b) _ _ (λ ss. width_of ss ≡ b - a + width_of rs) (λ _. refl) (λ e. let h : b ≤ a = ltb-false a b e in omega arith)

-- ranges below a million have at most a million numbers
pub width-small : (rs : List PlainRange) (low : ℕ) → AreApart low rs → AreSmall rs → width_of rs ≤ 1000000 - low
width-small [] low apart small = omega arith
width-small (r ∷ rs) low apart small = omega (arith, apart.0, apart.1, small.0, width-small rs (r.to + 1) apart.2 small.1)

-- each of their numbers is below a million
pub below_million : (rs : List PlainRange) (x : ℕ) → AreSmall rs → in_ranges rs x ≡ true → x < 1000000
below_million [] x small e = absurd (true≢false (sym e))
below_million (r ∷ rs) x small e =
    elim (cases_lt x r.to) [
      | inl h ↦ omega (arith, small.0)
      | inr h ↦ below_million rs x small.1 (sym (ap (λ c. c || in_ranges rs x) (beyond r.from r.to x h)) ∙ e)
    ]

-- joined ranges stay below a million
small-absorbed : (rs : List PlainRange) (a b : ℕ) → b ≤ 1000000 → AreSmall rs → AreSmall (absorbed a b rs)
small-absorbed [] a b h small = (h, tt)
small-absorbed (r ∷ rs) a b h small =
    cond_both (ltb b r.from) _ _ AreSmall (λ _. (h, small)) (λ _. small-absorbed rs (min a r.from) (max b r.to) (omega (arith, small.0)) small.1)

-- joined ranges stay below a million
pub small-joined : (rs : List PlainRange) (a b : ℕ) → b ≤ 1000000 → AreSmall rs → AreSmall (joined a b rs)
small-joined [] a b h small = (h, tt)
small-joined (r ∷ rs) a b h small =
    cond_both (ltb r.to a) _ _ AreSmall (λ _. (small.0, small-joined rs a b h small.1)) (λ _. small-absorbed (r ∷ rs) a b h small)

-- a range in front that is below a million
pub small-led : (a b : ℕ) (rs : List PlainRange) → b ≤ 1000000 → AreSmall rs → AreSmall (led a b rs)
small-led a b rs h small = cond_both (ltb a b) _ _ AreSmall (λ _. (h, small)) (λ _. small)

-- parted ranges stay below a million
pub small-parted : (rs : List PlainRange) (a b : ℕ) → AreSmall rs → AreSmall (parted a b rs)
small-parted [] a b small = tt
small-parted (r ∷ rs) a b small =
    small-led r.from (min r.to a) (led (max r.from b) r.to (parted a b rs)) (omega (arith, small.0))
    (small-led (max r.from b) r.to (parted a b rs) small.0 (small-parted rs a b small.1))

-- what is taken below the ranges takes nothing of them
pub parted-above : (rs : List PlainRange) (low a b : ℕ) → a < b → b ≤ low → AreApart low rs → parted a b rs ≡ rs
parted-above [] low a b ab h apart = refl
parted-above (r ∷ rs) low a b ab h apart =
    let from : max r.from b ≡ r.from = omega (arith, apart.0) in
    led-none r.from (min r.to a) (led (max r.from b) r.to (parted a b rs)) (omega (arith, apart.0))
    ∙ (λ i. led (from i) r.to (parted-above rs (r.to + 1) a b ab (omega (arith, apart.0, apart.1)) apart.2 i)) ∙ led-some r.from r.to rs apart.1

-- where the front of the first range is taken, what is behind it is left
pub parted-front : (r : PlainRange) (rs : List PlainRange) (low to : ℕ) → AreApart low (r ∷ rs) → r.from < to → to ≤ r.to
    → parted r.from to (r ∷ rs) ≡ led to r.to rs
parted-front r rs low to apart some within =
    let from : max r.from to ≡ to = omega arith in
    led-none r.from (min r.to r.from) (led (max r.from to) r.to (parted r.from to rs)) (omega arith)
    ∙ (λ i. led (from i) r.to (parted-above rs (r.to + 1) r.from to some (omega arith) apart.2 i))

-- the front of a range isn't empty, nor longer than it
pub front_some : (f t m : ℕ) → f < t → 1 ≤ m → f < min t (f + m)
front_some f t m h k = omega arith

-- what is left is apart
pub apart-rest : (rs : List PlainRange) (most : ℕ) → AreApart 0 rs → 1 ≤ most → AreApart 0 (rest_of most rs)
apart-rest [] most apart some = tt
apart-rest (r ∷ rs) most apart some =
    let to : ℕ = min r.to (r.from + most) in
    let less : r.from < to = front_some r.from r.to most apart.1 some in
    rw (sym (parted-front r rs 0 to apart less (omega arith))) (apart-parted (r ∷ rs) r.from to 0 less apart)

-- what is left is no longer
pub length-rest : (rs : List PlainRange) (most : ℕ) → length (rest_of most rs) ≤ length rs
length-rest [] most = omega arith
length-rest (r ∷ rs) most =
    cond_both (ltb (min r.to (r.from + most)) r.to) _ _ (λ (ss : List PlainRange). length ss ≤ suc (length rs)) (λ _. omega arith) (λ _. omega arith)

-- what is left stays below a million
pub small-rest : (rs : List PlainRange) (most : ℕ) → AreSmall rs → AreSmall (rest_of most rs)
small-rest [] most small = tt
small-rest (r ∷ rs) most small = small-led (min r.to (r.from + most)) r.to rs small.0 small.1
