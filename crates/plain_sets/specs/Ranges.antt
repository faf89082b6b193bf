-- Ranges of numbers, and lists of them.
use Rattle.std.specs.Prelude.{◌≡◌, ◌⊎◌, ℕ, ◌+◌, ◌-◌, ◌<◌, ◌≤◌, ◌==◌, Bool, true, false, not, ◌&&◌, ◌||◌, nat_lt, nat_le, min, max, if◌then◌else◌}
use Rattle.std.specs.Prelude.{Option, Some, None, List, [], ◌∷◌, refl}
use Rattle.std.specs.Coded.{Coded, code_by, coded×, coded_ℕ}

-- the numbers from `from` to `to` - 1
pub record Range : Type 0 where
  pub from : ℕ
  pub to : ℕ

-- the range from a to b - 1
abbrev pub range : ℕ → ℕ → Range
range a b = record { from = a; to = b }

-- the encoding of a range as its two ends, for types whose model is one
abbrev pub range_code : Coded Range
range_code = code_by (ℕ × ℕ) (coded× coded_ℕ coded_ℕ) (λ r. (r.from, r.to)) (λ p. range p.0 p.1) (λ _. refl)

-- whether x is one of the numbers from a to b - 1
abbrev pub is_between : ℕ → ℕ → ℕ → Bool
is_between a b x = nat_le a x && nat_lt x b

-- whether x is in one of the ranges
abbrev pub in_ranges : List Range → ℕ → Bool
in_ranges [] x = false
in_ranges (r ∷ rs) x = is_between r.from r.to x || in_ranges rs x

-- whether x is in none of the ranges
abbrev pub outside : List Range → ℕ → Bool
outside rs x = not (in_ranges rs x)

-- no range is empty, and each begins above the end of the one before it; the first begins at `low` or above
abbrev pub AreApart : ℕ → List Range → Type 0
AreApart low [] = Unit {0}
AreApart low (r ∷ rs) = (low ≤ r.from) × (r.from < r.to) × AreApart (r.to + 1) rs

-- how many numbers the ranges have, where they are apart
abbrev pub width_of : List Range → ℕ
width_of [] = 0
width_of (r ∷ rs) = r.to - r.from + width_of rs

-- a number below all those of the ranges, joined to the first of them where it touches it
abbrev pub preceded : ℕ → List Range → List Range
preceded x [] = range x (x + 1) ∷ []
preceded x (r ∷ rs) =
    if x + 1 == r.from
    then range x r.to ∷ rs
    else range x (x + 1) ∷ r ∷ rs

-- the fewest ranges of numbers that rise
abbrev pub ranges_of : List ℕ → List Range
ranges_of [] = []
ranges_of (x ∷ xs) = preceded x (ranges_of xs)

-- of ranges in order, the first that has a number from a to b - 1, cut to these numbers
abbrev pub cut : ℕ → ℕ → List Range → Option Range
cut a b [] = None
cut a b (r ∷ rs) =
    if nat_le r.to a
    then cut a b rs
    else (if nat_lt (max a r.from) b then Some (range (max a r.from) (min b r.to)) else None)

-- no number from a to b - 1 passes the test
abbrev pub NoneIn : (ℕ → Bool) → ℕ → ℕ → Type 0
NoneIn test a b = (x : ℕ) → a ≤ x → x < b → test x ≡ false

-- the first numbers from a to b - 1 that pass the test are those of r, as far as they go on without a break
pub record IsFirstIn (test : ℕ → Bool) (a b : ℕ) (r : Range) : Type 0 where
  pub low : a ≤ r.from
  pub some : r.from < r.to
  pub high : r.to ≤ b
  pub before : NoneIn test a r.from
  pub pass : (x : ℕ) → r.from ≤ x → x < r.to → test x ≡ true
  pub ends : (r.to ≡ b) ⊎ (test r.to ≡ false)

-- the ranges with the numbers from a to b - 1 added, of ranges that don't end below a
abbrev pub absorbed : ℕ → ℕ → List Range → List Range
absorbed a b [] = range a b ∷ []
absorbed a b (r ∷ rs) =
    if nat_lt b r.from
    then range a b ∷ r ∷ rs
    else absorbed (min a r.from) (max b r.to) rs

-- the ranges with the numbers from a to b - 1 added
abbrev pub joined : ℕ → ℕ → List Range → List Range
joined a b [] = range a b ∷ []
joined a b (r ∷ rs) =
    if nat_lt r.to a
    then r ∷ joined a b rs
    else absorbed a b (r ∷ rs)

-- a range before others, unless it is empty
abbrev pub led : ℕ → ℕ → List Range → List Range
led a b rs = if nat_lt a b then range a b ∷ rs else rs

-- the ranges without the numbers from a to b - 1
abbrev pub parted : ℕ → ℕ → List Range → List Range
parted a b [] = []
parted a b (r ∷ rs) = led r.from (min r.to a) (led (max r.from b) r.to (parted a b rs))
