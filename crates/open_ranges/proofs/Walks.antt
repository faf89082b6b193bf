-- Steps of the walks over a list of ranges.
use Rattle.std.proofs.Common.{ltb, ◌≡◌, ℕ, zero, suc, ◌+◌, ◌-◌, ◌<◌, ◌≤◌, min, max, List, [], ◌∷◌, ◌++◌, length, take, drop, get_or, refl, sym, ap}
use Rattle.std.proofs.Common.{subst, ◌∙◌, arith, add-one, append_assoc}
use Rattle.std.specs.Prelude.{slice_set}
use Rattle.std.proofs.lemmas.Bool.{lt-ltb, le-ltb, cond_both}
use Rattle.std.proofs.Math.Seq.{drop-cons}
use Rattle.std.proofs.lemmas.List.{take_more}
use Rattle.plain_sets.specs.Maps.{len}
use Rattle.plain_sets.specs.Numbers.{set_of_ranges, with_range}
use Rattle.plain_sets.specs.Ranges.{Range as PlainRange, range, AreApart, width_of, joined, absorbed}
use Rattle.plain_sets.proofs.RangeLaws.{apart_lower}
use Rattle.plain_sets.proofs.RangeChanges.{apart-joined}
use Rattle.plain_sets.proofs.RangeViews.{set_of_ranges-joined}
use Rattle.plain_sets.proofs.MoreCounts.{len-set_of_ranges}
use Rattle.open_ranges.specs.declared.kept.Range.{Range}
use Rattle.open_ranges.specs.Kept.{plain, AreSmall, AreKept}

-- the plain ranges of two lists
pub plain_append : (xs ys : List Range) → plain (xs ++ ys) ≡ plain xs ++ plain ys
plain_append [] ys = refl
plain_append (x ∷ xs) ys = ap (λ rs. range x.from x.to ∷ rs) (plain_append xs ys)

pub plain_pushed : (xs : List Range) (r : Range) (rs : List PlainRange) → plain (xs ++ r ∷ []) ++ rs ≡ plain xs ++ (range r.from r.to ∷ rs)
plain_pushed xs r rs = ap (λ ys. ys ++ rs) (plain_append xs (r ∷ [])) ∙ append_assoc (plain xs) (range r.from r.to ∷ []) rs

abbrev pub no_range : Range
no_range = record { from = 0; to = 0 }

-- one range further on
pub next : (xs : List Range) (i : ℕ) (d : Range) → i < length xs → plain (drop i xs) ≡ range (get_or xs i d).from (get_or xs i d).to ∷ plain (drop (i + 1) xs)
next xs i d h = ap plain (drop-cons xs i d h) ∙ ap (λ k. range (get_or xs i d).from (get_or xs i d).to ∷ plain (drop k xs)) (sym (add-one i))

-- a range that ends below the added one stays
pub below_next : (xs : List Range) (i a : ℕ) → i < length xs → (get_or xs i no_range).to < a
    → ((b : ℕ) → joined a b (plain xs) ≡ plain (take i xs) ++ joined a b (plain (drop i xs))) → (b : ℕ)
    → joined a b (plain xs) ≡ plain (take (i + 1) xs) ++ joined a b (plain (drop (i + 1) xs))
below_next xs i a h l so_far b =
    let r : Range = get_or xs i no_range in
    let one : joined a b (plain (drop i xs)) ≡ range r.from r.to ∷ joined a b (plain (drop (i + 1) xs)) =
    ap (joined a b) (next xs i no_range h) ∙ rw (lt-ltb r.to a l) refl in
    so_far b ∙ ap (λ ys. plain (take i xs) ++ ys) one ∙ sym (plain_pushed (take i xs) r (joined a b (plain (drop (i + 1) xs))))
    ∙ ap (λ ys. plain ys ++ joined a b (plain (drop (i + 1) xs))) (sym (take_more xs i no_range h))

-- how many numbers two lists have
pub width-append : (rs ss : List PlainRange) → width_of (rs ++ ss) ≡ width_of rs + width_of ss
width-append [] ss = omega arith
width-append (r ∷ rs) ss = omega (arith, width-append rs ss)

-- a range is taken out
pub taken : {X : Type 0} (n : ℕ) (xs ys : List X) → n ≤ length xs → take n (take n xs ++ ys) ≡ take n xs
taken zero xs ys h = refl
taken (suc n) [] ys h = absurd (omega arith)
taken (suc n) (x ∷ xs) ys h = ap (λ zs. x ∷ zs) (taken n xs ys (omega arith))

pub dropped : {X : Type 0} (n m : ℕ) (xs : List X) → n < length xs → drop (n + m) (take n xs ++ drop (suc n) xs) ≡ drop (suc (n + m)) xs
dropped zero m [] h = absurd (omega arith)
dropped zero m (x ∷ xs) h = refl
dropped (suc n) m [] h = absurd (omega arith)
dropped (suc n) m (x ∷ xs) h =
    ap (λ (k : ℕ). drop k (x ∷ (take n xs ++ drop (suc n) xs))) (shifted n m) ∙ dropped n m xs (omega arith) ∙ ap (λ (k : ℕ). drop k xs) (sym (shifted n m))
  where
    shifted : (a b : ℕ) → suc a + b ≡ suc (a + b)
    shifted a b = omega arith

-- from a range on, those that follow are apart
pub apart_next : (here rest : List PlainRange) (r : PlainRange) → here ≡ r ∷ rest → AreApart 0 here → (r.from < r.to) × AreApart 0 rest
apart_next here rest r e apart = let both : AreApart 0 (r ∷ rest) = subst (AreApart 0) e apart in (both.1, apart_lower (r.to + 1) 0 rest (omega arith) both.2)

pub apart_drop : (i low : ℕ) (xs : List Range) → AreApart low (plain xs) → AreApart 0 (plain (drop i xs))
apart_drop zero low xs apart = apart_lower low 0 (plain xs) (omega arith) apart
apart_drop (suc i) low [] apart = tt
apart_drop (suc i) low (x ∷ xs) apart = apart_drop i (x.to + 1) xs apart.2

pub width_drop : (i : ℕ) (xs : List Range) → width_of (plain (drop i xs)) ≤ width_of (plain xs)
width_drop zero xs = omega arith
width_drop (suc i) [] = omega arith
width_drop (suc i) (x ∷ xs) = omega (arith, width_drop i xs)

-- two halves
pub width_halves : (i : ℕ) (xs : List Range) → width_of (plain (take i xs)) + width_of (plain (drop i xs)) ≡ width_of (plain xs)
width_halves zero xs = omega arith
width_halves (suc i) [] = refl
width_halves (suc i) (x ∷ xs) = omega (arith, width_halves i xs)

-- ranges below 2^32 have fewer numbers than that
pub width-small : (rs : List PlainRange) (low : ℕ) → AreApart low rs → AreSmall rs → width_of rs ≤ 4294967295 - low
width-small [] low apart small = omega arith
width-small (r ∷ rs) low apart small = omega (arith, apart.0, apart.1, small.0, width-small rs (r.to + 1) apart.2 small.1)

small-absorbed : (rs : List PlainRange) (a b : ℕ) → b < 4294967296 → AreSmall rs → AreSmall (absorbed a b rs)
small-absorbed [] a b h small = (h, tt)
small-absorbed (r ∷ rs) a b h small =
    cond_both (ltb b r.from) _ _ AreSmall (λ _. (h, small)) (λ _. small-absorbed rs (min a r.from) (max b r.to) (omega (arith, small.0)) small.1)

pub small-joined : (rs : List PlainRange) (a b : ℕ) → b < 4294967296 → AreSmall rs → AreSmall (joined a b rs)
small-joined [] a b h small = (h, tt)
small-joined (r ∷ rs) a b h small =
    cond_both (ltb r.to a) _ _ AreSmall (λ _. (small.0, small-joined rs a b h small.1)) (λ _. small-absorbed (r ∷ rs) a b h small)

pub fewer : (rs : List Range) (count : ℕ) → AreKept rs count → width_of (plain rs) < 4294967296
fewer rs count kept = omega (arith, width-small (plain rs) 0 kept.apart kept.small)

pub fewer-joined : (rs : List Range) (count a b : ℕ) → a < b → b < 4294967296 → AreKept rs count → width_of (joined a b (plain rs)) < 4294967296
fewer-joined rs count a b ab h kept =
    omega (arith, width-small (joined a b (plain rs)) 0 (apart-joined (plain rs) a b 0 (omega arith) ab kept.apart) (small-joined (plain rs) a b h kept.small))

-- the width by what was touched
pub width-touched : (rs : List Range) (i t count a b from to covered : ℕ) → joined a b (plain rs) ≡ plain (take i rs) ++ absorbed a b (plain (drop i rs))
    → absorbed a b (plain (drop i rs)) ≡ range from to ∷ plain (drop t (drop i rs))
    → covered + width_of (plain (drop t (drop i rs))) ≡ width_of (plain (drop i rs)) → count ≡ width_of (plain rs)
    → (covered ≤ count) × (count - covered + (to - from) ≡ width_of (joined a b (plain rs)))
width-touched rs i t count a b from to covered copied added covers total = (
  omega (arith, width_halves i rs),
  omega (arith, width_halves i rs, ap width_of copied, width-append (plain (take i rs)) (absorbed a b (plain (drop i rs))), ap width_of added),
)

-- the set with the range
pub joined_set : (rs : List Range) (count a b : ℕ) → a < b → AreKept rs count
    → (set_of_ranges (joined a b (plain rs)) ≡ with_range (set_of_ranges (plain rs)) a b)
    × (width_of (joined a b (plain rs)) ≡ len (with_range (set_of_ranges (plain rs)) a b))
joined_set rs count a b ab kept =
    let set : set_of_ranges (joined a b (plain rs)) ≡ with_range (set_of_ranges (plain rs)) a b = set_of_ranges-joined (plain rs) a b 0 ab kept.apart in
    (set, sym (len-set_of_ranges (joined a b (plain rs)) 0 (apart-joined (plain rs) a b 0 (omega arith) ab kept.apart)) ∙ ap len set)

pub kept-joined : (old new : List Range) (count more a b : ℕ) → a < b → b < 4294967296 → AreKept old count → plain new ≡ joined a b (plain old)
    → more ≡ width_of (joined a b (plain old)) → AreKept new more
kept-joined old new count more a b ab h kept is total = record {
  apart = subst (AreApart 0) (sym is) (apart-joined (plain old) a b 0 (omega arith) ab kept.apart);
  small = subst AreSmall (sym is) (small-joined (plain old) a b h kept.small);
  total = total ∙ ap width_of (sym is);
}

-- one range put in place of those that it touches
pub in_place : (i t : ℕ) (xs : List Range) (r : Range) → plain (take i xs ++ r ∷ drop t (drop i xs)) ≡ plain (take i xs) ++ plain (r ∷ drop t (drop i xs))
in_place i t xs r = plain_append (take i xs) (r ∷ drop t (drop i xs))

pub drop_drop : (i t : ℕ) (xs : List Range) → drop t (drop i xs) ≡ drop (i + t) xs
drop_drop zero t xs = ap (λ (k : ℕ). drop k xs) (omega arith)
drop_drop (suc i) t [] = drop_none t ∙ sym (drop_none (suc i + t)) where
  drop_none : (n : ℕ) → drop {A = Range} n [] ≡ []
  drop_none zero = refl
  drop_none (suc n) = refl
drop_drop (suc i) t (x ∷ xs) = drop_drop i t xs ∙ ap (λ (k : ℕ). drop k (x ∷ xs)) (shifted i t) where
  shifted : (a b : ℕ) → suc (a + b) ≡ suc a + b
  shifted a b = omega arith

-- with one range set, what is in front of it and behind it stays
pub set_front : (i : ℕ) (xs : List Range) (r : Range) → i < length xs → take (i + 1) (slice_set xs i r) ≡ take i xs ++ r ∷ []
set_front zero [] r h = absurd (omega arith)
set_front zero (x ∷ xs) r h = refl
set_front (suc i) [] r h = absurd (omega arith)
set_front (suc i) (x ∷ xs) r h = ap (λ (k : ℕ). take k (x ∷ slice_set xs i r)) (shifted i) ∙ ap (λ ys. x ∷ ys) (set_front i xs r (omega arith)) where
  shifted : (a : ℕ) → suc a + 1 ≡ suc (a + 1)
  shifted a = omega arith

pub set_back : (i n : ℕ) (xs : List Range) (r : Range) → drop (i + 1 + n) (slice_set xs i r) ≡ drop (i + 1 + n) xs
set_back zero n [] r = refl
set_back zero n (x ∷ xs) r = ap (λ (k : ℕ). drop k (r ∷ xs)) (one n) ∙ ap (λ (k : ℕ). drop k (x ∷ xs)) (sym (one n)) where
  one : (n : ℕ) → 0 + 1 + n ≡ suc n
  one n = omega arith
set_back (suc i) n [] r = refl
set_back (suc i) n (x ∷ xs) r =
    ap (λ (k : ℕ). drop k (x ∷ slice_set xs i r)) (shifted i n) ∙ set_back i n xs r ∙ ap (λ (k : ℕ). drop k (x ∷ xs)) (sym (shifted i n)) where
      shifted : (a b : ℕ) → suc a + 1 + b ≡ suc (a + 1 + b)
      shifted a b = omega arith

-- the next range is touched
pub absorbed_next : (a b from to : ℕ) (rs : List PlainRange) → from ≤ b → absorbed a b (range from to ∷ rs) ≡ absorbed (min a from) (max b to) rs
absorbed_next a b from to rs h = rw (le-ltb b from h) refl

-- what `insert` makes, where t ranges are touched
pub put_in : (xs new : List Range) (i t a b : ℕ) (r : Range) → new ≡ take i xs ++ r ∷ drop t (drop i xs)
    → joined a b (plain xs) ≡ plain (take i xs) ++ absorbed a b (plain (drop i xs))
    → absorbed a b (plain (drop i xs)) ≡ plain (r ∷ drop t (drop i xs)) → plain new ≡ joined a b (plain xs)
put_in xs new i t a b r items copied added = ap plain items ∙ in_place i t xs r ∙ ap (λ rs. plain (take i xs) ++ rs) (sym added) ∙ sym copied

-- with one range set, and those behind it that were touched taken out
pub replaced : (xs : List Range) (i t : ℕ) (r : Range) → i < length xs
    → take (i + 1) (slice_set xs i r) ++ drop (i + 1 + t) (slice_set xs i r) ≡ take i xs ++ r ∷ drop (suc t) (drop i xs)
replaced xs i t r h =
    ap (λ ys. ys ++ drop (i + 1 + t) (slice_set xs i r)) (set_front i xs r h) ∙ ap (λ ys. (take i xs ++ r ∷ []) ++ ys) (set_back i t xs r)
    ∙ append_assoc (take i xs) (r ∷ []) (drop (i + 1 + t) xs)
    ∙ ap (λ ys. take i xs ++ r ∷ ys) (ap (λ (k : ℕ). drop k xs) (omega arith) ∙ sym (drop_drop i (suc t) xs))
