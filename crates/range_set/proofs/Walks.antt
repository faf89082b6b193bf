-- Steps of the walks over a list of ranges.
use Rattle.std.proofs.Common.{◌≡◌, ℕ, ◌+◌, ◌<◌, ◌≤◌, min, max, List, [], ◌∷◌, ◌++◌, length, take, drop, get_or, refl, sym, ap, subst, ◌∙◌, arith, add-one}
use Rattle.std.proofs.lemmas.Bool.{lt-ltb}
use Rattle.std.proofs.Math.Seq.{drop-cons}
use Rattle.std.proofs.lemmas.List.{take_more}
use Rattle.plain_sets.specs.Ranges.{Range as PlainRange, range, AreApart, width_of, joined, parted, led}
use Rattle.plain_sets.proofs.RangeLaws.{apart_lower}
use Rattle.range_set.specs.declared.kept.Range.{Range}
use Rattle.range_set.specs.Kept.{plain, AreKept}
use Rattle.range_set.proofs.PlainRanges.{plain_append, plain_pushed, length-plain, width-small, room_first, room_second}

-- what reading past the end would give
abbrev pub no_range : Range
no_range = record { from = 0; to = 0 }

-- one range further on
pub next : (xs : List Range) (i : ℕ) (d : Range) → i < length xs → plain (drop i xs) ≡ range (get_or xs i d).from (get_or xs i d).to ∷ plain (drop (i + 1) xs)
next xs i d h = ap plain (drop-cons xs i d h) ∙ ap (λ k. range (get_or xs i d).from (get_or xs i d).to ∷ plain (drop k xs)) (sym (add-one i))

-- a range that ends below the added one stays
pub below_next : (xs : List Range) (i a : ℕ) → i < length xs → (get_or xs i no_range).to < a
    → ((b : ℕ) → joined a b (plain xs) ≡ plain (take i xs) ++ joined a b (plain (drop i xs))) → (b : ℕ)
    → joined a b (plain xs) ≡ plain (take (i + 1) xs) ++ joined a b (plain (drop (i + 1) xs))
below_next xs i a h l so_far b =
    let r : Range = get_or xs i no_range in
    let one : joined a b (plain (drop i xs)) ≡ range r.from r.to ∷ joined a b (plain (drop (i + 1) xs)) =
    ap (joined a b) (next xs i no_range h) ∙ rw (lt-ltb r.to a l) refl in
    so_far b ∙ ap (λ ys. plain (take i xs) ++ ys) one ∙ sym (plain_pushed (take i xs) r (joined a b (plain (drop (i + 1) xs))))
    ∙ ap (λ ys. plain ys ++ joined a b (plain (drop (i + 1) xs))) (sym (take_more xs i no_range h))

-- those below, the added range and those above
pub in_three : (xs ys : List Range) (r : Range) → plain ((xs ++ r ∷ []) ++ ys) ≡ plain xs ++ plain (r ∷ ys)
in_three xs ys r = plain_append (xs ++ r ∷ []) ys ∙ plain_pushed xs r (plain ys)

-- room for what is left of a range below the taken numbers
pub room_below : (out : List Range) (r : Range) (here rest all : List PlainRange) (a b n : ℕ) → plain out ++ parted a b here ≡ all
    → here ≡ range r.from r.to ∷ rest → n ≡ min r.to a → length all ≤ 65
    → length out + length (led r.from n []) ≤ 65
room_below out r here rest all a b n so_far e is few =
    let f : plain out ++ parted a b (range r.from r.to ∷ rest) ≡ all = ap (λ ys. plain out ++ parted a b ys) (sym e) ∙ so_far in
    rw is (omega (arith, length-plain out, ap length f, room_first (plain out) (led (max r.from b) r.to (parted a b rest)) r.from (min r.to a)))

-- room for what is left of it above them
pub room_above : (out made : List Range) (r : Range) (here rest all : List PlainRange) (a b n m : ℕ) → plain out ++ parted a b here ≡ all
    → here ≡ range r.from r.to ∷ rest → n ≡ min r.to a → m ≡ max r.from b
    → plain made ≡ plain out ++ led r.from n [] → length all ≤ 65 → length made + length (led m r.to []) ≤ 65
room_above out made r here rest all a b n m so_far e is is' done few =
    let f : plain out ++ parted a b (range r.from r.to ∷ rest) ≡ all = ap (λ ys. plain out ++ parted a b ys) (sym e) ∙ so_far in
    let g : plain made ≡ plain out ++ led r.from (min r.to a) [] = done ∙ ap (λ k. plain out ++ led r.from k []) is in
    rw is' (omega (arith, length-plain made, ap length g, ap length f, room_second (plain out) (parted a b rest) r.from (min r.to a) (max r.from b) r.to))

-- kept ranges have at most a million numbers
pub width-kept : (rs : List Range) → AreKept rs → width_of (plain rs) ≤ 1000000
width-kept rs kept = width-small (plain rs) 0 kept.apart kept.small

-- from a range on, those that follow are apart
pub apart_next : (here rest : List PlainRange) (r : PlainRange) → here ≡ r ∷ rest → AreApart 0 here → (r.from < r.to) × AreApart 0 rest
apart_next here rest r e apart = let both : AreApart 0 (r ∷ rest) = subst (AreApart 0) e apart in (both.1, apart_lower (r.to + 1) 0 rest (omega arith) both.2)
