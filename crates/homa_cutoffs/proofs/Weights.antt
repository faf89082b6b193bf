-- The weight of lengths: how it grows length by length, how great it can be, and which share of it a bound has.
use Rattle.std.proofs.Common.{◌≡◌, ℕ, suc, ◌+◌, ◌*◌, ◌^◌, ◌<◌, ◌≤◌, true, leb, min, List, [], ◌∷◌, length, ap, sym, ◌∙◌, refl, arith}
use Rattle.std.specs.List.{AllByRecursion, filter, fold}
use Rattle.std.proofs.lemmas.Bool.{cond_both, le-leb, leb-true}
use Rattle.std.proofs.lemmas.Nat.{mul-le}
use Rattle.homa_plain.specs.Cutoffs.{total, weight_up_to, has_share}

-- a sum is at least what it began with
fold-rises : (u a : ℕ) (ns : List ℕ) → a ≤ fold (λ s n. s + min n u) a ns
fold-rises u a [] = omega arith
fold-rises u a (n ∷ ns) = omega (arith, fold-rises u (a + min n u) ns)

-- each length adds at most u
fold-small : (u b a : ℕ) (ns : List ℕ) → fold (λ s n. s + min n u) a (filter (λ n. leb n b) ns) ≤ a + length ns * u
fold-small u b a [] = omega arith
fold-small u b a (n ∷ ns) =
    cond_both (leb n b) (n ∷ filter (λ x. leb x b) ns) (filter (λ x. leb x b) ns) (λ l. fold (λ s x. s + min x u) a l ≤ a + suc (length ns) * u)
    (λ _. omega (arith, fold-small u b (a + min n u) ns))
    (λ _. omega (arith, fold-small u b a ns))

-- the weight of 256 lengths
pub weight-small : (u b : ℕ) (ns : List ℕ) → length ns ≤ 256 → u < 2 ^ 32 → weight_up_to u ns b ≤ 256 * 2 ^ 32
weight-small u b ns few fits = omega (arith, fold-small u b 0 ns, mul-le (length ns) u 256 (2 ^ 32) few (omega arith))

-- and of those up to the next one
pub next-small : (u b sum n : ℕ) (left rest all : List ℕ) → left ≡ n ∷ rest → n ≤ b
    → fold (λ s x. s + min x u) sum (filter (λ x. leb x b) left) ≡ weight_up_to u all b → length all ≤ 256 → u < 2 ^ 32
    → sum + min n u ≤ 256 * 2 ^ 32
next-small u b sum n left rest all e h so_far few fits =
    let whole : fold (λ s x. s + min x u) (sum + min n u) (filter (λ x. leb x b) rest) ≡ weight_up_to u all b = rw (le-leb n b h) at (rw e at so_far) in
    omega (arith, whole, fold-rises u (sum + min n u) (filter (λ x. leb x b) rest), weight-small u b all few fits)

-- no length is left out at a bound that none exceeds
all-within : (b : ℕ) (ns : List ℕ) → AllByRecursion (λ n. n ≤ b) ns → filter (λ n. leb n b) ns ≡ ns
all-within b [] all = refl
all-within b (n ∷ ns) all = rw (le-leb n b all.0) (ap (λ l. n ∷ l) (all-within b ns all.1))

-- what the factors of a comparison are, where it tests a share
pub record IsShareTest (m u : ℕ) (ns : List ℕ) (j b parts whole of part : ℕ) : Type 0 where
  pub within : AllByRecursion (λ n. n ≤ 1000000) ns
  pub parts_are : parts ≡ j + 1
  pub whole_is : whole ≡ weight_up_to u ns 1000000
  pub of_is : of ≡ m
  pub part_is : part ≡ weight_up_to u ns b

-- the comparison is the test
share-test : (m u : ℕ) (ns : List ℕ) (j b parts whole of part : ℕ) → IsShareTest m u ns j b parts whole of part
    → leb (parts * whole) (of * part) ≡ has_share m u ns j b
share-test m u ns j b parts whole of part t =
    let all : whole ≡ total u ns = rw (all-within 1000000 ns t.within) at t.whole_is in
    ap (λ x. leb (x * whole) (of * part)) t.parts_are
    ∙ ap (λ x. leb ((j + 1) * x) (of * part)) all
    ∙ ap (λ x. leb ((j + 1) * total u ns) (x * part)) t.of_is
    ∙ ap (λ x. leb ((j + 1) * total u ns) (m * x)) t.part_is

-- so it says whether a bound has its share
pub share-passes : (m u : ℕ) (ns : List ℕ) (j b parts whole of part : ℕ) → IsShareTest m u ns j b parts whole of part
    → parts * whole ≤ of * part → has_share m u ns j b ≡ true
share-passes m u ns j b parts whole of part t h = sym (share-test m u ns j b parts whole of part t) ∙ le-leb (parts * whole) (of * part) h

pub passes-share : (m u : ℕ) (ns : List ℕ) (j b parts whole of part : ℕ) → IsShareTest m u ns j b parts whole of part
    → has_share m u ns j b ≡ true → parts * whole ≤ of * part
passes-share m u ns j b parts whole of part t e = leb-true (parts * whole) (of * part) (share-test m u ns j b parts whole of part t ∙ e)

-- the greatest bound has each share
pub greatest-passes : (m u : ℕ) (ns : List ℕ) (j : ℕ) → j < m → AllByRecursion (λ n. n ≤ 1000000) ns → has_share m u ns j 1000000 ≡ true
greatest-passes m u ns j h all =
    rw (all-within 1000000 ns all) (le-leb ((j + 1) * total u ns) (m * total u ns) (mul-le (j + 1) (total u ns) m (total u ns) (omega arith) (omega arith)))
