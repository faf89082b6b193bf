-- The maximal ranges of a set, and the set of ranges that are apart.
use Rattle.std.proofs.Common.{◌≡◌, ◌≢◌, ℕ, suc, ◌+◌, ◌<◌, ◌≤◌, Bool, true, false, ◌&&◌, ◌||◌, ltb, leb, eqb, T, List, [], ◌∷◌, map, refl, sym, ap}
use Rattle.std.proofs.Common.{◌∙◌, arith, ◌⊎◌, inl, inr}
use Rattle.std.specs.List.{list_any}
use Rattle.std.specs.Ordering.{nat_cmp, eq_by_cmp}
use Rattle.std.specs.Cmp.{unsigned_tied}
use Rattle.std.proofs.lemmas.Bool.{cond_both, eqb-true, eqb-false, lt-ltb, le-ltb, le-leb, lt-leb, cases_order, cases_lt, true≢false}
use Rattle.std.proofs.Math.Bool.{or_assoc}
use Rattle.std.proofs.lemmas.Bool.Decides.{nat_tests}
use Rattle.core.specs.FinMap.Entries.{is_some-find}
use Rattle.plain_sets.specs.Maps.{Map, rises_above, empty, get, contains_key, keys}
use Rattle.plain_sets.specs.Ranges.{Range, is_between, in_ranges, AreApart, preceded, ranges_of}
use Rattle.plain_sets.specs.Numbers.{Numbers, has, ranges, set_of_ranges}
use Rattle.plain_sets.proofs.Small.{first, second}
use Rattle.plain_sets.proofs.SpreadLaws.{lt_if_less}
use Rattle.plain_sets.proofs.NumberLaws.{has-empty, has-with_range, same_numbers, beyond}

-- numbers that rise strictly, from low on
abbrev pub Rise : ℕ → List ℕ → Type 0
Rise low [] = Unit {0}
Rise low (x ∷ xs) = (low ≤ x) × Rise (suc x) xs

-- keys from above k on rise
rise-above : {X : Type 0} (k : ℕ) (es : List (ℕ × X)) → T (rises_above nat_cmp k es) → Rise (suc k) (map (λ e. e.0) es)
rise-above k [] h = tt
rise-above k (e ∷ es) h = let l : k < e.0 = lt_if_less k e.0 (first _ _ h) in (omega arith, rise-above e.0 es (second _ _ h))

-- the keys of a map rise
pub rise-keys : {X : Type 0} (m : Map nat_cmp X) → Rise 0 (keys m)
unfolding keys
rise-keys {X} m = from m.list m.sorted where
  from : (es : List (ℕ × X)) → T (Rattle.plain_sets.specs.Maps.rises nat_cmp es) → Rise 0 (map (λ e. e.0) es)
  from [] h = tt
  from (e ∷ es) h = (omega arith, rise-above e.0 es h)

-- two tests that agree find the same
list_any-same : (p q : ℕ → Bool) → ((x : ℕ) → p x ≡ q x) → (xs : List ℕ) → list_any p xs ≡ list_any q xs
list_any-same p q e [] = refl
list_any-same p q e (x ∷ xs) = λ i. e x i || list_any-same p q e xs i

-- the members are the keys
pub has-keys : (s : Numbers) (q : ℕ) → has s q ≡ list_any (eqb q) (keys s)
unfolding get keys
has-keys s q = is_some-find nat_cmp q s.list ∙ list_any-same (eq_by_cmp nat_cmp q) (eqb q) (unsigned_tied q) (map (λ e. e.0) s.list)

-- ranges that begin at low or above begin above a lower number
pub apart_lower : (low low' : ℕ) (rs : List Range) → low' ≤ low → AreApart low rs → AreApart low' rs
apart_lower low low' [] h apart = tt
apart_lower low low' (r ∷ rs) h apart = (omega arith, apart.1, apart.2)

-- a number in front leaves ranges apart
apart-preceded : (x low : ℕ) (rs : List Range) → low ≤ x → AreApart (suc x) rs → AreApart low (preceded x rs)
apart-preceded x low [] h apart = (h, omega arith, tt)
apart-preceded x low (r ∷ rs) h apart =
    cond_both (eqb (x + 1) r.from) _ _ (AreApart low)
    (λ e. (h, omega (arith, apart.0, apart.1), apart.2))
    (λ e. let other : x + 1 ≢ r.from = eqb-false (x + 1) r.from e in (h, omega arith, (omega (arith, apart.0), apart.1, apart.2)))

-- ranges of rising numbers are apart
pub apart-ranges_of : (low : ℕ) (xs : List ℕ) → Rise low xs → AreApart low (ranges_of xs)
apart-ranges_of low [] rise = tt
apart-ranges_of low (x ∷ xs) rise = apart-preceded x low (ranges_of xs) rise.0 (apart-ranges_of (suc x) xs rise.1)

-- the range of one number
one_number : (x q : ℕ) → (leb x q && ltb q (x + 1)) ≡ eqb q x
one_number x q = grind (arith, nat_tests)

-- a range with the number before it
one_before : (x f t q : ℕ) → x + 1 ≡ f → f < t → (leb x q && ltb q t) ≡ (eqb q x || (leb f q && ltb q t))
one_before x f t q e h = grind (arith, nat_tests)

-- the numbers of ranges with one in front
in_ranges-preceded : (x q : ℕ) (rs : List Range) → AreApart (suc x) rs → in_ranges (preceded x rs) q ≡ (eqb q x || in_ranges rs q)
in_ranges-preceded x q [] apart = ap (λ b. b || false) (one_number x q)
in_ranges-preceded x q (r ∷ rs) apart =
    cond_both (eqb (x + 1) r.from) _ _ (λ ss. in_ranges ss q ≡ (eqb q x || (is_between r.from r.to q || in_ranges rs q)))
    (λ e. ap (λ b. b || in_ranges rs q) (one_before x r.from r.to q (eqb-true (x + 1) r.from e) apart.1)
    ∙ or_assoc (eqb q x) (is_between r.from r.to q) (in_ranges rs q))
    (λ e. ap (λ b. b || (is_between r.from r.to q || in_ranges rs q)) (one_number x q))

-- the ranges of numbers have these numbers
pub in_ranges-ranges_of : (low q : ℕ) (xs : List ℕ) → Rise low xs → in_ranges (ranges_of xs) q ≡ list_any (eqb q) xs
in_ranges-ranges_of low q [] rise = refl
in_ranges-ranges_of low q (x ∷ xs) rise =
    in_ranges-preceded x q (ranges_of xs) (apart-ranges_of (suc x) xs rise.1) ∙ ap (λ b. eqb q x || b) (in_ranges-ranges_of (suc x) q xs rise.1)

-- the ranges of a set are those of its keys
pub ranges-keys : (s : Numbers) → ranges s ≡ ranges_of (keys s)
unfolding ranges
ranges-keys s = refl

-- the ranges of a set are apart
pub apart-ranges : (s : Numbers) → AreApart 0 (ranges s)
unfolding ranges
apart-ranges s = apart-ranges_of 0 (keys s) (rise-keys s)

-- and have its members
pub in_ranges-ranges : (s : Numbers) (q : ℕ) → in_ranges (ranges s) q ≡ has s q
unfolding ranges
in_ranges-ranges s q = in_ranges-ranges_of 0 q (keys s) (rise-keys s) ∙ sym (has-keys s q)

-- ranges have no number below the first
pub below_ranges : (low q : ℕ) (rs : List Range) → AreApart low rs → q < low → in_ranges rs q ≡ false
below_ranges low q [] apart h = refl
below_ranges low q (r ∷ rs) apart h =
    let l : q < r.from = omega (arith, apart.0) in rw (lt-leb r.from q l) (below_ranges (r.to + 1) q rs apart.2 (omega (arith, apart.1)))

-- they have the first number
pub at_from : (low : ℕ) (r : Range) (rs : List Range) → AreApart low (r ∷ rs) → in_ranges (r ∷ rs) r.from ≡ true
at_from low r rs apart = let l : r.from ≤ r.from = omega arith in rw (le-leb r.from r.from l, lt-ltb r.from r.to apart.1) refl

-- they have the numbers of the first range
pub inside : (r : Range) (rs : List Range) (q : ℕ) → r.from ≤ q → q < r.to → in_ranges (r ∷ rs) q ≡ true
inside r rs q h k = rw (le-leb r.from q h, lt-ltb q r.to k) refl

-- they have none before it
pub before : (low : ℕ) (r : Range) (rs : List Range) (q : ℕ) → AreApart low (r ∷ rs) → q < r.from → in_ranges (r ∷ rs) q ≡ false
before low r rs q apart h = rw (lt-leb r.from q h) (below_ranges (r.to + 1) q rs apart.2 (omega (arith, apart.1)))

-- nor the number at its end
pub at_to : (low : ℕ) (r : Range) (rs : List Range) → AreApart low (r ∷ rs) → in_ranges (r ∷ rs) r.to ≡ false
at_to low r rs apart =
    let l : r.from ≤ r.to = omega (arith, apart.1) in
    let m : r.to ≤ r.to = omega arith in
    rw (le-leb r.from r.to l, le-ltb r.to r.to m) (below_ranges (r.to + 1) r.to rs apart.2 (omega arith))

-- what is true of one and false of its equal
clash : {A : Type 0} {b c : Bool} → b ≡ c → b ≡ true → c ≡ false → A
clash e p q = absurd (true≢false (sym p ∙ e ∙ q))

-- ranges with the same numbers begin alike
same_from : (low : ℕ) (r s : Range) (rs ss : List Range) → AreApart low (r ∷ rs) → AreApart low (s ∷ ss)
    → ((q : ℕ) → in_ranges (r ∷ rs) q ≡ in_ranges (s ∷ ss) q) → r.from ≡ s.from
same_from low r s rs ss g h same = choose (cases_order r.from s.from) where
  choose : ((r.from ≡ s.from) ⊎ ((r.from < s.from) ⊎ (s.from < r.from))) → r.from ≡ s.from
  choose (inl e) = e
  choose (inr (inl l)) = clash (same r.from) (at_from low r rs g) (before low s ss r.from h l)
  choose (inr (inr l)) = clash (sym (same s.from)) (at_from low s ss h) (before low r rs s.from g l)

-- their first ranges end alike
same_to : (low : ℕ) (r s : Range) (rs ss : List Range) → AreApart low (r ∷ rs) → AreApart low (s ∷ ss)
    → ((q : ℕ) → in_ranges (r ∷ rs) q ≡ in_ranges (s ∷ ss) q) → r.from ≡ s.from → r.to ≡ s.to
same_to low r s rs ss g h same e = choose (cases_order r.to s.to) where
  choose : ((r.to ≡ s.to) ⊎ ((r.to < s.to) ⊎ (s.to < r.to))) → r.to ≡ s.to
  choose (inl f) = f
  choose (inr (inl l)) = clash (sym (same r.to)) (inside s ss r.to (omega (arith, g.1, e)) l) (at_to low r rs g)
  choose (inr (inr l)) = clash (same s.to) (inside r rs s.to (omega (arith, h.1, e)) l) (at_to low s ss h)

-- and the rest have the same numbers
same_rest : (low : ℕ) (r s : Range) (rs ss : List Range) → AreApart low (r ∷ rs) → AreApart low (s ∷ ss)
    → ((q : ℕ) → in_ranges (r ∷ rs) q ≡ in_ranges (s ∷ ss) q) → r.from ≡ s.from → r.to ≡ s.to → (q : ℕ) → in_ranges rs q ≡ in_ranges ss q
same_rest low r s rs ss g h same from to q = choose (cases_lt q (r.to + 1)) where
  choose : ((q < r.to + 1) ⊎ (r.to + 1 ≤ q)) → in_ranges rs q ≡ in_ranges ss q
  choose (inl l) = below_ranges (r.to + 1) q rs g.2 l ∙ sym (below_ranges (s.to + 1) q ss h.2 (omega (arith, to)))
  choose (inr l) =
      let after : is_between r.from r.to q ≡ false = beyond r.from r.to q (omega arith) in
      let after' : is_between s.from s.to q ≡ false = beyond s.from s.to q (omega (arith, to)) in
      ap (λ b. b || in_ranges rs q) (sym after) ∙ same q ∙ ap (λ b. b || in_ranges ss q) after'

-- two lists of ranges that are apart and have the same numbers are one
pub same_ranges : (low : ℕ) (rs ss : List Range) → AreApart low rs → AreApart low ss → ((q : ℕ) → in_ranges rs q ≡ in_ranges ss q) → rs ≡ ss
same_ranges low [] [] g h same = refl
same_ranges low [] (s ∷ ss) g h same = clash (sym (same s.from)) (at_from low s ss h) refl
same_ranges low (r ∷ rs) [] g h same = clash (same r.from) (at_from low r rs g) refl
same_ranges low (r ∷ rs) (s ∷ ss) g h same =
    let from : r.from ≡ s.from = same_from low r s rs ss g h same in
    let to : r.to ≡ s.to = same_to low r s rs ss g h same from in
    let rest : rs ≡ ss =
    same_ranges (r.to + 1) rs ss g.2 (apart_lower (s.to + 1) (r.to + 1) ss (omega (arith, to)) h.2) (same_rest low r s rs ss g h same from to) in
    λ i. record { from = from i; to = to i } ∷ rest i

-- the members of ranges
pub has-set_of_ranges : (rs : List Range) (q : ℕ) → has (set_of_ranges rs) q ≡ in_ranges rs q
has-set_of_ranges [] q = has-empty q
has-set_of_ranges (r ∷ rs) q = has-with_range (set_of_ranges rs) r.from r.to q ∙ ap (λ b. is_between r.from r.to q || b) (has-set_of_ranges rs q)

-- ranges and set_of_ranges invert each other
pub ranges-set_of_ranges : (rs : List Range) → AreApart 0 rs → ranges (set_of_ranges rs) ≡ rs
ranges-set_of_ranges rs apart = same_ranges 0 _ _ (apart-ranges (set_of_ranges rs)) apart (λ q. in_ranges-ranges (set_of_ranges rs) q ∙ has-set_of_ranges rs q)

-- and the other way round
pub set_of_ranges-ranges : (s : Numbers) → set_of_ranges (ranges s) ≡ s
set_of_ranges-ranges s = same_numbers _ _ (λ q. has-set_of_ranges (ranges s) q ∙ in_ranges-ranges s q)

-- ranges that are apart and have the members are the ranges of the set
pub ranges_are : (s : Numbers) (rs : List Range) → AreApart 0 rs → ((q : ℕ) → has s q ≡ in_ranges rs q) → ranges s ≡ rs
ranges_are s rs apart same = same_ranges 0 _ _ (apart-ranges s) apart (λ q. in_ranges-ranges s q ∙ same q)

-- a set without members has no ranges
pub ranges-none : (s : Numbers) → ((q : ℕ) → has s q ≡ false) → ranges s ≡ []
ranges-none s none = ranges_are s [] tt none

-- nor has the empty set
pub ranges-empty : ranges empty ≡ []
ranges-empty = ranges-none empty has-empty
