-- The bounds of cutoffs are least numbers, and the level of a length is the greatest that fits.
use Rattle.std.proofs.Common.{◌≡◌, ℕ, zero, suc, ◌+◌, ◌-◌, ◌*◌, ◌<◌, ◌≤◌, Bool, true, false, ◌&&◌, cond, ltb, leb, eqb, List, [], ◌∷◌, ◌++◌, map}
use Rattle.std.proofs.Common.{length, length-append, length-drop, refl, sym, ap, ◌∙◌, arith, ◌⊎◌, inl, inr}
use Rattle.std.specs.List.{AllByRecursion, filter, list_any, sum_by}
use Rattle.std.proofs.lemmas.Bool.Decides.{nat_tests}
use Rattle.std.specs.Prelude.{slice_index}
use Rattle.std.proofs.lemmas.Bool.{cond_both, lt-ltb, le-ltb, le-leb, leb-true, leb-false, eq-eqb, ne_eqb, and_parts, and_cases, or_parts, cases_Bool}
use Rattle.std.proofs.lemmas.Bool.{cases_lt, cases_order, cases_eq, true≢false}
use Rattle.std.proofs.lemmas.Nat.{mul-le}
use Rattle.homa_plain.specs.declared.packet.Cutoffs.{Cutoffs}
use Rattle.homa_plain.specs.Cutoffs.{levels, noted, level_under, level_of, weight, total, weight_up_to, has_share, least_from, longest, bound}
use Rattle.homa_plain.specs.Cutoffs.{bound_of_level, bounds, balanced, IsLeastNumber, IsLevel}

-- where a test holds at the last number tried, it holds at the one that is found
passes-least_from : (test : ℕ → Bool) (b n : ℕ) → test (b + n) ≡ true → test (least_from test b n) ≡ true
unfolding least_from
passes-least_from test b zero e = ap test (omega arith) ∙ e
passes-least_from test b (suc n) e =
    elim (test b) as (λ t. test b ≡ t → test (elim t [ true ↦ b | false ↦ least_from test (suc b) n ]) ≡ true) [
      | true ↦ λ h. h
      | false ↦ λ h. passes-least_from test (suc b) n (ap test (omega arith) ∙ e)
    ] refl

-- and fails at each number below it
fails-least_from : (test : ℕ → Bool) (b n c : ℕ) → b ≤ c → c < least_from test b n → test c ≡ false
unfolding least_from
fails-least_from test b zero c h = λ k. absurd (omega arith)
fails-least_from test b (suc n) c h =
    elim (test b) as (λ t. test b ≡ t → c < elim t [ true ↦ b | false ↦ least_from test (suc b) n ] → test c ≡ false) [
      | true ↦ λ e k. absurd (omega arith)
      | false ↦ λ e k. elim (cases_eq b c) [ inl is ↦ ap test (sym is) ∙ e | inr ne ↦ fails-least_from test (suc b) n c (omega arith) k ]
    ] refl

-- it isn't above the last number tried
high-least_from : (test : ℕ → Bool) (b n : ℕ) → least_from test b n ≤ b + n
unfolding least_from
high-least_from test b zero = omega arith
high-least_from test b (suc n) =
    elim (test b) as (λ t. elim t [ true ↦ b | false ↦ least_from test (suc b) n ] ≤ b + suc n) [
      | true ↦ omega arith
      | false ↦ omega (arith, high-least_from test (suc b) n)
    ]

-- no length exceeds the greatest
all_kept : (b : ℕ) (ns : List ℕ) → longest ns ≤ b → filter (λ n. leb n b) ns ≡ ns
all_kept b [] h = refl
all_kept b (n ∷ ns) h = let below : n ≤ b = omega arith in rw (le-leb n b below) (ap (λ l. n ∷ l) (all_kept b ns (omega arith)))

-- the messages up to the greatest length have all shares
longest_passes : (m unsched : ℕ) (lengths : List ℕ) (j : ℕ) → j < m → has_share m unsched lengths j (longest lengths) ≡ true
longest_passes m unsched lengths j h =
    le-leb _ _ (rw (all_kept (longest lengths) lengths (omega arith))
    (mul-le (j + 1) (total unsched lengths) m (total unsched lengths) (omega arith) (omega arith)))

-- there is one least number
pub least_only : (test : ℕ → Bool) (a b : ℕ) → IsLeastNumber test a → IsLeastNumber test b → a ≡ b
least_only test a b first second =
    elim (cases_order a b) [
      | inl same ↦ same
      | inr (inl less) ↦ absurd (true≢false (sym first.passes ∙ second.others_fail a less))
      | inr (inr more) ↦ absurd (true≢false (sym second.passes ∙ first.others_fail b more))
    ]

-- where no length is b + 1, as many are at most b + 1 as at most b
same_kept : (b : ℕ) (ns : List ℕ) → list_any (eqb (b + 1)) ns ≡ false → filter (λ n. leb n (b + 1)) ns ≡ filter (λ n. leb n b) ns
same_kept b [] none = refl
same_kept b (n ∷ ns) none =
    let parts = or_parts (eqb (b + 1) n) (list_any (eqb (b + 1)) ns) none in
    ap (λ t. cond t (n ∷ filter (λ x. leb x (b + 1)) ns) (filter (λ x. leb x (b + 1)) ns)) (same_test b n parts.0)
    ∙ ap (λ l. cond (leb n b) (n ∷ l) l) (same_kept b ns parts.1) where
      same_test : (b n : ℕ) → eqb (b + 1) n ≡ false → leb n (b + 1) ≡ leb n b
      same_test b n e = grind (arith, nat_tests)

-- each bound is 0 or one of the lengths
pub listed-bound : (m unsched : ℕ) (lengths : List ℕ) (j b : ℕ) → IsLeastNumber (has_share m unsched lengths j) b → (b ≡ 0) ⊎ (list_any (eqb b) lengths ≡ true)
listed-bound m unsched lengths j zero least = inl refl
listed-bound m unsched lengths j (suc b) least =
    elim (cases_Bool (list_any (eqb (suc b)) lengths)) [
      | inl listed ↦ inr listed
      | inr none ↦
          let next : suc b ≡ b + 1 = omega arith in
          let same : filter (λ n. leb n (suc b)) lengths ≡ filter (λ n. leb n b) lengths =
          rw next (same_kept b lengths (ap (λ x. list_any (eqb x) lengths) (sym next) ∙ none)) in
          absurd (true≢false
          (sym least.passes ∙ ap (λ ns. leb ((j + 1) * total unsched lengths) (m * sum_by (weight unsched) ns)) same ∙ least.others_fail b (omega arith)))
    ]

-- each bound is the least number that has its share
pub least-bound : (m unsched : ℕ) (lengths : List ℕ) (j : ℕ) → j < m → IsLeastNumber (has_share m unsched lengths j) (bound m unsched lengths j)
least-bound m unsched lengths j h = record {
  passes = passes-least_from (has_share m unsched lengths j) 0 (longest lengths)
      (ap (has_share m unsched lengths j) (omega arith) ∙ longest_passes m unsched lengths j h);
  others_fail = λ c k. fails-least_from (has_share m unsched lengths j) 0 (longest lengths) c (omega arith) k;
}

-- and no greater than the greatest length
pub high-bound : (m unsched : ℕ) (lengths : List ℕ) (j : ℕ) → bound m unsched lengths j ≤ longest lengths
high-bound m unsched lengths j = omega (arith, high-least_from (has_share m unsched lengths j) 0 (longest lengths))

-- a list of eight values by level
at_level : (f : ℕ → ℕ) (i : ℕ) → i < 8 → slice_index (map f levels) i ≡ f i
at_level f zero h = refl
at_level f (suc zero) h = refl
at_level f (suc (suc zero)) h = refl
at_level f (suc (suc (suc zero))) h = refl
at_level f (suc (suc (suc (suc zero)))) h = refl
at_level f (suc (suc (suc (suc (suc zero))))) h = refl
at_level f (suc (suc (suc (suc (suc (suc zero)))))) h = refl
at_level f (suc (suc (suc (suc (suc (suc (suc zero))))))) h = refl
at_level f (suc (suc (suc (suc (suc (suc (suc (suc i)))))))) h = absurd (omega arith)

-- the bound of a level
bounds-at : (k unsched : ℕ) (lengths : List ℕ) (i : ℕ) → i < 8 → slice_index (bounds k unsched lengths) i ≡ bound_of_level k unsched lengths i
unfolding bounds
bounds-at k unsched lengths i h = at_level (bound_of_level k unsched lengths) i h

-- the levels above k have the least bounds with their shares
pub least-balanced : (k unsched version : ℕ) (lengths : List ℕ) (j : ℕ) → j + k < 7
    → IsLeastNumber (has_share (8 - k) unsched lengths j) (slice_index (balanced k unsched version lengths).upto (7 - j))
least-balanced k unsched version lengths j h =
    let above : k ≤ 7 - j = omega arith in
    let other : 7 - j ≡ k → ⊥ = omega arith in
    let back : 7 - (7 - j) ≡ j = omega arith in
    let is : slice_index (bounds k unsched lengths) (7 - j) ≡ bound (8 - k) unsched lengths j =
    bounds-at k unsched lengths (7 - j) (omega arith) ∙ rw (le-ltb (7 - j) k above, ne_eqb (7 - j) k other, back) refl in
    rw is (least-bound (8 - k) unsched lengths j (omega arith))

-- level k takes every length
pub top-balanced : (k unsched version : ℕ) (lengths : List ℕ) → k ≤ 7 → slice_index (balanced k unsched version lengths).upto k ≡ 1000000
top-balanced k unsched version lengths h =
    let same : k ≤ k = omega arith in
    bounds-at k unsched lengths k (omega arith) ∙ rw (le-ltb k k same, eq-eqb k k refl) refl

-- the levels below k take none
pub low-balanced : (k unsched version : ℕ) (lengths : List ℕ) (i : ℕ) → i < k → k ≤ 7 → slice_index (balanced k unsched version lengths).upto i ≡ 0
low-balanced k unsched version lengths i h low = bounds-at k unsched lengths i (omega arith) ∙ rw (lt-ltb i k h) refl

-- there are eight bounds
pub length-balanced : (k unsched version : ℕ) (lengths : List ℕ) → length (balanced k unsched version lengths).upto ≡ 8
unfolding bounds
length-balanced k unsched version lengths = refl

-- no length exceeds a number that none exceeds
longest_within : (b : ℕ) (ns : List ℕ) → AllByRecursion (λ n. n ≤ b) ns → longest ns ≤ b
longest_within b [] all = omega arith
longest_within b (n ∷ ns) all = omega (arith, all.0, longest_within b ns all.1)

-- nor does the bound of a level
high_level : (k unsched : ℕ) (lengths : List ℕ) (i : ℕ) → longest lengths ≤ 1000000 → bound_of_level k unsched lengths i ≤ 1000000
high_level k unsched lengths i h =
    cond_both (ltb i k) 0 (cond (eqb i k) 1000000 (bound (8 - k) unsched lengths (7 - i))) (λ b. b ≤ 1000000)
    (λ _. omega arith)
    (λ _. cond_both (eqb i k) 1000000 (bound (8 - k) unsched lengths (7 - i)) (λ b. b ≤ 1000000) (λ _. omega arith)
    (λ _. omega (arith, high-bound (8 - k) unsched lengths (7 - i))))

pub high-balanced : (k unsched version : ℕ) (lengths : List ℕ) → AllByRecursion (λ n. n ≤ 1000000) lengths → (i : ℕ) → i ≤ 7
    → slice_index (balanced k unsched version lengths).upto i ≤ 1000000
high-balanced k unsched version lengths all i h =
    rw (bounds-at k unsched lengths i (omega arith)) (high_level k unsched lengths i (longest_within 1000000 lengths all))

-- a greater share has at least the bound of a smaller one
bound-rises : (m unsched : ℕ) (lengths : List ℕ) (j : ℕ) → j + 1 < m → bound m unsched lengths j ≤ bound m unsched lengths (j + 1)
bound-rises m unsched lengths j h =
    let greater = least-bound m unsched lengths (j + 1) (omega arith) in
    let smaller = least-bound m unsched lengths j (omega arith) in
    elim (cases_lt (bound m unsched lengths (j + 1)) (bound m unsched lengths j)) [
      | inr rises ↦ rises
      | inl falls ↦ absurd
          (true≢false (sym (share m unsched lengths j (bound m unsched lengths (j + 1)) greater.passes)
          ∙ smaller.others_fail (bound m unsched lengths (j + 1)) falls))
    ]
  where
    share : (m unsched : ℕ) (lengths : List ℕ) (j b : ℕ) → has_share m unsched lengths (j + 1) b ≡ true → has_share m unsched lengths j b ≡ true
    share m unsched lengths j b e =
        let more : (j + 1 + 1) * total unsched lengths ≤ m * weight_up_to unsched lengths b = leb-true _ _ e in
        le-leb _ _ (omega (arith, more, mul-le (j + 1) (total unsched lengths) (j + 1 + 1) (total unsched lengths) (omega arith) (omega arith)))

-- so a greater level has at most the bound of a lower one
pub falls-balanced : (k unsched version : ℕ) (lengths : List ℕ) → AllByRecursion (λ n. n ≤ 1000000) lengths → (i : ℕ) → k ≤ i → i < 7
    → slice_index (balanced k unsched version lengths).upto (i + 1) ≤ slice_index (balanced k unsched version lengths).upto i
falls-balanced k unsched version lengths all i h l = choose (cases_eq i k) where
  upper : (i : ℕ) → k < i → i < 8 → slice_index (bounds k unsched lengths) i ≡ bound (8 - k) unsched lengths (7 - i)
  upper i h l =
      let above : k ≤ i = omega arith in
      let other : i ≡ k → ⊥ = omega arith in
      bounds-at k unsched lengths i l ∙ rw (le-ltb i k above, ne_eqb i k other) refl

  choose : ((i ≡ k) ⊎ (i ≡ k → ⊥)) → slice_index (bounds k unsched lengths) (i + 1) ≤ slice_index (bounds k unsched lengths) i
  choose (inl is) =
      omega (
        arith,
        ap (slice_index (bounds k unsched lengths)) is,
        top-balanced k unsched version lengths (omega arith),
        high-balanced k unsched version lengths all (i + 1) (omega arith),
      )
  choose (inr other) =
      let next : 7 - i ≡ 7 - (i + 1) + 1 = omega arith in
      omega (
        arith,
        upper i (omega arith) (omega arith),
        upper (i + 1) (omega arith) (omega arith),
        ap (bound (8 - k) unsched lengths) next,
        bound-rises (8 - k) unsched lengths (7 - (i + 1)) (omega arith),
      )

-- at most 256 lengths are remembered
pub few-noted : (lengths : List ℕ) (n : ℕ) → length (noted lengths n) ≤ 256
unfolding noted
few-noted lengths n = omega (arith, length-drop (length lengths + 1 - 256) (lengths ++ n ∷ []), length-append lengths (n ∷ []))

-- where there is room none is forgotten
pub room-noted : (lengths : List ℕ) (n : ℕ) → length lengths < 256 → noted lengths n ≡ lengths ++ n ∷ []
unfolding noted
room-noted lengths n h = let none : length lengths + 1 - 256 ≡ 0 = omega arith in rw none refl

-- else the first one is
pub full-noted : (first : ℕ) (lengths : List ℕ) (n : ℕ) → length lengths ≡ 255 → noted (first ∷ lengths) n ≡ lengths ++ n ∷ []
unfolding noted
full-noted first lengths n h = let one : suc (length lengths) + 1 - 256 ≡ 1 = omega arith in rw one refl

-- the level is k or above, k or below n, fits unless it is k, and no greater one below n fits
level_facts : (k n : ℕ) (upto : List ℕ) (len : ℕ) → (k ≤ level_under k n upto len)
    × ((level_under k n upto len ≡ k) ⊎ (level_under k n upto len < n))
    × ((level_under k n upto len ≡ k) ⊎ (len ≤ slice_index upto (level_under k n upto len)))
    × ((j : ℕ) → level_under k n upto len < j → j < n → slice_index upto j < len)
level_facts k zero upto len = (omega arith, inl refl, inl refl, λ j h l. absurd (omega arith))
level_facts k (suc i) upto len =
    let rest = level_facts k i upto len in
    cond_both (leb k i && leb len (slice_index upto i)) _ _
    (λ l. (k ≤ l) × ((l ≡ k) ⊎ (l < suc i)) × ((l ≡ k) ⊎ (len ≤ slice_index upto l)) × ((j : ℕ) → l < j → j < suc i → slice_index upto j < len))
    (λ e. let both = and_parts (leb k i) (leb len (slice_index upto i)) e in
    (leb-true k i both.0, inr (omega arith), inr (leb-true len (slice_index upto i) both.1), λ j h l. absurd (omega arith)))
    (λ e. (
      rest.0,
      elim rest.1 [ inl is ↦ inl is | inr low ↦ inr (omega arith) ],
      rest.2,
      λ j h l. elim (cases_lt j i) [
        | inl low ↦ rest.3 j h low
        | inr top ↦
            let is : j ≡ i = omega arith in
            let over : slice_index upto i < len =
            elim (and_cases (leb k i) (leb len (slice_index upto i)) e)
            [ inl below ↦ absurd (omega (arith, leb-false k i below, rest.0)) | inr exceeded ↦ leb-false len (slice_index upto i) exceeded ] in
            rw is over
      ],
    ))

-- there is one such level
pub level_only : (k : ℕ) (upto : List ℕ) (n i j : ℕ) → IsLevel k upto n i → IsLevel k upto n j → i ≡ j
level_only k upto n i j first second =
    elim (cases_order i j) [
      | inl same ↦ same
      | inr (inl less) ↦
          elim second.fits [ inl low ↦ absurd (omega (arith, first.from)) | inr fits ↦ absurd (omega (arith, fits, first.others_exceeded j less second.to)) ]
      | inr (inr more) ↦
          elim first.fits [ inl low ↦ absurd (omega (arith, second.from)) | inr fits ↦ absurd (omega (arith, fits, second.others_exceeded i more first.to)) ]
    ]

-- the level of a length
pub is_level_of : (k : ℕ) (c : Cutoffs) (n : ℕ) → k ≤ 7 → IsLevel k c.upto n (level_of k c n)
unfolding level_of
is_level_of k c n h =
    let facts = level_facts k 8 c.upto n in
    record {
      from = facts.0;
      to = elim facts.1 [ inl is ↦ omega arith | inr low ↦ omega arith ];
      fits = facts.2;
      others_exceeded = λ j l m. facts.3 j l (omega arith);
    }
