-- The first range of the members from one number to another.
use Rattle.std.proofs.Common.{◌≡◌, ℕ, ◌+◌, ◌<◌, ◌≤◌, Bool, true, ◌||◌, ltb, leb, min, max, List, [], ◌∷◌, refl, sym, ap, ◌∙◌, arith, inl, inr, Option}
use Rattle.std.proofs.Common.{Some, None}
use Rattle.std.specs.Option.{MatchOption, IfSome}
use Rattle.std.proofs.lemmas.Bool.{cond_both, ltb-true, ltb-false, leb-true, leb-false, cases_lt, true≢false}
use Rattle.plain_sets.specs.Ranges.{Range, in_ranges, AreApart, cut, NoneIn, IsFirstIn}
use Rattle.plain_sets.specs.Numbers.{Numbers, has, ranges, first_in}
use Rattle.plain_sets.specs.Ordered.{first_of}
use Rattle.plain_sets.proofs.RangeLaws.{apart-ranges, in_ranges-ranges, inside, before, at_to}
use Rattle.plain_sets.proofs.NumberLaws.{beyond}

-- what a choice of a first range has to be
abbrev pub IsFirst : (ℕ → Bool) → ℕ → ℕ → Option Range → Type 0
IsFirst test a b o = MatchOption o (NoneIn test a b) (IsFirstIn test a b)

-- a first range is one for a test that agrees from a on
first_alike : (test other : ℕ → Bool) (a b : ℕ) → ((x : ℕ) → a ≤ x → other x ≡ test x) → (o : Option Range) → IsFirst test a b o → IsFirst other a b o
first_alike test other a b alike None none = λ x h k. alike x h ∙ none x h k
first_alike test other a b alike (Some r) is = record {
  low = is.low;
  some = is.some;
  high = is.high;
  before = λ x h k. alike x h ∙ is.before x h k;
  pass = λ x h k. alike x (omega (arith, is.low)) ∙ is.pass x h k;
  ends = elim is.ends [ inl e ↦ inl e | inr e ↦ inr (alike r.to (omega (arith, is.low, is.some)) ∙ e) ];
}

-- of ranges that are apart, cut is the first of the numbers from a to b - 1
first-cut : (low a b : ℕ) (rs : List Range) → AreApart low rs → IsFirst (in_ranges rs) a b (cut a b rs)
first-cut low a b [] apart = λ x h k. refl
first-cut low a b (r ∷ rs) apart =
    cond_both (leb r.to a) _ _ (IsFirst (in_ranges (r ∷ rs)) a b)
    (λ e. let l : r.to ≤ a = leb-true _ _ e in
    first_alike (in_ranges rs) (in_ranges (r ∷ rs)) a b (λ x h. ap (λ c. c || in_ranges rs x) (beyond r.from r.to x (omega arith))) (cut a b rs)
    (first-cut (r.to + 1) a b rs apart.2))
    (λ e. let l : a < r.to = leb-false _ _ e in
    cond_both (ltb (max a r.from) b) _ _ (IsFirst (in_ranges (r ∷ rs)) a b)
    (λ e'. let m : max a r.from < b = ltb-true _ _ e' in
    record {
      low = omega arith;
      some = omega (arith, apart.1);
      high = omega arith;
      before = λ x h k. before low r rs x apart (omega arith);
      pass = λ x h k. inside r rs x (omega arith) (omega arith);
      ends = elim (cases_lt r.to b) [
        | inl less ↦ inr (let e : min b r.to ≡ r.to = omega arith in ap (in_ranges (r ∷ rs)) e ∙ at_to low r rs apart)
        | inr more ↦ inl (omega arith)
      ];
    })
    (λ e'. let m : b ≤ max a r.from = ltb-false _ _ e' in λ x h k. before low r rs x apart (omega arith)))

-- first_in is cut of the ranges
pub first_in-cut : (s : Numbers) (a b : ℕ) → first_in s a b ≡ cut a b (ranges s)
unfolding first_in
first_in-cut s a b = refl

-- first_in is the first range of the members from a to b - 1, and None where there is none
pub first-first_in : (s : Numbers) (a b : ℕ) → IsFirst (has s) a b (first_in s a b)
unfolding first_in
first-first_in s a b =
    first_alike (in_ranges (ranges s)) (has s) a b (λ x h. sym (in_ranges-ranges s x)) (cut a b (ranges s)) (first-cut 0 a b (ranges s) (apart-ranges s))

-- the first of ranges that are apart begins with their least number
least_of : (low : ℕ) (rs : List Range) → AreApart low rs → IfSome (first_of rs) (λ r. (x : ℕ) → in_ranges rs x ≡ true → r.from ≤ x)
least_of low [] apart = tt
least_of low (r ∷ rs) apart = λ x e. elim (cases_lt x r.from) [ inl h ↦ absurd (true≢false (sym e ∙ before low r rs x apart h)) | inr h ↦ h ]

-- the first range begins with the least member
pub least : (s : Numbers) → IfSome (first_of (ranges s)) (λ r. (x : ℕ) → has s x ≡ true → r.from ≤ x)
least s = alike (ranges s) (least_of 0 (ranges s) (apart-ranges s)) (in_ranges-ranges s) where
  alike : (rs : List Range) → IfSome (first_of rs) (λ r. (x : ℕ) → in_ranges rs x ≡ true → r.from ≤ x) → ((x : ℕ) → in_ranges rs x ≡ has s x)
      → IfSome (first_of rs) (λ r. (x : ℕ) → has s x ≡ true → r.from ≤ x)
  alike [] h e = tt
  alike (r ∷ rs) h e = λ x p. h x (e x ∙ p)
