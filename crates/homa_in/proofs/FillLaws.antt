-- Lists in which missing bytes are filled in, a range at a time.
use Rattle.std.proofs.Common.{◌≡◌, ℕ, ◌+◌, ◌-◌, ◌<◌, ◌≤◌, ◌⊎◌, true, List, length, get_or, refl, sym, ap, ◌∙◌, arith, subst, Option, Some, None, inl, inr}
use Rattle.std.specs.List.{slice_range}
use Rattle.std.proofs.lemmas.Bool.{cases_lt, true≢false}
use Rattle.std.proofs.lemmas.Grind.{common_steps}
use Rattle.std.specs.Option.{MatchOption, is_some, option_map}
use Rattle.plain_sets.specs.Ranges.{Range, NoneIn, IsFirstIn}
use Rattle.plain_sets.specs.Numbers.{Numbers, has, first_in}
use Rattle.plain_sets.proofs.CutLaws.{first-first_in}
use Rattle.plain_sets.proofs.MapMembers.{same_some}
use Rattle.range_set.specs.Fits.{bounds}
use Rattle.msg_pool.specs.Bytes.{overwritten}
use Rattle.msg_pool.proofs.BytesLaws.{get-overwritten, get-around, length-overwritten}
use Rattle.homa_in.specs.Filled.{IsFilled}

-- before anything is filled in
pub filled_none : (m : Numbers) (a : ℕ) (piece old : List ℕ) → IsFilled m a a piece old old
filled_none m a piece old = record { length = refl; filled = λ q h k _. absurd (omega arith); kept = λ q _. refl; around = λ q _. refl }

-- where no more is missing, all is filled in
pub filled_rest : (m : Numbers) (a f end : ℕ) (piece old new : List ℕ) → f ≤ end → IsFilled m a f piece old new → NoneIn (has m) f end
    → IsFilled m a end piece old new
filled_rest m a f end piece old new h done none = record {
  length = done.length;
  filled = λ q low high e. elim (cases_lt q f) [ inl l ↦ done.filled q low l e | inr l ↦ absurd (true≢false (sym e ∙ none q l high)) ];
  kept = done.kept;
  around = λ q out. elim out [ inl l ↦ done.around q (inl l) | inr l ↦ done.around q (inr (omega arith)) ];
}

-- a piece of a list has as many bytes as its range
pub length-cut : (xs : List ℕ) (a b : ℕ) → a ≤ b → b ≤ length xs → length (slice_range xs a b) ≡ b - a
length-cut xs a b h k = grind (arith, common_steps)

-- and these bytes
pub get-cut : (xs : List ℕ) (a b i : ℕ) → a ≤ b → b ≤ length xs → i < b - a → get_or (slice_range xs a b) i 0 ≡ get_or xs (a + i) 0
get-cut xs a b i h k l = grind (arith, common_steps)

module _ (m : Numbers) (a f from to : ℕ) (piece old mid : List ℕ) (done : IsFilled m a f piece old mid)
    (start : a ≤ f) (low : f ≤ from) (some : from < to) (high : to ≤ a + length piece) (fits : a + length piece ≤ length old)
    (none : NoneIn (has m) f from) (all : (x : ℕ) → from ≤ x → x < to → has m x ≡ true) where
  -- the bytes of the range
  abbrev cut : List ℕ
  cut = slice_range piece (from - a) (to - a)

  size : length cut ≡ to - from
  size = omega (arith, length-cut piece (from - a) (to - a) (omega arith) (omega arith))

  in_list : from + length cut ≤ length mid
  in_list = omega (arith, size, done.length)

  -- a byte of the range is the piece's
  inside : (q : ℕ) → from ≤ q → q < to → get_or (overwritten mid from cut) q 0 ≡ get_or piece (q - a) 0
  inside q l h =
      let place : from - a + (q - from) ≡ q - a = omega arith in
      get-overwritten mid from cut q l (omega (arith, size)) in_list
      ∙ get-cut piece (from - a) (to - a) (q - from) (omega arith) (omega arith) (omega arith) ∙ ap (λ i. get_or piece i 0) place

  -- the others stay
  outside : (q : ℕ) → (q < from) ⊎ (to ≤ q) → get_or (overwritten mid from cut) q 0 ≡ get_or mid q 0
  outside q out =
      let out' : (q < from) ⊎ (from + length cut ≤ q) = elim out [ inl l ↦ inl l | inr l ↦ inr (omega (arith, size)) ] in
      get-around mid from cut q out' in_list

  -- one more range is filled in
  pub filled_more : IsFilled m a to piece old (overwritten mid from cut)
  filled_more = record {
    length = length-overwritten mid from cut in_list ∙ done.length;
    filled = λ q l h e. elim (cases_lt q f) [
      | inl k ↦ outside q (inl (omega arith)) ∙ done.filled q l k e
      | inr k ↦ elim (cases_lt q from) [ inl j ↦ absurd (true≢false (sym e ∙ none q k j)) | inr j ↦ inside q j h ]
    ];
    kept = λ q e. elim (cases_lt q from) [
      | inl k ↦ outside q (inl k) ∙ done.kept q e
      | inr k ↦ elim (cases_lt q to) [ inl j ↦ absurd (true≢false (sym (all q k j) ∙ e)) | inr j ↦ outside q (inr j) ∙ done.kept q e ]
    ];
    around = λ q out. elim out [
      | inl l ↦ outside q (inl (omega arith)) ∙ done.around q (inl l)
      | inr l ↦ outside q (inr l) ∙ done.around q (inr (omega arith))
    ];
  }

-- a piece of which all bytes were missing is filled in as a whole
pub filled_whole : (m : Numbers) (a : ℕ) (piece old : List ℕ) → a + length piece ≤ length old
    → ((x : ℕ) → a ≤ x → x < a + length piece → has m x ≡ true) → IsFilled m a (a + length piece) piece old (overwritten old a piece)
filled_whole m a piece old fits all = record {
  length = length-overwritten old a piece fits;
  filled = λ q l h e. get-overwritten old a piece q l h fits;
  kept = λ q e. elim (cases_lt q a) [
    | inl k ↦ get-around old a piece q (inl k) fits
    | inr k ↦ elim (cases_lt q (a + length piece)) [ inl j ↦ absurd (true≢false (sym (all q k j) ∙ e)) | inr j ↦ get-around old a piece q (inr j) fits ]
  ];
  around = λ q out. get-around old a piece q out fits;
}

-- what the first range of missing bytes says
pub record IsNext (m : Numbers) (f end from to : ℕ) : Type 0 where
  pub none : NoneIn (has m) f from
  pub all : (x : ℕ) → from ≤ x → x < to → has m x ≡ true

-- it is what first_in answers
pub next_is : (m : Numbers) (f end : ℕ) (r : ℕ × ℕ) → Some r ≡ option_map bounds (first_in m f end) → IsNext m f end r.0 r.1
next_is m f end r e = go (first_in m f end) (first-first_in m f end) e where
  go : (o : Option Range) → MatchOption o (NoneIn (has m) f end) (IsFirstIn (has m) f end) → Some r ≡ option_map bounds o → IsNext m f end r.0 r.1
  go None h e = absurd (true≢false (ap is_some e))
  go (Some s) h e =
      let P : ℕ × ℕ → Type 0 = λ r. IsNext m f end r.0 r.1 in
      let there : P (bounds s) = record { none = h.before; all = h.pass } in
      subst P (sym (same_some r (bounds s) e)) there
