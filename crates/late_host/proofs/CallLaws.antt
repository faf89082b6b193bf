-- Laws of the calls that are kept.
use Rattle.std.proofs.Common.{◌≡◌, ℕ, zero, suc, ◌+◌, ◌<◌, ◌≤◌, Bool, true, false, cond, not, Some, None, List, [], ◌∷◌, length, get_or, set}
use Rattle.std.proofs.Common.{refl, sym, ap, subst, ◌∙◌, arith}
use Rattle.std.specs.Prelude.{nat_lt, position}
use Rattle.std.specs.List.{position_or_len}
use Rattle.std.proofs.lemmas.Bool.{ltb-true, ltb-false}
use Rattle.std.proofs.lemmas.List.Filters.{length-filter_both}
use Rattle.homa_plain.specs.declared.id.CallId.{CallId}
use Rattle.homa_plain.proofs.CallOrder.{calls_are}
use Rattle.late_host.specs.declared.kept.KeptCall.{KeptCall}
use Rattle.late_host.specs.Kept.{is_of, without, changed}

-- what `position` says
pub found_at : (a b i : ℕ) → cond (nat_lt a b) (Some a) None ≡ Some i → (a < b) × (a ≡ i)
found_at a b i = by_test (nat_lt a b) refl where
  by_test : (t : Bool) → nat_lt a b ≡ t → cond t (Some a) None ≡ Some i → (a < b) × (a ≡ i)
  by_test true t e = (ltb-true a b t, cc)
  by_test false t e = cc

pub not_found : (a b : ℕ) → cond (nat_lt a b) (Some a) None ≡ None → b ≤ a
not_found a b = by_test (nat_lt a b) refl where
  by_test : (t : Bool) → nat_lt a b ≡ t → cond t (Some a) None ≡ None → b ≤ a
  by_test true t e = cc
  by_test false t e = ltb-false a b t

-- the first call of this id has changed
changed_first : (id : CallId) (change : KeptCall → KeptCall) (calls : List KeptCall) (call : KeptCall)
    → position_or_len (is_of id) calls < length calls → call ≡ get_or calls (position_or_len (is_of id) calls) call
    → set calls (position_or_len (is_of id) calls) (change call) ≡ changed id change calls
changed_first id change [] call within is = absurd (omega (arith, within))
changed_first id change (x ∷ xs) call within is =
    by_test (is_of id x) (1 + n) (omega arith) (changed_first id change xs call) within is where
      n : ℕ
      n = position_or_len (is_of id) xs

      by_test : (b : Bool) (m : ℕ) → m ≡ suc n → (n < length xs → call ≡ get_or xs n call → set xs n (change call) ≡ changed id change xs)
          → cond (not b) m 0 < suc (length xs) → call ≡ get_or (x ∷ xs) (cond (not b) m 0) call
          → set (x ∷ xs) (cond (not b) m 0) (change call) ≡ cond b (change x ∷ xs) (x ∷ changed id change xs)
      by_test true m e rest within is = ap (λ c. change c ∷ xs) is
      by_test false m e rest within is =
          let P : ℕ → Type 0 = λ k. call ≡ get_or (x ∷ xs) k call → set (x ∷ xs) k (change call) ≡ x ∷ changed id change xs in
          (subst P (sym e) (λ here. ap (λ cs. x ∷ cs) (rest (omega (arith, within, e)) here))) is

pub changed_at : (id : CallId) (change : KeptCall → KeptCall) (calls : List KeptCall) (call : KeptCall) (i : ℕ)
    → position (is_of id) calls ≡ Some i → call ≡ get_or calls i call → set calls i (change call) ≡ changed id change calls
changed_at id change calls call i at is =
    let f = found_at (position_or_len (is_of id) calls) (length calls) i at in
    ap (λ k. set calls k (change call)) (sym f.1) ∙ changed_first id change calls call f.0 (is ∙ ap (λ k. get_or calls k call) (sym f.1))

-- where no call has this id
unchanged_behind : (id : CallId) (change : KeptCall → KeptCall) (calls : List KeptCall) → length calls ≤ position_or_len (is_of id) calls
    → changed id change calls ≡ calls
unchanged_behind id change [] behind = refl
unchanged_behind id change (x ∷ xs) behind = by_test (is_of id x) (unchanged_behind id change xs) behind where
  by_test : (b : Bool) → (length xs ≤ position_or_len (is_of id) xs → changed id change xs ≡ xs)
      → suc (length xs) ≤ cond (not b) (1 + position_or_len (is_of id) xs) 0 → cond b (change x ∷ xs) (x ∷ changed id change xs) ≡ x ∷ xs
  by_test true rest behind = absurd (omega (arith, behind))
  by_test false rest behind = ap (λ cs. x ∷ cs) (rest (omega (arith, behind)))

pub unchanged : (id : CallId) (change : KeptCall → KeptCall) (calls : List KeptCall) → position (is_of id) calls ≡ None
    → changed id change calls ≡ calls
unchanged id change calls none = unchanged_behind id change calls (not_found (position_or_len (is_of id) calls) (length calls) none)

not_not : (b : Bool) → not (not b) ≡ b
not_not true = refl
not_not false = refl

-- without a call that was kept there are fewer
pub fewer : (call : KeptCall) (calls : List KeptCall) (k : ℕ) → k < length calls → get_or calls k call ≡ call
    → length (without call.id calls) < length calls
fewer call [] k within is = absurd (omega (arith, within))
fewer call (x ∷ xs) zero within is =
    let same = (calls_are x.id call.id).1 (ap (λ (c : KeptCall). c.id) is) in
    rw same (omega (arith, length-filter_both (λ (c : KeptCall). not (is_of call.id c)) (is_of call.id) (λ c. sym (not_not (is_of call.id c))) xs))
fewer call (x ∷ xs) (suc k) within is = by_test (is_of call.id x) (fewer call xs k (omega (arith, within)) is) where
  by_test : (b : Bool) → length (without call.id xs) < length xs
      → length (cond (not b) (x ∷ without call.id xs) (without call.id xs)) < suc (length xs)
  by_test true rest = omega (arith, rest)
  by_test false rest = omega (arith, rest)
