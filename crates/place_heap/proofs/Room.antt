-- As many different numbers are below a bound as it has, at most.
use Rattle.std.proofs.Common.{◌≡◌, ◌≢◌, ℕ, zero, suc, ◌<◌, ◌≤◌, sym, ap, ◌∙◌, arith, ⊎_elim}
use Rattle.std.specs.Prelude.{if◌then◌else◌, ◌==◌}
use Rattle.std.proofs.lemmas.Bool.{cases_eq}
use Rattle.place_heap.proofs.Before.{test_same, test_other}

-- f with the value `to` in place of `from`
abbrev instead : (ℕ → ℕ) → ℕ → ℕ → ℕ → ℕ
instead f from to i = if f i == from then to else f i

-- the value is replaced
instead_there : (f : ℕ → ℕ) (from to i : ℕ) → f i ≡ from → instead f from to i ≡ to
instead_there f from to i e = ap (λ t. if t then to else f i) (test_same (f i) from e)

-- another value stays
instead_else : (f : ℕ → ℕ) (from to i : ℕ) → f i ≢ from → instead f from to i ≡ f i
instead_else f from to i ne = ap (λ t. if t then to else f i) (test_other (f i) from ne)

-- n different numbers below m are at most m
pub no_more : (m n : ℕ) (f : ℕ → ℕ) → ((i : ℕ) → i < n → f i < m) → ((i j : ℕ) → i < n → j < n → f i ≡ f j → i ≡ j) → n ≤ m
no_more zero zero f below apart = omega arith
no_more zero (suc n) f below apart = absurd (omega (arith, below 0 (omega arith)))
no_more (suc m) zero f below apart = omega arith
no_more (suc m) (suc n) f below apart =
    let g = instead f m (f n) in
    let low : (i : ℕ) → i < n → g i < m = λ i inside. ⊎_elim
    (λ e. let last : f n ≢ m = λ same. let is : i ≡ n = apart i n (omega arith) (omega arith) (e ∙ sym same) in omega arith in
    omega (arith, instead_there f m (f n) i e, below n (omega arith), last))
    (λ ne. omega (arith, instead_else f m (f n) i ne, below i (omega arith)))
    (cases_eq (f i) m) in
    let different : (i j : ℕ) → i < n → j < n → g i ≡ g j → i ≡ j = λ i j iin jin same. ⊎_elim
    (λ ei. ⊎_elim
    (λ ej. apart i j (omega arith) (omega arith) (ei ∙ sym ej))
    (λ nj. absurd (omega (arith, apart j n (omega arith) (omega arith) (sym (instead_else f m (f n) j nj) ∙ sym same ∙ instead_there f m (f n) i ei))))
    (cases_eq (f j) m))
    (λ ni. ⊎_elim
    (λ ej. absurd (omega (arith, apart i n (omega arith) (omega arith) (sym (instead_else f m (f n) i ni) ∙ same ∙ instead_there f m (f n) j ej))))
    (λ nj. apart i j (omega arith) (omega arith) (sym (instead_else f m (f n) i ni) ∙ same ∙ instead_else f m (f n) j nj))
    (cases_eq (f j) m))
    (cases_eq (f i) m) in
    let less : n ≤ m = no_more m n g low different in
    omega arith
