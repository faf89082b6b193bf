-- The least candidate that passes is the bound.
use Rattle.std.proofs.Common.{◌≡◌, ℕ, ◌<◌, ◌≤◌, ◌⊎◌, inl, inr, Bool, true, eqb, List, [], ◌∷◌, sym, ap, ◌∙◌, arith}
use Rattle.std.specs.List.{list_any}
use Rattle.std.proofs.lemmas.Bool.{cases_order, cases_eq, ne_eqb, true≢false}
use Rattle.homa_plain.specs.Cutoffs.{has_share, bound}
use Rattle.homa_plain.proofs.CutoffLaws.{least-bound, listed-bound}

-- b is no greater than a candidate of all that passes, but for those that are left
abbrev pub Lowest : (ℕ → Bool) → List ℕ → List ℕ → ℕ → Type 0
Lowest test all left b = (c : ℕ) → list_any (eqb c) all ≡ true → test c ≡ true → (list_any (eqb c) left ≡ true) ⊎ (b ≤ c)

-- before the first one
pub lowest-first : (test : ℕ → Bool) (all left : List ℕ) (b : ℕ) → left ≡ all → Lowest test all left b
lowest-first test all left b e = λ c listed _. inl (ap (λ (ns : List ℕ). list_any (eqb c) ns) e ∙ listed)

-- one candidate further
pub lowest-next : (test : ℕ → Bool) (all left rest : List ℕ) (n b b' : ℕ) → left ≡ n ∷ rest → b' ≤ b → (test n ≡ true → b' ≤ n)
    → Lowest test all left b → Lowest test all rest b'
lowest-next test all left rest n b b' e less here lowest = λ c listed passes.
    elim (lowest c listed passes) [
      | inl among ↦ elim (cases_eq c n) [
        | inl is ↦ inr (rw is (here (ap test (sym is) ∙ passes)))
        | inr other ↦ inl (rw (ne_eqb c n other) at (rw e at among))
      ]
      | inr low ↦ inr (omega arith)
    ]

-- after the last one b is the least number that passes
pub lowest-is : (m u : ℕ) (ns left : List ℕ) (j b : ℕ) → j < m → has_share m u ns j b ≡ true → (has_share m u ns j 0 ≡ true → b ≡ 0)
    → left ≡ [] → Lowest (has_share m u ns j) ns left b → b ≡ bound m u ns j
lowest-is m u ns left j b h passes zero e lowest =
    let least = least-bound m u ns j h in
    elim (cases_order b (bound m u ns j)) [
      | inl same ↦ same
      | inr (inl less) ↦ absurd (true≢false (sym passes ∙ least.others_fail b less))
      | inr (inr more) ↦ elim (listed-bound m u ns j (bound m u ns j) least) [
        | inl is ↦ absurd (omega (arith, more, zero (ap (has_share m u ns j) (sym is) ∙ least.passes)))
        | inr listed ↦ elim (lowest (bound m u ns j) listed least.passes) [
          | inl some ↦ absurd (true≢false (sym some ∙ ap (λ (xs : List ℕ). list_any (eqb (bound m u ns j)) xs) e))
          | inr low ↦ absurd (omega arith)
        ]
      ]
    ]
