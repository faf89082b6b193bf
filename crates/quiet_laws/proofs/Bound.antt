-- A measure that rises in each round brings the call to its end.
use Rattle.std.proofs.Common.{◌≡◌, ℕ, zero, suc, ◌+◌, ◌<◌, ◌≤◌, ◌⊎◌, inl, inr, true, false, None, sym, ◌∙◌, subst, arith, true≢false}
use Rattle.std.proofs.lemmas.Bool.{cases_lt}
use Rattle.homa_plain.specs.declared.settings.Settings.{Settings}
use Rattle.homa_plain.specs.Quiet.{round, IsQuiet}
use Rattle.quiet_laws.specs.Ends.{EndsWithin, first_run, run_after}

-- a round goes on: it isn't the last one, and so much is done after it
pub record Further (s : Settings) (n m : ℕ) (P : ℕ → ℕ → Type 0) (r done : ℕ) : Type 0 where
  pub measure : ℕ
  pub more : done < measure
  pub is : P (suc r) measure
  pub not_yet : (round s n m (suc r)).done ≡ false

-- two rounds in which the call is done for the first time are one
pub one_round : (s : Settings) (n m q r : ℕ) → IsQuiet s n m q → IsQuiet s n m r → q ≡ r
one_round s n m q r a b = elim (cases_lt q r) [
  | inl less ↦ absurd (true≢false (sym a.done ∙ b.first q less))
  | inr more ↦ elim (cases_lt r q) [ inl less ↦ absurd (true≢false (sym b.done ∙ a.first r less)) | inr least ↦ omega (arith, more, least) ]
]

module _ (s : Settings) (n m most : ℕ) (P : ℕ → ℕ → Type 0)
    (below : (r x : ℕ) → P r x → x ≤ most)
    (carries : (r x : ℕ) → r ≤ most → P r x → (run_after s (round s n m r)).fault ≡ None)
    (goes : (r x : ℕ) → r ≤ most → P r x → ((round s n m (suc r)).done ≡ true) ⊎ Further s n m P r x)
    (started : (first_run s n m).fault ≡ None) where
  -- what is so of all rounds up to one is so up to the next, where it is so of that one
  up_to : (Q : ℕ → Type 0) (r : ℕ) → ((q : ℕ) → q < r → Q q) → Q r → (q : ℕ) → q < suc r → Q q
  up_to Q r before last q h = elim (cases_lt q r) [ inl e ↦ before q e | inr d ↦ subst Q {x = r} (omega (arith, h, d)) last ]

  pub ends : (fuel r x : ℕ) → most < fuel + x → r ≤ x → P r x → ((q : ℕ) → q < suc r → (round s n m q).done ≡ false)
      → ((q : ℕ) → q < r → (run_after s (round s n m q)).fault ≡ None)
      → EndsWithin s n m (most + 1)
  ends zero r x short early is before out = absurd (omega (arith, short, below r x is))
  ends (suc fuel) r x short early is before out =
      let now_out = up_to (λ q. (run_after s (round s n m q)).fault ≡ None) r out (carries r x (omega (arith, early, below r x is)) is) in
      elim (goes r x (omega (arith, early, below r x is)) is) [
        | inl e ↦ record {
          rounds = suc r;
          within = omega (arith, early, below r x is);
          quiet = record { done = e; first = before };
          only = λ q quiet. one_round s n m q (suc r) quiet (record { done = e; first = before });
          started = started;
          carried_out = now_out;
        }
        | inr f ↦ ends fuel (suc r) f.measure (omega (arith, short, f.more)) (omega (arith, early, f.more)) f.is
            (up_to (λ q. (round s n m q).done ≡ false) (suc r) before f.not_yet) now_out
      ]
