-- Draws from a table, and the length at which a part is reached.
use Rattle.std.proofs.Common.{◌≡◌, ◌∙◌, refl, ℕ, ◌+◌, ◌-◌, ◌*◌, ◌<◌, ◌≤◌, nat_lt, nat_le, Some, List, length, get_or, drop}
use Rattle.std.specs.Int.{div_ceil}
use Rattle.std.proofs.lemmas.Bool.{le-ltb, lt-ltb, le-leb, lt-leb, cond-true, cond-false}
use Rattle.std.proofs.lemmas.List.{at_drop_more}
use Rattle.rand_pcg.specs.Lcg.{Lcg}
use Rattle.experiment.specs.declared.steps.Step.{Step}
use Rattle.experiment.specs.Draws.{below}
use Rattle.experiment.specs.Tables.{shares, step_at, length_drawn, length_at}
use Rattle.experiment.proofs.StepLaws.{no_step}

module _ (steps : List Step) (at i : ℕ) (inside : i < length steps) where
  -- a number falls in this step
  pub falls : at < (get_or steps i no_step).share → step_at at (drop i steps) ≡ Some (get_or steps i no_step)
  falls less =
      at_drop_more (step_at at) steps i no_step inside
      ∙ cond-true (nat_lt at (get_or steps i no_step).share) (Some (get_or steps i no_step))
      (step_at (at - (get_or steps i no_step).share) (drop (i + 1) steps)) (lt-ltb at (get_or steps i no_step).share less)

  -- or behind it
  pub falls_on : (get_or steps i no_step).share ≤ at → step_at at (drop i steps) ≡ step_at (at - (get_or steps i no_step).share) (drop (i + 1) steps)
  falls_on past =
      at_drop_more (step_at at) steps i no_step inside
      ∙ cond-false (nat_lt at (get_or steps i no_step).share) (Some (get_or steps i no_step))
      (step_at (at - (get_or steps i no_step).share) (drop (i + 1) steps)) (le-ltb at (get_or steps i no_step).share past)

-- a step, and one of its lengths
pub drawn : (steps : List Step) (g : Lcg) (at more : ℕ × Lcg) (s : Step) → at ≡ below (shares steps) g → step_at at.0 steps ≡ Some s
    → more ≡ below (s.upto - s.above) at.1 → (s.above + 1 + more.0, more.1) ≡ length_drawn steps g
unfolding length_drawn
drawn steps g at more s e1 e2 e3 = let e = rw e1 at e2 in rw (e3, e1, e) refl

module _ (steps : List Step) (parts left i : ℕ) (inside : i < length steps) where
  -- so much is reached in this step
  pub reached : left ≤ (get_or steps i no_step).share * parts
      → length_at parts left (drop i steps) ≡ (get_or steps i no_step).above
      + div_ceil (((get_or steps i no_step).upto - (get_or steps i no_step).above) * left) ((get_or steps i no_step).share * parts)
  reached less =
      at_drop_more (length_at parts left) steps i no_step inside
      ∙ cond-true (nat_le left ((get_or steps i no_step).share * parts)) _ _ (le-leb left ((get_or steps i no_step).share * parts) less)

  -- or behind it
  pub reached_on : (get_or steps i no_step).share * parts < left
      → length_at parts left (drop i steps) ≡ length_at parts (left - (get_or steps i no_step).share * parts) (drop (i + 1) steps)
  reached_on past =
      at_drop_more (length_at parts left) steps i no_step inside
      ∙ cond-false (nat_le left ((get_or steps i no_step).share * parts)) _ _ (lt-leb left ((get_or steps i no_step).share * parts) past)
