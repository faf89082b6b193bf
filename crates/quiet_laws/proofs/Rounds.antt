-- A round by numbers: what is under way rises.
use Rattle.std.proofs.Common.{◌≡◌, ℕ, ◌+◌, ◌<◌, ◌≤◌, ◌⊎◌, inl, inr, arith}
use Rattle.std.specs.Prelude.{min}
use Rattle.std.proofs.lemmas.Bool.{cases_lt}
use Rattle.quiet_laws.specs.Flows.{Flow, IsFlow, IsUnderWay}

-- how far a message is: each round adds one at least
abbrev pub progress : Flow → ℕ
progress f = f.here + min f.top (f.here + 1)

-- A round from f to g: the deliveries bring all that was sent and granted when it began; its tick sends where bytes wait;
-- the receiver has granted a window beyond what has arrived.
pub record Rounds (n window : ℕ) (f g : Flow) : Type 0 where
  pub here : g.here ≡ f.top
  pub may : g.may ≡ f.given
  pub sends : g.here < g.may → g.here < g.top
  pub ahead : min n (g.here + window) ≤ g.given

pub rises : (n window : ℕ) (f g : Flow) → 1 ≤ window → IsFlow n f → IsFlow n g → IsUnderWay f → Rounds n window f g → (progress f < progress g) × IsUnderWay g
rises n window f g some old new way r = (less, on) where
  less : progress f < progress g
  less = elim way [ inl a ↦ omega (arith, a, r.here, new.sent, old.sent) | inr b ↦ by_rest (cases_lt f.here f.top) b ] where
    by_rest : (f.here < f.top) ⊎ (f.top ≤ f.here) → f.may < f.given → progress f < progress g
    by_rest (inl a) b = omega (arith, a, r.here, new.sent, old.sent)
    by_rest (inr a) b =
        let sent = r.sends (omega (arith, r.here, r.may, b, old.granted)) in
        omega (arith, a, r.here, old.sent, sent)

  on : IsUnderWay g
  on = elim (cases_lt g.here g.may) [ inl a ↦ inl (r.sends a) | inr b ↦ inr (omega (arith, b, new.sent, new.granted, new.missing, r.ahead, some)) ]
