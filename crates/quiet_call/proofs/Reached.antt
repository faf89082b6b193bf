-- A round of the quiet call before its last one: what is in progress then.
use Rattle.std.proofs.Common.{◌≡◌, ℕ, zero, suc, ◌+◌, ◌*◌, ◌<◌, ◌≤◌, inl, inr, false, sym, ◌∙◌, arith, true≢false}
use Rattle.homa_plain.specs.declared.settings.Settings.{Settings}
use Rattle.homa_plain.specs.Quiet.{round}
use Rattle.quiet_laws.specs.Ends.{IsCalm}
use Rattle.quiet_laws.proofs.Amid.{Goes}
use Rattle.quiet_laws.proofs.Final.{goes_below}
use Rattle.quiet_laws.proofs.FirstRound.{first_goes}
use Rattle.quiet_laws.proofs.Rounding.{round_goes}

pub record InProgress (s : Settings) (n m r : ℕ) : Type 0 where
  pub measure : ℕ
  pub goes : Goes s n m r measure
  pub late : r < measure
  pub early : r < 2 * (n + m)

in_progress : (s : Settings) (n m r x : ℕ) → IsCalm s n m → Goes s n m r x → r < x → InProgress s n m r
in_progress s n m r x calm goes late = record { measure = x; goes = goes; late = late; early = omega (arith, late, goes_below s n m r x calm.response.0 goes) }

pub reached : (s : Settings) (n m : ℕ) → IsCalm s n m → (r : ℕ) → ((q : ℕ) → q ≤ r → (round s n m q).done ≡ false) → InProgress s n m r
reached s n m calm zero none = in_progress s n m 0 1 calm (first_goes s n m calm).1 (omega arith)
reached s n m calm (suc r) none =
    let before = reached s n m calm r (λ q h. none q (omega (arith, h))) in
    elim (round_goes s n m calm r before.measure before.early before.goes) [
      | inl e ↦ absurd (true≢false (sym e ∙ none (suc r) (omega arith)))
      | inr f ↦ in_progress s n m (suc r) f.measure calm f.is (omega (arith, before.late, f.more))
    ]
