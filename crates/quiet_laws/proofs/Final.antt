-- The call is done: from what each round does to the bound.
use Rattle.std.proofs.Common.{◌≡◌, ℕ, suc, ◌+◌, ◌-◌, ◌*◌, ◌<◌, ◌≤◌, ◌⊎◌, inl, inr, true, false, None, subst, arith}
use Rattle.homa_plain.specs.declared.packet.Role.{Role}
use Rattle.homa_plain.specs.declared.settings.Settings.{Settings}
use Rattle.homa_plain.specs.Quiet.{Round, round}
use Rattle.quiet_laws.specs.Ends.{IsCalm, EndsWithin, first_run, run_after}
use Rattle.quiet_laws.proofs.Bound.{ends, Further}
use Rattle.quiet_laws.proofs.Amid.{Begins, Goes}

pub begins_below : (role : Role) (s : Settings) (n m clock x : ℕ) (r : Round) → Begins role s n m clock x r → x + 1 ≤ 2 * n
begins_below role s n m clock x r b = omega (arith, b.is, b.amid.missing)

pub goes_below : (s : Settings) (n m r x : ℕ) → 1 ≤ m → Goes s n m r x → x + 1 ≤ 2 * (n + m)
goes_below s n m r x some (inl a) = omega (arith, begins_below _ s n m r x (round s n m r) a)
goes_below s n m r x some (inr b) = omega (arith, b.0, begins_below _ s m m r (x - 2 * n) (round s n m r) b.1)

-- what one round does
abbrev pub RoundGoes : Settings → ℕ → ℕ → Type 0
RoundGoes s n m = (r x : ℕ) → r < 2 * (n + m) → Goes s n m r x → ((round s n m (suc r)).done ≡ true) ⊎ Further s n m (Goes s n m) r x

abbrev pub FirstGoes : Settings → ℕ → ℕ → Type 0
FirstGoes s n m = ((round s n m 0).done ≡ false) × Goes s n m 0 1

pub quiet_ends : (s : Settings) (n m : ℕ) → IsCalm s n m → FirstGoes s n m → (first_run s n m).fault ≡ None
    → ((r x : ℕ) → r < 2 * (n + m) → Goes s n m r x → (run_after s (round s n m r)).fault ≡ None) → RoundGoes s n m → EndsWithin s n m (2 * (n + m) + 8)
quiet_ends s n m calm first started carries goes =
    let most : ℕ = 2 * (n + m) - 1 in
    let e = ends s n m most (Goes s n m)
    (λ r x g. omega (arith, goes_below s n m r x calm.response.0 g))
    (λ r x h g. carries r x (omega (arith, h, calm.response.0)) g)
    (λ r x h g. goes r x (omega (arith, h, calm.response.0)) g)
    started (suc most) 0 1 (omega arith) (omega arith) first.1
    (λ q h. subst (λ i. (round s n m i).done ≡ false) {x = 0} (omega (arith, h)) first.0)
    (λ q h. absurd (omega (arith, h))) in
    record {
      rounds = e.rounds;
      within = omega (arith, e.within, calm.response.0);
      quiet = e.quiet;
      only = e.only;
      started = e.started;
      carried_out = e.carried_out;
    }
