-- A run goes on: what each part of it does first, and what then.
use Rattle.std.proofs.Common.{◌≡◌, ℕ, zero, suc, Bool, true, false, if◌then◌else◌, Option, Some, None, [], refl}
use Rattle.std.specs.Prelude.{◌==◌}
use Rattle.homa_plain.specs.declared.settings.Settings.{Settings}
use Rattle.homa_plain.specs.declared.event.Event.TheVariants as event
use Rattle.homa_plain.specs.Script.{GivenEvent, GivenTicks}
use Rattle.generated_runs.specs.Draws.{next_traffic}
use Rattle.generated_runs.specs.Fabric.{Handed, destination, next_of, after_next}
use Rattle.generated_runs.specs.Rounds.{Generated, with_line, host_round, hosts_round, most_handed, with_call, calls_round, calls_a_round, round_begun}
use Rattle.generated_runs.specs.Rounds.{next_round, is_over, rounds}

-- ---- what one host is handed

abbrev pub handed_to : Settings → ℕ → Generated → Handed
handed_to s to g = next_of s.life g.world.clock (destination g.fabric to) g.fabric.random

-- the run behind what a host was handed next, or wasn't
abbrev pub behind_handed : ℕ → Handed → Generated → Generated
behind_handed to h g = record g { fabric = after_next g.fabric to h }

abbrev pub after_handed : Settings → ℕ → Generated → Generated
after_handed s to g = behind_handed to (handed_to s to g) g

abbrev pub by_number : ℕ → Settings → ℕ → Generated → Option ℕ → Generated
by_number n s to after None = after
by_number n s to after (Some number) = host_round n s to (with_line s (GivenEvent (event.Deliver number) []) after)

pub host_step : (n : ℕ) (s : Settings) (to : ℕ) (g : Generated)
    → host_round (suc n) s to g ≡ by_number n s to (after_handed s to g) (handed_to s to g).number
unfolding host_round
host_step n s to g = refl

pub host_none : (s : Settings) (to : ℕ) (g : Generated) → host_round zero s to g ≡ g
unfolding host_round
host_none s to g = refl

pub hosts_step : (s : Settings) (to n : ℕ) (g : Generated) → hosts_round s to (suc n) g ≡ hosts_round s (suc to) n (host_round most_handed s to g)
unfolding hosts_round
hosts_step s to n g = refl

pub hosts_none : (s : Settings) (to : ℕ) (g : Generated) → hosts_round s to zero g ≡ g
unfolding hosts_round
hosts_none s to g = refl

-- ---- the calls that are drawn

abbrev pub by_left : ℕ → Settings → Generated → Bool → Generated
by_left n s g true = g
by_left n s g false = let t = next_traffic s.hosts g.fabric.random in calls_round n s (with_call s t.0 (record g { fabric = record g.fabric { random = t.1 } }))

pub calls_step : (n : ℕ) (s : Settings) (g : Generated) → calls_round (suc n) s g ≡ by_left n s g (g.left == 0)
unfolding calls_round
calls_step n s g = by_test (g.left == 0) where
  by_test : (t : Bool) → (if t then g
      else (let t = next_traffic s.hosts g.fabric.random in calls_round n s (with_call s t.0 (record g { fabric = record g.fabric { random = t.1 } }))))
      ≡ by_left n s g t
  by_test true = refl
  by_test false = refl

pub calls_none : (s : Settings) (g : Generated) → calls_round zero s g ≡ g
unfolding calls_round
calls_none s g = refl

-- ---- rounds

pub round_is : (s : Settings) (g : Generated)
    → next_round s g ≡ calls_round calls_a_round s (hosts_round s 0 s.hosts (round_begun (with_line s (GivenTicks 1) g)))
unfolding next_round
round_is s g = refl

abbrev pub by_end : ℕ → Settings → Generated → Bool → Generated
by_end n s after true = after
by_end n s after false = rounds n s after

pub rounds_step : (n : ℕ) (s : Settings) (g : Generated) → rounds (suc n) s g ≡ by_end n s (next_round s g) (is_over (next_round s g))
unfolding rounds
rounds_step n s g = by_test (is_over (next_round s g)) where
  by_test : (t : Bool) → (if t then next_round s g else rounds n s (next_round s g)) ≡ by_end n s (next_round s g) t
  by_test true = refl
  by_test false = refl

pub rounds_none : (s : Settings) (g : Generated) → rounds zero s g ≡ g
unfolding rounds
rounds_none s g = refl
