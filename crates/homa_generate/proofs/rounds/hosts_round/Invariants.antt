-- The hosts that are left.
use Rattle.std.proofs.Common.{◌≡◌, ◌-◌, ◌*◌}
use Rattle.generated_runs.specs.Rounds.{Generated, hosts_round}
use Rattle.homa_generate.specs.Progress.{holds_of, IsSteady}
use Rattle.homa_generate.specs.Going.{IsAt, HasGone}
use Rattle.homa_generate.proofs.rounds.hosts_round.Given as goal

abbrev pub invariant-loop-host : goal.invariant-loop-host
invariant-loop-host g l =
    let p = g.P.ReplayWorld in
    let k = g.K.Sink in
    let s = p.settings l.fn.world in
    record {
      gone : (r : Generated) → IsAt (holds_of l.fn.progress (k.taken l.fn.sink)) (p.stands l.fn.world) r
          → HasGone (hosts_round s 0 s.hosts) (hosts_round s l.host (s.hosts - l.host)) r (holds_of l.fn.progress (k.taken l.fn.sink))
          (holds_of l.progress (k.taken l.sink)) (p.stands l.world) (p.allows l.fn.world) (p.allows l.world);
      steady : IsSteady s (p.settings l.world) l.fn.progress l.progress (p.events l.fn.world) (p.events l.world) (1056000 * l.host);
      quiet : k.faults l.sink ≡ k.faults l.fn.sink;
      same : k.is_same l.fn.sink l.sink;
    }
