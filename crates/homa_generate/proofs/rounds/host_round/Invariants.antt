-- What is left of the host's round.
use Rattle.std.proofs.Common.{◌≡◌, ◌-◌, ◌*◌}
use Rattle.generated_runs.specs.Rounds.{Generated, host_round, most_handed}
use Rattle.homa_generate.specs.Progress.{holds_of, IsSteady}
use Rattle.homa_generate.specs.Going.{IsAt, HasGone}
use Rattle.homa_generate.proofs.rounds.host_round.Given as goal

abbrev pub invariant-loop : goal.invariant-loop
invariant-loop g l =
    let p = g.P.ReplayWorld in
    let k = g.K.Sink in
    let s = p.settings l.fn.world in
    record {
      gone : (r : Generated) → IsAt (holds_of l.fn.progress (k.taken l.fn.sink)) (p.stands l.fn.world) r
          → HasGone (host_round most_handed s l.fn.to.0) (host_round (most_handed - l.counter) s l.fn.to.0) r
          (holds_of l.fn.progress (k.taken l.fn.sink)) (holds_of l.progress (k.taken l.sink)) (p.stands l.world) (p.allows l.fn.world) (p.allows l.world);
      steady : IsSteady s (p.settings l.world) l.fn.progress l.progress (p.events l.fn.world) (p.events l.world) (33 * l.counter);
      quiet : k.faults l.sink ≡ k.faults l.fn.sink;
      same : k.is_same l.fn.sink l.sink;
    }
