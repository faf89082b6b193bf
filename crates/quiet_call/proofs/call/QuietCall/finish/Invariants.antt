use Rattle.std.proofs.Common.{◌-◌}
use Rattle.quiet_call.specs.Standing.{IsSameCall, CallGoesOn}
use Rattle.quiet_call.proofs.call.QuietCall.finish.Given as goal

abbrev pub invariant-loop-self : goal.invariant-loop-self
invariant-loop-self l = record {
  same : IsSameCall l.fn.self l.self;
  goes_on : CallGoesOn l.self;
}

abbrev pub decreases-loop-self : goal.decreases-loop-self
decreases-loop-self l = l.most - l.self.clock
