use Rattle.std.proofs.Common.{◌≡◌, drop}
use Rattle.quiet_call.specs.Standing.{hosts_of, frames_of, asked, answered, answers, IsSameCall}
use Rattle.quiet_call.proofs.Rounding.{AmidRound}
use Rattle.quiet_call.proofs.call.QuietCall.round.Given as goal

abbrev pub invariant-loop-frame : goal.invariant-loop-frame
invariant-loop-frame l = record {
  same : IsSameCall l.fn.self l.self;
  clock : l.self.clock ≡ l.fn.self.clock;
  amid : AmidRound l.fn.self.settings (asked l.fn.self) (answered l.fn.self) l.fn.self.clock (hosts_of l.self) (frames_of l.self) (answers l.self)
      (drop l.frame-index l.frame-items) l.frame-index l.done;
}
