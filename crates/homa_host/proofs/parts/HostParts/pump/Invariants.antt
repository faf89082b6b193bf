use Rattle.std.proofs.Common.{◌≡◌, ◌+◌, ◌-◌, length}
use Rattle.homa_host.specs.Parts.{IsKept}
use Rattle.homa_host.proofs.EndFolds.{IsPumping}
use Rattle.homa_host.proofs.parts.HostParts.pump.Given as goal

abbrev pub invariant-pieces : goal.invariant-pieces
invariant-pieces l = record {
  kept : IsKept l.self;
  settings : l.self.control.settings ≡ l.initial.self.control.settings;
  told : length l.self.control.marks + length l.initial.out ≡ length l.initial.self.control.marks + length l.out;
  step : IsPumping l.initial.self l.initial.out l.self l.out;
}

abbrev pub decreases-pieces : goal.decreases-pieces
decreases-pieces l = (64 - length l.out) + length l.self.books.pacer.ready
