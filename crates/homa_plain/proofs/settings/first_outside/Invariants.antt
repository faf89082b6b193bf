use Rattle.std.proofs.Common.{◌≡◌, drop}
use Rattle.homa_plain.specs.Settings.{first_outside}
use Rattle.homa_plain.proofs.settings.first_outside.Given as goal

abbrev pub invariant-loop-range : goal.invariant-loop-range
invariant-loop-range l = first_outside (drop l.range-index l.ranges) ≡ first_outside l.ranges
