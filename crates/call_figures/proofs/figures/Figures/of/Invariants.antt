-- As many parts as were told.
use Rattle.std.proofs.Common.{◌≡◌, length}
use Rattle.call_figures.proofs.figures.Figures.of.Given as goal

abbrev pub invariant-loop-part : goal.invariant-loop-part
invariant-loop-part l = length l.parts.items ≡ l.part
