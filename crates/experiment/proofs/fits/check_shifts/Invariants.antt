-- Those that are left decide.
use Rattle.std.proofs.Common.{◌≡◌, drop}
use Rattle.experiment.specs.Fits.{shifts_fit}
use Rattle.experiment.proofs.fits.check_shifts.Given as goal

abbrev pub invariant-loop-shift : goal.invariant-loop-shift
invariant-loop-shift l = shifts_fit l.hosts l.skew (drop l.shift-index l.shifts) ≡ shifts_fit l.hosts l.skew l.shifts
