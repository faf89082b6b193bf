-- Those that are left decide.
use Rattle.std.proofs.Common.{◌≡◌, drop}
use Rattle.experiment.specs.Fits.{calls_fit}
use Rattle.experiment.proofs.fits.check_calls.Given as goal

abbrev pub invariant-loop-call : goal.invariant-loop-call
invariant-loop-call l = calls_fit l.hosts (drop l.call-index l.calls) ≡ calls_fit l.hosts l.calls
