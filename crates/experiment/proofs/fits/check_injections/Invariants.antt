-- Those that are left decide.
use Rattle.std.proofs.Common.{◌≡◌, drop}
use Rattle.experiment.specs.Fits.{injections_fit}
use Rattle.experiment.proofs.fits.check_injections.Given as goal

abbrev pub invariant-loop-injection : goal.invariant-loop-injection
invariant-loop-injection l = injections_fit l.hosts (drop l.injection-index l.injections) ≡ injections_fit l.hosts l.injections
