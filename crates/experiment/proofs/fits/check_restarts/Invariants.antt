-- Those that are left decide.
use Rattle.std.proofs.Common.{◌≡◌, drop}
use Rattle.experiment.specs.Fits.{restarts_fit}
use Rattle.experiment.proofs.fits.check_restarts.Given as goal

abbrev pub invariant-loop-restart : goal.invariant-loop-restart
invariant-loop-restart l = restarts_fit l.hosts (drop l.restart-index l.restarts) ≡ restarts_fit l.hosts l.restarts
