use Rattle.std.proofs.Common.{◌≡◌, Some, map}
use Rattle.homa_service.proofs.table.ServiceTable.open.Given as goal

abbrev pub invariant-loop-service : goal.invariant-loop-service
invariant-loop-service g l = l.places.items ≡ map Some l.yielded
