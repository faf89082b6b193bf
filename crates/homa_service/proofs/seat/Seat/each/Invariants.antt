use Rattle.std.proofs.Common.{◌≡◌, map}
use Rattle.homa_service.proofs.seat.Seat.each.Given as goal

abbrev pub invariant-loop-service : goal.invariant-loop-service
invariant-loop-service g l = l.seats.items ≡ map (λ b. record { service = b }) l.yielded
