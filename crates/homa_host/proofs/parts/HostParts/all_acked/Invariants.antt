use Rattle.std.proofs.Common.{◌≡◌, [], drop}
use Rattle.std.specs.List.{AllByRecursion}
use Rattle.homa_plain.specs.declared.id.CallId.{CallId}
use Rattle.host_view.specs.Marks.{response_of}
use Rattle.homa_plain.specs.Packets.{calls_of}
use Rattle.homa_host.specs.Parts.{host_of, IsKept}
use Rattle.homa_host.specs.Amid.{Steady}
use Rattle.homa_host.proofs.Acking.{IsAcking}
use Rattle.homa_host.proofs.parts.HostParts.all_acked.Given as goal

abbrev pub invariant-loop-inc : goal.invariant-loop-inc
invariant-loop-inc l = record {
  kept : IsKept l.self;
  steady : Steady l.inc-index 0 0 l.initial.self [] l.self [];
  others : (q : CallId) → AllByRecursion (λ (id : CallId). q ≡ id → ⊥) (calls_of l.client l.calls)
      → response_of (host_of l.self) q ≡ response_of (host_of l.initial.self) q;
  rest : IsAcking l.initial.self (calls_of l.client l.calls) l.self (calls_of l.client (drop l.inc-index l.calls));
}
