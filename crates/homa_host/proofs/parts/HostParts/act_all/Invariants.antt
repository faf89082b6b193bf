use Rattle.std.proofs.Common.{◌-◌}
use Rattle.homa_host.specs.Parts.{IsKept}
use Rattle.homa_host.specs.Amid.{Steady}
use Rattle.homa_host.proofs.Turning.{IsTurning}
use Rattle.homa_host.proofs.parts.HostParts.act_all.Given as goal

abbrev pub invariant-loop : goal.invariant-loop
invariant-loop l = record {
  kept : IsKept l.self;
  steady : Steady l.counter l.counter l.counter l.initial.self l.initial.out l.self l.out;
  rest : IsTurning l.initial.self l.initial.out l.self l.out (32 - l.counter);
}
