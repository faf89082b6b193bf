use Rattle.std.proofs.Common.{◌≡◌, ◌≤◌, ◌+◌, length, map, drop}
use Rattle.host_view.specs.Seen.{slot_of}
use Rattle.homa_host.specs.Parts.{seen_of, IsKept}
use Rattle.homa_host.specs.Amid.{Steady}
use Rattle.homa_host.proofs.GrantFolds.{chosen_now, IsGranting}
use Rattle.homa_host.proofs.parts.HostParts.give_grants.Given as goal

abbrev pub invariant-ranks : goal.invariant-ranks
invariant-ranks l = record {
  kept : IsKept l.self;
  steady : Steady l.slot-index l.slot-index 0 l.initial.self l.initial.out l.self l.out;
  rank : l.rank + l.slot-index ≡ length l.slot-items;
  few : length l.slot-items ≤ 7;
  slots : l.slot-items ≡ map (λ a. slot_of (seen_of l.initial.self) a.place) (chosen_now l.initial.self);
  rest : IsGranting l.initial.self l.initial.out l.self l.out (drop l.slot-index (chosen_now l.initial.self));
}
