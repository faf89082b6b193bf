-- Nothing is lost or comes twice where none of a million is or does.
use Rattle.packet_network.proofs.paths.PacketPaths.begin_at_card.Goals as goal

pub returns-clause-lossless : goal.returns-clause-lossless
returns-clause-lossless c = record {
  lost = λ none. c.in_ok-leave_card.ensures.kept (c.chance_of-chance.ensures.none_lost none);
  repeated = λ none. c.leave_card.ensures.single (c.chance_of-chance.ensures.none_repeated none);
}
