use Rattle.homa_world.proofs.KeptLaws.{room_kept, room_stands}
use Rattle.homa_world.proofs.parts.WorldParts.take_room.Goals as goal

pub returns-clause-room : goal.returns-clause-room
returns-clause-room g c = record {
  still = λ w stands. room_stands (λ _. 0) c.args.self.now c.reserve.new.self c.requires.kept.packets c.reserve.ensures.aged w stands;
  kept = room_kept _ c.args.self.now c.reserve.new.self c.reserve.ensures.aged c.reserve.ensures.settings c.requires.kept;
  room = c.reserve.ensures.room;
  tick = c.reserve.ensures.tick;
}
