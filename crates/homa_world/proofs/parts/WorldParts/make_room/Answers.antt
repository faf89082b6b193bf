-- Nothing changes where there is room.
use Rattle.std.proofs.Common.{refl, arith}
use Rattle.world_packets.specs.All.{kept_all, settings_of}
use Rattle.world_packets.proofs.Ages.{all_aged_self}
use Rattle.homa_world.proofs.KeptLaws.{room_kept, room_stands}
use Rattle.homa_world.proofs.parts.WorldParts.make_room.Goals as goal

pub is_ready-requires : goal.is_ready-requires
is_ready-requires g c = omega (arith, c.requires.few, c.requires.kept.few)

pub returns-then-is_ready-clause-room : goal.returns-then-is_ready-clause-room
returns-then-is_ready-clause-room g c =
    let w = c.args.self.now in
    let same = all_aged_self (settings_of w.packets) w.clock (kept_all w.packets) in
    record {
      still = λ p stands. room_stands (λ _. 0) w w.packets c.requires.kept.packets same p stands;
      kept = room_kept _ w w.packets same refl c.requires.kept;
      room = c.is_ready.ensures.room c.if-is_ready.true;
      tick = c.is_ready.ensures.tick c.if-is_ready.true;
    }
