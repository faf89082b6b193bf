use Rattle.std.proofs.Common.{[], ◌∷◌, length, length-append, map, ap, ◌∙◌, arith}
use Rattle.std.proofs.lemmas.List.{length-map}
use Rattle.world_packets.specs.Blocks.{Frame, frames_of}
use Rattle.world_packets.specs.Kept.{WholePacket}
use Rattle.world_packets.specs.Past.{past_kept}
use Rattle.world_packets.proofs.AllLaws.{count_all}
use Rattle.world_packets.proofs.packets.Packets.push.Goals as goal

pub invariant_of-self : goal.invariant_of-self
invariant_of-self c =
    let p = c.args.self.now in
    let all = count_all (past_kept p.past) p.ticks.items p.first (map (WholePacket p.tick) (frames_of p.front)) (length (frames_of p.front)) p.firsts
    (length-map (frames_of p.front) (WholePacket p.tick)) in
    let f : Frame = record { from = c.args.from; to = c.args.to; bytes = c.args.bytes.now } in
    let more = ap length c.push.ensures.frames ∙ length-append (frames_of p.front) (f ∷ []) in
    record { valid = p.valid; firsts = p.firsts; few = omega (arith, all, more, c.requires.room.few); wire = p.wire; swept_is = p.swept_is; filled = p.filled }

pub returns-clause-room : goal.returns-clause-room
returns-clause-room c =
    let p = c.args.self.now in
    let new = c.push.new.self in
    let all = count_all (past_kept p.past) p.ticks.items p.first (map (WholePacket p.tick) (frames_of p.front)) (length (frames_of p.front)) p.firsts
    (length-map (frames_of p.front) (WholePacket p.tick)) in
    let later = count_all (past_kept p.past) p.ticks.items p.first (map (WholePacket p.tick) (frames_of new)) (length (frames_of new)) p.firsts
    (length-map (frames_of new) (WholePacket p.tick)) in
    let f : Frame = record { from = c.args.from; to = c.args.to; bytes = c.args.bytes.now } in
    let more = ap length c.push.ensures.frames ∙ length-append (frames_of p.front) (f ∷ []) in
    λ n h. record {
      room = c.push.ensures.room n h.room;
      small = omega (arith, h.small, c.push.ensures.size, c.requires.short);
      few = omega (arith, h.few, all, later, more);
    }
