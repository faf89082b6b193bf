use Rattle.std.proofs.Common.{map, ◌∙◌, sym}
use Rattle.std.proofs.lemmas.List.{length-map}
use Rattle.world_packets.specs.Blocks.{frames_of}
use Rattle.world_packets.specs.Kept.{WholePacket}
use Rattle.world_packets.specs.Past.{past_kept}
use Rattle.world_packets.proofs.AllLaws.{count_all}
use Rattle.world_packets.proofs.packets.Packets.count.Goals as goal

pub returns : goal.returns
returns c =
    let p = c.args.self.now in
    count_all (past_kept p.past) p.ticks.items p.first (map (WholePacket p.tick) (frames_of p.front)) c.len.result p.firsts
    (length-map (frames_of p.front) (WholePacket p.tick) ∙ sym c.len.ensures)
