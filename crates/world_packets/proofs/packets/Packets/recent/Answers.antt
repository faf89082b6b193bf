use Rattle.std.proofs.Common.{length, map, arith}
use Rattle.std.proofs.lemmas.List.{length-map}
use Rattle.world_packets.specs.Blocks.{frames_of}
use Rattle.world_packets.specs.Kept.{WholePacket}
use Rattle.world_packets.specs.Past.{past_kept}
use Rattle.world_packets.proofs.AllLaws.{count_all, in_front, whole_at}
use Rattle.world_packets.proofs.packets.Packets.recent.Goals as goal

pub returns-then-i-len-clause-none : goal.returns-then-i-len-clause-none
returns-then-i-len-clause-none c =
    let p = c.args.self.now in
    let all = count_all (past_kept p.past) p.ticks.items p.first (map (WholePacket p.tick) (frames_of p.front)) (length (frames_of p.front)) p.firsts
    (length-map (frames_of p.front) (WholePacket p.tick)) in
    λ from. omega (arith, all, c.len.ensures, c.if-i-len.true, from)

pub returns-clause-some : goal.returns-clause-some
returns-clause-some c =
    let p = c.args.self.now in
    in_front (past_kept p.past) p.ticks.items p.first c.args.n (map (WholePacket p.tick) (frames_of p.front)) _ p.firsts (omega arith)
    (whole_at p.tick (frames_of p.front) _ _ c.get.ensures)
