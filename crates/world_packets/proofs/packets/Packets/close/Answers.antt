use Rattle.std.proofs.Common.{◌≡◌, ◌+◌, ◌++◌, [], ◌∷◌, List, true, length, ap, sym, subst, arith, rules, refl}
use Rattle.std.proofs.lemmas.List.{length-map}
use Rattle.world_packets.specs.declared.tick.Tick.{Tick}
use Rattle.world_packets.specs.Blocks.{frames_of}
use Rattle.world_packets.specs.Kept.{WholePacket}
use Rattle.world_packets.specs.Ticks.{kept_of}
use Rattle.world_packets.specs.Firsts.{firsts_at}
use Rattle.world_packets.specs.Past.{past_kept}
use Rattle.world_packets.proofs.Parts.{firsts_push}
use Rattle.world_packets.proofs.RecentLaws.{EachHolds, holds_push}
use Rattle.world_packets.proofs.packets.Packets.close.Goals as goal

pub invariant_of-self-2 : goal.invariant_of-self-2
invariant_of-self-2 c =
    let p = c.args.self.now in
    let t : Tick = record { tick = p.tick; first = p.first; block = c.in_ok-block.block } in
    let items : c.push_back.new.self.items ≡ p.ticks.items ++ t ∷ [] = search rules in
    let later = p.first + c.len-count.result in
    let long = length-map (frames_of c.in_ok-block.block) (WholePacket p.tick) in
    let same = ap length c.in_ok-block.ensures.taken in
    let none = ap length c.in_ok-block.ensures.none in
    record {
      valid = p.valid;
      firsts = subst (λ (ts : List Tick). firsts_at (λ (u : Tick). u.first) kept_of (length (past_kept p.past)) ts later ≡ true) (sym items)
          (firsts_push (λ (u : Tick). u.first) kept_of (length (past_kept p.past)) p.ticks.items p.first later t p.firsts refl
          (omega (arith, long, same, c.len-count.ensures)));
      few = omega (arith, none, p.few, c.len-count.ensures);
      wire = p.wire;
      swept_is = λ is. absurd cc;
      filled = subst EachHolds (sym items) (holds_push p.ticks.items t p.filled (omega (arith, long, same, c.len-count.ensures, c.if-count-eq0.false)));
    }
