use Rattle.std.proofs.Common.{◌≡◌, ◌+◌, ◌++◌, [], ◌∷◌, ◌∙◌, take, length, length-append, sym, ap, subst, arith, rules, List}
use Rattle.world_packets.specs.declared.past.Old.{Old}
use Rattle.world_packets.specs.Blocks.{Frame, frames_of}
use Rattle.world_packets.specs.Olds.{AddsOlds}
use Rattle.world_packets.proofs.PastLaws.{adds_none, adds_more}
use Rattle.world_packets.proofs.past.push_olds.Goals as goal

pub loop-i-init : goal.loop-i-init
loop-i-init c =
    let frames = frames_of c.args.block.now in
    let olds = c.args.olds.now.items in
    record {
      adds = subst (λ (os : List Old). AddsOlds c.args.reach c.args.now (take 0 frames) olds os) (sym c.in_ok-reserve.ensures.items)
          (adds_none c.args.reach c.args.now frames olds);
      room = omega (arith, c.in_ok-reserve.ensures.ok, c.len.ensures);
    }

pub loop-i-preserved : goal.loop-i-preserved
loop-i-preserved c =
    let f : Frame = record { from = c.get.result.0; to = c.get.result.1; bytes = c.get.result.2.now } in
    let frames = frames_of c.args.block.now in
    let olds = c.args.olds.now.items in
    let items : c.push.new.self.items ≡ c.loop-i.olds.items ++ c.in-Some.old ∷ [] = search rules in
    let long = ap length items ∙ length-append c.loop-i.olds.items (c.in-Some.old ∷ []) in
    record {
      adds = subst (λ (os : List Old). AddsOlds c.args.reach c.args.now (take (c.loop-i.i + 1) frames) olds os) (sym items)
          (adds_more c.args.reach c.args.now frames olds c.loop-i.olds.items c.loop-i.i f c.in-Some.old c.loop-i.invariant.adds c.get.ensures
          c.in-Some.ensures.some);
      room = omega (arith, c.loop-i.invariant.room, long, c.push.ensures.capacity);
    }
