use Rattle.std.proofs.Common.{◌≡◌, ◌+◌, ◌-◌, List, length, ap, ◌∙◌, refl, arith}
use Rattle.world_packets.specs.declared.late_ticks.Later.{Later}
use Rattle.world_packets.specs.Later.{last_tick, late_kept}
use Rattle.world_packets.proofs.LateLaws.{last_more, late_more, length-late_more}
use Rattle.world_packets.proofs.late_ticks.LateTicks.push.Goals as goal

pub invariant_of-self : goal.invariant_of-self
invariant_of-self c =
    let p = c.args.self.now in
    let l : Later = record { gap = c.args.tick - p.last; count = c.args.count } in
    let last = ap (λ (ls : List Later). last_tick p.tick ls) c.push.ensures.items ∙ last_more p.tick p.later.items l in
    let long = ap (λ (ls : List Later). length (late_kept p.tick p.many ls)) c.push.ensures.items ∙ length-late_more p.tick p.many p.later.items l in
    record {
      last_is = omega (arith, last, p.last_is);
      end_is = omega (arith, long, p.end_is);
    }

pub returns-clause-kept : goal.returns-clause-kept
returns-clause-kept c =
    let p = c.args.self.now in
    let l : Later = record { gap = c.args.tick - p.last; count = c.args.count } in
    let last : last_tick p.tick p.later.items + l.gap ≡ c.args.tick = omega (arith, p.last_is) in
    ap (λ (ls : List Later). late_kept p.tick p.many ls) c.push.ensures.items ∙ late_more p.tick p.many p.later.items l c.args.tick c.args.count last refl
