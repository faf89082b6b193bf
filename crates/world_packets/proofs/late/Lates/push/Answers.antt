use Rattle.std.proofs.Common.{◌≡◌, ◌++◌, [], ◌∷◌, true, List, length, ap, sym, subst, ◌∙◌, arith, rules}
use Rattle.world_packets.specs.declared.late_ticks.LateTicks.{LateTicks}
use Rattle.world_packets.specs.Firsts.{firsts_at}
use Rattle.world_packets.specs.Lates.{late_of}
use Rattle.world_packets.proofs.Parts.{firsts_push}
use Rattle.world_packets.proofs.LatesLaws.{lates_length}
use Rattle.world_packets.proofs.late.Lates.push.Goals as goal

pub push-requires : goal.push-requires
push-requires c = omega (arith, lates_length c.args.self.now, c.requires)

pub open-next-requires : goal.open-next-requires
open-next-requires c =
    let same = ap length c.if-push.ensures.kept in
    omega (arith, c.end.ensures, same, c.if-push.ensures.first, lates_length c.args.self.now, c.requires)

pub invariant_of-self-2 : goal.invariant_of-self-2
invariant_of-self-2 c =
    let l = c.args.self.now in
    let t = c.replace-full.result in
    let items : c.push-2.new.self.items ≡ l.full.items ++ t ∷ [] = search rules in
    let was = ap (λ (x : LateTicks). x.first) c.replace-full.ensures.value in
    let long = ap (λ (x : LateTicks). length (late_of x)) c.replace-full.ensures.value in
    let next = ap (λ (x : LateTicks). x.first) c.replace-full.ensures.after in
    record {
      firsts = subst (λ (ts : List LateTicks). firsts_at (λ (u : LateTicks). u.first) late_of 0 ts c.replace-full.new.dest.first ≡ true) (sym items)
          (firsts_push (λ (u : LateTicks). u.first) late_of 0 l.full.items l.latest.first c.replace-full.new.dest.first t l.firsts
          (was ∙ c.if-push.ensures.first)
          (omega (arith, next, c.open-next.ensures.first, c.end.ensures, long, c.if-push.ensures.first)));
    }
