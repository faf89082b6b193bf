use Rattle.std.proofs.Common.{◌≡◌, ◌++◌, sym, ap, subst, ◌∙◌, refl, arith}
use Rattle.world_packets.specs.declared.past.Past.{Past}
use Rattle.world_packets.specs.Blocks.{frames_of}
use Rattle.world_packets.specs.Kept.{AllAged, HasNoOld}
use Rattle.world_packets.specs.Ticks.{kept_of}
use Rattle.world_packets.specs.Past.{past_kept, lates_kept, olds_kept}
use Rattle.world_packets.specs.Olds.{AddsOlds, HasNotOld}
use Rattle.world_packets.proofs.PastLaws.{if_taken, if_left, takes_late, takes_stale}
use Rattle.world_packets.proofs.RecentLaws.{no_old-tick, no_old-clock}
use Rattle.world_packets.proofs.past.Past.take.Goals as goal

pub returns-in_ok-push-in-Late-clause-aged : goal.returns-in_ok-push-in-Late-clause-aged
returns-in_ok-push-in-Late-clause-aged c =
    let s = c.args.s.now in
    let t = c.args.tick.now in
    let after = lates_kept c.push.new.self in
    subst (λ (p : Past). AllAged s c.args.now (past_kept p ++ kept_of t) after) (sym c.in-Late.is)
    (takes_late s c.args.now t.tick (frames_of t.block) (lates_kept c.in-Late.lates) after c.len.result c.len.ensures c.if-s-eq1.true
    (c.if-not-is_old.ensures.old refl c.if-s-eq1.true) c.in_ok-push-in-Late.ensures.more)

pub returns-in-Stale-clause-aged : goal.returns-in-Stale-clause-aged
returns-in-Stale-clause-aged c =
    let s = c.args.s.now in
    let t = c.args.tick.now in
    let before = c.in-Stale.olds.items in
    let after = c.push_olds.new.olds.items in
    let wire = c.requires.valid.in_range.2.2.2.2.2.2.2.2.2.2.2.2.2.2 in
    let two : s.wire ≡ 2 = omega (arith, wire.0, wire.1, c.if-s-ne1.true) in
    if_taken c.push_olds.result (AddsOlds c.from-reach.result c.args.now (frames_of t.block) before after) (after ≡ before)
    (AllAged s c.args.now (past_kept c.args.self.now ++ kept_of t) (olds_kept after)) (olds_kept after ≡ past_kept c.args.self.now)
    (λ a. subst (λ (p : Past). AllAged s c.args.now (past_kept p ++ kept_of t) (olds_kept after)) (sym c.in-Stale.is)
    (takes_stale s c.args.now t.tick (frames_of t.block) before after c.from-reach.result two c.from-reach.ensures a))
    (λ same. ap olds_kept same ∙ ap past_kept (sym c.in-Stale.is))
    c.push_olds.ensures.olds

pub returns-then-not-is_old-clause-left : goal.returns-then-not-is_old-clause-left
returns-then-not-is_old-clause-left c =
    let t = c.args.tick.now in
    λ _ _. no_old-tick c.args.s.now c.args.now t.tick (frames_of t.block) (c.if-not-is_old.ensures.late refl) (c.if-not-is_old.ensures.stale refl)

pub returns-in-Stale-clause-left : goal.returns-in-Stale-clause-left
returns-in-Stale-clause-left c =
    let s = c.args.s.now in
    let t = c.args.tick.now in
    let reach = c.from-reach.result in
    let wire = c.requires.valid.in_range.2.2.2.2.2.2.2.2.2.2.2.2.2.2 in
    let two : s.wire ≡ 2 = omega (arith, wire.0, wire.1, c.if-s-ne1.true) in
    λ _. if_left c.push_olds.result (HasNotOld reach c.args.now (frames_of t.block)) (HasNoOld s c.args.now (kept_of t))
    (no_old-clock s c.args.now t.tick reach (frames_of t.block) two c.from-reach.ensures) c.push_olds.ensures.left
