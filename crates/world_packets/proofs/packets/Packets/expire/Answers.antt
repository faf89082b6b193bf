use Rattle.std.proofs.Common.{◌++◌, true≢false, List, deque_len, length, length-append, map, drop, refl, sym, ap, ◌∙◌, subst, arith}
use Rattle.std.specs.List.{flat_map}
use Rattle.homa_plain.specs.declared.settings.Settings.{Settings}
use Rattle.world_packets.specs.declared.tick.Tick.{Tick}
use Rattle.world_packets.specs.Blocks.{frames_of}
use Rattle.world_packets.specs.Kept.{WholePacket, AllAged, HasNoOld}
use Rattle.world_packets.specs.Ticks.{kept_of}
use Rattle.world_packets.specs.Past.{past_kept}
use Rattle.world_packets.specs.All.{kept_all}
use Rattle.world_packets.proofs.Ages.{all_aged_self, all_aged_on}
use Rattle.world_packets.proofs.Parts.{firsts_end}
use Rattle.world_packets.proofs.AllLaws.{TicksEnd, not_none, front_tick, given_firsts, given_all}
use Rattle.world_packets.proofs.RecentLaws.{EachHolds, holds_rest, no_old-ticks}
use Rattle.world_packets.proofs.packets.Packets.expire.Goals as goal

pub loop-self-init : goal.loop-self-init
loop-self-init c =
    record { aged = all_aged_self c.args.self.now.settings c.args.now (kept_all c.args.self.now); settings = refl; front = refl; tick = refl; swept = refl }

pub take-requires-clause-few : goal.take-requires-clause-few
take-requires-clause-few c =
    let p = c.loop-self.self in
    let t = c.index.result.now in
    let rest = drop 1 p.ticks.items in
    let ts = front_tick p.ticks.items rest t (omega (arith, not_none (deque_len p.ticks) c.loop-self-test.ensures)) c.index.ensures refl in
    let all = ap (λ (us : List Tick). length (flat_map kept_of us)) ts in
    let two = length-append (kept_of t) (flat_map kept_of rest) in
    omega (arith, firsts_end (λ (u : Tick). u.first) kept_of (length (past_kept p.past)) p.ticks.items p.first p.firsts, all, two, p.few)

pub invariant_of-self-in-loop-self-2 : goal.invariant_of-self-in-loop-self-2
invariant_of-self-in-loop-self-2 c =
    let p = c.loop-self.self in
    let t = c.index.result.now in
    let rest = c.give_up.new.ticks.items in
    let ts = front_tick p.ticks.items rest t (omega (arith, not_none (deque_len p.ticks) c.loop-self-test.ensures)) c.index.ensures c.give_up.ensures.rest in
    let aged = rw c.if-not-branch.false at c.in_ok-take.ensures.aged in
    record {
      valid = p.valid;
      firsts = given_firsts p.settings c.args.now (past_kept p.past) (past_kept c.take.new.self) t rest aged p.first
          (subst (λ (us : List Tick). TicksEnd (length (past_kept p.past)) us p.first) ts p.firsts);
      few = p.few;
      wire = c.take.ensures.wire ∙ p.wire;
      swept_is = λ is. absurd (true≢false (sym is ∙ c.loop-self.invariant.swept));
      filled = holds_rest t rest (subst EachHolds ts p.filled);
    }

pub loop-self-preserved : goal.loop-self-preserved
loop-self-preserved c =
    let p = c.loop-self.self in
    let l = c.loop-self.invariant in
    let s = c.args.self.now.settings in
    let t = c.index.result.now in
    let rest = c.give_up.new.ticks.items in
    let ts = front_tick p.ticks.items rest t (omega (arith, not_none (deque_len p.ticks) c.loop-self-test.ensures)) c.index.ensures c.give_up.ensures.rest in
    let aged = rw c.if-not-branch.false at c.in_ok-take.ensures.aged in
    let front = map (WholePacket p.tick) (frames_of p.front) in
    let past = past_kept p.past in
    let later = past_kept c.take.new.self ++ flat_map kept_of rest ++ front in
    let step = subst (λ (us : List Tick). AllAged p.settings c.args.now (past ++ flat_map kept_of us ++ front) later) (sym ts)
    (given_all p.settings c.args.now past (past_kept c.take.new.self) t rest aged front) in
    record {
      aged = all_aged_on s c.args.now (kept_all c.args.self.now) (kept_all p) later l.aged
          (subst (λ (x : Settings). AllAged x c.args.now (kept_all p) later) l.settings step);
      settings = l.settings;
      front = l.front;
      tick = l.tick;
      swept = l.swept;
    }

pub returns-then-not-branch-clause-no_old : goal.returns-then-not-branch-clause-no_old
returns-then-not-branch-clause-no_old c =
    let p = c.loop-self.self in
    let s = c.args.self.now.settings in
    let t = c.index.result.now in
    let rest = drop 1 p.ticks.items in
    let ts = front_tick p.ticks.items rest t (omega (arith, not_none (deque_len p.ticks) c.loop-self-test.ensures)) c.index.ensures refl in
    let left = c.in_ok-take.ensures.left p.wire c.if-not-branch.true in
    subst (λ (us : List Tick). HasNoOld s c.args.now (flat_map kept_of us)) (sym ts)
    (no_old-ticks s c.args.now t rest (subst EachHolds ts p.filled)
    (subst (λ (x : Settings). HasNoOld x c.args.now (kept_of t)) c.loop-self.invariant.settings left))
