-- A turn more.
use Rattle.std.proofs.Common.{true, false, ◌≡◌, ℕ, ◌∙◌, ◌+◌, ◌-◌, ◌∷◌, [], ◌++◌, refl, subst, arith}
use Rattle.homa_plain.specs.Replay.{turns_of}
use Rattle.homa_replay.proofs.Ticks.{next_turn, turn_at, around_turn}
use Rattle.homa_generate.specs.Carried.{IsCarried}
use Rattle.homa_generate.proofs.Carryings.{done_as, none_carried, then_carried, then_stopped}
use Rattle.homa_generate.proofs.events.turns.Goals as goal

pub loop-host-init : goal.loop-host-init
loop-host-init g c = record { carried = λ w h. none_carried _ w _ _ _ h; settings = refl; counted = omega arith }

pub loop-host-preserved : goal.loop-host-preserved
loop-host-preserved g c =
    let l = c.loop-host in
    let e = c.in_ok-happen.ensures in
    record {
      carried = λ w h. then_carried _ _ w (turns_of 0 l.host) (turn_at l.host ∷ []) _ _ _ _ _ _ _ _ true l.invariant.settings
          (l.invariant.carried w h) (turns_of 0 (l.host + 1)) (next_turn l.host) (λ v st. done_as _ v _ _ _ _ _ _ _ _ (e.carried v st) c.if-not-branch.false);
      settings = e.settings ∙ l.invariant.settings;
      counted = omega (arith, e.counted, l.invariant.counted);
    }

pub returns-then-not-branch-clause-carried : goal.returns-then-not-branch-clause-carried
returns-then-not-branch-clause-carried g c = λ w h.
    let l = c.loop-host in
    let one = then_carried _ _ w (turns_of 0 l.host) (turn_at l.host ∷ []) _ _ _ _ _ _ _ _ false l.invariant.settings (l.invariant.carried w h)
    (turns_of 0 l.host ++ turn_at l.host ∷ []) refl (λ v st. done_as _ v _ _ _ _ _ _ _ _ (c.in_ok-happen.ensures.carried v st) c.if-not-branch.true) in
    then_stopped _ w (turns_of 0 l.host ++ turn_at l.host ∷ []) (turns_of (l.host + 1) (c.args.hosts - (l.host + 1))) _ _ _ _ _ one
    (turns_of 0 c.args.hosts) (around_turn l.host c.args.hosts c.loop-host-test.true)

pub returns-clause-carried : goal.returns-clause-carried
returns-clause-carried g c = λ w h.
    let p = g.P.ReplayWorld in
    let all : c.loop-host.host ≡ c.args.hosts = omega (arith, c.loop-host-test.false, c.loop-host.auto) in
    subst (λ (n : ℕ). IsCarried (p.settings c.args.world.now) w (turns_of 0 n) (p.stands c.loop-host.world) c.args.counts.now c.loop-host.counts
    (p.allows c.args.world.now) (p.allows c.loop-host.world) true) all (c.loop-host.invariant.carried w h)
