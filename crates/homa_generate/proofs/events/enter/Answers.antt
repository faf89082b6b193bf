-- One packet more, up to the last.
use Rattle.std.proofs.Common.{◌≤◌, ◌∙◌, refl, sym, ap, List, length, arith}
use Rattle.std.proofs.lemmas.List.{drop_all}
use Rattle.homa_plain.specs.World.{SentPacket}
use Rattle.generated_runs.specs.Rounds.{all_sent}
use Rattle.homa_generate.proofs.Entering.{entered_next, all_shown}
use Rattle.homa_generate.proofs.events.enter.Goals as goal
use Rattle.homa_generate.proofs.events.enter.Goals.{in-Some, in_default}

pub loop-number-init : goal.loop-number-init
loop-number-init g c = record { entered = λ w h new. refl; life = refl; hosts = refl }

pub loop-number-preserved : goal.loop-number-preserved
loop-number-preserved g c =
    let l = c.loop-number in
    let s = g.P.ReplayWorld.settings c.args.world.now in
    elim c.match-packet.branch [
      | in-Some w ↦ rw w.fabric-is (record {
        entered = λ v h new.
            let x = w.in-Some.ensures v h in
            l.invariant.entered v h new ∙ entered_next s v.packets l.number x.0 w.in-Some.packet l.fabric.fabric w.sent.new.self.fabric x.1 x.2
            w.sent.ensures.sent;
        life = w.sent.ensures.life ∙ l.invariant.life;
        hosts = w.sent.ensures.hosts ∙ l.invariant.hosts;
      })
      | in_default w ↦ rw w.fabric-is (record {
        entered = λ v h new. absurd
            (all_shown s v c.args.first l.number new (omega (arith, l.auto)) (omega (arith, c.packets-end.ensures v h, c.loop-number-test.true))
            (w.in_default.ensures v h));
        life = l.invariant.life;
        hosts = l.invariant.hosts;
      })
    ]

pub returns-clause-entered : goal.returns-clause-entered
returns-clause-entered g c = λ w h new.
    let l = c.loop-number in
    let past : length w.packets ≤ l.number = omega (arith, c.packets-end.ensures w h, c.loop-number-test.false) in
    sym (l.invariant.entered w h new ∙ ap (λ (xs : List SentPacket). all_sent (g.P.ReplayWorld.settings c.args.world.now) l.number xs l.fabric.fabric)
    (drop_all l.number w.packets past))
