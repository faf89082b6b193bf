-- The clock, and then the turns.
use Rattle.std.proofs.Common.{◌∷◌, []}
use Rattle.std.proofs.lemmas.Result.{IfOk-weaker}
use Rattle.homa_plain.specs.declared.event.Event.TheVariants as event
use Rattle.homa_plain.specs.Replay.{turns_of, ticks, bare}
use Rattle.homa_generate.proofs.Carryings.{done_as, then_carried, then_stopped}
use Rattle.homa_generate.proofs.LineLaws.{one_tick}
use Rattle.homa_generate.proofs.events.tick.Goals as goal

pub returns-then-not-branch-clause-carried : goal.returns-then-not-branch-clause-carried
returns-then-not-branch-clause-carried g c = λ w h.
    then_stopped _ w (bare event.Clock ∷ []) (turns_of 0 c.args.hosts) _ _ _ _ _
    (done_as _ w _ _ _ _ _ _ _ _ (c.in_ok-happen.ensures.carried w h) c.if-not-branch.true) (ticks c.args.hosts 1) (one_tick c.args.hosts)

pub returns-clause-carried : goal.returns-clause-carried
returns-clause-carried g c =
    IfOk-weaker c.turns.result _ _
    (λ done rest w h.
    then_carried _ _ w (bare event.Clock ∷ []) (turns_of 0 c.args.hosts) _ _ _ _ _ _ _ _ done c.in_ok-happen.ensures.settings
    (done_as _ w _ _ _ _ _ _ _ _ (c.in_ok-happen.ensures.carried w h) c.if-not-branch.false) (ticks c.args.hosts 1) (one_tick c.args.hosts) rest)
    c.turns.ensures.carried
