-- It is the plain world's event, or the plain world refuses it.
use Rattle.std.proofs.Common.{sym}
use Rattle.std.proofs.lemmas.Result.{IfOk-weaker}
use Rattle.homa_generate.proofs.Carryings.{one_carried, one_refused, done_as}
use Rattle.homa_generate.proofs.events.happen.Goals as goal

pub returns-in-Err-clause-carried : goal.returns-in-Err-clause-carried
returns-in-Err-clause-carried g c =
    IfOk-weaker c.refused.result _ _
    (λ done known w h. done_as _ w _ _ _ _ _ _ _ done
    (one_refused _ w _ _ _ _ _ c.in-Err.fault (c.in-Err.ensures.fault w h) known.1 (c.in-Err.ensures.kept w h) c.in-Err.ensures.allows) (sym known.0))
    c.refused.ensures

pub returns-clause-carried : goal.returns-clause-carried
returns-clause-carried g c = λ w h. one_carried _ _ _ _ _ _ _ _ _ (c.in-Ok.ensures.done w h) c.in_ok-count_lines.ensures
