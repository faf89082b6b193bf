use Rattle.std.proofs.Common.{refl}
use Rattle.step_laws.proofs.OneAnswer.{asked_once, same_unasked, asked_alike, answer_told, call_unasked, turn_unasked, none_asked, some_unasked}
use Rattle.step_laws.proofs.laws.one_answer_a_step.Goals as goal

pub returns-clause-once : goal.returns-clause-once
returns-clause-once c = asked_once

pub returns-clause-unasked : goal.returns-clause-unasked
returns-clause-unasked c = same_unasked

pub returns-clause-any_answer : goal.returns-clause-any_answer
returns-clause-any_answer c = asked_alike

pub returns-clause-told : goal.returns-clause-told
returns-clause-told c = answer_told

pub returns-clause-call : goal.returns-clause-call
returns-clause-call c = call_unasked

pub returns-clause-turn : goal.returns-clause-turn
returns-clause-turn c = turn_unasked

pub returns-clause-with_answer : goal.returns-clause-with_answer
returns-clause-with_answer c s h now p a = refl

pub returns-clause-none : goal.returns-clause-none
returns-clause-none c = none_asked

pub returns-clause-without : goal.returns-clause-without
returns-clause-without c = some_unasked
