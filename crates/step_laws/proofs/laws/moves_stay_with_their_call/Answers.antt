use Rattle.step_laws.proofs.ToldBy.{hears_cutoffs-rows, notes-rows, finishes-rows, tells_cutoffs-rows}
use Rattle.step_laws.proofs.Others.{asked-others, served-others, acts_at-others, grants_at-others, leaves_from-others, starts-others}
use Rattle.step_laws.proofs.laws.moves_stay_with_their_call.Goals as goal

pub returns-clause-asked : goal.returns-clause-asked
returns-clause-asked c = asked-others

pub returns-clause-served : goal.returns-clause-served
returns-clause-served c = served-others

pub returns-clause-acts : goal.returns-clause-acts
returns-clause-acts c = acts_at-others

pub returns-clause-grants : goal.returns-clause-grants
returns-clause-grants c = grants_at-others

pub returns-clause-leaves : goal.returns-clause-leaves
returns-clause-leaves c = leaves_from-others

pub returns-clause-starts : goal.returns-clause-starts
returns-clause-starts c = starts-others

pub returns-clause-hears : goal.returns-clause-hears
returns-clause-hears c = hears_cutoffs-rows

pub returns-clause-notes : goal.returns-clause-notes
returns-clause-notes c = notes-rows

pub returns-clause-finishes : goal.returns-clause-finishes
returns-clause-finishes c = finishes-rows

pub returns-clause-tells : goal.returns-clause-tells
returns-clause-tells c = tells_cutoffs-rows
