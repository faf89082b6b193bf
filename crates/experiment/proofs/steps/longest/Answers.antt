-- The last step is the highest one.
use Rattle.experiment.proofs.StepLaws.{table_is, last_get, last_within, no_step}
use Rattle.experiment.proofs.steps.longest.Goals as goal

pub returns-clause-value : goal.returns-clause-value
returns-clause-value c = last_get c.args.steps.now no_step (table_is c.args.steps.now c.requires).some

pub returns-clause-some : goal.returns-clause-some
returns-clause-some c =
    let t = table_is c.args.steps.now c.requires in
    rw (last_get c.args.steps.now no_step t.some) (last_within c.args.steps.now t).0

pub returns-clause-most : goal.returns-clause-most
returns-clause-most c =
    let t = table_is c.args.steps.now c.requires in
    rw (last_get c.args.steps.now no_step t.some) (last_within c.args.steps.now t).1
