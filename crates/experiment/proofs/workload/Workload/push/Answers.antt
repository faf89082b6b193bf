-- One more step makes a table.
use Rattle.std.proofs.Common.{arith}
use Rattle.experiment.proofs.StepLaws.{table_is, table_push}
use Rattle.experiment.proofs.workload.Workload.push.Goals as goal

pub invariant_of-self-2 : goal.invariant_of-self-2
invariant_of-self-2 c =
    rw c.in_ok-push.ensures.items
    (table_push c.self.inside.steps.items c.args.step (table_is c.self.inside.steps.items c.self.invariant) (omega arith) (rw c.self.view_is c.requires))
