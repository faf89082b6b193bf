-- Where a row goes, the table's other calls are as before.
use Rattle.std.proofs.Common.{sym, subst}
use Rattle.homa_client.specs.AtTable.{IsTable}
use Rattle.homa_client.proofs.TableLaws.{table_remove}
use Rattle.homa_client.proofs.table.ClientTable.finish.Goals as goal

pub invariant_of-self : goal.invariant_of-self
invariant_of-self c =
    subst (IsTable c.self.inside.host c.self.inside.inc c.self.inside.seq c.self.inside.settings) (sym c.remove.ensures.removed)
    (table_remove c.self.inside.host c.self.inside.inc c.self.inside.seq c.self.inside.settings c.self.inside.rows c.self.invariant c.remove.result.0)

pub invariant_of-self-in-Forgotten : goal.invariant_of-self-in-Forgotten
invariant_of-self-in-Forgotten c =
    subst (IsTable c.self.inside.host c.self.inside.inc c.self.inside.seq c.self.inside.settings) (sym c.remove-in-Forgotten.ensures.removed)
    (table_remove c.self.inside.host c.self.inside.inc c.self.inside.seq c.self.inside.settings c.self.inside.rows c.self.invariant
    c.remove-in-Forgotten.result.0)
