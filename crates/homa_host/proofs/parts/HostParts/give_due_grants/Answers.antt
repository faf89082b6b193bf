use Rattle.homa_host.proofs.NoneDue.{settled_kept}
use Rattle.homa_host.proofs.parts.HostParts.give_due_grants.Goals as goal

pub returns-clause-kept : goal.returns-clause-kept
returns-clause-kept c =
    let w = c.requires.amid in
    let given = c.give_grants.ensures in
    settled_kept c.args.self.now.control.settings w.0 c.give_grants.new.self c.give_grants.new.out given.kept given.steady.settings (given.step w.0 w.1)
