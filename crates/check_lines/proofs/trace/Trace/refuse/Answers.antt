use Rattle.std.proofs.Common.{◌∙◌}
use Rattle.check_lines.proofs.TakeLaws.{no_block, refused_none, refused_else, refused_due_else}
use Rattle.check_lines.proofs.trace.Trace.refuse.Goals as goal

pub returns-in-None-clause-kept : goal.returns-in-None-clause-kept
returns-in-None-clause-kept c v o r =
    refused_else v c.args.self.now c.args.host c.args.id (refused_none v c.args.host c.args.id (no_block v o c.args.self.now r c.in-None.is).1) r.kept

pub returns-in-None-clause-due : goal.returns-in-None-clause-due
returns-in-None-clause-due c v o r =
    refused_due_else v c.args.host c.args.id (refused_none v c.args.host c.args.id (no_block v o c.args.self.now r c.in-None.is).1) ∙ r.due
