use Rattle.text_lines.proofs.Told.{told_all, told_fourteen, told_thirteen}
use Rattle.std.proofs.Common.{arith}
use Rattle.text_lines.proofs.name.told_settings.Goals as goal

pub returns-then-settings-ne1-clause-value : goal.returns-then-settings-ne1-clause-value
returns-then-settings-ne1-clause-value c = told_all c.args.settings.now c.if-settings-ne1.true

pub returns-then-settings-ne1-clause-fits : goal.returns-then-settings-ne1-clause-fits
returns-then-settings-ne1-clause-fits c = omega arith

pub returns-then-settings-eq0-clause-value : goal.returns-then-settings-eq0-clause-value
returns-then-settings-eq0-clause-value c = told_thirteen c.args.settings.now c.if-settings-ne1.false c.if-settings-eq0.true

pub returns-then-settings-eq0-clause-fits : goal.returns-then-settings-eq0-clause-fits
returns-then-settings-eq0-clause-fits c = omega arith

pub returns-else-settings-eq0-clause-value : goal.returns-else-settings-eq0-clause-value
returns-else-settings-eq0-clause-value c = told_fourteen c.args.settings.now c.if-settings-ne1.false c.if-settings-eq0.false

pub returns-else-settings-eq0-clause-fits : goal.returns-else-settings-eq0-clause-fits
returns-else-settings-eq0-clause-fits c = omega arith
