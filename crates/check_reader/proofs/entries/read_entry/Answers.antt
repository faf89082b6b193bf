use Rattle.homa_plain.specs.Entries.{plain}
use Rattle.check_reader.proofs.EntryLaws.{read-text, read-fits, read-usual, read-none}
use Rattle.check_reader.proofs.entries.read_entry.Goals as goal

pub returns-clause-line : goal.returns-clause-line
returns-clause-line c = read-text plain c.read_line.result c.args.line.now c.read_line.ensures

pub returns-clause-fits : goal.returns-clause-fits
returns-clause-fits c = read-fits plain c.read_line.result c.args.line.now c.read_line.ensures

pub returns-clause-usual : goal.returns-clause-usual
returns-clause-usual c = read-usual plain c.read_line.result c.args.line.now c.read_line.ensures

pub returns-clause-none : goal.returns-clause-none
returns-clause-none c = read-none plain c.read_line.result c.args.line.now c.read_line.ensures
