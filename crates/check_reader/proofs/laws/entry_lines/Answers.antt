use Rattle.check_reader.proofs.EntryLaws.{one_entry, one_line}
use Rattle.check_reader.proofs.laws.entry_lines.Goals as goal

pub returns-clause-one_entry : goal.returns-clause-one_entry
returns-clause-one_entry c = one_entry

pub returns-clause-one_line : goal.returns-clause-one_line
returns-clause-one_line c = one_line
