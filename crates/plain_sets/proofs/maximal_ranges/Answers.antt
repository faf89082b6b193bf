use Rattle.plain_sets.proofs.RangeLaws.{apart-ranges, in_ranges-ranges, set_of_ranges-ranges, ranges-set_of_ranges, ranges-none}
use Rattle.plain_sets.proofs.CutLaws.{least}
use Rattle.plain_sets.proofs.maximal_ranges.Goals as goal

pub returns-clause-apart : goal.returns-clause-apart
returns-clause-apart c = apart-ranges

pub returns-clause-members : goal.returns-clause-members
returns-clause-members c = in_ranges-ranges

pub returns-clause-from_set : goal.returns-clause-from_set
returns-clause-from_set c = set_of_ranges-ranges

pub returns-clause-from_ranges : goal.returns-clause-from_ranges
returns-clause-from_ranges c = ranges-set_of_ranges

pub returns-clause-none : goal.returns-clause-none
returns-clause-none c = ranges-none

pub returns-clause-least : goal.returns-clause-least
returns-clause-least c = Rattle.plain_sets.proofs.CutLaws.least
