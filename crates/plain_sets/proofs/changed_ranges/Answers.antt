use Rattle.plain_sets.proofs.RangeChanges.{ranges-with_range, ranges-without_range, ranges-one_more, ranges-one_less}
use Rattle.plain_sets.proofs.MoreCounts.{gaps-one_more, gaps-one_range}
use Rattle.plain_sets.proofs.changed_ranges.Goals as goal

pub returns-clause-added : goal.returns-clause-added
returns-clause-added c = ranges-with_range

pub returns-clause-taken : goal.returns-clause-taken
returns-clause-taken c = ranges-without_range

pub returns-clause-one_more : goal.returns-clause-one_more
returns-clause-one_more c = ranges-one_more

pub returns-clause-one_less : goal.returns-clause-one_less
returns-clause-one_less c = ranges-one_less

pub returns-clause-gaps : goal.returns-clause-gaps
returns-clause-gaps c = gaps-one_more

pub returns-clause-first_gaps : goal.returns-clause-first_gaps
returns-clause-first_gaps c = gaps-one_range
