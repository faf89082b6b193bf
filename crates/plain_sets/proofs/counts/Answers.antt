use Rattle.plain_sets.proofs.CountLaws.{len-with_range, len-without_range, len-below, len-missing, full-all, all-full}
use Rattle.plain_sets.proofs.MoreCounts.{len-subset, len-ranges}
use Rattle.plain_sets.proofs.counts.Goals as goal

pub returns-clause-added : goal.returns-clause-added
returns-clause-added c = len-with_range

pub returns-clause-taken : goal.returns-clause-taken
returns-clause-taken c = len-without_range

pub returns-clause-below : goal.returns-clause-below
returns-clause-below c = len-below

pub returns-clause-missing : goal.returns-clause-missing
returns-clause-missing c = len-missing

pub returns-clause-full : goal.returns-clause-full
returns-clause-full c = λ s n below. (full-all s n below, all-full s n below)

pub returns-clause-subset : goal.returns-clause-subset
returns-clause-subset c = len-subset

pub returns-clause-width : goal.returns-clause-width
returns-clause-width c = len-ranges
