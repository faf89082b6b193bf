use Rattle.plain_sets.proofs.NumberLaws.{has-empty, has-with_number, has-without_number, has-with_range, has-without_range, has-within, same_numbers}
use Rattle.plain_sets.proofs.CountLaws.{has-missing}
use Rattle.plain_sets.proofs.MoreCounts.{subset-all, all-subset, has-union}
use Rattle.plain_sets.proofs.numbers.Goals as goal

pub returns-clause-none : goal.returns-clause-none
returns-clause-none c = has-empty

pub returns-clause-with_one : goal.returns-clause-with_one
returns-clause-with_one c = has-with_number

pub returns-clause-without_one : goal.returns-clause-without_one
returns-clause-without_one c = has-without_number

pub returns-clause-with_range : goal.returns-clause-with_range
returns-clause-with_range c = has-with_range

pub returns-clause-without_range : goal.returns-clause-without_range
returns-clause-without_range c = has-without_range

pub returns-clause-within : goal.returns-clause-within
returns-clause-within c = has-within

pub returns-clause-missing : goal.returns-clause-missing
returns-clause-missing c = has-missing

pub returns-clause-subset : goal.returns-clause-subset
returns-clause-subset c = λ s t. (subset-all s t, all-subset s t)

pub returns-clause-same : goal.returns-clause-same
returns-clause-same c = same_numbers

pub returns-clause-union : goal.returns-clause-union
returns-clause-union c = has-union
