-- The number is within the range of its place.
use Rattle.std.proofs.Common.{rules}
use Rattle.experiment.proofs.RangeLaws.{within_set}
use Rattle.experiment.proofs.numbers.AmountNumbers.set.Goals as goal

pub invariant_of-self : goal.invariant_of-self
invariant_of-self c =
    within_set c.self.inside.numbers c.args.amount c.index.result c.args.n (search rules) c.index.ensures c.self.invariant c.requires.least c.requires.most
