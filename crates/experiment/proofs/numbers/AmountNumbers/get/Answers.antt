-- The number is within the range of its place.
use Rattle.experiment.specs.Amounts.{index}
use Rattle.experiment.proofs.RangeLaws.{index_below, most_at}
use Rattle.experiment.proofs.numbers.AmountNumbers.get.Goals as goal

pub returns-clause-most : goal.returns-clause-most
returns-clause-most c =
    let within = rw (most_at c.args.amount) at (c.self.invariant.most (index c.args.amount) (index_below c.args.amount)) in
    rw c.index.ensures within
