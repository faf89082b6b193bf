-- Each number is within the range of its place.
use Rattle.std.proofs.Common.{refl, map}
use Rattle.experiment.specs.Amounts.{least, most, amounts}
use Rattle.experiment.specs.declared.numbers.TheConstants.{USUAL}
use Rattle.experiment.proofs.RangeLaws.{most_each}
use Rattle.experiment.proofs.numbers.AmountNumbers.usual.Goals as goal

pub invariant_of-result : goal.invariant_of-result
invariant_of-result c = record {
  least = λ k inside. most_each (map least amounts) USUAL refl k;
  most = λ k inside. most_each USUAL (map most amounts) refl k;
}
