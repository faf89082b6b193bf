use Rattle.std.proofs.Common.{◌-◌}
use Rattle.homa_plain.proofs.CutoffLaws.{least-balanced, top-balanced, low-balanced, length-balanced, high-balanced, falls-balanced, least_only, listed-bound}
use Rattle.plain_laws.proofs.cutoffs.cutoff_bounds.Goals as goal

pub returns-clause-least : goal.returns-clause-least
returns-clause-least c = least-balanced

pub returns-clause-top : goal.returns-clause-top
returns-clause-top c = top-balanced

pub returns-clause-low : goal.returns-clause-low
returns-clause-low c = low-balanced

pub returns-clause-eight : goal.returns-clause-eight
returns-clause-eight c = length-balanced

pub returns-clause-high : goal.returns-clause-high
returns-clause-high c = high-balanced

pub returns-clause-falling : goal.returns-clause-falling
returns-clause-falling c = falls-balanced

pub returns-clause-only : goal.returns-clause-only
returns-clause-only c = least_only

pub returns-clause-listed : goal.returns-clause-listed
returns-clause-listed c = λ k unsched version lengths j h. listed-bound (8 - k) unsched lengths j _ (least-balanced k unsched version lengths j h)
