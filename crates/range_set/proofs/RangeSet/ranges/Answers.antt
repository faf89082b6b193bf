use Rattle.std.proofs.Common.{length, ap, sym, ◌∙◌}
use Rattle.plain_sets.proofs.RangeLaws.{ranges-set_of_ranges}
use Rattle.range_set.specs.Kept.{plain}
use Rattle.range_set.proofs.PlainRanges.{length-plain}
use Rattle.range_set.proofs.RangeSet.ranges.Goals as goal

pub returns-clause-value : goal.returns-clause-value
returns-clause-value c =
    rw (c.len.ensures.value, ← c.self.view_is)
    (sym (ap length (ranges-set_of_ranges (plain c.self.inside.kept.items) c.self.invariant.apart) ∙ length-plain c.self.inside.kept.items))
