use Rattle.std.proofs.Common.{ap, ◌∙◌}
use Rattle.std.proofs.lemmas.Bool.{cases_lt}
use Rattle.plain_sets.specs.Numbers.{set_of_ranges}
use Rattle.range_set.proofs.SetAnswers.{upto_ranges}
use Rattle.range_set.proofs.RangeSet.upto.Goals as goal

pub returns : goal.returns
returns c = ap set_of_ranges c.upto.ensures ∙ upto_ranges c.args.len (cases_lt 0 c.args.len)
