use Rattle.check_call.proofs.PartLaws.{opened_part, opened_count}
use Rattle.check_call.proofs.part.Part.opened.Goals as goal

pub returns-clause-part : goal.returns-clause-part
returns-clause-part c host peer set = opened_part host peer set c.args.length c.args.unsched c.min.result c.min.ensures

pub returns-clause-counted : goal.returns-clause-counted
returns-clause-counted c set = opened_count
