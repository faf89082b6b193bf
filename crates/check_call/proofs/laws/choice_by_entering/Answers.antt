use Rattle.homa_plain.specs.Grants.{sender, choice_key}
use Rattle.check_call.proofs.Entering.{chosen-more}
use Rattle.check_call.proofs.laws.choice_by_entering.Goals as goal

pub returns : goal.returns
returns c = chosen-more sender choice_key
