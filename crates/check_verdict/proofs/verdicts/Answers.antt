use Rattle.check_verdict.proofs.TextLaws.{yes_is, no_is}
use Rattle.check_verdict.proofs.verdicts.Goals as goal

pub returns : goal.returns
returns c = record { yes = yes_is; no = no_is }
