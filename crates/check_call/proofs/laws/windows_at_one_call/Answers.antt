use Rattle.check_call.proofs.Within.{within_line}
use Rattle.check_call.proofs.laws.windows_at_one_call.Goals as goal

pub returns : goal.returns
returns c = within_line
