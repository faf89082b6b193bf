use Rattle.answer_laws.proofs.Repeated.{suites_repeat}
use Rattle.answer_laws.proofs.suites_repeat.Goals as goal

pub returns : goal.returns
returns c = suites_repeat
