-- What ran is the experiment that was read.
use Rattle.simulate.proofs.answering.answer.Goals as goal

pub returns-in-Ok-print : goal.returns-in-Ok-print
returns-in-Ok-print g c = λ bytes left. (c.in-Ok.experiment, c.in-Ok.ensures.text bytes left)

pub returns : goal.returns
returns g c = λ bytes left. (c.in-Ok.experiment, c.in-Ok.ensures.text bytes left)
