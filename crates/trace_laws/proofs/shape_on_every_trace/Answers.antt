use Rattle.trace_laws.proofs.ShapedLaw.{shaped_always}
use Rattle.trace_laws.proofs.shape_on_every_trace.Goals as goal

pub returns : goal.returns
returns c = shaped_always
