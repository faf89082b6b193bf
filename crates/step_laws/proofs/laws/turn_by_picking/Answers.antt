use Rattle.step_laws.proofs.Picking.{acts-picked}
use Rattle.step_laws.proofs.laws.turn_by_picking.Goals as goal

pub returns : goal.returns
returns c s w resend = acts-picked s resend w
