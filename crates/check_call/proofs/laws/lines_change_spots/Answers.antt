use Rattle.check_call.proofs.Lines.{line_spot, line_undo}
use Rattle.check_call.proofs.laws.lines_change_spots.Goals as goal

pub returns : goal.returns
returns c = record { spots = line_spot; undo = line_undo }
