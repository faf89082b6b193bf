use Rattle.host_laws.proofs.Shown.{call-shown, arrival-shown, turn-shown}
use Rattle.host_laws.proofs.laws.entries_are_marks.Goals as goal

pub returns : goal.returns
returns c = record { call = call-shown; arrival = arrival-shown; turn = turn-shown }
