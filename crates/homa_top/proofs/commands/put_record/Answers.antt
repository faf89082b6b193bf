use Rattle.std.proofs.Common.{◌∙◌, sym}
use Rattle.homa_top.proofs.RecordEnds.{has_recorded, is_command, have_status}
use Rattle.homa_top.proofs.commands.put_record.Goals as goal

-- a node's services are ready as a world's are
pub print_recording-requires-clause-ready : goal.print_recording-requires-clause-ready
print_recording-requires-clause-ready g c = record { enough = c.requires.ready.enough; at_most = c.requires.ready.at_most; none = c.requires.ready.none }

pub returns-clause-recorded : goal.returns-clause-recorded
returns-clause-recorded g c =
    λ bytes had. rw c.status_of_recorded.ensures (has_recorded _ bytes _ _ _ c.print_recording.result (c.print_recording.ensures.recorded bytes had))

pub returns-clause-command : goal.returns-clause-command
returns-clause-command g c = λ e. is_command c.print_recording.result (sym c.status_of_recorded.ensures ∙ e)

pub returns-clause-faults : goal.returns-clause-faults
returns-clause-faults g c = rw c.status_of_recorded.ensures (have_status _ _ c.print_recording.result c.print_recording.ensures.faults)
