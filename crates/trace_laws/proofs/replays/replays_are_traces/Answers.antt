use Rattle.trace_laws.proofs.Causes.{replay_cause}
use Rattle.trace_laws.proofs.Openings.{opening_valid, finished_opens}
use Rattle.trace_laws.proofs.Obeyed.{replay_told}
use Rattle.trace_laws.proofs.replays.replays_are_traces.Goals as goal

pub returns-clause-valid : goal.returns-clause-valid
returns-clause-valid c = opening_valid

pub returns-clause-told : goal.returns-clause-told
returns-clause-told c = replay_told

pub returns-clause-cause : goal.returns-clause-cause
returns-clause-cause c = replay_cause

pub returns-clause-finished : goal.returns-clause-finished
returns-clause-finished c = finished_opens
