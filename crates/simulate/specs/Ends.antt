-- How the program ends.
use Rattle.std.specs.Prelude.{ℕ, List, Ok, Err}
use Rattle.experiment.specs.declared.fault.ExperimentFault.{ExperimentFault}
use Rattle.experiment.specs.declared.fault.ExperimentFault.TheVariants as fault
use Rattle.experiment.specs.declared.trial.Experiment.{Experiment}
use Rattle.experiment.specs.Texts.{IsExperimentOf}
use Rattle.simulation.specs.declared.stop.SimStop.{SimStop}
use Rattle.simulation.specs.declared.stop.SimStop.TheVariants as stop
use Rattle.simulate.specs.declared.ended.Ended.{Ended}
use Rattle.simulate.specs.declared.ended.Ended.TheVariants.{Printed, Helped, Words, Unread, Stopped}

-- the status of a run that stopped
abbrev pub status_of_stop : SimStop → ℕ
status_of_stop stop.Write = 4
status_of_stop other = 3

-- the status where what was read is no experiment
abbrev pub status_of_fault : ExperimentFault → ℕ
status_of_fault fault.NoMemory = 3
status_of_fault other = 2

-- the program's status
abbrev pub status_of : Ended → ℕ
status_of Printed = 0
status_of Helped = 0
status_of (Words fault) = 1
status_of (Unread fault) = status_of_fault fault
status_of (Stopped stop) = status_of_stop stop

-- the bytes of an input are an experiment
abbrev pub IsExperiment : List ℕ → Type 0
IsExperiment bytes = (e : Experiment) × IsExperimentOf bytes (Ok e)

-- what the bytes of an input say of how the program ended: it ran if they are an experiment, and otherwise they have this fault
abbrev pub IsRead : List ℕ → Ended → Type 0
IsRead bytes Printed = IsExperiment bytes
IsRead bytes (Stopped stop) = IsExperiment bytes
IsRead bytes (Unread fault) = IsExperimentOf bytes (Err fault)
IsRead bytes Helped = ⊥
IsRead bytes (Words fault) = ⊥
