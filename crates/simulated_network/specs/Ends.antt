-- When a run may end.
use Rattle.std.specs.Prelude.{◌≡◌, ◌≤◌, ◌+◌, ◌&&◌, ◌⊎◌, ℕ, Bool, true, false, List, [], if◌then◌else◌}
use Rattle.std.specs.List.{sum_by}
use Rattle.experiment.specs.declared.load.Load.{Load}
use Rattle.call_figures.specs.declared.calls.CallEnd.{CallEnd}
use Rattle.call_figures.specs.declared.calls.CallEnd.TheVariants.{Open, Done, Timeout, Forgotten, Restarted}
use Rattle.call_figures.specs.declared.calls.SimCall.{SimCall}
use Rattle.simulated_network.specs.Measured.{is_measured}
use Rattle.simulated_network.specs.Runs.{RunState}

-- the call hasn't ended
abbrev pub is_open : CallEnd → Bool
is_open Open = true
is_open Done = false
is_open Timeout = false
is_open Forgotten = false
is_open Restarted = false

-- 1 if the call is measured and hasn't ended
abbrev pub one_unended : Load → SimCall → ℕ
one_unended load c = if is_measured load c.drawn && is_open c.end then 1 else 0

-- how many of these calls are measured and haven't ended
abbrev pub unended_of : Load → List SimCall → ℕ
unended_of load calls = sum_by (one_unended load) calls

-- All calls that are measured were drawn, and those of them that were made have ended.
pub record AreOver (n : RunState) : Type 0 where
  pub drawn : n.load.warm + n.load.calls ≤ n.drawn
  pub ended : unended_of n.load n.calls ≡ 0

-- A run may end if its measured calls are over, if as many as these and 1000 more were drawn behind them, or if nothing is due.
abbrev pub MayEnd : RunState → Type 0
MayEnd n = AreOver n ⊎ ((n.load.warm + n.load.calls + (n.load.calls + 1000) ≤ n.drawn) ⊎ (n.agenda.dues ≡ []))
