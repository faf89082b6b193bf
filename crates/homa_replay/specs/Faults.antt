-- Which count of faults rose, where a command stopped.
use Rattle.std.specs.Prelude.{◌≡◌, ℕ, Result, OnOk, IsErrOf, List, []}
use Rattle.homa_io.specs.Outside.{HasRisen}
use Rattle.homa_replay.specs.declared.stop.Stop.{Stop}
use Rattle.homa_replay.specs.declared.stop.Stop.TheVariants.{Read, Write, NoMemory}

-- the source's count rose where reading failed, the sink's where writing did, and else each stays
pub record AreFaults {A : Type 0} (source source_then sink sink_then : ℕ) (result : Result A Stop) : Type 0 where
  pub quiet_source : OnOk result (source_then ≡ source)
  pub quiet_sink : OnOk result (sink_then ≡ sink)
  pub read_risen : IsErrOf result Read → HasRisen source source_then
  pub read_quiet : IsErrOf result Read → sink_then ≡ sink
  pub write_risen : IsErrOf result Write → HasRisen sink sink_then
  pub write_quiet : IsErrOf result Write → source_then ≡ source
  pub memory_source : IsErrOf result NoMemory → source_then ≡ source
  pub memory_sink : IsErrOf result NoMemory → sink_then ≡ sink

-- only a write that failed counts a fault, nothing is read, and it is the same sink
pub record OnlyWrites {K A : Type 0} (faults : K → ℕ) (is_same : K → K → Type 0) (result : Result A Stop) (old new : K) : Type 0 where
  pub write : IsErrOf result Write → HasRisen (faults old) (faults new)
  pub memory : IsErrOf result NoMemory → faults new ≡ faults old
  pub read : IsErrOf result Read → ⊥
  pub quiet : OnOk result (faults new ≡ faults old)
  pub same : is_same old new

-- each count of faults changes only with its own fault, a read that failed finds nothing held, and source and sink are the same
pub record LeavesBoth {S K A : Type 0} (faults_in : S → ℕ) (same_in : S → S → Type 0) (faults_out : K → ℕ) (same_out : K → K → Type 0)
    (held : K → List ℕ) (source source_then : S) (sink sink_then : K) (result : Result A Stop) : Type 0 where
  pub faults : AreFaults (faults_in source) (faults_in source_then) (faults_out sink) (faults_out sink_then) result
  pub read_none : IsErrOf result Read → held sink_then ≡ []
  pub same_source : same_in source source_then
  pub same_sink : same_out sink sink_then
