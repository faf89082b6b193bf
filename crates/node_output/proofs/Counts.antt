-- The counts of faults behind a recording.
use Rattle.std.proofs.Common.{◌≡◌, ◌⊎◌, inl, inr, ℕ, Option, Result, Ok, Err, List, sym, ap, ◌∙◌, subst}
use Rattle.homa_io.specs.Outside.{HasRisen}
use Rattle.node_io.specs.declared.observer.SeenFault.TheVariants as seen
use Rattle.node_turns.specs.Faults.{Counts, counts, AreFaults}
use Rattle.node_turns.specs.declared.stop.NodeStop.{NodeStop}
use Rattle.node_turns.specs.declared.stop.NodeStop.TheVariants as stop
use Rattle.node_output.specs.declared.recording_end.Recorded.{Recorded}
use Rattle.node_output.specs.declared.recording_end.Recorded.TheVariants as status
use Rattle.node_output.specs.RecordingEnds.{PutsEnd, HaveFaults, end_of}

module _ (s0 s1 n0 n1 k0 k1 k2 : ℕ) where
  -- all counts stayed
  same_sum : counts s1 n1 k1 ≡ counts s0 n0 k0 → k2 ≡ k1 → counts s1 n1 k2 ≡ counts s0 n0 k0
  same_sum e same = ap (λ (k : ℕ). counts s1 n1 k) same ∙ e

  source_same : counts s1 n1 k1 ≡ counts s0 n0 k0 → s1 ≡ s0
  source_same e = ap (λ (c : Counts). c.source) e

  net_same : counts s1 n1 k1 ≡ counts s0 n0 k0 → n1 ≡ n0
  net_same e = ap (λ (c : Counts). c.net) e

  sink_same : counts s1 n1 k1 ≡ counts s0 n0 k0 → k1 ≡ k0
  sink_same e = ap (λ (c : Counts). c.sink) e

  -- the last line was printed, or the sink failed at it
  by_end : {A B : Type 0} → (result good : Recorded) → (counts s1 n1 k2 ≡ counts s0 n0 k0 → HaveFaults (counts s0 n0 k0) (counts s1 n1 k2) good)
      → counts s1 n1 k1 ≡ counts s0 n0 k0 → (A × (k2 ≡ k1) × (result ≡ good)) ⊎ (B × HasRisen k1 k2 × (result ≡ status.WriteFailed))
      → HaveFaults (counts s0 n0 k0) (counts s1 n1 k2) result
  by_end result good so same (inl (text, quiet, is)) = subst (HaveFaults (counts s0 n0 k0) (counts s1 n1 k2)) (sym is) (so (same_sum same quiet))
  by_end result good so same (inr (text, risen, is)) =
      subst (HaveFaults (counts s0 n0 k0) (counts s1 n1 k2)) (sym is)
      (subst (λ (k : ℕ). HasRisen k k2) (sink_same same) risen, source_same same, net_same same)

  -- a fault comes where its count rose, and then always
  pub faults_by : (old new : Option (List ℕ)) (served : Result ℕ NodeStop) (result : Recorded) → AreFaults (counts s0 n0 k0) (counts s1 n1 k1) served
      → PutsEnd old new k1 k2 served result (end_of served) → HaveFaults (counts s0 n0 k0) (counts s1 n1 k2) result
  faults_by old new (Ok turns) result a p = by_end result status.Done (λ e. e) a p
  faults_by old new (Err (stop.Script line fault)) result a p = by_end result status.Refused (λ e. e) a p
  faults_by old new (Err (stop.Start line fault)) result a p = by_end result status.Refused (λ e. e) a p
  faults_by old new (Err (stop.Host line)) result a p = by_end result status.Refused (λ e. e) a p
  faults_by old new (Err (stop.Stalled turns now)) result a p = by_end result status.Stalled (λ e. e) a p
  faults_by old new (Err stop.Read) result a p = subst (HaveFaults (counts s0 n0 k0) (counts s1 n1 k2)) (sym p.2) (a.0, a.1, p.1 ∙ a.2)
  faults_by old new (Err stop.Net) result a p = subst (HaveFaults (counts s0 n0 k0) (counts s1 n1 k2)) (sym p.2) (a.0, a.1, p.1 ∙ a.2)
  faults_by old new (Err (stop.Seen (seen.Write failed))) result a p =
      subst (HaveFaults (counts s0 n0 k0) (counts s1 n1 k2)) (sym p.2) (subst (λ (k : ℕ). HasRisen k0 k) (sym p.1) a.0, a.1, a.2)
  faults_by old new (Err (stop.Seen seen.Stranger)) result a p = subst (HaveFaults (counts s0 n0 k0) (counts s1 n1 k2)) (sym p.2) (same_sum a p.1)
  faults_by old new (Err (stop.Seen seen.NoMemory)) result a p = subst (HaveFaults (counts s0 n0 k0) (counts s1 n1 k2)) (sym p.2) (same_sum a p.1)
  faults_by old new (Err stop.NoMemory) result a p = subst (HaveFaults (counts s0 n0 k0) (counts s1 n1 k2)) (sym p.2) (same_sum a p.1)
