-- How a call of a net ends.
use Rattle.std.specs.Prelude.{◌≡◌, ◌≤◌, ◌||◌, ℕ, Bool, Option, List, Result, OnOk, OnErr}
use Rattle.homa_io.specs.Outside.{HasRisen}
use Rattle.homa_plain.specs.declared.id.HostId.{HostId}
use Rattle.homa_plain.specs.Calls.{is_host}
use Rattle.node_runs.specs.Course.{Datagram, Receive}
use Rattle.node_runs.specs.Acts.{Act}
use Rattle.node_io.specs.Net.{added}

-- only an error counts a fault
pub record CountsErrors {N A E : Type 0} (faults : N → ℕ) (r : Result A E) (old new : N) : Type 0 where
  pub risen : OnErr r (HasRisen (faults old) (faults new))
  pub quiet : OnOk r (faults new ≡ faults old)
  pub never_falls : faults old ≤ faults new

-- A net learned where a host is, by this act, or it failed and knows what it knew. Either way nothing is queued, sent or given.
pub record HasLearned {N A E : Type 0} (knows : N → HostId → Bool) (queue : N → Option (List Datagram)) (did : N → Option (List Act))
    (took : N → Option (List Datagram)) (handed : N → Option (List Receive)) (faults : N → ℕ) (r : Result A E) (old new : N)
    (host : HostId) (act : Act) : Type 0 where
  pub known : OnOk r ((h : HostId) → knows new h ≡ (knows old h || is_host h host))
  pub err : OnErr r (knows new ≡ knows old)
  pub acts : OnOk r (did new ≡ added (did old) act)
  pub err_acts : OnErr r (did new ≡ did old)
  pub queued : queue new ≡ queue old
  pub sent : took new ≡ took old
  pub gave : handed new ≡ handed old
  pub counted : CountsErrors faults r old new
