-- A host that is driven by hand.
use Rattle.std.specs.Prelude.{◌≡◌, ◌≢◌, ◌<◌, ◌≤◌, ◌*◌, ◌^◌, ℕ, Option, List, []}
use Rattle.homa_plain.specs.declared.id.HostId.{HostId}
use Rattle.homa_plain.specs.Limits.{last_host_tick}
use Rattle.homa_plain.specs.Work.{Work}
use Rattle.host_view.specs.declared.outbox.SentFrame.{SentFrame}
use Rattle.host_view.specs.Seen.{Seen}
use Rattle.host_view.specs.Done.{IsDone, HoldsSent}
use Rattle.homa_service.specs.Suite.{suite_answer}
use Rattle.driven_host.specs.declared.counts.HostCounts.{HostCounts}

-- a host, how many answers its service gave, how many steps were begun, and what was counted, where that is asked for. Its last step
-- left its frames, the message that became whole, and who sent the datagram that came.
pub record Driven : Type 0 where
  pub host : Seen
  pub served : ℕ
  pub steps : ℕ
  pub out : List SentFrame
  pub whole : List ℕ
  pub from : Option HostId
  pub counts : HostCounts

-- the host, the entries and the frames are those of a plain step
abbrev pub IsStep : Work → Driven → Driven → Type 0
IsStep step old new = IsDone old.host step new.host new.out new.whole

-- nothing happened to the host and its service
pub record IsStill (old new : Driven) : Type 0 where
  pub host : new.host.host ≡ old.host.host
  pub settings : new.host.settings ≡ old.host.settings
  pub served : new.served ≡ old.served

-- no frame and no entry of a last step is shown
pub record ShowsNothing (d : Driven) : Type 0 where
  pub out : d.out ≡ []
  pub marks : d.host.marks ≡ []

-- there is another host of this name
pub record IsOther (h : Seen) (id : HostId) : Type 0 where
  pub known : id.0 < h.settings.hosts
  pub other : id ≢ h.host.id

-- what the suite of services may answer, after so many answers
abbrev pub may_answer : ℕ → ℕ → List ℕ → List ℕ → ℕ → Type 0
may_answer count number request response hold = record { bytes = response; hold = hold } ≡ suite_answer count number request

-- a host that began so many steps may begin one at this tick of its own clock
pub record MayBegin (h : Seen) (steps now : ℕ) : Type 0 where
  pub now_is : now ≤ last_host_tick
  pub later : h.host.last ≤ now
  pub few : steps < 2 ^ 56

-- what stands beside a host is the host's, and its numbers grow with its steps
pub record IsKept (h : Seen) (served : ℕ) (out : List SentFrame) (id : HostId) (hosts steps : ℕ) : Type 0 where
  pub name : h.host.id ≡ id
  pub hosts_are : h.settings.hosts ≡ hosts
  pub order : h.host.order ≤ 64 * steps
  pub served_few : served ≤ steps
  pub few : steps ≤ 2 ^ 56
  pub sent : HoldsSent h out
