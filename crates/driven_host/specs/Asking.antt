-- A host whose requests its caller answers.
use Rattle.std.specs.Prelude.{◌≡◌, ◌≢◌, ◌<◌, ◌≤◌, ◌*◌, ◌^◌, ℕ, Bool, true, false, Option, Some, None, List, []}
use Rattle.std.specs.List.{list_any}
use Rattle.plain_sets.specs.Maps.{empty, len}
use Rattle.homa_plain.specs.declared.id.HostId.{HostId}
use Rattle.homa_plain.specs.declared.settings.Settings.{Settings}
use Rattle.homa_plain.specs.Host.{new_host, pages_for}
use Rattle.homa_plain.specs.Limits.{longest_message}
use Rattle.host_view.specs.declared.mark.Mark.{Mark}
use Rattle.host_view.specs.declared.mark.Mark.TheVariants.{Ran, Done}
use Rattle.host_view.specs.declared.outbox.SentFrame.{SentFrame}
use Rattle.host_view.specs.Seen.{Seen}
use Rattle.host_view.specs.Done.{HoldsSent}
use Rattle.driven_host.specs.Driven.{Driven, IsOther, MayBegin}
use Rattle.driven_host.specs.Counts.{none_counted}
use Rattle.driven_host.specs.Turns.{IsAtRest}
use Rattle.driven_host.specs.declared.asking.Came.{Came}
use Rattle.driven_host.specs.declared.asking.Came.TheVariants.{Taken, Asks, NoMemory, Refused}
use Rattle.driven_host.specs.declared.faults.StepFault.{StepFault}

-- a host without calls, in this incarnation, whose own clock stood at this tick: it sent and told nothing yet
abbrev pub opened : Settings → HostId → ℕ → ℕ → Driven
opened settings id inc last = record {
  host = record { settings = settings; host = new_host settings id inc last; client_places = empty; server_places = empty; marks = [] };
  served = 0;
  steps = 0;
  out = [];
  whole = [];
  from = None;
  counts = none_counted;
}

-- a call of another host with a request of so many bytes may be tried at this tick: it starts unless each number of this incarnation was used
pub record MayCall (h : Seen) (steps : ℕ) (server : HostId) (bytes now : ℕ) : Type 0 where
  pub begins : MayBegin h steps now
  pub other : IsOther h server
  pub some : 1 ≤ bytes
  pub most : bytes ≤ longest_message
  pub fits : pages_for bytes ≤ h.settings.pages
  pub room : len h.host.clients < h.settings.calls

-- a message became whole with this mark: a request that was answered, or the response of a call that is done
abbrev pub is_whole : Mark → Bool
is_whole (Ran id service hold) = true
is_whole (Done id) = true
is_whole mark = false

-- a message became whole in a step with these marks
abbrev pub has_whole : List Mark → Bool
has_whole marks = list_any is_whole marks

-- the answer that the caller has in hand, which is none where it has no bytes
abbrev pub IsGiven : List ℕ → ℕ → List ℕ → List ℕ → ℕ → Type 0
IsGiven answer number request response hold = (answer ≢ []) × (response ≡ answer) × (hold ≡ 0)

-- why a datagram was refused, if it was
abbrev pub refusal : Came → Option StepFault
refusal Taken = None
refusal (Asks asked) = None
refusal NoMemory = None
refusal (Refused fault) = Some fault

-- what stands beside a host is the host's, and its numbers grow with its steps
pub record IsKept (h : Seen) (served : ℕ) (out : List SentFrame) (id : HostId) (hosts calls pages steps : ℕ) : Type 0 where
  pub name : h.host.id ≡ id
  pub hosts_are : h.settings.hosts ≡ hosts
  pub calls_are : h.settings.calls ≡ calls
  pub pages_are : h.settings.pages ≡ pages
  pub order : h.host.order ≤ 64 * steps
  pub served_few : served ≤ steps
  pub few : steps ≤ 2 ^ 56
  pub sent : HoldsSent h out
  pub rest : IsAtRest h
