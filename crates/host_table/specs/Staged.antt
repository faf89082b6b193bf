-- The hosts with their boxes, and what a step of one of them does.
use Rattle.std.specs.Prelude.{◌≡◌, ◌≤◌, ◌<◌, ◌+◌, ◌^◌, ℕ, Option, Some, if◌then◌else◌, List, length, map, take, drop, replicate, slice_set}
use Rattle.std.specs.List.{AllByRecursion}
use Rattle.homa_plain.specs.declared.id.HostId.{HostId}
use Rattle.homa_plain.specs.declared.settings.Settings.{Settings}
use Rattle.homa_plain.specs.Settings.{IsValid}
use Rattle.homa_plain.specs.Limits.{most_services}
use Rattle.homa_plain.specs.Host.{Host}
use Rattle.homa_plain.specs.Packets.{Packet}
use Rattle.homa_plain.specs.World.{new_hosts}
use Rattle.homa_plain.specs.Rules.{Answer}
use Rattle.homa_plain.specs.Work.{Work}
use Rattle.homa_plain.specs.Steps.{arrival_step}
use Rattle.host_view.specs.declared.outbox.SentFrame.{SentFrame}
use Rattle.host_view.specs.Seen.{Seen}
use Rattle.host_view.specs.Marks.{has_ran, IsAllowed}
use Rattle.host_view.specs.Done.{IsDone}
use Rattle.homa_host.specs.Public.{IsSameHost}
use Rattle.homa_service.specs.Table.{places, spares, place_of}
use Rattle.host_table.specs.declared.stage.Stage.{Stage}

-- the hosts
abbrev pub hosts_of : {S : Type 0} → Stage S → List Seen
hosts_of st = st.hosts.items

-- the frames of the last step
abbrev pub frames_of : {S : Type 0} → Stage S → List SentFrame
frames_of st = st.outbox

-- the message that became whole in it
abbrev pub whole_of : {S : Type 0} → Stage S → List ℕ
whole_of st = st.scratch

-- a host with its settings
pub record Known : Type 0 where
  pub settings : Settings
  pub host : Host

-- a host that is seen, without what its last step told
abbrev pub known : Seen → Known
known h = record { settings = h.settings; host = h.host }

-- the hosts without what their last steps told
abbrev pub known_of : {S : Type 0} → Stage S → List Known
known_of st = map known (hosts_of st)

-- a host with these settings
abbrev pub known_in : Settings → Host → Known
known_in s h = record { settings = s; host = h }

-- hosts that have done nothing, in these incarnations
abbrev pub known_first : Settings → List ℕ → List Known
known_first s incs = map (known_in s) (new_hosts s 0 incs)

-- the first so many hosts, each in its first life
abbrev pub first_known : Settings → ℕ → List Known
first_known s n = known_first s (replicate n 1)

-- the hosts' boxes
abbrev pub seats_of : {S : Type 0} → Stage S → List (Option S)
seats_of st = places st.services

-- the boxes of hosts that restart
abbrev pub spares_of : {S : Type 0} → Stage S → List S
spares_of st = spares st.services

-- the settings can be used, there is a box for each host, and a table has room for all boxes
pub record MaySeat {S : Type 0} (s : Settings) (boxes : List S) : Type 0 where
  pub valid : IsValid s
  pub enough : s.hosts ≤ length boxes
  pub at_most : length boxes ≤ most_services

-- each host has the box with its number, and the others are spare
pub record AreSeated {S : Type 0} (s : Settings) (boxes : List S) (st : Stage S) : Type 0 where
  pub seats : seats_of st ≡ map Some (take s.hosts boxes)
  pub spares : spares_of st ≡ drop s.hosts boxes

-- a step may begin at a host, at this tick of its own clock
pub record MayStep (now : ℕ) (h : Seen) : Type 0 where
  pub last : h.host.last ≤ now
  pub order : h.host.order < 2 ^ 63

-- a host did a step, and left its frames and a message that became whole
pub record HasStepped {S : Type 0} (now : ℕ) (id : HostId) (h : Seen) (step : Work) (old new : Stage S) : Type 0 where
  pub after : Seen
  pub hosts : hosts_of new ≡ slice_set (hosts_of old) id.0 after
  pub done : IsDone h step after (frames_of new) (whole_of new)
  pub same : IsSameHost h after
  pub last : after.host.last ≡ now

-- a host's box was lent to a step: it allows nothing that it didn't allow before
pub record IsLent {S : Type 0} (allows : S → ℕ → ℕ → List ℕ → List ℕ → ℕ → Type 0) (id : HostId) (old new : Stage S) : Type 0 where
  pub had : S
  pub seat : S
  pub place : place_of (seats_of old) id.0 ≡ Some had
  pub seats : seats_of new ≡ slice_set (seats_of old) id.0 (Some seat)
  pub spares : spares_of new ≡ spares_of old
  pub before : (count number hold : ℕ) (q r : List ℕ) → allows seat count number q r hold → allows had count number q r hold

-- a packet came to a host, whose box gave this answer if it was asked
pub record HasCome {S : Type 0} (served : S → ℕ) (allows : S → ℕ → ℕ → List ℕ → List ℕ → ℕ → Type 0) (now : ℕ) (id : HostId) (h : Seen)
    (o : Option Packet) (old new : Stage S) : Type 0 where
  pub answer : Answer
  pub stepped : HasStepped now id h (arrival_step h.settings h.host now o answer) old new
  pub lent : IsLent allows id old new
  pub count : served lent.seat ≡ (if has_ran stepped.after.marks then served lent.had + 1 else served lent.had)
  pub allowed : AllByRecursion (IsAllowed stepped.after.host (allows lent.had (served lent.had)) (whole_of new)) stepped.after.marks

-- no packet came, and the box gave no answer
pub record HasNotCome {S : Type 0} (served : S → ℕ) (allows : S → ℕ → ℕ → List ℕ → List ℕ → ℕ → Type 0) (id : HostId) (old new : Stage S) : Type 0 where
  pub known : known_of new ≡ known_of old
  pub lent : IsLent allows id old new
  pub count : served lent.seat ≡ served lent.had
