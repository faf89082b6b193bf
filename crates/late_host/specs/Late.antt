-- A host that keeps what asks.
use Rattle.std.specs.Prelude.{◌≡◌, ℕ, Option, None, Some, List, [], ◌∷◌, ◌++◌}
use Rattle.std.specs.List.{AllByRecursion}
use Rattle.homa_plain.specs.declared.id.CallId.{CallId}
use Rattle.homa_plain.specs.declared.id.HostId.{HostId}
use Rattle.homa_plain.specs.declared.settings.Settings.{Settings}
use Rattle.homa_plain.specs.Rules.{Answer}
use Rattle.homa_plain.specs.Work.{Work}
use Rattle.homa_plain.specs.Steps.{arrival_step}
use Rattle.host_view.specs.declared.mark.Mark.{Mark}
use Rattle.host_view.specs.Done.{arriving}
use Rattle.host_view.specs.Marks.{IsAllowed}
use Rattle.driven_host.specs.Driven.{Driven, IsStep, IsStill, ShowsNothing}
use Rattle.driven_host.specs.Asking.{opened, IsGiven}
use Rattle.late_host.specs.declared.kept.KeptCall.{KeptCall}
use Rattle.late_host.specs.Kept.{HasRoomMade, without}
use Rattle.late_host.specs.Ran.{ran_in}

-- a host that its caller answers, the calls that are kept, how many may be, and for how many ticks their datagrams may be delivered
pub record Late : Type 0 where
  pub driven : Driven
  pub calls : List KeptCall
  pub room : ℕ
  pub keep : ℕ

-- a host without calls, that keeps so many for so many ticks
abbrev pub late_opened : Settings → HostId → ℕ → ℕ → ℕ → ℕ → Late
late_opened settings id inc last room keep =
    record { driven = opened settings id inc last; calls = []; room = room; keep = keep }

-- the step of a datagram from a host, with this answer of its service
abbrev pub arrives : Driven → ℕ → HostId → List ℕ → Answer → Work
arrives d now from frame answer = arrival_step d.host.settings d.host.host now (arriving d.host from frame) answer

-- the host took the step of this datagram, with some answer
abbrev pub HasArrived : ℕ → HostId → List ℕ → Driven → Driven → Type 0
HasArrived now from frame old new = (a : Answer) × IsStep (arrives old now from frame a) old new

-- each call that ran in the last step was given these bytes, which are some
abbrev pub WasGiven : List ℕ → Driven → Type 0
WasGiven answer d = AllByRecursion (IsAllowed d.host.host (IsGiven answer) d.whole) d.host.marks

-- nothing happened to the host, and no frame and no entry is shown
pub record LeavesHost (old new : Driven) : Type 0 where
  pub same : IsStill old new
  pub shows : ShowsNothing new

-- a call that waits for its answer, with the datagram that asked for it
abbrev pub waiting : CallId → HostId → ℕ → List ℕ → KeptCall
waiting id from at frame = record { id = id; from = from; at = at; frame = frame; answer = [] }

-- a call with a newer datagram
abbrev pub asked_again : HostId → ℕ → List ℕ → KeptCall → KeptCall
asked_again from at frame call = record call { from = from; at = at; frame = frame }

-- a call with its answer
abbrev pub with_answer : List ℕ → KeptCall → KeptCall
with_answer answer call = record call { answer = answer }

-- the call that asks with this datagram is kept beside the others, of which one may have gone to make room
abbrev pub IsKeptToo : CallId → HostId → ℕ → List ℕ → Late → Late → Type 0
IsKeptToo id from now frame old new =
    (calls : List KeptCall) × HasRoomMade old.keep now old.room old.calls calls × (new.calls ≡ calls ++ waiting id from now frame ∷ [])

-- the calls without this one, if there is one
abbrev pub without_any : Option CallId → List KeptCall → List KeptCall
without_any None calls = calls
without_any (Some id) calls = without id calls

-- the calls without the one that ran in a step with these marks
abbrev pub without_ran : List Mark → List KeptCall → List KeptCall
without_ran marks calls = without_any (ran_in marks) calls
