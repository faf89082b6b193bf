-- What comes of a datagram, and of an answer.
use Rattle.std.specs.Prelude.{◌≡◌, ◌≢◌, ◌<◌, ◌≤◌, ◌+◌, ◌⊎◌, ◌==◌, ℕ, true, if◌then◌else◌, Option, Some, None, List, [], length, All, IsSome, IfSome, IsSomeAnd}
use Rattle.homa_plain.specs.declared.id.CallId.{CallId}
use Rattle.homa_plain.specs.declared.id.HostId.{HostId}
use Rattle.homa_plain.specs.Rules.{Answer}
use Rattle.homa_plain.specs.Steps.{has_run}
use Rattle.homa_host.specs.declared.asked.Asked.{Asked}
use Rattle.homa_host.specs.Asking.{HasAsked}
use Rattle.driven_host.specs.declared.faults.StepFault.{StepFault}
use Rattle.driven_host.specs.declared.faults.StepFault.TheVariants.{Empty}
use Rattle.driven_host.specs.declared.counts.HostCounts.{HostCounts}
use Rattle.driven_host.specs.Driven.{Driven}
use Rattle.driven_host.specs.Counts.{counted, with_received, with_asked}
use Rattle.driven_host.specs.Faults.{delivery_fault}
use Rattle.late_host.specs.declared.kept.KeptCall.{KeptCall}
use Rattle.late_host.specs.declared.outcomes.Heard.{Heard}
use Rattle.late_host.specs.declared.outcomes.Heard.TheVariants as heard
use Rattle.late_host.specs.declared.outcomes.Answered.{Answered}
use Rattle.late_host.specs.declared.outcomes.Answered.TheVariants as answered
use Rattle.late_host.specs.Kept.{call_of, without, changed, IsFresh, IsInLife}
use Rattle.late_host.specs.Late.{Late, arrives, HasArrived, WasGiven, LeavesHost, IsKeptToo, asked_again, with_answer}
use Rattle.late_host.specs.Ran.{ran_in, served_in}

module _ (now : ℕ) (from : HostId) (frame : List ℕ) (old new : Late) where
  -- the datagram asks for this call, whatever the answer will be
  abbrev pub AsksFor : CallId → Type 0
  AsksFor id = (a : Answer) → served_in (arrives old.driven now from frame a).told ≡ Some id

  -- The host took the step of the datagram without an answer. No call ran, and those that are kept stay.
  pub record IsTaken : Type 0 where
    pub step : HasArrived now from frame old.driven new.driven
    pub unrun : ran_in new.driven.host.marks ≡ None
    pub calls : new.calls ≡ old.calls

  -- The datagram asks for a call whose answer is kept. The host took the step with that answer, and ran the call.
  pub record IsRun (id : CallId) : Type 0 where
    pub step : HasArrived now from frame old.driven new.driven
    pub ran : ran_in new.driven.host.marks ≡ Some id
    pub given : IsSomeAnd (call_of id old.calls) (λ call. WasGiven call.answer new.driven)
    pub calls : new.calls ≡ without id old.calls

  -- The datagram asks for a call that isn't kept. It is told, and kept from now on.
  pub record IsTold (e : Asked) : Type 0 where
    pub asks : (a : Answer) → HasAsked e.id e.number new.driven.whole (arrives old.driven now from frame a).told
    pub untold : call_of e.id old.calls ≡ None
    pub kept : IsKeptToo e.id from now frame old new
    pub leaves : LeavesHost old.driven new.driven

  -- The datagram asks for a call that is kept, and takes the place of the one before. The call waits for its answer, or the
  -- host can't take the step with it, since its steps came to their end.
  pub record IsAskedAgain (id : CallId) : Type 0 where
    pub asks : AsksFor id
    pub told : IsSome (call_of id old.calls)
    pub waits : IfSome (call_of id old.calls)
        (λ call. (call.answer ≡ []) ⊎ IsSome (delivery_fault new.driven.host new.driven.steps from (length call.answer) now))
    pub calls : new.calls ≡ changed id (asked_again from now frame) old.calls
    pub leaves : LeavesHost old.driven new.driven

  -- The datagram asks for a call that isn't kept, and there is no room: each datagram that is kept may still be delivered.
  pub record IsUnkept (id : CallId) : Type 0 where
    pub asks : AsksFor id
    pub untold : call_of id old.calls ≡ None
    pub full : old.room ≤ length old.calls
    pub fresh : All (IsFresh old.keep now) old.calls
    pub calls : new.calls ≡ old.calls
    pub leaves : LeavesHost old.driven new.driven

  -- The datagram asks for a call, and there is no memory.
  pub record IsUnstored : Type 0 where
    pub asks : (a : Answer) → has_run (arrives old.driven now from frame a).told ≡ true
    pub calls : new.calls ≡ old.calls
    pub leaves : LeavesHost old.driven new.driven

  -- what came of the datagram
  abbrev pub IsHeard : Heard → Type 0
  IsHeard heard.Taken = IsTaken
  IsHeard (heard.Ran id) = IsRun id
  IsHeard (heard.Asks e) = IsTold e
  IsHeard (heard.AtWork id) = IsAskedAgain id
  IsHeard (heard.Full id) = IsUnkept id
  IsHeard heard.NoMemory = IsUnstored
  IsHeard (heard.Refused fault) = new ≡ old

-- why no step began
abbrev pub heard_fault : Heard → Option StepFault
heard_fault (heard.Refused fault) = Some fault
heard_fault h = None

-- What was counted behind the datagram, from what was counted before. A datagram that asks is counted as one, also where its
-- call's answer was kept.
abbrev pub heard_counts : Heard → HostCounts → Driven → HostCounts
heard_counts heard.Taken c d = counted (with_received c) d.host.marks d.out
heard_counts (heard.Ran id) c d = counted (with_received (with_asked c)) d.host.marks d.out
heard_counts (heard.Refused fault) c d = c
heard_counts h c d = with_asked c

-- why the answer to this call, of so many bytes, can't be given
abbrev pub answer_fault : Late → KeptCall → ℕ → ℕ → Option StepFault
answer_fault l call bytes now =
    if bytes == 0 then Some Empty else delivery_fault l.driven.host l.driven.steps call.from bytes now

module _ (id : CallId) (answer : List ℕ) (now : ℕ) (old new : Late) where
  -- the call waits for an answer, and this one can be given, or can't be for this cause
  abbrev pub IsAwaited : Option StepFault → Type 0
  IsAwaited fault = IsSomeAnd (call_of id old.calls) (λ call. (call.answer ≡ []) × (answer_fault old call (length answer) now ≡ fault))

  -- The host took the step of the datagram that asked last for the call, which is fresh. What ran was given this answer.
  pub record IsGivenStep : Type 0 where
    pub awaited : IsAwaited None
    pub fresh : IfSome (call_of id old.calls) (IsFresh old.keep now)
    pub in_life : IfSome (call_of id old.calls) (IsInLife old.driven.host.settings.life old.keep now)
    pub step : IfSome (call_of id old.calls) (λ call. HasArrived now call.from call.frame old.driven new.driven)
    pub given : WasGiven answer new.driven

  -- The step ran the call, which isn't kept any more.
  pub record IsAnswered : Type 0 where
    pub step : IsGivenStep
    pub ran : ran_in new.driven.host.marks ≡ Some id
    pub calls : new.calls ≡ without id old.calls

  -- The step didn't run the call, and the answer is kept.
  pub record IsHeld : Type 0 where
    pub step : IsGivenStep
    pub unrun : ran_in new.driven.host.marks ≢ Some id
    pub calls : new.calls ≡ changed id (with_answer answer) old.calls

  -- The datagram isn't fresh. No step was taken, and the answer is kept.
  pub record IsLater : Type 0 where
    pub awaited : IsAwaited None
    pub stale : IfSome (call_of id old.calls) (λ call. call.at + old.keep < now)
    pub calls : new.calls ≡ changed id (with_answer answer) old.calls
    pub driven : new.driven ≡ old.driven

  -- No call of this id waits for an answer.
  pub record IsGone : Type 0 where
    pub none : IfSome (call_of id old.calls) (λ call. call.answer ≢ [])
    pub same : new ≡ old

  -- There is no memory, and the call waits on.
  pub record IsUnanswered : Type 0 where
    pub awaited : IsAwaited None
    pub calls : new.calls ≡ old.calls
    pub leaves : (new.driven ≡ old.driven) ⊎ LeavesHost old.driven new.driven

  -- The answer can't be given, for this cause, and the call waits on.
  pub record IsRefused (fault : StepFault) : Type 0 where
    pub awaited : IsAwaited (Some fault)
    pub same : new ≡ old

  -- what came of the answer
  abbrev pub IsSettled : Answered → Type 0
  IsSettled answered.Ran = IsAnswered
  IsSettled answered.Held = IsHeld
  IsSettled answered.Later = IsLater
  IsSettled answered.Gone = IsGone
  IsSettled answered.NoMemory = IsUnanswered
  IsSettled (answered.Refused fault) = IsRefused fault

-- what was counted behind the answer, from what was counted before
abbrev pub settled_counts : Answered → HostCounts → Driven → HostCounts
settled_counts answered.Ran c d = counted (with_received c) d.host.marks d.out
settled_counts answered.Held c d = counted (with_received c) d.host.marks d.out
settled_counts a c d = c
