-- What a host that keeps what asks does with a datagram and with an answer, as C is told.
use Rattle.std.specs.Prelude.{◌≡◌, ◌==◌, ◌&&◌, ℕ, Bool, not, None, Some, List, length}
use Rattle.homa_plain.specs.declared.id.CallId.{CallId}
use Rattle.homa_plain.specs.declared.id.HostId.{HostId}
use Rattle.driven_host.specs.Faults.{delivery_fault}
use Rattle.homa_host.specs.declared.asked.Asked.{Asked}
use Rattle.late_host.specs.declared.outcomes.Heard.{Heard}
use Rattle.late_host.specs.declared.outcomes.Heard.TheVariants.{Asks}
use Rattle.late_host.specs.declared.outcomes.Answered.{Answered}
use Rattle.late_host.specs.Late.{Late}
use Rattle.late_host.specs.Heard.{IsHeard, heard_fault, heard_counts, IsSettled, settled_counts}
use Rattle.homa_c.specs.declared.entries.HomaAsked.{HomaAsked}
use Rattle.homa_c.specs.Results.{heard_code, settled_code}
use Rattle.homa_c.specs.Shown.{shown_asked}

-- the host keeps what asks, and no answer is in hand
abbrev pub is_late : Late → List ℕ → Bool
is_late l answer = not (l.room == 0) && length answer == 0

-- what C is told of a datagram from this host, by a result and a call that asks, is what came of it
pub record Hears (code now : ℕ) (from : HostId) (frame : List ℕ) (old new : Late) (told : HomaAsked) (heard : Heard) : Type 0 where
  pub code_is : code ≡ heard_code heard
  pub fault : heard_fault heard ≡ delivery_fault old.driven.host old.driven.steps from 0 now
  pub came : IsHeard now from frame old new heard
  pub asked : (e : Asked) → heard ≡ Asks e → told ≡ shown_asked e
  pub sender : heard_fault heard ≡ None → new.driven.from ≡ Some from
  pub counts : new.driven.counts ≡ heard_counts heard old.driven.counts new.driven

-- what C is told of the answer to this call is what came of it
pub record Settles (code : ℕ) (id : CallId) (answer : List ℕ) (now : ℕ) (old new : Late) (answered : Answered) : Type 0 where
  pub code_is : code ≡ settled_code answered
  pub settled : IsSettled id answer now old new answered
  pub counts : new.driven.counts ≡ settled_counts answered old.driven.counts new.driven
