-- BUSY: what answers a RESEND that queues nothing. A RESEND to a request that still arrives (`AtServer.receiving_gets`) or
-- to a response that is held back (`AtServer.held_gets`) and a NEED_ACK of a live call (`AtClient.answered`) get it too.
use Rattle.std.specs.Prelude.{ℕ, ◌-◌, ◌==◌, ◌||◌, Bool, nat_lt, nat_le, min, max, if◌then◌else◌, List, [], ◌∷◌, length}
use Rattle.plain_sets.specs.Maps.{len}
use Rattle.plain_sets.specs.Numbers.{with_range, within, ranges}
use Rattle.homa_plain.specs.declared.packet.Body.TheVariants as body
use Rattle.homa_plain.specs.Rules.{Say, Posts}
use Rattle.homa_plain.specs.Outgoing.{Outgoing}

-- the answer to a RESEND: the bytes were queued, or the sender is busy
pub data Answer : Type 0 where
  Busy : Answer
  Queued : Answer

-- the answer to a RESEND, and the message after it
pub record Resent : Type 0 where
  pub answer : Answer
  pub part : Outgoing

-- whether a RESEND of the bytes from a to b - 1 queues nothing:
-- there are none, all of them wait, or more than 63 ranges would wait
abbrev pub is_busy : Outgoing → ℕ → ℕ → Bool
is_busy p a b = nat_le b a || len (within p.waiting a b) == b - a || nat_lt 63 (length (ranges (with_range p.waiting a b)))

-- a RESEND of bytes below the message's end
abbrev pub resend_up_to : Outgoing → ℕ → ℕ → ℕ → Resent
resend_up_to p a b prio =
    if is_busy p a b
    then record { answer = Busy; part = p }
    else record { answer = Queued; part = record p { waiting = with_range p.waiting a b; granted = max p.granted b; prio = prio } }

-- a RESEND of the bytes from a to b - 1 arrives, of which only those of the message count
-- Source: SIGCOMM 2018, "Lost packets" (from memory). The bound of 63 ranges is a rule of this project.
abbrev pub resend : Outgoing → ℕ → ℕ → ℕ → Resent
resend p a b prio = resend_up_to p a (min b p.length) prio

-- BUSY, if a RESEND queued nothing
-- Source: SIGCOMM 2018, "Lost packets" (from memory).
abbrev pub busy_for : Answer → List Say
busy_for Busy = Posts body.Busy ∷ []
busy_for Queued = []
