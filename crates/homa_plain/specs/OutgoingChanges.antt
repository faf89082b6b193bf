-- What can happen to an outgoing message.
use Rattle.std.specs.Prelude.{ℕ, List, [], ◌∷◌}
use Rattle.homa_plain.specs.Busy.{resend}
use Rattle.homa_plain.specs.Outgoing.{Outgoing, restart, grant, next}

-- what can happen to an outgoing message
pub data Change : Type 0 where
  Grant : (offset prio : ℕ) → Change
  Resend : (a b prio : ℕ) → Change
  Restart : Change
  Send : (seg : ℕ) → Change

-- the message after a change
abbrev pub changed : Outgoing → Change → Outgoing
changed p (Grant offset prio) = grant p offset prio
changed p (Resend a b prio) = (resend p a b prio).part
changed p Restart = restart p
changed p (Send seg) = (next p seg).part

-- the message after changes, one after the other
abbrev pub changed_by : Outgoing → List Change → Outgoing
changed_by p [] = p
changed_by p (c ∷ cs) = changed_by (changed p c) cs
