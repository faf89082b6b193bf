-- A message that enters a list of chosen ones.
use Rattle.std.specs.Prelude.{ℕ, suc, ◌-◌, ◌==◌, ◌||◌, Bool, false, not, if◌then◌else◌, Option, None, Some, List, [], ◌∷◌}
use Rattle.plain_sets.specs.Ordered.{is_below}
use Rattle.check_call.specs.declared.choice.Message.{Message}

-- the host that sends a message
abbrev pub sender_of : Message → ℕ
sender_of m = m.peer.0

-- the key by which messages are chosen: how many bytes are missing, and then the order
abbrev pub key_of : Message → ℕ × ℕ
key_of m = (m.length - m.arrived, m.order)

-- where a message would enter a list: at the first that it is chosen before, or that is of its sender
abbrev pub place_in : Message → List Message → ℕ
place_in m [] = 0
place_in m (w ∷ ws) = if is_below (key_of m) (key_of w) || sender_of w == sender_of m then 0 else suc (place_in m ws)

-- a message stands there, and it isn't chosen before that
abbrev pub is_blocked : Message → Option Message → Bool
is_blocked m None = false
is_blocked m (Some w) = not (is_below (key_of m) (key_of w))
