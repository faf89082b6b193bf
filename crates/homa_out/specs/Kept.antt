-- What holds of each message that is kept.
use Rattle.std.specs.Prelude.{◌≤◌}
use Rattle.homa_plain.specs.Outgoing.{Outgoing, IsSound}
use Rattle.homa_plain.specs.Limits.{longest_message}

-- the message is sound, it isn't too long for a set of its bytes, and some of it needs no grant
pub record IsKept (p : Outgoing) : Type 0 where
  pub sound : IsSound p
  pub small : p.length ≤ longest_message
  pub free : 1 ≤ p.unsched
