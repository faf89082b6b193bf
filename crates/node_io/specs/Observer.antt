-- What an observer may be told, and how it answers.
use Rattle.std.specs.Prelude.{◌≤◌, Result, Err}
use Rattle.homa_plain.specs.Settings.{IsValid}
use Rattle.homa_plain.specs.Wire.{IsWellFormed}
use Rattle.homa_plain.specs.World.{last_tick}
use Rattle.homa_plain.specs.Entries.{PlainEntry, PlainSettings, PlainClock, PlainSend, PlainRecv}
use Rattle.node_runs.specs.Course.{Report, Tells}
use Rattle.node_io.specs.declared.observer.SeenFault.{SeenFault}
use Rattle.node_io.specs.declared.observer.SeenFault.TheVariants.{Write, Stranger}

-- an entry of a node's run: its settings are valid, its tick is one of a clock, and what is sent is a well-formed packet, whatever the version
abbrev pub IsSeen : PlainEntry → Type 0
IsSeen (PlainSettings s) = IsValid s
IsSeen (PlainClock tick) = tick ≤ last_tick
IsSeen (PlainSend number from to inc role id level body payload) =
    IsWellFormed 1 (record { role = role; level = level; sender = inc; inc = id.inc; seq = id.seq; at = 0; body = body }) payload
IsSeen entry = Unit {0}

-- that a datagram comes
abbrev pub IsComing : Report → Type 0
IsComing (Tells (PlainRecv host from bytes)) = Unit {0}
IsComing report = ⊥

-- where the sink failed
abbrev pub OnWrite : Result (Unit {0}) SeenFault → Type 0 → Type 0
OnWrite (Err (Write failed)) fact = fact
OnWrite answer fact = Unit {0}

-- where it didn't
abbrev pub UnlessWrite : Result (Unit {0}) SeenFault → Type 0 → Type 0
UnlessWrite (Err (Write failed)) fact = Unit {0}
UnlessWrite answer fact = fact

-- where a datagram is strange
abbrev pub OnStranger : Result (Unit {0}) SeenFault → Type 0 → Type 0
OnStranger (Err Stranger) fact = fact
OnStranger answer fact = Unit {0}
