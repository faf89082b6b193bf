-- What a net did, as it is kept.
use Rattle.std.specs.Prelude.{ℕ, Option, None, Some, List}
use Rattle.homa_plain.specs.declared.id.HostId.{HostId}
use Rattle.node_runs.specs.Course.{Arrival, Receive}
use Rattle.node_runs.specs.Acts.{Act}
use Rattle.node_runs.specs.Acts as act
use Rattle.node_io.specs.declared.memory.Kept.{Kept}
use Rattle.node_io.specs.declared.memory.Kept.TheVariants.{Bound, Routed, Sent, Received}

-- a datagram with its sender, or nothing
abbrev pub given : Option (HostId × List ℕ) → Option Arrival
given None = None
given (Some (from, bytes)) = Some (record { from = from; bytes = bytes })

-- a receive for a host
abbrev pub received : HostId × Option (HostId × List ℕ) → Receive
received (host, got) = record { host = host; got = given got }

-- a call that didn't fail
abbrev pub act_of : Kept → Act
act_of (Bound host port) = act.Bound host port
act_of (Routed host port) = act.Routed host port
act_of (Sent from to bytes) = act.Sent (record { from = from; to = to; bytes = bytes })
act_of (Received host got) = act.Received (received (host, got))
