-- The packets of a node's run.
use Rattle.std.specs.Prelude.{◌≡◌, ◌+◌, ◌==◌, if◌then◌else◌}
use Rattle.homa_plain.specs.declared.settings.Settings.{Settings}
use Rattle.homa_plain.specs.Wire.{IsWellFormed}
use Rattle.homa_plain.specs.Packets.{wire_packet}
use Rattle.homa_plain.specs.World.{SentPacket}
use Rattle.node_runs.specs.Course.{Node, Course, GoesOn, Stops}

-- a packet is well formed, and with version 2 it tells its sender's own clock: the tick and the skew
pub record IsOfNode (s : Settings) (sent : SentPacket) : Type 0 where
  pub formed : IsWellFormed s.wire (wire_packet sent.packet) sent.packet.payload
  pub dated : sent.packet.at ≡ (if s.wire == 1 then 0 else sent.tick + s.skew)

-- the node, however far its run has come
abbrev pub node_of : Course → Node
node_of (GoesOn node) = node
node_of (Stops node end) = node
