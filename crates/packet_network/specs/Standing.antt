-- Where packets stand.
use Rattle.std.specs.Prelude.{ℕ, List, length}
use Rattle.std.specs.List.{sum_by}
use Rattle.network_parts.specs.declared.agenda.Due.{Due}
use Rattle.network_parts.specs.declared.port.Waiting.{Waiting}
use Rattle.packet_network.specs.declared.packet.SimPacket.{SimPacket}
use Rattle.packet_network.specs.declared.event.NetworkEvent.{NetworkEvent}
use Rattle.packet_network.specs.declared.event.NetworkEvent.TheVariants.{Task, CardFree, OutputFree, AtSwitch, AtHost}

-- how many packets what is due has with it
abbrev pub carried : NetworkEvent → ℕ
carried (Task task) = 0
carried (CardFree place) = 0
carried (OutputFree place) = 0
carried (AtSwitch packet) = 1
carried (AtHost packet) = 1

-- how many packets are on links, in the switch or in a host's software
abbrev pub in_agenda : List (Due NetworkEvent) → ℕ
in_agenda dues = sum_by (λ d. carried d.what) dues

-- how many packets wait at a port
abbrev pub in_port : List (List (Waiting SimPacket)) → ℕ
in_port queues = sum_by length queues
