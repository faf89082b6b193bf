-- Which hosts have sockets and ports.
use Rattle.std.specs.Prelude.{ℕ, Bool, List, map}
use Rattle.std.specs.declared.net.udp.UdpSocket.{UdpSocket}
use Rattle.homa_plain.specs.declared.id.HostId.{HostId}
use Rattle.node_io.specs.declared.sockets.Sockets.{Sockets}
use Rattle.node_io.specs.Hosts.{set_has}

-- the hosts that are here or elsewhere
abbrev pub are_known : Sockets → HostId → Bool
are_known sockets host = set_has sockets.known host

-- their ports, in the order in which they were told
abbrev pub ports_of : Sockets → List (HostId × ℕ)
ports_of sockets = sockets.ports.items

-- the sockets of those that are here, in the order in which they were opened
abbrev pub sockets_of : Sockets → List (HostId × UdpSocket)
sockets_of sockets = sockets.sockets.items

-- the hosts that have one
abbrev pub bound_of : Sockets → List HostId
bound_of sockets = map (λ s. s.0) (sockets_of sockets)
