-- What the system's sockets and clock as a net and a clock know.
use Rattle.std.specs.Prelude.{ℕ, Bool, List}
use Rattle.homa_plain.specs.declared.id.HostId.{HostId}
use Rattle.node_io.specs.declared.real.UdpNet.{UdpNet}
use Rattle.node_io.specs.declared.real.TickClock.{TickClock}
use Rattle.node_io.specs.Sockets.{are_known, ports_of, bound_of}

-- the hosts that were bound or routed
abbrev pub udp_known : {R A B : Type 0} → UdpNet R A B → HostId → Bool
udp_known net host = are_known net.sockets host

-- the ports of hosts, in the order in which they were told
abbrev pub udp_ports : {R A B : Type 0} → UdpNet R A B → List (HostId × ℕ)
udp_ports net = ports_of net.sockets

-- the hosts that have a socket here, in the order in which these were opened
abbrev pub udp_bound : {R A B : Type 0} → UdpNet R A B → List HostId
udp_bound net = bound_of net.sockets

-- how many faults a net had
abbrev pub udp_faults : {R A B : Type 0} → UdpNet R A B → ℕ
udp_faults net = net.faults.0

-- the tick that a clock gave last
abbrev pub tick_last : {R : Type 0} → TickClock R → ℕ
tick_last clock = clock.last
