-- What ports of hosts and readings of the system's clock say.
use Rattle.std.specs.Prelude.{ℕ, ◌+◌, ◌*◌, ◌/◌, ◌==◌, min, if◌then◌else◌, Option, None, Some, List, [], ◌∷◌}
use Rattle.std.specs.Str.{bytes_eq}
use Rattle.std.specs.declared.net.socket_addr.SocketAddr.{SocketAddr}
use Rattle.std.specs.declared.net.socket_addr.SocketAddr.TheVariants.{V4, V6}
use Rattle.std.specs.Net.Addr.{ipv4_octets}
use Rattle.std.specs.Net.Socket.{v4_ip, v4_port}
use Rattle.homa_plain.specs.declared.id.HostId.{HostId}
use Rattle.homa_plain.specs.Calls.{is_host}
use Rattle.homa_plain.specs.World.{last_tick}

-- what stands beside a host, the first of it
abbrev pub beside : {A : Type 0} → List (HostId × A) → HostId → Option A
beside [] host = None
beside ((other, a) ∷ rest) host = if is_host other host then Some a else beside rest host

-- the host that has a port, the first of them
abbrev pub host_at : List (HostId × ℕ) → ℕ → Option HostId
host_at [] port = None
host_at ((host, other) ∷ rest) port = if other == port then Some host else host_at rest port

-- the port of an address, where that is one of this machine: 127.0.0.1
abbrev pub local_port : SocketAddr → Option ℕ
local_port (V4 at) = if bytes_eq (ipv4_octets (v4_ip at)) (127 ∷ 0 ∷ 0 ∷ 1 ∷ []) then Some (v4_port at) else None
local_port (V6 at) = None

-- the tick so many seconds and milliseconds after the start: one each 10 milliseconds, up to the last
abbrev pub tick_at : ℕ → ℕ → ℕ
tick_at secs millis = min (secs * 100 + millis / 10) last_tick
