use Rattle.std.proofs.Common.{◌≡◌, drop}
use Rattle.node_io.specs.System.{host_at}
use Rattle.node_io.proofs.sockets.Sockets.host.Given as goal

-- it is none of those that were passed
abbrev pub invariant-loop-host : goal.invariant-loop-host
invariant-loop-host l = host_at l.self.ports.items l.at ≡ host_at (drop l.host-index l.self.ports.items) l.at
