use Rattle.std.proofs.Common.{◌≡◌, drop}
use Rattle.node_io.specs.System.{beside}
use Rattle.node_io.proofs.sockets.Sockets.port.Given as goal

-- it is none of those that were passed
abbrev pub invariant-loop-known : goal.invariant-loop-known
invariant-loop-known l = beside l.self.ports.items l.host ≡ beside (drop l.known-index l.self.ports.items) l.host
