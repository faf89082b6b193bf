use Rattle.std.proofs.Common.{◌≡◌, drop}
use Rattle.node_io.specs.System.{beside}
use Rattle.node_io.proofs.sockets.Sockets.socket.Given as goal

-- it is none of those that were passed
abbrev pub invariant-loop-bound : goal.invariant-loop-bound
invariant-loop-bound l = beside l.self.sockets.items l.host ≡ beside (drop l.bound-index l.self.sockets.items) l.host
