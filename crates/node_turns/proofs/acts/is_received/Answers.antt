use Rattle.std.proofs.Common.{arith}
use Rattle.node_turns.proofs.acts.is_received.Goals as goal

pub returns : goal.returns
returns c = λ from. record { bytes = λ i. omega (arith, c.type_inv.bytes i); few = c.requires }
