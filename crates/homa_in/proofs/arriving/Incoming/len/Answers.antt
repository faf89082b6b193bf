-- What is missing is part of the message.
use Rattle.std.proofs.Common.{ap, arith}
use Rattle.plain_sets.specs.Maps.{len}
use Rattle.plain_sets.proofs.CountLaws.{len-below}
use Rattle.homa_in.specs.Part.{Part}
use Rattle.homa_in.proofs.arriving.Incoming.len.Goals as goal

pub returns-clause-missing : goal.returns-clause-missing
returns-clause-missing c =
    omega (arith, ap (λ (p : Part). len p.missing) c.self.view_is, len-below c.self.inside.missing c.self.inside.len c.self.invariant.below)
