use Rattle.std.proofs.Common.{◌≡◌}
use Rattle.simulated_network.proofs.MadeLaws.{changed_alike}
use Rattle.simulated_network.proofs.known.KnownCalls.change.Goals as goal

pub returns-clause-made : goal.returns-clause-made
returns-clause-made c = rw c.set.ensures (changed_alike _ _ _ c.requires.made)
