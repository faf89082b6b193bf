use Rattle.plain_sets.proofs.MapLaws.{len-empty, len-insert, len-remove}
use Rattle.plain_sets.proofs.sizes.Goals as goal

pub returns-clause-none : goal.returns-clause-none
returns-clause-none g c = len-empty _ _

pub returns-clause-inserted : goal.returns-clause-inserted
returns-clause-inserted g c m k v = len-insert g.met.K.Ord.total m k v

pub returns-clause-removed : goal.returns-clause-removed
returns-clause-removed g c m k = len-remove g.met.K.Ord.total m k
