use Rattle.plain_sets.proofs.MapLaws.{get-empty, get-insert, get-remove, get-from_entries}
use Rattle.plain_sets.proofs.look_ups.Goals as goal

pub returns-clause-none : goal.returns-clause-none
returns-clause-none g c q = get-empty _ q

pub returns-clause-inserted : goal.returns-clause-inserted
returns-clause-inserted g c m k v q = get-insert g.met.K.Ord.total m k v q

pub returns-clause-removed : goal.returns-clause-removed
returns-clause-removed g c m k q = get-remove g.met.K.Ord.total m k q

pub returns-clause-listed : goal.returns-clause-listed
returns-clause-listed g c es q = get-from_entries g.met.K.Ord.total es q
