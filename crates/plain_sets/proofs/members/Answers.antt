use Rattle.plain_sets.proofs.MapMembers.{get-entry, entry-get, contains-keys, keys-contains, entries-from_entries}
use Rattle.plain_sets.proofs.members.Goals as goal

pub returns-clause-entry : goal.returns-clause-entry
returns-clause-entry g c same m k v = (get-entry g.met.K.Ord.total same m k v, entry-get g.met.K.Ord.total same m k v)

pub returns-clause-key : goal.returns-clause-key
returns-clause-key g c same m k = (contains-keys g.met.K.Ord.total same m k, keys-contains g.met.K.Ord.total same m k)

pub returns-clause-listed : goal.returns-clause-listed
returns-clause-listed g c same es distinct = entries-from_entries g.met.K.Ord.total same es distinct
