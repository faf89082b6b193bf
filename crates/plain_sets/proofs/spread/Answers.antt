use Rattle.plain_sets.proofs.SpreadLaws.{get-insert_all}
use Rattle.plain_sets.proofs.KeySets.{has-key_set, key_set-insert_all}
use Rattle.plain_sets.proofs.WholeLaws.{part-insert_all, part-whole}
use Rattle.plain_sets.proofs.spread.Goals as goal

pub returns-clause-got : goal.returns-clause-got
returns-clause-got g c = get-insert_all

pub returns-clause-keys : goal.returns-clause-keys
returns-clause-keys g c = key_set-insert_all

pub returns-clause-set : goal.returns-clause-set
returns-clause-set g c = has-key_set

pub returns-clause-part : goal.returns-clause-part
returns-clause-part g c = part-insert_all

pub returns-clause-whole : goal.returns-clause-whole
returns-clause-whole g c = part-whole
