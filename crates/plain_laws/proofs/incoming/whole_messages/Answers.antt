use Rattle.plain_sets.proofs.WholeLaws.{part-empty}
use Rattle.homa_plain.proofs.ArrivalLaws.{part-with_bytes, message-whole}
use Rattle.plain_laws.proofs.incoming.whole_messages.Goals as goal

pub returns-clause-none : goal.returns-clause-none
returns-clause-none c = λ peer n order unsched xs. part-empty xs

pub returns-clause-more : goal.returns-clause-more
returns-clause-more c = part-with_bytes

pub returns-clause-whole : goal.returns-clause-whole
returns-clause-whole c = message-whole
