use Rattle.homa_plain.proofs.CutoffLaws.{is_level_of, level_only}
use Rattle.plain_laws.proofs.cutoffs.message_levels.Goals as goal

pub returns-clause-greatest : goal.returns-clause-greatest
returns-clause-greatest c = is_level_of

pub returns-clause-only : goal.returns-clause-only
returns-clause-only c = level_only
