use Rattle.homa_plain.proofs.ArrivalLaws.{first_piece, first_taken, first-first_gap}
use Rattle.plain_laws.proofs.incoming.message_gaps.Goals as goal

pub returns-clause-first : goal.returns-clause-first
returns-clause-first c = first-first_gap

pub returns-clause-two : goal.returns-clause-two
returns-clause-two c = first_piece

pub returns-clause-taken : goal.returns-clause-taken
returns-clause-taken c = first_taken
