use Rattle.homa_plain.proofs.CutoffLaws.{few-noted, room-noted, full-noted}
use Rattle.plain_laws.proofs.cutoffs.recent_lengths.Goals as goal

pub returns-clause-few : goal.returns-clause-few
returns-clause-few c = few-noted

pub returns-clause-room : goal.returns-clause-room
returns-clause-room c = room-noted

pub returns-clause-full : goal.returns-clause-full
returns-clause-full c = full-noted
