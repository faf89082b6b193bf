use Rattle.homa_plain.proofs.ArrivalLaws.{get-kept, get-new, arrived-with_bytes, below-with_bytes, remaining-with_bytes, missing-with_bytes, grows-with_bytes}
use Rattle.plain_laws.proofs.incoming.arrivals.Goals as goal

pub returns-clause-kept : goal.returns-clause-kept
returns-clause-kept c = get-kept

pub returns-clause-taken : goal.returns-clause-taken
returns-clause-taken c = get-new

pub returns-clause-arrived : goal.returns-clause-arrived
returns-clause-arrived c = arrived-with_bytes

pub returns-clause-below : goal.returns-clause-below
returns-clause-below c = below-with_bytes

pub returns-clause-fewer : goal.returns-clause-fewer
returns-clause-fewer c = remaining-with_bytes

pub returns-clause-missing : goal.returns-clause-missing
returns-clause-missing c = missing-with_bytes

pub returns-clause-grows : goal.returns-clause-grows
returns-clause-grows c = grows-with_bytes
