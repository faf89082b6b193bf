use Rattle.homa_plain.proofs.WireLaws.{one_spelling}
use Rattle.plain_laws.proofs.wire.one_spelling.Goals as goal

pub returns : goal.returns
returns c = one_spelling
