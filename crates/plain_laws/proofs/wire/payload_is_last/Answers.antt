use Rattle.homa_plain.proofs.WireLengths.{payload_is_last}
use Rattle.plain_laws.proofs.wire.payload_is_last.Goals as goal

pub returns : goal.returns
returns c = payload_is_last
