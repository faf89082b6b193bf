use Rattle.homa_plain.proofs.WireLaws.{one_packet}
use Rattle.plain_laws.proofs.wire.one_packet.Goals as goal

pub returns : goal.returns
returns c = one_packet
