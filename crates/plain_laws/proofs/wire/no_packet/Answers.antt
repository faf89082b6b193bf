use Rattle.homa_plain.proofs.WireLaws.{no_packet}
use Rattle.plain_laws.proofs.wire.no_packet.Goals as goal

pub returns : goal.returns
returns c = no_packet
