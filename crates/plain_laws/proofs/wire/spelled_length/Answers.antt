use Rattle.homa_plain.proofs.WireLengths.{spelling_is_bytes, length-spelling, spelling_fits}
use Rattle.plain_laws.proofs.wire.spelled_length.Goals as goal

pub returns-clause-bytes : goal.returns-clause-bytes
returns-clause-bytes c = spelling_is_bytes

pub returns-clause-exact : goal.returns-clause-exact
returns-clause-exact c = length-spelling

pub returns-clause-most : goal.returns-clause-most
returns-clause-most c = spelling_fits
