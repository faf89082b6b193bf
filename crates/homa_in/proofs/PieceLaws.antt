-- What a well-formed packet's fields are, as the tables rely on it.
use Rattle.std.proofs.Common.{ℕ, List, arith}
use Rattle.homa_plain.specs.declared.packet.Role.{Role}
use Rattle.homa_plain.specs.declared.packet.Body.{Body}
use Rattle.homa_plain.specs.declared.packet.Body.TheVariants as body
use Rattle.homa_plain.specs.Wire.{FitsKind}
use Rattle.homa_in.specs.Pieces.{IsFit}

pub fit_of : (role : Role) (level : ℕ) (what : Body) (payload : List ℕ) → FitsKind role level what payload → IsFit what payload
fit_of role level (body.Data size offset version service ack) payload fits = (omega (arith, fits.payload_in_range.0), fits.inside, fits.size_in_range.1)
fit_of role level (body.Grant offset prio) payload fits = fits.2
fit_of role level (body.Resend from to prio) payload fits = (fits.1, fits.3)
fit_of role level body.Busy payload fits = tt
fit_of role level (body.Cutoffs cutoffs) payload fits = tt
fit_of role level (body.Unknown reason) payload fits = tt
fit_of role level body.NeedAck payload fits = tt
fit_of role level (body.Ack more) payload fits = tt
