-- The second byte names the kind.
use Rattle.std.proofs.Common.{length, refl, arith}
use Rattle.std.proofs.lemmas.Option.{slice_get_past, slice_get_read}
use Rattle.homa_world.proofs.KindLaws.{kind_at, no_second}
use Rattle.homa_world.proofs.kinds.LineKind.of_datagram.Goals as goal

pub returns-in_err-get : goal.returns-in_err-get
returns-in_err-get c = λ wire p payload read.
    let bytes = c.args.bytes.now in
    absurd (no_second wire bytes p payload (λ k. omega (arith, c.type_inv.bytes k)) read (slice_get_past bytes 1 c.in_err-get.ensures.lookup.3))

pub returns : goal.returns
returns c = λ wire p payload read.
    let bytes = c.args.bytes.now in
    let n = c.in_ok-get.field-0.now in
    let found = c.in_ok-get.ensures.lookup in
    let at = slice_get_read bytes (length bytes) 1 n refl found.3.0 found.1 in
    kind_at wire bytes p payload n c.numbered.result (λ k. omega (arith, c.type_inv.bytes k)) read at c.numbered.ensures
