use Rattle.std.proofs.Common.{◌≡◌, ◌+◌, ◌++◌, length, ap, ◌∙◌, sym, length-append, arith}
use Rattle.homa_plain.specs.Wire.{header_bytes, body_bytes}
use Rattle.homa_plain.proofs.WireLengths.{spelling_fits, longest_fits}
use Rattle.homa_wire.proofs.writing.encode.Goals as goal

pub extend-requires : goal.extend-requires
extend-requires c =
    let p = c.args.packet.now in
    let payload = c.args.payload.now in
    let written : c.write_body.new.frame ≡ header_bytes c.args.wire p ++ body_bytes p.body = cc in
    let len : length (header_bytes c.args.wire p ++ body_bytes p.body ++ payload) ≡ length c.write_body.new.frame + length payload =
    length-append (header_bytes c.args.wire p ++ body_bytes p.body) payload ∙ ap (λ n. n + length payload) (ap length (sym written)) in
    omega (arith, spelling_fits c.args.wire p payload c.requires, longest_fits c.args.wire)
