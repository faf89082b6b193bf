use Rattle.std.proofs.Common.{refl, ◌++◌, [], ◌∷◌, codes}
use Rattle.hex.specs.Hex.{encode_lower}
use Rattle.homa_text.specs.FrequentLines.{head_text, piece_text}
use Rattle.homa_io.proofs.Writing.{handed_on}
use Rattle.written_lines.proofs.Putting.{front_more, puts_on, failed_on, whole_on}
use Rattle.homa_text.proofs.LineParts.{long_line_text}
use Rattle.homa_text.proofs.put.put_long.Goals as goal

pub returns-in_err-put_hex : goal.returns-in_err-put_hex
returns-in_err-put_hex g c =
    handed_on _ c.from_residual.ensures.0 (rw (c.piece_numbers.ensures, c.new-text.ensures) at c.in_err-put_hex.ensures)
    (λ front. front_more _ _ _ _ _ front (long_line_text c.args.head c.args.piece c.args.payload.now c.requires))

pub returns-in_err-append : goal.returns-in_err-append
returns-in_err-append g c =
    let text = (head_text c.args.head (codes " DATA ") ++ piece_text c.args.piece) ++ encode_lower c.args.payload.now in
    failed_on g.met.K.Sink.same_on [] text (10 ∷ []) [] _ c.from_residual-in_err-append.ensures.0
    (rw (c.piece_numbers.ensures, c.new-text.ensures) at c.in_ok-put_hex.ensures)
    c.in_err-append.ensures (long_line_text c.args.head c.args.piece c.args.payload.now c.requires)

pub returns : goal.returns
returns g c =
    let on = g.met.K.Sink.same_on in
    let text = (head_text c.args.head (codes " DATA ") ++ piece_text c.args.piece) ++ encode_lower c.args.payload.now in
    whole_on on (puts_on on [] text (10 ∷ []) (rw (c.piece_numbers.ensures, c.new-text.ensures) at c.in_ok-put_hex.ensures) c.in_ok-append.ensures refl)
    (rw c.as_slice.ensures.value at c.write_all.ensures) (long_line_text c.args.head c.args.piece c.args.payload.now c.requires)
