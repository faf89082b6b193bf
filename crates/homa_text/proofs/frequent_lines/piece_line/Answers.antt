use Rattle.homa_text.proofs.LineParts.{four_parts, piece_line_text}
use Rattle.homa_text.proofs.frequent_lines.piece_line.Goals as goal

pub returns : goal.returns
returns g c =
    four_parts _ _ _ _ _ _ _ _ _ _
    c.add_head.ensures.items c.add_piece.ensures.items c.add_bytes.ensures.items c.add.ensures.items
    (piece_line_text c.args.head c.args.piece c.args.payload.now)
