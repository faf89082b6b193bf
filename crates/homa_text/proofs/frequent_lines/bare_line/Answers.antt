use Rattle.homa_text.proofs.LineParts.{three_parts, packet_text}
use Rattle.homa_text.proofs.frequent_lines.bare_line.Goals as goal

pub returns : goal.returns
returns g c = λ level payload.
    three_parts _ _ _ _ _ _ _ _
    (rw c.spaced_kind.ensures.kind at c.add_head.ensures.items) (c.add_bare.ensures.items level payload) c.add.ensures.items
    (packet_text c.args.head level c.args.body.now payload)
