use Rattle.homa_text.proofs.LineParts.{four_parts, grant_text}
use Rattle.homa_text.proofs.frequent_lines.grant_line.Goals as goal

pub returns : goal.returns
returns g c = λ level payload.
    four_parts _ _ _ _ _ _ _ _ _ _
    c.add_head.ensures.items c.add_spaced.ensures.items c.add_spaced-2.ensures.items c.add.ensures.items
    (grant_text c.args.head level c.args.offset c.args.prio payload)
