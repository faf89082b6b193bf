use Rattle.homa_text.proofs.LineParts.{four_parts, free_text}
use Rattle.homa_text.proofs.frequent_calls.free_line.Goals as goal

pub returns : goal.returns
returns g c =
    four_parts _ _ _ _ _ _ _ _ _ _
    c.add.ensures.items c.add_spaced_host.ensures.items c.add_spaced_id.ensures.items c.add-2.ensures.items
    (free_text c.args.host c.args.id)
