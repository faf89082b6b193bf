use Rattle.homa_text.proofs.LineParts.{five_parts, bury_text}
use Rattle.homa_text.proofs.frequent_calls.bury_line.Goals as goal

pub returns : goal.returns
returns g c =
    five_parts _ _ _ _ _ _ _ _ _ _ _ _
    c.add.ensures.items c.add_spaced_host.ensures.items c.add_spaced_id.ensures.items c.add_spaced.ensures.items c.add-2.ensures.items
    (bury_text c.args.host c.args.id c.args.until)
