use Rattle.homa_text.proofs.LineParts.{four_parts, done_text}
use Rattle.homa_text.proofs.frequent_calls.done_line.Goals as goal

pub returns : goal.returns
returns g c =
    four_parts _ _ _ _ _ _ _ _ _ _
    c.add.ensures.items c.add_spaced_id.ensures.items c.add_spaced_bytes.ensures.items c.add-2.ensures.items
    (done_text c.args.id c.args.bytes.now)
