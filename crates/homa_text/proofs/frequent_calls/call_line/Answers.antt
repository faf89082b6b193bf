use Rattle.homa_text.proofs.LineParts.{six_parts, call_text}
use Rattle.homa_text.proofs.frequent_calls.call_line.Goals as goal

pub returns : goal.returns
returns g c =
    six_parts _ _ _ _ _ _ _ _ _ _ _ _ _ _
    c.add.ensures.items c.add_spaced_id.ensures.items c.add_spaced_host.ensures.items c.add_spaced.ensures.items c.add_spaced_bytes.ensures.items
    c.add-2.ensures.items
    (call_text c.args.id c.args.server c.args.service c.args.bytes.now)
