use Rattle.homa_text.proofs.LineParts.{four_parts, inject_text}
use Rattle.homa_text.proofs.frequent_calls.inject_line.Goals as goal

pub returns : goal.returns
returns g c =
    four_parts _ _ _ _ _ _ _ _ _ _
    c.add.ensures.items c.add_spaced_host.ensures.items c.add_spaced_bytes.ensures.items c.add-2.ensures.items
    (inject_text c.args.host c.args.bytes.now)
