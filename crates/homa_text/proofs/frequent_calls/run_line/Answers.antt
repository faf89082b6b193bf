use Rattle.homa_text.proofs.LineParts.{eight_parts, run_text}
use Rattle.homa_text.proofs.frequent_calls.run_line.Goals as goal

pub returns : goal.returns
returns g c =
    eight_parts _ _ _ _ _ _ _ _ _ _ _ _ _ _ _ _ _ _
    c.add.ensures.items c.add_spaced_host.ensures.items c.add_spaced_id.ensures.items c.add_spaced.ensures.items c.add_spaced_bytes.ensures.items
    c.add_spaced_bytes-2.ensures.items c.add_spaced-2.ensures.items c.add-2.ensures.items
    (run_text c.args.host c.args.id c.args.service c.args.request.now c.args.response.now c.args.hold)
