-- The first gap of the part is that of the message.
use Rattle.std.proofs.Common.{◌∙◌, ap, sym}
use Rattle.std.specs.Option.{option_map}
use Rattle.plain_sets.specs.Numbers.{first_below}
use Rattle.range_set.specs.Fits.{bounds}
use Rattle.homa_in.specs.Part.{Part}
use Rattle.homa_in.proofs.TakenLaws.{is_seen, gap-seen}
use Rattle.homa_in.proofs.arriving.Incoming.gap.Goals as goal

pub returns-clause-seen : goal.returns-clause-seen
returns-clause-seen c = λ pool inside.
    c.first_below.ensures.value ∙ ap (λ (p : Part). option_map bounds (first_below p.missing p.granted)) c.self.view_is
    ∙ ap (option_map bounds) (sym (gap-seen pool c.args.self.now (is_seen pool _ c.args.self.now c.self.view_is inside c.self.invariant)))
