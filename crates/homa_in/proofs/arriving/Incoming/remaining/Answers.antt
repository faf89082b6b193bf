-- The missing bytes of the part are those of the message.
use Rattle.std.proofs.Common.{◌∙◌, ap}
use Rattle.plain_sets.specs.Maps.{len}
use Rattle.homa_in.specs.Part.{Part}
use Rattle.homa_in.proofs.TakenLaws.{is_seen, remaining-seen, sound-seen}
use Rattle.homa_in.proofs.arriving.Incoming.remaining.Goals as goal

pub returns-clause-seen : goal.returns-clause-seen
returns-clause-seen c = λ pool inside.
    c.count.ensures.value ∙ ap (λ (p : Part). len p.missing) c.self.view_is ∙ remaining-seen pool c.args.self.now
    (is_seen pool _ c.args.self.now c.self.view_is inside c.self.invariant)

pub returns-clause-sound : goal.returns-clause-sound
returns-clause-sound c = λ pool inside. sound-seen pool c.args.self.now (is_seen pool _ c.args.self.now c.self.view_is inside c.self.invariant)
