-- A packet that was sent last is kept whole.
use Rattle.std.proofs.Common.{◌∙◌, ap, Some}
use Rattle.world_packets.specs.Kept.{kept_seen}
use Rattle.homa_world.proofs.LookLaws.{shown_whole}
use Rattle.homa_world.proofs.parts.WorldParts.passing.Goals as goal

pub returns-in-Some-Whole : goal.returns-in-Some-Whole
returns-in-Some-Whole g c = λ w stands.
    shown_whole c.args.self.now c.args.n w stands c.in-Some-Whole.tick
    (record { from = c.in-Some-Whole.field-0-1; to = c.in-Some-Whole.to; bytes = c.in-Some-Whole.bytes.now }) c.passing_of.result
    (c.in-Some-Whole.ensures.some ∙ ap (λ k. Some (kept_seen k)) c.in-Some-Whole.field-0-is) c.passing_of.ensures
