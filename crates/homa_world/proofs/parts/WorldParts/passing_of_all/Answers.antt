-- A packet that is kept whole is shown, and no other.
use Rattle.std.proofs.Common.{◌∙◌, ap, Some}
use Rattle.world_packets.specs.Kept.{kept_seen}
use Rattle.homa_world.proofs.LookLaws.{shown_whole, late_passing, stale_passing, no_passing}
use Rattle.homa_world.proofs.parts.WorldParts.passing_of_all.Goals as goal

pub returns-in-Some-Whole : goal.returns-in-Some-Whole
returns-in-Some-Whole g c = λ w stands.
    shown_whole c.args.self.now c.args.n w stands c.in-Some-Whole.tick
    (record { from = c.in-Some-Whole.field-0-1; to = c.in-Some-Whole.to; bytes = c.in-Some-Whole.bytes.now }) c.passing_of.result
    (c.in-Some-Whole.ensures ∙ ap (λ k. Some (kept_seen k)) c.in-Some-Whole.field-0-is) c.passing_of.ensures

pub returns-in-Some-Late : goal.returns-in-Some-Late
returns-in-Some-Late g c = λ w stands. late_passing c.args.self.now c.args.n w stands c.in-Some-Late.field-0-0
    (c.in-Some-Late.ensures ∙ ap (λ k. Some (kept_seen k)) c.in-Some-Late.field-0-is)

pub returns-in-Some-Stale : goal.returns-in-Some-Stale
returns-in-Some-Stale g c = λ w stands. stale_passing c.args.self.now c.args.n w stands c.in-Some-Stale.field-0-0 c.in-Some-Stale.field-0-1
    (c.in-Some-Stale.ensures ∙ ap (λ k. Some (kept_seen k)) c.in-Some-Stale.field-0-is)

pub returns-in-None : goal.returns-in-None
returns-in-None g c = λ w stands. no_passing c.args.self.now c.args.n w stands c.in-None.ensures
