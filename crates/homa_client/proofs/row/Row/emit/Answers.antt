-- What is emitted is what the plain row emits.
use Rattle.std.proofs.Common.{◌∙◌, sym, ap}
use Rattle.std.specs.Option.{option_map}
use Rattle.range_set.specs.Fits.{bounds}
use Rattle.homa_plain.specs.Outgoing.{next_range}
use Rattle.homa_client.specs.Held.{HeldRow, seen_row}
use Rattle.homa_client.proofs.EmitLaws.{rests_not, short_of, sent_of}
use Rattle.homa_client.proofs.row.Row.emit.Goals as goal

pub returns-then-not-may_send-clause-emitted : goal.returns-then-not-may_send-clause-emitted
returns-then-not-may_send-clause-emitted c pool =
    rests_not c.args.settings.now c.args.now c.args.credit (seen_row pool c.args.self.now) (sym c.if-not-may_send.true ∙ c.may_send.ensures pool)

pub returns-then-credit-to-clause-emitted : goal.returns-then-credit-to-clause-emitted
returns-then-credit-to-clause-emitted c pool =
    short_of c.args.settings.now c.args.now c.args.credit (seen_row pool c.args.self.now) c.in-Some.from c.in-Some.to
    (sym c.if-not-may_send.false ∙ c.may_send.ensures pool)
    (sym c.in-Some.is ∙ c.peek.ensures.range ∙ ap (λ (r : HeldRow). option_map bounds (next_range r.out c.args.settings.now.seg)) c.self.view_is)
    c.if-credit-to.true

pub returns-clause-emitted : goal.returns-clause-emitted
returns-clause-emitted c pool =
    sent_of c.args.settings.now c.args.now c.args.credit (seen_row pool c.args.self.now) c.in-Some.from c.in-Some.to
    (sym c.if-not-may_send.false ∙ c.may_send.ensures pool)
    (sym c.in-Some.is ∙ c.peek.ensures.range ∙ ap (λ (r : HeldRow). option_map bounds (next_range r.out c.args.settings.now.seg)) c.self.view_is)
    c.if-credit-to.false
