use Rattle.std.proofs.Common.{◌∙◌, refl, sym, ap, subst}
use Rattle.std.specs.Option.{option_map}
use Rattle.homa_plain.specs.declared.id.CallId.{CallId}
use Rattle.trace_rules.specs.Seen.{in_each, said}
use Rattle.check_call.specs.Spots.{only, undo_each, said_spot}
use Rattle.check_lines.specs.Traces.{IsDelivered}
use Rattle.check_lines.specs.Changes.{Changes, IsMade}
use Rattle.check_lines.proofs.Readings.{made_kept}
use Rattle.check_lines.proofs.TakeLaws.{delivered_on}
use Rattle.check_lines.proofs.SendLaws.{sent_change, said_changes}
use Rattle.check_lines.proofs.trace.Trace.send.Goals as goal

pub returns-clause-kept : goal.returns-clause-kept
returns-clause-kept c v p keeps made e what =
    let t = c.args.self.now in
    let k = c.args.packet in
    let mid = c.change.new.self in
    let f = said_spot v p p.body in
    let w = in_each (said v p p.body) v in
    let ch = sent_change v t k p c.args.body.now c.change_of-change.result keeps e what c.change_of-change.ensures in
    let changes : Changes v w k.id f = subst (λ (q : CallId). Changes v w q f) (sym (ap (λ x. x.id) e)) (said_changes v w p refl) in
    let kept = c.in_ok-change.ensures.kept v w f keeps made ch changes in
    let still : IsMade mid k.id = made_kept w mid k.id kept ∙ (sym (made_kept v t k.id keeps) ∙ made) in
    c.in_ok-keep_packet.ensures.kept w p kept still e

pub returns-clause-block : goal.returns-clause-block
returns-clause-block c v p o keeps made e what is =
    let t = c.args.self.now in
    let k = c.args.packet in
    let mid = c.change.new.self in
    let f = said_spot v p p.body in
    let ch = sent_change v t k p c.args.body.now c.change_of-change.result keeps e what c.change_of-change.ensures in
    let block = subst (λ (q : CallId). IsDelivered mid mid.delivery (option_map (undo_each (only q f)) o)) (ap (λ x. x.id) e)
    (c.in_ok-change.ensures.block o f ch made is) in
    delivered_on mid c.keep_packet.new.self (option_map (undo_each (only p.id f)) o) c.in_ok-keep_packet.ensures.sets c.in_ok-keep_packet.ensures.delivery block
