use Rattle.std.proofs.Common.{◌≡◌, refl, sym, ap, subst, Some}
use Rattle.homa_plain.specs.declared.id.CallId.{CallId}
use Rattle.check_lines.specs.Traces.{StandsOr, beside_at}
use Rattle.check_lines.proofs.TakeLaws.{keeps_delivery, refused_changes, delivered_on, without_undo}
use Rattle.check_lines.proofs.trace.Trace.refuse_this.Goals as goal

pub returns-clause-kept : goal.returns-clause-kept
returns-clause-kept c v u keeps is undo =
    let t = c.args.self.now in
    let d = c.args.delivery in
    let ids : u.packet.id ≡ d.packet.id = sym (ap (λ k. k.id) undo.packet) in
    c.in_ok-take_back.ensures.kept v (record v { now = v.if_refused }) (λ _. u.refused) (keeps_delivery v t _ refl keeps)
    (refused_changes v u d.packet.id ids is)
    (subst (λ (q : CallId). StandsOr (beside_at t q) d.refused u.refused) ids undo.spots.0)

pub returns-clause-delivered : goal.returns-clause-delivered
returns-clause-delivered c u undo =
    let e = c.in_ok-take_back.ensures in
    let mid = record c.args.self.now { delivery = Some c.without_bytes.result } in
    delivered_on mid c.take_back.new.self (Some u) e.sets e.rest.delivery
    (without_undo c.args.self.now mid c.args.delivery c.without_bytes.result u c.without_bytes.ensures (λ q. refl) undo)
