use Rattle.std.proofs.Common.{◌≡◌, refl, sym, ap, subst}
use Rattle.homa_plain.specs.declared.id.CallId.{CallId}
use Rattle.trace_rules.specs.Seen.{stale}
use Rattle.check_lines.specs.Traces.{StandsOr, beside_at}
use Rattle.check_lines.proofs.TakeLaws.{keeps_delivery, stale_changes}
use Rattle.check_lines.proofs.trace.Trace.forget_this.Goals as goal

pub returns-clause-kept : goal.returns-clause-kept
returns-clause-kept c v u keeps is undo =
    let t = c.args.self.now in
    let d = c.args.delivery in
    let ids : u.packet.id ≡ d.packet.id = sym (ap (λ k. k.id) undo.packet) in
    c.in_ok-take_back.ensures.kept v (stale v) (λ _. u.stale) (keeps_delivery v t _ refl keeps) (stale_changes v u d.packet.id ids is)
    (subst (λ (q : CallId). StandsOr (beside_at t q) d.stale u.stale) ids undo.spots.1)
