use Rattle.std.proofs.Common.{◌≡◌, ◌∙◌, sym, ap, subst, true, false}
use Rattle.homa_plain.specs.declared.id.CallId.{CallId}
use Rattle.homa_plain.specs.Calls.{is_call}
use Rattle.check_call.specs.Kept.{StandsFor}
use Rattle.check_lines.proofs.TakeLaws.{undo_else, undo_then}
use Rattle.check_lines.proofs.block.Delivery.changed.Goals as goal

pub returns-then-not-is_same-clause-undo : goal.returns-then-not-is_same-clause-undo
returns-then-not-is_same-clause-undo c t u f ch made is =
    let e : is_call u.packet.id c.args.id ≡ false =
    ap (λ (q : CallId). is_call q c.args.id) (sym (ap (λ k. k.id) is.packet)) ∙ (sym c.is_same.ensures ∙ c.if-not-is_same.true) in
    undo_else t c.args.self u c.args.id f e is

pub returns-clause-undo : goal.returns-clause-undo
returns-clause-undo c t u f ch made is =
    let e : is_call u.packet.id c.args.id ≡ true =
    ap (λ (q : CallId). is_call q c.args.id) (sym (ap (λ k. k.id) is.packet)) ∙ (sym c.is_same.ensures ∙ c.if-not-is_same.false) in
    undo_then t c.args.self u c.args.id c.args.change f c.changed.result c.changed-2.result e made ch
    (λ b s x st. subst (StandsFor b c.changed.result) (x.same c.args.self.refused s st) (c.changed.ensures b s x.apart st))
    (λ b s x st. subst (StandsFor b c.changed-2.result) (x.same c.args.self.stale s st) (c.changed-2.ensures b s x.apart st)) is
