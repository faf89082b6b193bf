use Rattle.std.proofs.Common.{◌≡◌, ◌∙◌, refl, ap, subst, None}
use Rattle.homa_plain.specs.declared.id.CallId.{CallId}
use Rattle.check_lines.specs.Traces.{call_at}
use Rattle.check_lines.proofs.DeliverLaws.{none_after}
use Rattle.check_lines.proofs.trace.Trace.deliver.Goals as goal

pub returns-in-None-clause-taken : goal.returns-in-None-clause-taken
returns-in-None-clause-taken c v p keeps place due e =
    let d = c.of_none.ensures in
    none_after v c.args.self.now _ p c.of_none.result keeps due
    (subst (λ (q : CallId). call_at c.args.self.now q ≡ None) (ap (λ x. x.id) e) c.in-None.ensures.none) refl refl (d.packet ∙ e) d.runs d.done d.forgotten
