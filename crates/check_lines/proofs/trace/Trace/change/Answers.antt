use Rattle.std.proofs.Common.{sym, subst}
use Rattle.check_call.specs.declared.spot.Change.{Change}
use Rattle.check_lines.specs.Changes.{IsChange}
use Rattle.check_lines.proofs.TakeLaws.{keeps_delivery, changed_stands, nothing_changes, nothing_undone}
use Rattle.check_lines.proofs.trace.Trace.change.Goals as goal

pub returns-in-Nothing-clause-kept : goal.returns-in-Nothing-clause-kept
returns-in-Nothing-clause-kept c v w f keeps made ch changes =
    nothing_changes v w c.args.self.now c.args.id f keeps made
    (subst (λ (x : Change). IsChange c.args.self.now c.args.id x f) c.in-Nothing.is ch) changes

pub returns-in-Nothing-clause-block : goal.returns-in-Nothing-clause-block
returns-in-Nothing-clause-block c o f ch made is =
    nothing_undone c.args.self.now c.args.self.now.delivery o c.args.id f made
    (subst (λ (x : Change). IsChange c.args.self.now c.args.id x f) c.in-Nothing.is ch) is

pub returns-clause-kept : goal.returns-clause-kept
returns-clause-kept c v w f keeps made ch changes =
    let mid = c.change_delivery.new.self in
    let rest = c.change_delivery.ensures.rest in
    let k = keeps_delivery v c.args.self.now mid rest keeps in
    c.in_ok-keep.ensures.kept v w f k changes
    (changed_stands v mid c.args.id c.args.change f c.spot.result c.changed-spot.result k
    (subst (λ z. IsChange z c.args.id c.args.change f) (sym rest) ch) c.spot.ensures c.changed-spot.ensures)
