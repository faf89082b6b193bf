use Rattle.std.proofs.Common.{sym, subst}
use Rattle.homa_plain.specs.Entries.{PlainDrop}
use Rattle.trace_rules.specs.Seen.{seen}
use Rattle.check_call.specs.Steps.{dropped_at}
use Rattle.check_lines.specs.Traces.{IsHere}
use Rattle.check_lines.proofs.LineLaws.{drops, drop_changes, here_takes, drop_due, drop_here}
use Rattle.check_lines.proofs.trace.Trace.give_up.Goals as goal

pub returns-clause-taken : goal.returns-clause-taken
returns-clause-taken c v o r made =
    let t = c.args.self.now in
    let host = c.args.host in
    let id = c.args.id in
    let mid = c.change.new.self in
    let e = c.in_ok-change.ensures in
    let f = dropped_at v host id in
    let ch = drops v t host id c.change_of_drop-change.result r.kept c.change_of_drop-change.ensures in
    let h : IsHere mid.here v.here = subst (λ x. IsHere x v.here) (sym e.count.here) r.here in
    here_takes v o (PlainDrop host id) t mid mid.here r (e.kept v (seen v (PlainDrop host id)) f r.kept made ch (drop_changes v o host id r.is))
    (e.block o f ch made r.delivered) (drop_due v host id) e.due (drop_here v mid.here host id h)
