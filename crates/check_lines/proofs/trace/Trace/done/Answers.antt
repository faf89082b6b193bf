use Rattle.std.proofs.Common.{sym, subst}
use Rattle.homa_plain.specs.Entries.{PlainDone}
use Rattle.trace_rules.specs.Seen.{seen}
use Rattle.check_call.specs.Spots.{finished_spot}
use Rattle.check_lines.specs.Traces.{IsHere}
use Rattle.check_lines.proofs.LineLaws.{ends, done_changes, here_takes, done_due, done_here}
use Rattle.check_lines.proofs.trace.Trace.done.Goals as goal

pub returns-clause-taken : goal.returns-clause-taken
returns-clause-taken c v o bytes r made =
    let t = c.args.self.now in
    let id = c.args.id in
    let mid = c.change.new.self in
    let e = c.in_ok-change.ensures in
    let ch = ends t id in
    let h : IsHere mid.here v.here = subst (λ x. IsHere x v.here) (sym e.count.here) r.here in
    here_takes v o (PlainDone id bytes) t mid (record mid.here { dones = c.with-self.result }) r
    (e.kept v (seen v (PlainDone id bytes)) finished_spot r.kept made ch (done_changes v o id bytes r.is))
    (e.block o finished_spot ch made r.delivered) (done_due v id bytes) e.due
    (done_here v mid.here c.with-self.result id bytes h (c.with-self.ensures v.here.dones h.dones))
