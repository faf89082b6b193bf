use Rattle.std.proofs.Common.{sym, subst}
use Rattle.homa_plain.specs.declared.entry.Why.{Why}
use Rattle.homa_plain.specs.declared.entry.Why.TheVariants.{Timeout, Forgotten}
use Rattle.homa_plain.specs.Entries.{PlainFail}
use Rattle.trace_rules.specs.Seen.{seen}
use Rattle.check_call.specs.Spots.{finished_spot}
use Rattle.check_lines.specs.Changes.{Takes}
use Rattle.check_lines.specs.Traces.{IsHere}
use Rattle.check_lines.proofs.LineLaws.{ends, fail_changes, here_takes, fail_due, timeout_here, forgotten_here}
use Rattle.check_lines.proofs.trace.Trace.fail.Goals as goal

pub returns-in-Timeout-clause-taken : goal.returns-in-Timeout-clause-taken
returns-in-Timeout-clause-taken c v o r made =
    let t = c.args.self.now in
    let id = c.args.id in
    let mid = c.change.new.self in
    let e = c.in_ok-change.ensures in
    let ch = ends t id in
    let h : IsHere mid.here v.here = subst (λ x. IsHere x v.here) (sym e.count.here) r.here in
    subst (λ (w : Why). Takes v o (PlainFail id w) mid) (sym c.in-Timeout.is)
    (here_takes v o (PlainFail id Timeout) t mid mid.here r
    (e.kept v (seen v (PlainFail id Timeout)) finished_spot r.kept made ch (fail_changes v o id Timeout r.is))
    (e.block o finished_spot ch made r.delivered) (fail_due v id Timeout) e.due
    (timeout_here v mid.here id h))

pub returns-in-Forgotten-clause-taken : goal.returns-in-Forgotten-clause-taken
returns-in-Forgotten-clause-taken c v o r made =
    let t = c.args.self.now in
    let id = c.args.id in
    let mid = c.change.new.self in
    let e = c.in_ok-change.ensures in
    let ch = ends t id in
    let h : IsHere mid.here v.here = subst (λ x. IsHere x v.here) (sym e.count.here) r.here in
    let u = record mid { here = record mid.here { forgotten = c.with-self.result } } in
    subst (λ (w : Why). Takes v o (PlainFail id w) u) (sym c.in-Forgotten.is)
    (here_takes v o (PlainFail id Forgotten) t mid (record mid.here { forgotten = c.with-self.result }) r
    (e.kept v (seen v (PlainFail id Forgotten)) finished_spot r.kept made ch (fail_changes v o id Forgotten r.is))
    (e.block o finished_spot ch made r.delivered) (fail_due v id Forgotten) e.due
    (forgotten_here v mid.here c.with-self.result id h (c.with-self.ensures v.here.forgotten h.forgotten)))
