use Rattle.std.proofs.Common.{sym, subst}
use Rattle.check_lines.specs.Traces.{IsHere}
use Rattle.check_lines.proofs.TakeLaws.{delivered_on}
use Rattle.check_lines.proofs.LineLaws.{run_line}
use Rattle.check_lines.proofs.trace.Trace.run.Goals as goal

pub returns-clause-taken : goal.returns-clause-taken
returns-clause-taken c v o service request hold r server =
    let t = c.args.self.now in
    let mid = c.keep_run.new.self in
    let e = c.in_ok-keep_run.ensures in
    let h : IsHere mid.here v.here = subst (λ x. IsHere x v.here) (sym e.count.here) r.here in
    run_line v o t mid c.args.host c.args.id service request c.args.response.now hold c.with-self.result r (e.kept v r.kept server)
    (delivered_on t mid o e.sets e.delivery r.delivered) e.delivery h (c.with-self.ensures v.here.runs h.runs)
