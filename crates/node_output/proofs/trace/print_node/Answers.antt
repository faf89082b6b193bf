use Rattle.std.proofs.Common.{rules, inl, inr}
use Rattle.std.proofs.lemmas.Result.{err_from_is_err_and}
use Rattle.node_output.specs.TraceEnds.{end_seen}
use Rattle.node_output.proofs.Printing.{whole, end_cut, cut, broken_printed, answered_end, answered_none, all_connected, first_connected}
use Rattle.node_output.proofs.trace.print_node.Goals as goal

pub returns-in_err-end-clause-printed : goal.returns-in_err-end-clause-printed
returns-in_err-end-clause-printed g c = λ bytes had.
    let may = g.H.OpenHosts.are_allowed c.args.boxes in
    let p = err_from_is_err_and c.from_residual.result c.from_residual.ensures.1 in
    let h = rw c.new-printer.ensures at (c.serve-answer.ensures.answered bytes had) in
    let none = answered_none may bytes _ _ _ c.serve-answer.result c.in_err-end.field-0.0 c.in_err-end.ensures.end h.answered in
    rw p.1 (broken_printed may bytes _ _ _ p.0 (cut may bytes _ _ _ _ _ _ _ _ _ _ _ _ h.first _ none h.rest h.connected
    (first_connected may bytes _ _ _ c.serve-answer.result h) (search rules)))

pub returns-in-Ok-clause-printed : goal.returns-in-Ok-clause-printed
returns-in-Ok-clause-printed g c = λ bytes had.
    let may = g.H.OpenHosts.are_allowed c.args.boxes in
    let h = rw c.new-printer.ensures at (c.serve-answer.ensures.answered bytes had) in
    let s = answered_end may bytes _ _ _ c.serve-answer.result c.in_ok-end.end c.in_ok-end.ensures.end h.answered in (
      whole may bytes _ _ _ _ _ _ _ _ _ _ _ _ h.first (g.met.N.Net.sent_is _) (g.met.N.Net.sent_is _)
          (all_connected may bytes _ _ _ c.serve-answer.result c.in_ok-end.end c.in_ok-end.ensures.end h) (end_seen c.in_ok-end.end) s.0 _ (search rules)
          c.in-Ok.ensures.ok,
      s.1,
    )

pub returns-in-Err-clause-printed : goal.returns-in-Err-clause-printed
returns-in-Err-clause-printed g c = λ bytes had.
    let may = g.H.OpenHosts.are_allowed c.args.boxes in
    let h = rw c.new-printer.ensures at (c.serve-answer.ensures.answered bytes had) in
    let s = answered_end may bytes _ _ _ c.serve-answer.result c.in_ok-end.end c.in_ok-end.ensures.end h.answered in
    inr (end_cut may bytes _ _ _ _ _ _ _ _ _ _ _ _ h.first (g.met.N.Net.sent_is _) (g.met.N.Net.sent_is _)
    (all_connected may bytes _ _ _ c.serve-answer.result c.in_ok-end.end c.in_ok-end.ensures.end h) (end_seen c.in_ok-end.end) s.0 _ (search rules)
    c.in-Err.ensures.err)
