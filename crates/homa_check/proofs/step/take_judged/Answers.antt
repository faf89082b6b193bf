use Rattle.std.proofs.Common.{◌∙◌, sym, ap}
use Rattle.homa_plain.specs.Entries.{plain}
use Rattle.trace_rules.specs.Seen.{seen}
use Rattle.check_lines.specs.Sends.{keeps_window}
use Rattle.homa_check.proofs.StepLaws.{windows_kept, window_left, shape_and_once}
use Rattle.check_lines.proofs.LineLaws.{both}
use Rattle.homa_check.proofs.step.take_judged.Goals as goal

pub returns-then-are_within-clause-judged : goal.returns-then-are_within-clause-judged
returns-then-are_within-clause-judged c v f small before =
    let line = plain c.args.line.now in
    let two = shape_and_once v line before in
    let k = c.in_ok-take.ensures v f small two.0 two.1 in
    let w = seen v line in
    let kept = both (keeps_window w c.to_test-before.result) (keeps_window w c.to_test.result) (sym (c.are_within.ensures w k.kept) ∙ c.if-are_within.true) in
    (windows_kept v c.args.trace.now c.take.new.self line f before k (ap (keeps_window w) (sym c.to_test-before.ensures) ∙ kept.0)
    (ap (keeps_window w) (sym c.to_test.ensures) ∙ kept.1)).1

pub returns-then-are_within-clause-next : goal.returns-then-are_within-clause-next
returns-then-are_within-clause-next c v f small before none =
    let line = plain c.args.line.now in
    let two = shape_and_once v line before in
    let k = c.in_ok-take.ensures v f small two.0 two.1 in
    let w = seen v line in
    let kept = both (keeps_window w c.to_test-before.result) (keeps_window w c.to_test.result) (sym (c.are_within.ensures w k.kept) ∙ c.if-are_within.true) in
    (windows_kept v c.args.trace.now c.take.new.self line f before k (ap (keeps_window w) (sym c.to_test-before.ensures) ∙ kept.0)
    (ap (keeps_window w) (sym c.to_test.ensures) ∙ kept.1)).0

pub returns-clause-judged : goal.returns-clause-judged
returns-clause-judged c v f small before =
    let line = plain c.args.line.now in
    let two = shape_and_once v line before in
    let k = c.in_ok-take.ensures v f small two.0 two.1 in
    let w = seen v line in
    window_left v c.args.trace.now c.take.new.self line c.to_test-before.result c.to_test.result before
    (sym (c.are_within.ensures w k.kept) ∙ c.if-are_within.false)
