use Rattle.std.proofs.Common.{◌+◌, drop, sym, ap, ◌∙◌, arith}
use Rattle.std.specs.Option.{option_or}
use Rattle.std.proofs.lemmas.List.{at_drop_all}
use Rattle.late_host.specs.Ran.{ran_in}
use Rattle.late_host.proofs.RanLaws.{next_mark}
use Rattle.late_host.proofs.ran.ran.Goals as goal

pub loop-i-preserved : goal.loop-i-preserved
loop-i-preserved c =
    let marks = c.args.host.now.marks in
    let i = c.loop-i.i in
    let m = c.mark.result.now in
    sym (next_mark marks i m c.mark.ensures ∙ ap (λ o. option_or o (ran_in (drop (i + 1) marks))) (sym c.in_default.ensures)) ∙ c.loop-i.invariant

pub returns-in-Some : goal.returns-in-Some
returns-in-Some c =
    let marks = c.args.host.now.marks in
    let i = c.loop-i.i in
    let m = c.mark.result.now in
    sym (sym c.loop-i.invariant ∙ next_mark marks i m c.mark.ensures
    ∙ ap (λ o. option_or o (ran_in (drop (i + 1) marks))) (sym c.in-Some.ensures))

pub returns : goal.returns
returns c =
    let marks = c.args.host.now.marks in
    sym (sym c.loop-i.invariant ∙ at_drop_all ran_in marks c.loop-i.i (omega arith))
