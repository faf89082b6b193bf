use Rattle.std.proofs.Common.{sym, ap, ◌∙◌}
use Rattle.std.proofs.lemmas.Bool.{or_from}
use Rattle.std.proofs.lemmas.List.Folds.{list_any_at, list_any_more}
use Rattle.std.proofs.lemmas.Option.{slice_get_within, get_or_from_slice_get}
use Rattle.driven_host.specs.Asking.{is_whole}
use Rattle.driven_host.proofs.asking.tells_whole.Goals as goal

pub returns-then-makes_whole : goal.returns-then-makes_whole
returns-then-makes_whole c =
    let marks = c.args.host.now.marks in
    let i = c.loop-i.i in
    let m = c.mark.result.now in
    sym (list_any_at is_whole marks i m (slice_get_within marks i m c.mark.ensures)
    (ap is_whole (get_or_from_slice_get marks i m m c.mark.ensures) ∙ sym c.makes_whole.ensures ∙ c.if-makes_whole.true))

pub loop-i-preserved : goal.loop-i-preserved
loop-i-preserved c =
    let marks = c.args.host.now.marks in
    let i = c.loop-i.i in
    let m = c.mark.result.now in
    list_any_more is_whole marks i m (slice_get_within marks i m c.mark.ensures)
    ∙ or_from _ _ c.loop-i.invariant
    (ap is_whole (get_or_from_slice_get marks i m m c.mark.ensures) ∙ sym c.makes_whole.ensures ∙ c.if-makes_whole.false)
