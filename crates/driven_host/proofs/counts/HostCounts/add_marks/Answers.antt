use Rattle.std.proofs.Common.{take, sym, ap, ◌∙◌}
use Rattle.std.specs.List.{fold}
use Rattle.std.proofs.lemmas.List.Sums.{fold_more}
use Rattle.std.proofs.lemmas.Option.{slice_get_within, get_or_from_slice_get}
use Rattle.driven_host.specs.Counts.{with_mark}
use Rattle.driven_host.proofs.counts.HostCounts.add_marks.Goals as goal

pub loop-i-preserved : goal.loop-i-preserved
loop-i-preserved c =
    let marks = c.args.host.now.marks in
    let i = c.loop-i.i in
    let m = c.mark.result.now in
    c.add_mark.ensures ∙ ap (λ s. with_mark s m) c.loop-i.invariant
    ∙ ap (with_mark (fold with_mark c.args.self.now (take i marks))) (sym (get_or_from_slice_get marks i m m c.mark.ensures))
    ∙ sym (fold_more with_mark c.args.self.now marks i m (slice_get_within marks i m c.mark.ensures))
