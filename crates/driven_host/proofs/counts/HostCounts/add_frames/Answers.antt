use Rattle.std.proofs.Common.{take, sym, ap, ◌∙◌, arith}
use Rattle.std.specs.List.{fold}
use Rattle.std.proofs.lemmas.List.Sums.{fold_more}
use Rattle.std.proofs.lemmas.Option.{slice_get_within, get_or_from_slice_get}
use Rattle.driven_host.specs.Counts.{with_frame}
use Rattle.driven_host.proofs.Folding.{frame_at}
use Rattle.driven_host.proofs.counts.HostCounts.add_frames.Goals as goal

pub loop-i-preserved : goal.loop-i-preserved
loop-i-preserved c =
    let frames = c.args.out.now in
    let i = c.loop-i.i in
    let f = frame_at frames i c.bytes.result.now c.bytes.ensures (omega (arith, c.loop-i-test.true, c.len-i-end.ensures.len)) in
    c.add_frame.ensures f.0 f.2 ∙ ap (λ s. with_frame s f.0) c.loop-i.invariant
    ∙ ap (with_frame (fold with_frame c.args.self.now (take i frames))) (sym (get_or_from_slice_get frames i f.0 f.0 f.1))
    ∙ sym (fold_more with_frame c.args.self.now frames i f.0 (slice_get_within frames i f.0 f.1))
