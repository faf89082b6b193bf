use Rattle.std.proofs.Common.{arith, length-drop, ◌∙◌}
use Rattle.std.proofs.lemmas.List.{take_rest}
use Rattle.std.proofs.lemmas.Result.{MatchResult-from_err, IfOk-from_err}
use Rattle.homa_io.proofs.Counts.{risen_behind, kept_behind}
use Rattle.homa_io.proofs.Parts.{part_taken, took_front}
use Rattle.homa_io.proofs.sink.write_all.Goals as goal

pub returns-in_err-written : goal.returns-in_err-written
returns-in_err-written g c =
    let failed = c.from_residual.ensures.0 in
    let so_far = c.loop-written.invariant in
    let last = c.in_err-written.ensures in
    record {
      ok = IfOk-from_err _ _ failed;
      err = MatchResult-from_err _ _ _ failed (λ _. took_front _ _ _ c.args.bytes.now c.loop-written.written so_far.so_far last.err);
      risen = MatchResult-from_err _ _ _ failed (λ _. risen_behind _ _ _ so_far.quiet last.risen);
      quiet = IfOk-from_err _ _ failed;
      never_falls = kept_behind _ _ _ so_far.quiet last.never_falls;
      same = g.met.K.Sink.same_on _ _ _ so_far.same last.same;
    }

pub loop-written-preserved : goal.loop-written-preserved
loop-written-preserved g c = record {
  so_far = part_taken _ _ _ c.args.bytes.now c.loop-written.written c.in_ok-written.field-0 c.loop-written.invariant.so_far
      (rw take_rest at c.in_ok-written.ensures.taken);
  within = omega (arith, c.in_ok-written.ensures.fits, length-drop c.loop-written.written c.args.bytes.now);
  quiet = c.in_ok-written.ensures.quiet ∙ c.loop-written.invariant.quiet;
  same = g.met.K.Sink.same_on _ _ _ c.loop-written.invariant.same c.in_ok-written.ensures.same;
}
