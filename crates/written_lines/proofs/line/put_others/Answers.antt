use Rattle.std.proofs.Common.{arith}
use Rattle.std.proofs.lemmas.List.{take_all}
use Rattle.written_lines.specs.Written.{spaced_word}
use Rattle.written_lines.proofs.Putting.{none_put, puts_on, failed_on}
use Rattle.written_lines.proofs.Texts.{flat_map-split, flat_map-more}
use Rattle.written_lines.proofs.line.put_others.Goals as goal

pub loop-word-init : goal.loop-word-init
loop-word-init g c = record { so_far = none_put (g.met.K.Sink.same_self _) }

pub returns-in_err-put_spaced : goal.returns-in_err-put_spaced
returns-in_err-put_spaced g c =
    failed_on g.met.K.Sink.same_on _ _ _ _ _ c.from_residual.ensures.0 c.loop-word.invariant.so_far c.in_err-put_spaced.ensures
    (flat_map-split spaced_word c.args.words.now c.loop-word.word-index _ c.loop-word-test.true)

pub loop-word-preserved : goal.loop-word-preserved
loop-word-preserved g c = record {
  so_far = puts_on g.met.K.Sink.same_on _ _ _ c.loop-word.invariant.so_far c.in_ok-put_spaced.ensures
      (flat_map-more spaced_word c.args.words.now c.loop-word.word-index _ c.loop-word-test.true);
}

pub returns : goal.returns
returns g c = rw (take_all c.loop-word.word-index c.args.words.now (omega arith)) at c.loop-word.invariant.so_far
