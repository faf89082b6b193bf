use Rattle.std.proofs.Common.{◌∙◌}
use Rattle.homa_io.proofs.Writing.{handed_on, ends_on, none_written, written_on}
use Rattle.homa_script.specs.Named.{named_text}
use Rattle.written_lines.proofs.Texts.{flat_map-more}
use Rattle.homa_script.proofs.Putting.{took_line}
use Rattle.homa_script.proofs.put.put_named.Goals as goal

pub loop-name-init : goal.loop-name-init
loop-name-init g c = record { so_far = none_written (g.met.K.Sink.same_self _) }

pub returns-in_err-put_line : goal.returns-in_err-put_line
returns-in_err-put_line g c =
    let n = c.word.ensures in
    let m = c.from.ensures ∙ c.get-number.ensures in
    let so_far = c.loop-name.invariant.so_far in
    handed_on _ c.from_residual.ensures.0
    (ends_on g.met.K.Sink.same_on so_far (rw (n, m) at c.in_err-put_line.ensures) (λ line. line)
    (λ front. took_line (named_text c.args.settings.now) c.args.names.now c.loop-name.name-index _ _ _ _ c.loop-name-test.true so_far.ok front))
    (λ front. front)

pub loop-name-preserved : goal.loop-name-preserved
loop-name-preserved g c =
    let n = c.word.ensures in
    let m = c.from.ensures ∙ c.get-number.ensures in
    record {
      so_far = written_on g.met.K.Sink.same_on _ _ c.loop-name.invariant.so_far (rw (n, m) at c.in_ok-put_line.ensures)
          (flat_map-more (named_text c.args.settings.now) c.args.names.now c.loop-name.name-index _ c.loop-name-test.true);
    }
