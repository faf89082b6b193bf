use Rattle.std.proofs.Common.{arith}
use Rattle.homa_io.proofs.Writing.{handed_on, written_on}
use Rattle.homa_script.proofs.Putting.{took_settings, whole_text}
use Rattle.homa_script.proofs.put.put_settings.Goals as goal

pub returns-in_err-put_named : goal.returns-in_err-put_named
returns-in_err-put_named g c =
    handed_on _ c.from_residual.ensures.0 c.in_err-put_named.ensures
    (λ front. took_settings c.args.settings.now _ _ _ (omega (arith, c.told_settings.ensures.value)) front)

pub returns : goal.returns
returns g c =
    written_on g.met.K.Sink.same_on _ _ c.in_ok-put_named.ensures c.put_line.ensures
    (whole_text c.args.settings.now _ (omega (arith, c.told_settings.ensures.value)))
