use Rattle.std.proofs.Common.{refl}
use Rattle.homa_io.proofs.Fronts.{front_after}
use Rattle.homa_io.proofs.Writing.{ends_on, handed_on}
use Rattle.written_lines.proofs.Putting.{put_all, front_more}
use Rattle.written_lines.proofs.held.append.Goals as goal

pub returns-in_err-flush : goal.returns-in_err-flush
returns-in_err-flush g c = handed_on _ c.from_residual.ensures.0 c.in_err-flush.ensures.written (λ front. front_more _ _ _ _ _ front refl)

pub returns-then-bytes : goal.returns-then-bytes
returns-then-bytes g c =
    ends_on g.met.K.Sink.same_on c.in_ok-flush.ensures.written c.write_all.ensures
    (λ all. put_all _ _ _ _ _ _ c.in_ok-flush.ensures.written.ok all c.in_ok-flush.ensures.empty)
    (λ front. front_after _ _ _ _ _ c.in_ok-flush.ensures.written.ok front)
