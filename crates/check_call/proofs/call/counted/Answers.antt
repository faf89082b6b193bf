use Rattle.std.proofs.Common.{◌∙◌, sym, ap, length}
use Rattle.check_call.specs.Kept.{piece_is_unknown}
use Rattle.check_call.proofs.CallLaws.{unknown_piece}
use Rattle.check_call.proofs.call.counted.Goals as goal

pub returns-then-counts-clause-stands : goal.returns-then-counts-clause-stands
returns-then-counts-clause-stands c b s p e h =
    rw c.if-counts.true
    (c.heard.ensures.stands b s p (sym (ap (λ k. k.inc) e))
    (sym (c.is_unknown.ensures ∙ ap (λ k. piece_is_unknown k.piece) e ∙ unknown_piece p.body (length p.payload))) h)
