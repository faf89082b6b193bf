use Rattle.std.proofs.Common.{◌∙◌, ◌&&◌, ap, length}
use Rattle.check_call.specs.Kept.{piece_is_forgotten}
use Rattle.check_call.proofs.CallLaws.{heard_leaves, forgotten_piece}
use Rattle.check_call.proofs.call.heard.Goals as goal

pub returns-clause-leaves : goal.returns-clause-leaves
returns-clause-leaves c b v p s e counts stands =
    heard_leaves b v p s c.counted-refused.result c.args.counts c.forgets.result counts (c.counted-refused.ensures.stands b s p e stands)
    (c.forgets.ensures ∙ ap (λ f. c.args.counts && f) (ap (λ k. piece_is_forgotten k.piece) e ∙ forgotten_piece p.body (length p.payload)))
