-- The word without its leading zeros.
use Rattle.std.proofs.Common.{rules, refl}
use Rattle.experiment.proofs.WordLaws.{normal, shifted}
use Rattle.experiment.proofs.draws.minus_ln.Goals as goal

pub ln-requires-clause-least : goal.ln-requires-clause-least
ln-requires-clause-least c = rw (shifted c.args.word c.from-2.result (search rules) c.requires (search rules)) (normal c.args.word c.requires (search rules)).0

pub ln-requires-clause-most : goal.ln-requires-clause-most
ln-requires-clause-most c = rw (shifted c.args.word c.from-2.result (search rules) c.requires (search rules)) (normal c.args.word c.requires (search rules)).1

pub returns-clause-value : goal.returns-clause-value
returns-clause-value c =
    rw (c.saturating_sub.ensures, c.ln.ensures, shifted c.args.word c.from-2.result (search rules) c.requires (search rules), c.from.ensures) refl
