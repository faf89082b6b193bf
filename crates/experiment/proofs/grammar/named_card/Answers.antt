-- A word of as many bytes as a pattern, each of which is the pattern's, is that pattern.
use Rattle.std.proofs.Common.{codes, ap, sym, arith}
use Rattle.std.proofs.lemmas.Slice.Eq.{text_from_reads}
use Rattle.experiment.specs.Grammar.{card_of}
use Rattle.experiment.proofs.grammar.named_card.Goals as goal

pub returns-in-levels : goal.returns-in-levels
returns-in-levels c =
    sym (ap card_of
    (text_from_reads c.args.word.now (codes "levels") (omega arith) (
      omega arith,
      (omega arith, (omega arith, (omega arith, (omega arith, (omega arith, tt))))),
    )))
