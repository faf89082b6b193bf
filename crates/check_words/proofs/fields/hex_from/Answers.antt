use Rattle.std.proofs.Common.{◌∙◌, sym}
use Rattle.check_words.proofs.HexWords.{hex_of-pairs}
use Rattle.check_words.proofs.fields.hex_from.Goals as goal

pub returns-then-read_pairs-clause-value : goal.returns-then-read_pairs-clause-value
returns-then-read_pairs-clause-value c =
    c.if-read_pairs.ensures
    ∙ hex_of-pairs c.args.word.now (sym c.is_empty.ensures ∙ c.if-is_empty.false) (rw (← c.as_slice.ensures) (sym c.eq.ensures ∙ c.if-eq.false))
    c.if-word-eq1.false

pub returns-else-read_pairs-clause-value : goal.returns-else-read_pairs-clause-value
returns-else-read_pairs-clause-value c =
    c.if-read_pairs.ensures
    ∙ hex_of-pairs c.args.word.now (sym c.is_empty.ensures ∙ c.if-is_empty.false) (rw (← c.as_slice.ensures) (sym c.eq.ensures ∙ c.if-eq.false))
    c.if-word-eq1.false
