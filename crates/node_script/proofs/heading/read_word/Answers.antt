-- A word of as many bytes as a pattern, each of which is the pattern's, is that pattern.
use Rattle.std.proofs.Common.{codes, ap, arith, ◌∙◌}
use Rattle.std.proofs.lemmas.Slice.Eq.{text_from_reads}
use Rattle.node_runs.specs.Script.{word_given}
use Rattle.node_script.proofs.heading.read_word.Goals as goal

pub returns-in-remote-clause-given : goal.returns-in-remote-clause-given
returns-in-remote-clause-given c =
    ap (λ w. word_given w c.args.words.now)
    (text_from_reads c.args.word.now (codes "remote") (omega arith) (
      omega arith,
      (omega arith, (omega arith, (omega arith, (omega arith, (omega arith, tt))))),
    ))
    ∙ c.read_remote.ensures.given
