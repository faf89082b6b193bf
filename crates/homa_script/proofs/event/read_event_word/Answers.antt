-- A word of as many bytes as a pattern, each of which is the pattern's, is that pattern.
use Rattle.std.proofs.Common.{codes, ap, sym, arith}
use Rattle.std.proofs.lemmas.Slice.Eq.{text_from_reads}
use Rattle.homa_plain.specs.Script.{event_word}
use Rattle.homa_script.proofs.event.read_event_word.Goals as goal

pub returns-in-inject : goal.returns-in-inject
returns-in-inject c = ap event_word
    (sym (text_from_reads c.args.word.now (codes "inject") (omega arith) (
      omega arith,
      (omega arith, (omega arith, (omega arith, (omega arith, (omega arith, tt))))),
    )))

pub returns-in-deliver : goal.returns-in-deliver
returns-in-deliver c = ap event_word
    (sym (text_from_reads c.args.word.now (codes "deliver") (omega arith) (
      omega arith,
      (omega arith, (omega arith, (omega arith, (omega arith, (omega arith, (omega arith, tt)))))),
    )))

pub returns-in-restart : goal.returns-in-restart
returns-in-restart c = ap event_word
    (sym (text_from_reads c.args.word.now (codes "restart") (omega arith) (
      omega arith,
      (omega arith, (omega arith, (omega arith, (omega arith, (omega arith, (omega arith, tt)))))),
    )))
