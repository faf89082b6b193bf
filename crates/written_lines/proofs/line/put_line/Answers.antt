use Rattle.std.proofs.Common.{List, map, subst}
use Rattle.homa_io.specs.Writing.{IsWritten}
use Rattle.homa_plain.specs.Text.{line_of_words}
use Rattle.written_lines.specs.declared.written.Word.{Word}
use Rattle.written_lines.specs.Written.{word_text}
use Rattle.written_lines.proofs.Texts.{first_of}
use Rattle.written_lines.proofs.line.put_line.Goals as goal

pub returns-in-len1-up : goal.returns-in-len1-up
returns-in-len1-up g c =
    let sink = g.K.Sink in
    subst
    (λ (words : List Word).
    IsWritten sink.taken sink.faults sink.is_same c.put_words.result c.args.sink.now c.put_words.new.sink (line_of_words (map word_text words)))
    (first_of c.args.words.now _ c.in-len1-up.len_at_least) c.put_words.ensures
