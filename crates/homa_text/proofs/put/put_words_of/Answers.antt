use Rattle.std.proofs.Common.{◌∙◌, ℕ, List, map, ap, subst}
use Rattle.homa_io.specs.Writing.{IsWritten}
use Rattle.homa_plain.specs.Text.{line_of_words, line_text}
use Rattle.written_lines.specs.declared.written.Word.{Word}
use Rattle.written_lines.specs.Written.{word_text}
use Rattle.homa_text.proofs.put.put_words_of.Goals as goal

pub returns : goal.returns
unfolding line_text
returns g c =
    let sink = g.K.Sink in
    let texts = ap (λ (words : List Word). map word_text words) c.as_slice.ensures.value ∙ c.words_of_entry.ensures in
    subst
    (λ (words : List (List ℕ)).
    IsWritten sink.taken sink.faults sink.is_same c.put_line.result c.args.sink.now c.put_line.new.sink (line_of_words words)) texts c.put_line.ensures
