use Rattle.std.proofs.Common.{refl, [], ◌∷◌, ◌++◌}
use Rattle.std.specs.List.{flat_map}
use Rattle.written_lines.specs.Written.{word_text, spaced_word}
use Rattle.homa_io.proofs.Writing.{handed_on}
use Rattle.written_lines.proofs.Putting.{front_more, puts_on, failed_on, whole_on}
use Rattle.written_lines.proofs.Texts.{line_of_words-spaced, line_of_words-parts}
use Rattle.written_lines.proofs.line.put_words.Goals as goal

pub returns-in_err-put_word : goal.returns-in_err-put_word
returns-in_err-put_word g c =
    handed_on _ c.from_residual.ensures.0 (rw c.requires at c.in_err-put_word.ensures)
    (λ front. front_more _ _ _ _ _ front (line_of_words-parts (word_text c.args.first) c.args.others.now))

pub returns-in_err-put_others : goal.returns-in_err-put_others
returns-in_err-put_others g c =
    let first = word_text c.args.first in
    failed_on g.met.K.Sink.same_on [] first _ _ _ c.from_residual-in_err-put_others.ensures.0 (rw c.requires at c.in_ok-put_word.ensures)
    c.in_err-put_others.ensures (line_of_words-parts first c.args.others.now)

pub returns-in_err-append : goal.returns-in_err-append
returns-in_err-append g c =
    let on = g.met.K.Sink.same_on in
    let first = word_text c.args.first in
    let others = flat_map spaced_word c.args.others.now in
    failed_on on [] (first ++ others) (10 ∷ []) [] _ c.from_residual-in_err-append.ensures.0
    (puts_on on [] first others (rw c.requires at c.in_ok-put_word.ensures) c.in_ok-put_others.ensures refl)
    c.in_err-append.ensures (line_of_words-spaced first c.args.others.now)

pub returns : goal.returns
returns g c =
    let on = g.met.K.Sink.same_on in
    let first = word_text c.args.first in
    let others = flat_map spaced_word c.args.others.now in
    whole_on on
    (puts_on on [] (first ++ others) (10 ∷ [])
    (puts_on on [] first others (rw c.requires at c.in_ok-put_word.ensures) c.in_ok-put_others.ensures refl) c.in_ok-append.ensures refl)
    (rw c.as_slice.ensures.value at c.write_all.ensures) (line_of_words-spaced first c.args.others.now)
