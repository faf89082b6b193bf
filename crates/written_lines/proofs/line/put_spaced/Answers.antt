use Rattle.std.proofs.Common.{refl, [], ◌∷◌, append_assoc}
use Rattle.written_lines.specs.Written.{word_text}
use Rattle.homa_io.proofs.Writing.{handed_on}
use Rattle.written_lines.proofs.Putting.{front_more, puts_on}
use Rattle.written_lines.proofs.line.put_spaced.Goals as goal

pub returns-in_err-append : goal.returns-in_err-append
returns-in_err-append g c =
    handed_on _ c.from_residual.ensures.0 c.in_err-append.ensures
    (λ front. front_more _ _ _ (word_text c.args.word) _ front (append_assoc c.args.held.now.items (32 ∷ []) (word_text c.args.word)))

pub returns : goal.returns
returns g c = puts_on g.met.K.Sink.same_on _ _ _ c.in_ok-append.ensures c.put_word.ensures refl
