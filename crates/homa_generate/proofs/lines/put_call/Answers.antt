-- The request is written by its length.
use Rattle.std.proofs.Common.{◌≡◌, ◌∙◌, ◌∷◌}
use Rattle.std.specs.Fmt.{decimal}
use Rattle.generated_runs.proofs.Counting.{length-counting}
use Rattle.homa_generate.proofs.lines.put_call.Goals as goal

pub returns : goal.returns
returns g c =
    let word : c.as_slice.result.now ≡ 42 ∷ decimal c.args.t.now.len = c.as_slice.ensures.value ∙ c.counting_word-bytes.ensures in
    rw (length-counting 0 c.args.t.now.len) (rw (word, c.from.ensures) at c.put_line.ensures)
