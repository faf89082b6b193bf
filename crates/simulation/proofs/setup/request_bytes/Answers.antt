-- They count up to their own number.
use Rattle.std.proofs.Common.{List, length, ◌≡◌, ℕ, ◌∙◌, sym, ap}
use Rattle.std.proofs.lemmas.Result.{IfOk-weaker}
use Rattle.homa_plain.specs.Script.{counting}
use Rattle.generated_runs.proofs.Counting.{length-counting}
use Rattle.simulation.proofs.setup.request_bytes.Goals as goal

pub returns : goal.returns
returns c =
    IfOk-weaker c.counting_bytes.result _ _
    (λ bytes is. is ∙ ap (counting 0) (sym (length-counting 0 c.args.size) ∙ ap (length {A = ℕ}) (sym is))) c.counting_bytes.ensures
