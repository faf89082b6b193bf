-- The summary of the run, whose schedule went nowhere.
use Rattle.std.proofs.Common.{refl}
use Rattle.std.proofs.lemmas.Result.{MatchResult-from_err}
use Rattle.generated_runs.specs.Rounds.{Generated}
use Rattle.generated_runs.specs.Generated.{summary_text}
use Rattle.homa_generate.proofs.Making.{nothing_part, summary_made, summary_part}
use Rattle.homa_generate.proofs.printing.count.Goals as goal

pub returns-in_err-counts-clause-part : goal.returns-in_err-counts-clause-part
returns-in_err-counts-clause-part g c =
    MatchResult-from_err _ _ _ c.from_residual.ensures.0
    (λ _. nothing_part _ (λ (g : Generated). summary_text g.told) _ _ (g.met.P.OpenWorld.unasked c.args.boxes _ refl))

pub returns-in_err-put-clause-part : goal.returns-in_err-put-clause-part
returns-in_err-put-clause-part g c =
    MatchResult-from_err _ _ _ c.from_residual-in_err-put.ensures.0 (λ _. summary_part _ _ _ _ _ c.in_ok-counts.ensures.ran _ _ c.in_err-put.ensures.err)

pub returns-clause-made : goal.returns-clause-made
returns-clause-made g c = summary_made _ _ _ _ _ c.in_ok-counts.ensures.ran _ _ c.in_ok-put.ensures.ok
