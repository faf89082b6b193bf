-- Without room nothing was printed.
use Rattle.std.proofs.Common.{refl}
use Rattle.std.proofs.lemmas.Result.{MatchResult-from_err}
use Rattle.generated_runs.specs.Generated.{generated_settings, schedule_text}
use Rattle.homa_generate.proofs.Making.{nothing_part}
use Rattle.homa_generate.proofs.printing.make.Goals as goal

pub returns-in_err-room-clause-part : goal.returns-in_err-room-clause-part
returns-in_err-room-clause-part g c =
    MatchResult-from_err _ _ _ c.from_residual.ensures.0
    (λ _. nothing_part _ (schedule_text generated_settings) _ _ (g.met.P.OpenWorld.unasked c.args.boxes _ refl))
