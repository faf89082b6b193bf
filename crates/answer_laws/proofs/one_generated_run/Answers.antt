use Rattle.std.proofs.Common.{◌≡◌, ◌≤◌, ℕ, List, length, ap}
use Rattle.homa_plain.specs.Rules.{Answer}
use Rattle.generated_runs.specs.Generated.{generated, generated_settings, schedule_text, summary_text}
use Rattle.answer_laws.specs.Answers.{MayAnswerGenerated, suite_allows}
use Rattle.answer_laws.proofs.OneWay.{suite_one_way}
use Rattle.answer_laws.proofs.Rounds.{one_run}
use Rattle.answer_laws.proofs.one_generated_run.Goals as goal

only : (boxes : List ℕ) (seed calls : ℕ) (these those : List Answer) → 32 ≤ length boxes → MayAnswerGenerated (λ n. n) suite_allows boxes seed calls these
    → MayAnswerGenerated (λ n. n) suite_allows boxes seed calls those → these ≡ those
only boxes seed calls these those enough a b = one_run (λ n. n) suite_allows suite_one_way boxes enough seed calls these those a b

pub returns-clause-answers : goal.returns-clause-answers
returns-clause-answers c = only

pub returns-clause-schedule : goal.returns-clause-schedule
returns-clause-schedule c boxes seed calls these those enough a b =
    ap (λ l. schedule_text generated_settings (generated seed calls (length boxes) l)) (only boxes seed calls these those enough a b)

pub returns-clause-summary : goal.returns-clause-summary
returns-clause-summary c boxes seed calls these those enough a b =
    ap (λ l. summary_text (generated seed calls (length boxes) l).told) (only boxes seed calls these those enough a b)
