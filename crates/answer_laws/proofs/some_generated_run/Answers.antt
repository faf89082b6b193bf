use Rattle.answer_laws.specs.Answers.{suite_allows}
use Rattle.answer_laws.proofs.SuiteAnswers.{suites_answer}
use Rattle.answer_laws.proofs.Drawing.{some_run}
use Rattle.answer_laws.proofs.some_generated_run.Goals as goal

pub returns : goal.returns
returns c boxes seed calls enough = some_run (λ n. n) suite_allows suites_answer boxes enough seed calls
