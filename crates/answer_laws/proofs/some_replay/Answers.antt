use Rattle.answer_laws.specs.Answers.{suite_allows}
use Rattle.answer_laws.proofs.SuiteAnswers.{suites_answer}
use Rattle.answer_laws.proofs.Existing.{some_replay}
use Rattle.answer_laws.proofs.some_replay.Goals as goal

pub returns : goal.returns
returns c boxes bytes enough = some_replay (λ n. n) suite_allows suites_answer boxes bytes enough
