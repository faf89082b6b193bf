-- A suite answers each request.
use Rattle.std.proofs.Common.{refl}
use Rattle.homa_service.specs.Suite.{suite_answer}
use Rattle.answer_laws.specs.Answers.{suite_allows}
use Rattle.answer_laws.proofs.Answering.{AnswersAlways}

pub suites_answer : AnswersAlways suite_allows
suites_answer suite count number q =
    let a = suite_answer count number q in
    record { answer = record { bytes = a.bytes; hold = a.hold }; may = refl }
