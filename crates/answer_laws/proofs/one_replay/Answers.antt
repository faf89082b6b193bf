use Rattle.std.proofs.Common.{◌≡◌, ◌≤◌, ℕ, List, length, ap}
use Rattle.homa_plain.specs.Rules.{Answer}
use Rattle.homa_plain.specs.Replay.{replay_text}
use Rattle.answer_laws.specs.Answers.{MayAnswerSo, suite_allows}
use Rattle.answer_laws.proofs.OneWay.{suite_one_way}
use Rattle.answer_laws.proofs.Runs.{one_replay as one_list}
use Rattle.answer_laws.proofs.one_replay.Goals as goal

only : (boxes bytes : List ℕ) (these those : List Answer) → 32 ≤ length boxes → MayAnswerSo (λ n. n) suite_allows boxes bytes these
    → MayAnswerSo (λ n. n) suite_allows boxes bytes those → these ≡ those
only boxes bytes these those enough a b = one_list (λ n. n) suite_allows suite_one_way boxes bytes enough these those a b

pub returns-clause-answers : goal.returns-clause-answers
returns-clause-answers c = only

pub returns-clause-text : goal.returns-clause-text
returns-clause-text c boxes bytes these those enough a b = ap (λ l. replay_text bytes l (length boxes)) (only boxes bytes these those enough a b)
