-- A list of answers for a replay, and for a generated run.
use Rattle.std.specs.Prelude.{ℕ, List}
use Rattle.homa_plain.specs.Rules.{Answer}
use Rattle.box_laws.specs.Boxes.{Allows}
use Rattle.answer_laws.specs.Answers.{MayAnswerSo, MayAnswerGenerated}

-- some answers that the replay of an input shows with them, and that the boxes of its hosts may give
pub record SomeAnswers {A : Type 0} (served : A → ℕ) (allows : Allows A) (boxes : List A) (bytes : List ℕ) : Type 0 where
  pub answers : List Answer
  pub are : MayAnswerSo served allows boxes bytes answers

-- some answers that the generated run of a seed and so many calls shows with them, and that the boxes of its hosts may give
pub record SomeGenerated {A : Type 0} (served : A → ℕ) (allows : Allows A) (boxes : List A) (seed calls : ℕ) : Type 0 where
  pub answers : List Answer
  pub are : MayAnswerGenerated served allows boxes seed calls answers
