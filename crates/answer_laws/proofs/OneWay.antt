-- Boxes that answer one way.
use Rattle.std.proofs.Common.{◌≡◌, ℕ, List, sym, ap, ◌∙◌}
use Rattle.homa_service.specs.Answer.{Answer}
use Rattle.box_laws.specs.Boxes.{Allows}
use Rattle.answer_laws.specs.Answers.{suite_allows}

-- what a box may answer to a request, after so many answers, is one response with one hold
abbrev pub AnswersOneWay : {A : Type 0} → Allows A → Type 0
AnswersOneWay {A} allows =
    (box : A) (count number hold hold' : ℕ) (q r r' : List ℕ) → allows box count number q r hold → allows box count number q r' hold'
    → (r ≡ r') × (hold ≡ hold')

pub suite_one_way : AnswersOneWay suite_allows
suite_one_way suite count number hold hold' q r r' a b = (ap (λ (x : Answer). x.bytes) (a ∙ sym b), ap (λ (x : Answer). x.hold) (a ∙ sym b))
