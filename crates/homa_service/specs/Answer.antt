-- What a service answers.
use Rattle.std.specs.Prelude.{ℕ, List, refl}
use Rattle.std.specs.Coded.{Coded, code_by, coded×, coded_list, coded_ℕ}

-- a response, and for how many ticks it is held back
pub record Answer : Type 0 where
  pub bytes : List ℕ
  pub hold : ℕ

-- the encoding of an answer as the pair of its fields
abbrev pub answer_code : Coded Answer
answer_code =
    code_by (List ℕ × ℕ) (coded× (coded_list coded_ℕ) coded_ℕ) (λ a. (a.bytes, a.hold)) (λ p. record { bytes = p.0; hold = p.1 }) (λ _. refl)
