-- What boxes may answer, and what a replay or a generated run shows that they answered.
use Rattle.std.specs.Prelude.{◌≡◌, ℕ, List, ◌∷◌, length}
use Rattle.homa_plain.specs.Entries.{PlainSettings}
use Rattle.homa_plain.specs.Rules.{Answer}
use Rattle.homa_plain.specs.Replay.{replay}
use Rattle.homa_plain.specs.Answers.{shown}
use Rattle.generated_runs.specs.Generated.{generated, generated_settings}
use Rattle.homa_service.specs.Suite.{suite_answer}
use Rattle.box_laws.specs.Boxes.{Allows}
use Rattle.box_laws.specs.First.{AreAllowed}

-- what a suite of services may answer
abbrev pub suite_allows : ℕ → ℕ → ℕ → List ℕ → List ℕ → ℕ → Type 0
suite_allows suite count number q r hold = record { bytes = r; hold = hold } ≡ suite_answer count number q

-- what boxes may answer that answer as they like
abbrev pub any_answer : ℕ → ℕ → ℕ → List ℕ → List ℕ → ℕ → Type 0
any_answer box count number q r hold = Unit {0}

-- with these answers the replay of an input shows these, and the boxes of its hosts may give them
abbrev pub MayAnswerSo : {A : Type 0} → (A → ℕ) → Allows A → List A → List ℕ → List Answer → Type 0
MayAnswerSo served allows boxes bytes answers =
    let told = (replay bytes answers (length boxes)).told in (shown told ≡ answers) × AreAllowed served allows boxes told

-- with these answers the generated run of a seed and so many calls shows these, and the boxes of its hosts may give them
abbrev pub MayAnswerGenerated : {A : Type 0} → (A → ℕ) → Allows A → List A → ℕ → ℕ → List Answer → Type 0
MayAnswerGenerated served allows boxes seed calls answers =
    let told = (generated seed calls (length boxes) answers).told in
    (shown told ≡ answers) × AreAllowed served allows boxes (PlainSettings generated_settings ∷ told)
