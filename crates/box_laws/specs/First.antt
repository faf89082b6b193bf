-- What the boxes of all hosts may answer, and which boxes a run begins with.
use Rattle.std.specs.Prelude.{◌≡◌, ◌≤◌, ℕ, Some, List, [], ◌∷◌, length, map, take, drop}
use Rattle.std.specs.List.{AllByRecursion}
use Rattle.homa_plain.specs.Entries.{PlainEntry, PlainSettings}
use Rattle.homa_plain.specs.Answers.{shown}
use Rattle.box_laws.specs.Boxes.{Allows, counted, all_counted, may_tell}
use Rattle.homa_plain.specs.Limits.{most_services}

-- Each answer that the entries of a run show is one that the box of its host then may give, with its number of answers before.
-- Box h is at host h, and the others are spare.
abbrev pub AreAllowed : {S : Type 0} → (S → ℕ) → Allows S → List S → List PlainEntry → Type 0
AreAllowed served allows boxes (PlainSettings s ∷ told) =
    may_tell allows (all_counted served (map Some (take s.hosts boxes))) (map (counted served) (drop s.hosts boxes)) told
AreAllowed served allows boxes told = shown told ≡ []

-- there are enough boxes, whatever the settings, and none has answered yet
pub record AreReady {S : Type 0} (served : S → ℕ) (boxes : List S) : Type 0 where
  pub enough : 32 ≤ length boxes
  pub at_most : length boxes ≤ most_services
  pub none : AllByRecursion (λ box. served box ≡ 0) boxes
