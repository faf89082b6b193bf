-- What the services of a node may tell, with the sizes of their answers.
use Rattle.std.specs.Prelude.{◌≡◌, ℕ, List, []}
use Rattle.std.proofs.Common.{sym, subst}
use Rattle.std.specs.List.{AllByRecursion}
use Rattle.homa_plain.specs.Entries.{PlainEntry}
use Rattle.homa_plain.specs.Answers.{shown}
use Rattle.node_runs.specs.Replayed.{IsAnswer}
use Rattle.box_laws.specs.Boxes.{Allows}
use Rattle.box_laws.specs.First.{AreAllowed}
use Rattle.box_laws.specs.Unasked.{unasked_allowed}

-- each answer that these entries show is allowed by its box, with its number of answers before, and has 1 to 1,000,000 bytes and a hold of at most
-- 1,000,000 ticks
abbrev pub AreFairlyAllowed : {S : Type 0} → (S → ℕ) → Allows S → List S → List PlainEntry → Type 0
AreFairlyAllowed served allows boxes told = AreAllowed served allows boxes told × AllByRecursion IsAnswer (shown told)

-- entries without an answer
pub unasked_fair : {S : Type 0} (served : S → ℕ) (allows : Allows S) (boxes : List S) (told : List PlainEntry) → shown told ≡ []
    → AreFairlyAllowed served allows boxes told
unasked_fair served allows boxes told e = (unasked_allowed served allows boxes told e, subst (AllByRecursion IsAnswer) (sym e) tt)
