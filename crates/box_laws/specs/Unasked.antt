-- Lines that show no answer are allowed by every box.
use Rattle.std.specs.Prelude.{◌≡◌, ℕ, Option, Some, List, [], ◌∷◌, map, take, drop, slice_set}
use Rattle.homa_plain.specs.Entries.{PlainEntry, PlainSettings, PlainRun, PlainRestart}
use Rattle.homa_service.specs.Table.{last_of, front_of}
use Rattle.homa_plain.specs.Answers.{shown}
use Rattle.box_laws.specs.Boxes.{Allows, counted, all_counted, may_tell}
use Rattle.box_laws.specs.First.{AreAllowed}

module _ {S : Type 0} (served : S → ℕ) (allows : Allows S) where
  -- lines without an answer
  none_told : (seats : List (Option (S × ℕ))) (spares : List (S × ℕ)) (told : List PlainEntry) → shown told ≡ [] → may_tell allows seats spares told
  none_told seats spares [] e = tt
  none_told seats spares (entry ∷ told) e = by_entry entry e (λ vs ws f. none_told vs ws told f) where
    by_entry : (entry : PlainEntry) → shown (entry ∷ told) ≡ []
        → ((vs : List (Option (S × ℕ))) (ws : List (S × ℕ)) → shown told ≡ [] → may_tell allows vs ws told) → may_tell allows seats spares (entry ∷ told)
    by_entry (PlainRun host id service request response hold) e rest = absurd (no e) where
      no : {A : Type 0} {x : A} {xs : List A} → x ∷ xs ≡ [] → ⊥
      no e = cc
    by_entry (PlainRestart host inc) e rest = (tt, rest (slice_set seats host.0 (last_of spares)) (front_of spares) e)
    by_entry entry e rest = (tt, rest seats spares e)

  -- lines of a replay without an answer
  pub unasked_allowed : (boxes : List S) (told : List PlainEntry) → shown told ≡ [] → AreAllowed served allows boxes told
  unasked_allowed boxes [] e = e
  unasked_allowed boxes (PlainSettings s ∷ told) e =
      none_told (all_counted served (map Some (take s.hosts boxes))) (map (counted served) (drop s.hosts boxes)) told e
  unasked_allowed boxes (entry ∷ told) e = e
