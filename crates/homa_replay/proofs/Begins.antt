-- The settings of a schedule.
use Rattle.std.proofs.Common.{◌≡◌, ℕ, Bool, true, false, Option, Some, Ok, Err, List, [], ◌∷◌, ◌++◌, refl, sym, ap, ◌∙◌, subst}
use Rattle.std.proofs.lemmas.List.{append-nil}
use Rattle.homa_io.specs.Outside.{appended, TookFront}
use Rattle.homa_plain.specs.declared.settings.Settings.{Settings}
use Rattle.homa_plain.specs.declared.fault.ScriptFault.{ScriptFault}
use Rattle.homa_plain.specs.declared.fault.LineFault.TheVariants.{Script as ByScript}
use Rattle.homa_plain.specs.Entries.{PlainSettings, PlainRefused}
use Rattle.homa_plain.specs.Text.{line_text}
use Rattle.homa_plain.specs.Script.{Opening, Opened, Unopened, opening, most_bytes}
use Rattle.homa_plain.specs.Rules.{Answer}
use Rattle.homa_plain.specs.Replay.{RefusedAt, replay, replay_opened}
use Rattle.script_lines.specs.Place.{Place}
use Rattle.homa_script.specs.Steps.{steps_left}
use Rattle.script_lines.specs.Read.{IsRead, IsCut}
use Rattle.homa_script.specs.Script.{IsOpening}
use Rattle.script_lines.specs.declared.stop.ScriptStop.TheVariants.{Fault}
use Rattle.homa_replay.specs.Stream.{ending}
use Rattle.homa_replay.specs.Progress.{replay_of, is_unasked, AreFar, ArePrinted, AreParts}
use Rattle.homa_replay.proofs.Fronts.{front_same}
use Rattle.homa_replay.proofs.Plays.{front_amid}
use Rattle.homa_replay.proofs.Fars.{far_start, far_to, fars_read, fars_end, fars_part, fars_cut}
use Rattle.homa_replay.proofs.LineSteps.{last_cut}

by_opening : (boxes : ℕ) (more : List ℕ) (later : List Answer) → replay_of boxes more later ≡ replay_opened (opening most_bytes more) later boxes
unfolding replay
by_opening boxes more later = refl

module _ (boxes : ℕ) (left left2 old taken : Option (List ℕ)) (e : taken ≡ old) where
  start : AreFar (replay_of boxes) left left old taken is_unasked is_unasked (replay_of boxes)
  start = λ bytes h. subst (λ (o : Option (List ℕ)). AreFar (replay_of boxes) left left old o is_unasked is_unasked (replay_of boxes)) (sym e)
      (λ all k. far_start (replay_of boxes) all left old is_unasked k) bytes h

  -- reading failed
  pub begin_cut : (all : Bool) → ((rest : List ℕ) → left ≡ Some rest → IsCut rest left2) → AreParts (replay_of boxes) left left2 old taken is_unasked all
  begin_cut all f = fars_cut (replay_of boxes) left left old taken is_unasked is_unasked (replay_of boxes) left2 all start refl f

  opens : (now : List ℕ → Opening) → ((rest : List ℕ) → left ≡ Some rest → IsRead rest left2 (opening most_bytes) now)
      → AreFar (replay_of boxes) left left2 old taken is_unasked is_unasked (λ more later. replay_opened (now more) later boxes)
  opens now f =
      fars_read (replay_of boxes) left left old taken is_unasked is_unasked (λ (o : Opening) (later : List Answer). replay_opened o later boxes)
      (opening most_bytes) now left2
      (λ bytes h. far_to (replay_of boxes) bytes left old taken is_unasked is_unasked (replay_of boxes)
      (λ more later. replay_opened (opening most_bytes more) later boxes) (start bytes h) (by_opening boxes)) f

  -- the line of the settings was printed, in part or, where `all` says so, whole
  pub settings_cut : (new : Option (List ℕ)) (s : Settings) (place : Place) (all : Bool)
      → ((rest : List ℕ) → left ≡ Some rest → IsRead rest left2 (opening most_bytes) (λ more. Opened s (steps_left place more)))
      → (all ≡ true → new ≡ appended taken (line_text (PlainSettings s))) → TookFront taken new (line_text (PlainSettings s))
      → AreParts (replay_of boxes) left left2 old new is_unasked all
  settings_cut new s place all f put t =
      let line : line_text (PlainSettings s) ≡ line_text (PlainSettings s) ++ [] = sym (append-nil (line_text (PlainSettings s))) in
      fars_part (replay_of boxes) left left2 old taken is_unasked is_unasked new (λ more later. replay_opened (Opened s (steps_left place more)) later boxes)
      (PlainSettings s ∷ []) all
      (opens (λ more. Opened s (steps_left place more)) f) refl
      (λ k. put k ∙ ap (λ (l : List ℕ). appended taken l) line)
      (λ more later. front_amid taken new (PlainSettings s ∷ []) _ (front_same taken new _ _ line t))

  refuses : (line : ℕ) (fault : ScriptFault)
      → ((rest : List ℕ) → left ≡ Some rest → IsRead rest left2 (opening most_bytes) (λ more. Unopened (record { line = line; fault = fault })))
      → AreFar (replay_of boxes) left left2 old taken is_unasked is_unasked (λ more later. ending (RefusedAt line (ByScript fault)))
  refuses line fault f = opens (λ more. Unopened (record { line = line; fault = fault })) f

  -- the refusal was printed
  pub begin_refused : (new : Option (List ℕ)) (line : ℕ) (fault : ScriptFault)
      → ((rest : List ℕ) → left ≡ Some rest → IsRead rest left2 (opening most_bytes) (λ more. Unopened (record { line = line; fault = fault })))
      → new ≡ appended taken (line_text (PlainRefused line (ByScript fault))) → ArePrinted (replay_of boxes) left old new is_unasked false
  begin_refused new line fault f h =
      fars_end (replay_of boxes) left left2 old taken is_unasked is_unasked new (RefusedAt line (ByScript fault)) false (refuses line fault f) refl h refl

  -- it was printed in part
  pub begin_refused_cut : (new : Option (List ℕ)) (line : ℕ) (fault : ScriptFault)
      → ((rest : List ℕ) → left ≡ Some rest → IsRead rest left2 (opening most_bytes) (λ more. Unopened (record { line = line; fault = fault })))
      → TookFront taken new (line_text (PlainRefused line (ByScript fault))) → AreParts (replay_of boxes) left left2 old new is_unasked false
  begin_refused_cut new line fault f t =
      last_cut (replay_of boxes) left left2 old taken new is_unasked is_unasked (RefusedAt line (ByScript fault)) (refuses line fault f) refl t

-- what `go` opens, or the refusal, for the limit of a schedule
pub opened_at : (limit : ℕ) (place : Place) (left left2 : Option (List ℕ)) (s : Settings) → limit ≡ 68719476736
    → ((bytes : List ℕ) → left ≡ Some bytes → IsOpening limit place bytes left2 (Ok s))
    → (rest : List ℕ) → left ≡ Some rest → IsRead rest left2 (opening most_bytes) (λ more. Opened s (steps_left place more))
opened_at limit place left left2 s e f rest h = subst (λ (n : ℕ). IsRead rest left2 (opening n) (λ more. Opened s (steps_left place more))) e (f rest h)

pub unopened_at : (limit line : ℕ) (place : Place) (left left2 : Option (List ℕ)) (fault : ScriptFault) → limit ≡ 68719476736 → line ≡ place.number
    → ((bytes : List ℕ) → left ≡ Some bytes → IsOpening limit place bytes left2 (Err (Fault fault)))
    → (rest : List ℕ) → left ≡ Some rest → IsRead rest left2 (opening most_bytes) (λ more. Unopened (record { line = line; fault = fault }))
unopened_at limit line place left left2 fault e n f rest h =
    subst (λ (k : ℕ). IsRead rest left2 (opening most_bytes) (λ more. Unopened (record { line = k; fault = fault }))) (sym n)
    (subst (λ (k : ℕ). IsRead rest left2 (opening k) (λ more. Unopened (record { line = place.number; fault = fault }))) e (f rest h))
