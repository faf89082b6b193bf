-- The lines of a schedule up to `go`, one by one.
use Rattle.std.proofs.Common.{◌≡◌, ℕ, ◌+◌, suc, arith, Bool, true, false, Option, Some, Result, Ok, Err, List, [], ◌∷◌, length, refl, sym, ap, ◌∙◌}
use Rattle.homa_plain.specs.declared.fault.ScriptFault.{ScriptFault}
use Rattle.homa_plain.specs.declared.fault.ScriptFault.TheVariants.{Setting, NoGo}
use Rattle.homa_plain.specs.declared.settings.Settings.{Settings}
use Rattle.homa_plain.specs.declared.settings.SettingFault.{SettingFault}
use Rattle.homa_plain.specs.declared.settings.Name.{Name}
use Rattle.homa_plain.specs.Input.{words_of}
use Rattle.homa_plain.specs.Settings.{verdict, usual}
use Rattle.homa_plain.specs.Script.{Blank, SettingIs, Go, Steps, steps_from, Opening, Opened, Unopened, opened_by, opening, opening_from}
use Rattle.homa_plain.specs.Script.{with_setting, phrase_in, phrase_of}
use Rattle.text_lines.specs.Lines.{Reading}
use Rattle.script_lines.specs.declared.stop.ScriptStop.{ScriptStop}
use Rattle.script_lines.specs.declared.stop.ScriptStop.TheVariants.{Read, Fault}
use Rattle.script_lines.specs.Place.{Place, place_of, lines_left}
use Rattle.script_lines.specs.Lines.{IsNumbered}
use Rattle.script_lines.proofs.ReadParts.{read_start, read_to, cut_on}
use Rattle.script_lines.proofs.Taken.{AreDue, IsComing, IsTaken, on_line, on_refused, on_none}
use Rattle.homa_script.specs.Steps.{steps_left}
use Rattle.homa_script.specs.Script.{opened, IsOpening}
use Rattle.homa_script.proofs.Phrases.{phrase_text, phrase_fault}
use Rattle.homa_script.proofs.Steps.{behind}

-- ---- one line

abbrev pub refusal : ℕ → ScriptFault → Opening
refusal n fault = Unopened (record { line = n; fault = fault })

opening-blank : (limit read n : ℕ) (s : Settings) (line : List ℕ) (lines : List (List ℕ)) → phrase_in limit false read line ≡ Ok Blank
    → opening_from limit read n s (line ∷ lines) ≡ opening_from limit (read + length line) (suc n) s lines
unfolding opening_from
opening-blank limit read n s line lines e = rw (e, opening_from) refl

opening-setting : (limit read n : ℕ) (s : Settings) (line : List ℕ) (lines : List (List ℕ)) (name : Name) (m : ℕ)
    → phrase_in limit false read line ≡ Ok (SettingIs name m)
    → opening_from limit read n s (line ∷ lines) ≡ opening_from limit (read + length line) (suc n) (with_setting s name m) lines
unfolding opening_from
opening-setting limit read n s line lines name m e = rw (e, opening_from) refl

opening-go : (limit read n : ℕ) (s : Settings) (line : List ℕ) (lines : List (List ℕ)) → phrase_in limit false read line ≡ Ok Go
    → opening_from limit read n s (line ∷ lines) ≡ opened_by s n (steps_from limit (read + length line) (suc n) lines)
unfolding opening_from
opening-go limit read n s line lines e = rw (e, opening_from) refl

opening-refused : (limit read n : ℕ) (s : Settings) (line : List ℕ) (lines : List (List ℕ)) (fault : ScriptFault)
    → phrase_in limit false read line ≡ Err fault → opening_from limit read n s (line ∷ lines) ≡ refusal n fault
unfolding opening_from
opening-refused limit read n s line lines fault e = rw (e, opening_from) refl

opening-none : (limit read n : ℕ) (s : Settings) → opening_from limit read n s [] ≡ refusal n NoGo
unfolding opening_from
opening-none limit read n s = refl

opened-valid : (s : Settings) (n : ℕ) (steps : Steps) (u : Unit {0}) → Ok u ≡ verdict s → opened_by s n steps ≡ Opened s steps
opened-valid s n steps u e = ap (λ (v : Result (Unit {0}) SettingFault). elim v [ Err fault ↦ refusal n (Setting fault) | Ok w ↦ Opened s steps ]) (sym e)

opened-not : (s : Settings) (n : ℕ) (steps : Steps) (fault : SettingFault) → Err fault ≡ verdict s → opened_by s n steps ≡ refusal n (Setting fault)
opened-not s n steps fault e = ap (λ (v : Result (Unit {0}) SettingFault). elim v [ Err f ↦ refusal n (Setting f) | Ok w ↦ Opened s steps ]) (sym e)

same_opening : (limit read n limit2 read2 n2 : ℕ) (s s2 : Settings) (lines : List (List ℕ)) → limit2 ≡ limit → read2 ≡ read → n2 ≡ n → s2 ≡ s
    → opening_from limit read n s lines ≡ opening_from limit2 read2 n2 s2 lines
same_opening limit read n limit2 read2 n2 s s2 lines e f g h = cc

-- ---- the lines of a reader

-- what these lines are, where these settings hold so far
abbrev pub opening_of : Reading → Settings → List (List ℕ) → Opening
opening_of r s lines = opening_from r.limit r.read (r.number + 1) s lines

-- what is due so far
abbrev pub IsOpen : ℕ → Reading → Settings → Option (List ℕ) → Option (List ℕ) → Type 0
IsOpen limit old s left0 left = AreDue (opening limit) (λ more. opening_of old s (lines_left (place_of old) more)) left0 left

start_by : (r : Reading) → r.pending ≡ [] → r.read ≡ 0 → r.number ≡ 0 → (more : List ℕ)
    → opening r.limit more ≡ opening_of r usual (lines_left (place_of r) more)
unfolding opening
start_by r e f n more = rw (e, f, n) refl

-- nothing was read yet
pub open_start : (r : Reading) (s : Settings) (left : Option (List ℕ)) → place_of r ≡ (opened r.limit).place → s ≡ usual → IsOpen r.limit r s left left
open_start r s left e f bytes k =
    read_to bytes left (opening r.limit) (opening r.limit) (λ more. opening_of r s (lines_left (place_of r) more)) (read_start bytes left (opening r.limit) k)
    (λ more. start_by r (ap (λ (p : Place). p.pending) e) (ap (λ (p : Place). p.read) e) (ap (λ (p : Place). p.number) e) more
    ∙ ap (λ (u : Settings). opening_of r u (lines_left (place_of r) more)) (sym f))

module _ (limit : ℕ) (old new : Reading) (s : Settings) (left0 left left2 : Option (List ℕ)) (text : List ℕ) (d : IsOpen limit old s left0 left)
    (t : IsTaken old new left left2 text) where
  -- the settings stay
  pub open_blank : phrase_of false (words_of text) ≡ Ok Blank → IsOpen limit new s left0 left2
  open_blank p =
      on_line (opening limit) (opening_of old s) old left0 left left2 d new text (λ more. opening_of new s (lines_left (place_of new) more)) t
      (λ line read is more. opening-blank old.limit old.read (old.number + 1) s line (lines_left (place_of new) more)
      (phrase_text old.limit false old.read line text is ∙ p)
      ∙ same_opening _ _ _ _ _ _ s s (lines_left (place_of new) more) t.limit read (omega (arith, t.number)) refl)

  -- one of them has another number
  pub open_setting : (s2 : Settings) (name : Name) (v : ℕ) → phrase_of false (words_of text) ≡ Ok (SettingIs name v) → s2 ≡ with_setting s name v
      → IsOpen limit new s2 left0 left2
  open_setting s2 name v p w =
      on_line (opening limit) (opening_of old s) old left0 left left2 d new text (λ more. opening_of new s2 (lines_left (place_of new) more)) t
      (λ line read is more. opening-setting old.limit old.read (old.number + 1) s line (lines_left (place_of new) more) name v
      (phrase_text old.limit false old.read line text is ∙ p)
      ∙ same_opening _ _ _ _ _ _ (with_setting s name v) s2 (lines_left (place_of new) more) t.limit read (omega (arith, t.number)) w)

  -- `go`, where the settings are valid
  pub open_go : (u : Unit {0}) → phrase_of false (words_of text) ≡ Ok Go → Ok u ≡ verdict s
      → AreDue (opening limit) (λ more. Opened s (steps_left (place_of new) more)) left0 left2
  open_go u p v =
      on_line (opening limit) (opening_of old s) old left0 left left2 d new text (λ more. Opened s (steps_left (place_of new) more)) t
      (λ line read is more. opening-go old.limit old.read (old.number + 1) s line (lines_left (place_of new) more)
      (phrase_text old.limit false old.read line text is ∙ p)
      ∙ (opened-valid s (old.number + 1) _ u v ∙ ap (λ (x : Steps). Opened s x) (behind old new left left2 text line (lines_left (place_of new) more) t read)))

  -- `go`, where they aren't
  pub open_not : (fault : SettingFault) → phrase_of false (words_of text) ≡ Ok Go → Err fault ≡ verdict s
      → AreDue (opening limit) (λ more. refusal new.number (Setting fault)) left0 left2
  open_not fault p v =
      on_line (opening limit) (opening_of old s) old left0 left left2 d new text (λ more. refusal new.number (Setting fault)) t
      (λ line read is more. opening-go old.limit old.read (old.number + 1) s line (lines_left (place_of new) more)
      (phrase_text old.limit false old.read line text is ∙ p)
      ∙ (opened-not s (old.number + 1) _ fault v ∙ ap (λ (i : ℕ). refusal i (Setting fault)) (sym t.number)))

  -- a line that is refused by its words
  pub open_fault : (fault : ScriptFault) → phrase_of false (words_of text) ≡ Err fault → AreDue (opening limit) (λ more. refusal new.number fault) left0 left2
  open_fault fault p =
      on_line (opening limit) (opening_of old s) old left0 left left2 d new text (λ more. refusal new.number fault) t
      (λ line read is more. opening-refused old.limit old.read (old.number + 1) s line (lines_left (place_of new) more) fault
      (phrase_text old.limit false old.read line text is ∙ p) ∙ ap (λ (i : ℕ). refusal i fault) (sym t.number))

-- no line is left
pub open_end : (limit : ℕ) (old new : Reading) (s : Settings) (left0 left left2 : Option (List ℕ)) (there : Bool) → IsOpen limit old s left0 left
    → there ≡ false → IsComing old new left left2 (Ok there) → new.number ≡ old.number + 1
    → AreDue (opening limit) (λ more. refusal new.number NoGo) left0 left2
open_end limit old new s left0 left left2 true d t f n bytes k = absurd cc
open_end limit old new s left0 left left2 false d t f n bytes k =
    read_to bytes left2 (opening limit) (λ more. opening_of old s []) (λ more. refusal new.number NoGo)
    (on_none (opening limit) (opening_of old s) old left0 left left2 d f bytes k)
    (λ more. opening-none old.limit old.read (old.number + 1) s ∙ ap (λ (i : ℕ). refusal i NoGo) (sym n))

-- the next line is refused by what it is made of, or wasn't read
pub open_stop : (limit : ℕ) (old new : Reading) (s : Settings) (left0 left left2 : Option (List ℕ)) (stop : ScriptStop) → IsOpen limit old s left0 left
    → IsComing old new left left2 (Err stop) → IsNumbered (place_of old) (place_of new) (Err stop) → (bytes : List ℕ) → left0 ≡ Some bytes
    → IsOpening limit (place_of new) bytes left2 (Err stop)
open_stop limit old new s left0 left left2 (Read failed) d f n bytes k =
    cut_on bytes left left2 (opening limit) (λ more. opening_of old s (lines_left (place_of old) more)) (d bytes k) f
open_stop limit old new s left0 left left2 (Fault fault) d f n bytes k =
    on_refused (opening limit) (opening_of old s) old left0 left left2 d fault (refusal new.number fault) f
    (λ line later is. opening-refused old.limit old.read (old.number + 1) s line later fault (phrase_fault old.limit false old.read line fault is)
    ∙ ap (λ (i : ℕ). refusal i fault) (sym n)) bytes k
