-- The steps of a schedule, line by line.
use Rattle.std.proofs.Common.{◌≡◌, ℕ, ◌+◌, suc, arith, Bool, true, false, Option, Some, Ok, Err, List, [], ◌∷◌, length, refl, sym, ap, ◌∙◌}
use Rattle.homa_plain.specs.declared.fault.ScriptFault.{ScriptFault}
use Rattle.homa_plain.specs.Input.{words_of}
use Rattle.homa_plain.specs.Script.{Given, Blank, Happens, Steps, steps_from, phrase_in, phrase_of}
use Rattle.text_lines.specs.Lines.{Reading}
use Rattle.script_lines.specs.declared.stop.ScriptStop.{ScriptStop}
use Rattle.script_lines.specs.declared.stop.ScriptStop.TheVariants.{Read, Fault}
use Rattle.script_lines.specs.Place.{place_of, lines_left}
use Rattle.script_lines.specs.Lines.{IsNumbered}
use Rattle.script_lines.proofs.ReadParts.{read_start, read_to, cut_on}
use Rattle.script_lines.proofs.Taken.{AreDue, IsComing, IsTaken, on_line, on_refused, on_none}
use Rattle.homa_script.specs.Steps.{steps_left, step_first, no_steps, refused_at}
use Rattle.homa_script.specs.Script.{IsLast}
use Rattle.homa_script.specs.Lines.{IsNextGiven}
use Rattle.homa_script.proofs.Phrases.{phrase_text, phrase_fault}

-- ---- one line

steps-blank : (limit read n : ℕ) (line : List ℕ) (lines : List (List ℕ)) → phrase_in limit true read line ≡ Ok Blank
    → steps_from limit read n (line ∷ lines) ≡ steps_from limit (read + length line) (suc n) lines
unfolding steps_from
steps-blank limit read n line lines e = rw (e, steps_from) refl

steps-happens : (limit read n : ℕ) (line : List ℕ) (lines : List (List ℕ)) (given : Given) → phrase_in limit true read line ≡ Ok (Happens given)
    → steps_from limit read n (line ∷ lines) ≡ step_first (record { line = n; given = given }) (steps_from limit (read + length line) (suc n) lines)
unfolding steps_from
steps-happens limit read n line lines given e = rw (e, steps_from) refl

steps-refused : (limit read n : ℕ) (line : List ℕ) (lines : List (List ℕ)) (fault : ScriptFault) → phrase_in limit true read line ≡ Err fault
    → steps_from limit read n (line ∷ lines) ≡ refused_at n fault
unfolding steps_from
steps-refused limit read n line lines fault e = rw (e, steps_from) refl

steps-none : (limit read n : ℕ) → steps_from limit read n [] ≡ no_steps
unfolding steps_from
steps-none limit read n = refl

same_steps : (limit read n limit2 read2 n2 : ℕ) (lines : List (List ℕ)) → limit2 ≡ limit → read2 ≡ read → n2 ≡ n
    → steps_from limit read n lines ≡ steps_from limit2 read2 n2 lines
same_steps limit read n limit2 read2 n2 lines e f g = cc

-- ---- the lines of a reader

-- the steps behind a line that came
pub behind : (old new : Reading) (left left2 : Option (List ℕ)) (text line : List ℕ) (lines : List (List ℕ)) → IsTaken old new left left2 text
    → new.read ≡ old.read + length line
    → steps_from old.limit (old.read + length line) (suc (old.number + 1)) lines ≡ steps_from new.limit new.read (new.number + 1) lines
behind old new left left2 text line lines t r = same_steps _ _ _ _ _ _ lines t.limit r (omega (arith, t.number))

-- the steps of these lines
abbrev pub steps_of : Reading → List (List ℕ) → Steps
steps_of r lines = steps_from r.limit r.read (r.number + 1) lines

-- what is due so far
abbrev pub IsDue : Reading → Reading → Option (List ℕ) → Option (List ℕ) → Type 0
IsDue first old left0 left = AreDue (steps_left (place_of first)) (λ more. steps_of old (lines_left (place_of old) more)) left0 left

-- nothing was read yet
pub due_start : (first : Reading) (left : Option (List ℕ)) → IsDue first first left left
due_start first left bytes k = read_start bytes left (steps_left (place_of first)) k

module _ (first old new : Reading) (left0 left left2 : Option (List ℕ)) (text : List ℕ) (d : IsDue first old left0 left)
    (t : IsTaken old new left left2 text) where
  -- a line that stands for nothing
  pub due_blank : phrase_of true (words_of text) ≡ Ok Blank → IsDue first new left0 left2
  due_blank p =
      on_line (steps_left (place_of first)) (steps_of old) old left0 left left2 d new text (steps_left (place_of new)) t
      (λ line read is more. steps-blank old.limit old.read (old.number + 1) line (lines_left (place_of new) more)
      (phrase_text old.limit true old.read line text is ∙ p) ∙ behind old new left left2 text line (lines_left (place_of new) more) t read)

  -- the next step
  pub due_given : (given : Given) → phrase_of true (words_of text) ≡ Ok (Happens given)
      → AreDue (steps_left (place_of first)) (λ more. step_first (record { line = new.number; given = given }) (steps_left (place_of new) more)) left0 left2
  due_given given p =
      on_line (steps_left (place_of first)) (steps_of old) old left0 left left2 d new text (λ more. step_first (record {
        line = new.number;
        given = given;
      }) (steps_left (place_of new) more)) t
      (λ line read is more. steps-happens old.limit old.read (old.number + 1) line (lines_left (place_of new) more) given
      (phrase_text old.limit true old.read line text is ∙ p)
      ∙ (ap (λ (s : Steps). step_first (record { line = old.number + 1; given = given }) s)
      (behind old new left left2 text line (lines_left (place_of new) more) t read)
      ∙ ap (λ (i : ℕ). step_first (record { line = i; given = given }) (steps_left (place_of new) more)) (sym t.number)))

  -- a line that is refused by its words
  pub due_fault : (fault : ScriptFault) → phrase_of true (words_of text) ≡ Err fault
      → AreDue (steps_left (place_of first)) (λ more. refused_at new.number fault) left0 left2
  due_fault fault p =
      on_line (steps_left (place_of first)) (steps_of old) old left0 left left2 d new text (λ more. refused_at new.number fault) t
      (λ line read is more. steps-refused old.limit old.read (old.number + 1) line (lines_left (place_of new) more) fault
      (phrase_text old.limit true old.read line text is ∙ p) ∙ ap (λ (i : ℕ). refused_at i fault) (sym t.number))

-- no line is left
pub due_end : (first old new : Reading) (left0 left left2 : Option (List ℕ)) (there : Bool) → IsDue first old left0 left → there ≡ false
    → IsComing old new left left2 (Ok there) → (bytes : List ℕ) → left0 ≡ Some bytes → IsLast (place_of first) bytes left2
due_end first old new left0 left left2 true d t f bytes k = absurd cc
due_end first old new left0 left left2 false d t f bytes k =
    let b = d bytes k in
    let none = on_none (steps_left (place_of first)) (steps_of old) old left0 left left2 d f bytes k in (
      read_to bytes left2 (steps_left (place_of first)) (λ more. steps_of old []) (λ more. no_steps) none
          (λ more. steps-none old.limit old.read (old.number + 1)),
      (f b.rest b.has_left).1,
    )

-- the next line is refused by what it is made of, or wasn't read
pub due_stop : (first old new : Reading) (left0 left left2 : Option (List ℕ)) (out : List ℕ) (stop : ScriptStop) → IsDue first old left0 left
    → IsComing old new left left2 (Err stop) → IsNumbered (place_of old) (place_of new) (Err stop) → (bytes : List ℕ) → left0 ≡ Some bytes
    → IsNextGiven (place_of first) (place_of new) out bytes left2 (Err stop)
due_stop first old new left0 left left2 out (Read failed) d f n bytes k =
    cut_on bytes left left2 (steps_left (place_of first)) (steps_left (place_of old)) (d bytes k) f
due_stop first old new left0 left left2 out (Fault fault) d f n bytes k =
    on_refused (steps_left (place_of first)) (steps_of old) old left0 left left2 d fault (refused_at new.number fault) f
    (λ line later is. steps-refused old.limit old.read (old.number + 1) line later fault (phrase_fault old.limit true old.read line fault is)
    ∙ ap (λ (i : ℕ). refused_at i fault) (sym n)) bytes k
