-- The calls of a node script, line by line.
use Rattle.std.proofs.Common.{◌≡◌, ℕ, ◌+◌, suc, Bool, true, false, Option, None, Some, Result, Ok, Err, List, [], ◌∷◌, length, refl, sym, ap, ◌∙◌}
use Rattle.homa_plain.specs.declared.fault.LineFault.{LineFault}
use Rattle.homa_plain.specs.declared.fault.LineFault.TheVariants.{Script as ByWords}
use Rattle.homa_plain.specs.Input.{words_of}
use Rattle.text_lines.specs.Lines.{Reading}
use Rattle.node_runs.specs.Script as script
use Rattle.node_runs.specs.Script.{Calls, calls_from, with_call, words_in, spoken, timed_of}
use Rattle.script_lines.specs.declared.stop.ScriptStop.{ScriptStop}
use Rattle.script_lines.specs.declared.stop.ScriptStop.TheVariants.{Read, Fault}
use Rattle.script_lines.specs.Place.{place_of, lines_left}
use Rattle.script_lines.specs.Lines.{text_in, IsNumbered}
use Rattle.script_lines.proofs.ReadParts.{read_start, read_to, cut_on}
use Rattle.script_lines.proofs.Taken.{AreDue, IsComing, IsTaken, on_line, on_refused, on_none}
use Rattle.node_script.specs.Calls.{calls_left, no_calls, refused_at, IsLast, IsNext}
use Rattle.node_script.specs.Stops.{call_stop}
use Rattle.node_script.proofs.Spoken.{words_text, words_fault}
use Rattle.node_script.proofs.Openings.{behind}

-- ---- one line

timed_text : (s : script.Setup) (least n m limit read : ℕ) (line text : List ℕ) (r : Result (Option script.TimedCall) LineFault)
    → text_in limit read line ≡ Ok text → m ≡ n → timed_of s least m (Ok (spoken (words_of text))) ≡ r → timed_of s least n (words_in limit read line) ≡ r
timed_text s least n m limit read line text r e f p = ap (timed_of s least n) (words_text limit read line text e)
    ∙ (ap (λ (i : ℕ). timed_of s least i (Ok (spoken (words_of text)))) (sym f) ∙ p)

calls-blank : (limit : ℕ) (s : script.Setup) (read n least : ℕ) (line : List ℕ) (lines : List (List ℕ))
    → timed_of s least n (words_in limit read line) ≡ Ok None
    → calls_from limit s read n least (line ∷ lines) ≡ calls_from limit s (read + length line) (suc n) least lines
unfolding calls_from
calls-blank limit s read n least line lines e = rw (e, calls_from) refl

calls-one : (limit : ℕ) (s : script.Setup) (read n least : ℕ) (line : List ℕ) (lines : List (List ℕ)) (c : script.TimedCall)
    → timed_of s least n (words_in limit read line) ≡ Ok (Some c)
    → calls_from limit s read n least (line ∷ lines) ≡ with_call c (calls_from limit s (read + length line) (suc n) c.tick lines)
unfolding calls_from
calls-one limit s read n least line lines c e = rw (e, calls_from) refl

calls-refused : (limit : ℕ) (s : script.Setup) (read n least : ℕ) (line : List ℕ) (lines : List (List ℕ)) (fault : LineFault)
    → timed_of s least n (words_in limit read line) ≡ Err fault → calls_from limit s read n least (line ∷ lines) ≡ refused_at n fault
unfolding calls_from
calls-refused limit s read n least line lines fault e = rw (e, calls_from) refl

calls-none : (limit : ℕ) (s : script.Setup) (read n least : ℕ) → calls_from limit s read n least [] ≡ no_calls
unfolding calls_from
calls-none limit s read n least = refl

-- ---- the lines of a reader

module _ (s : script.Setup) (least : ℕ) where
  -- the calls of these lines
  abbrev pub calls_of : Reading → List (List ℕ) → Calls
  calls_of r lines = calls_from r.limit s r.read (r.number + 1) least lines

  -- what is due so far
  abbrev pub IsDue : Reading → Reading → Option (List ℕ) → Option (List ℕ) → Type 0
  IsDue first old left0 left = AreDue (calls_left s least (place_of first)) (λ more. calls_of old (lines_left (place_of old) more)) left0 left

  -- nothing was read yet
  pub due_start : (first : Reading) (left : Option (List ℕ)) → IsDue first first left left
  due_start first left bytes k = read_start bytes left (calls_left s least (place_of first)) k

module _ (s : script.Setup) (least : ℕ) (first old new : Reading) (left0 left left2 : Option (List ℕ)) (text : List ℕ)
    (d : IsDue s least first old left0 left) (t : IsTaken old new left left2 text) (n : ℕ) (number : n ≡ new.number) where
  -- a line that stands for nothing
  pub due_blank : timed_of s least n (Ok (spoken (words_of text))) ≡ Ok None → IsDue s least first new left0 left2
  due_blank p =
      on_line (calls_left s least (place_of first)) (calls_of s least old) old left0 left left2 d new text (calls_left s least (place_of new)) t
      (λ line read is more. calls-blank old.limit s old.read (old.number + 1) least line (lines_left (place_of new) more)
      (timed_text s least (old.number + 1) n old.limit old.read line text (Ok None) is (number ∙ t.number) p)
      ∙ behind s least old new left left2 text line (lines_left (place_of new) more) t read)

  -- the next call
  pub due_call : (c : script.TimedCall) → timed_of s least n (Ok (spoken (words_of text))) ≡ Ok (Some c)
      → AreDue (calls_left s least (place_of first)) (λ more. with_call c (calls_left s c.tick (place_of new) more)) left0 left2
  due_call c p =
      on_line (calls_left s least (place_of first)) (calls_of s least old) old left0 left left2 d new text
      (λ more. with_call c (calls_left s c.tick (place_of new) more)) t
      (λ line read is more. calls-one old.limit s old.read (old.number + 1) least line (lines_left (place_of new) more) c
      (timed_text s least (old.number + 1) n old.limit old.read line text (Ok (Some c)) is (number ∙ t.number) p)
      ∙ ap (with_call c) (behind s c.tick old new left left2 text line (lines_left (place_of new) more) t read))

  -- a line that is refused by its words
  pub due_fault : (fault : LineFault) → timed_of s least n (Ok (spoken (words_of text))) ≡ Err fault
      → AreDue (calls_left s least (place_of first)) (λ more. refused_at new.number fault) left0 left2
  due_fault fault p =
      on_line (calls_left s least (place_of first)) (calls_of s least old) old left0 left left2 d new text (λ more. refused_at new.number fault) t
      (λ line read is more. calls-refused old.limit s old.read (old.number + 1) least line (lines_left (place_of new) more) fault
      (timed_text s least (old.number + 1) n old.limit old.read line text (Err fault) is (number ∙ t.number) p)
      ∙ ap (λ (i : ℕ). refused_at i fault) (sym t.number))

-- no line is left
pub due_end : (s : script.Setup) (least : ℕ) (first old new : Reading) (left0 left left2 : Option (List ℕ)) (there : Bool)
    → IsDue s least first old left0 left → there ≡ false → IsComing old new left left2 (Ok there) → (bytes : List ℕ) → left0 ≡ Some bytes
    → IsLast s least (place_of first) bytes left2
due_end s least first old new left0 left left2 true d t f bytes k = absurd cc
due_end s least first old new left0 left left2 false d t f bytes k =
    let b = d bytes k in
    let none = on_none (calls_left s least (place_of first)) (calls_of s least old) old left0 left left2 d f bytes k in (
      read_to bytes left2 (calls_left s least (place_of first)) (λ more. calls_of s least old []) (λ more. no_calls) none
          (λ more. calls-none old.limit s old.read (old.number + 1) least),
      (f b.rest b.has_left).1,
    )

-- the next line is refused by what it is made of, or wasn't read
pub due_stop : (s : script.Setup) (least : ℕ) (first old new : Reading) (left0 left left2 : Option (List ℕ)) (out : List ℕ) (failed : ScriptStop)
    → IsDue s least first old left0 left → IsComing old new left left2 (Err failed) → IsNumbered (place_of old) (place_of new) (Err failed)
    → (bytes : List ℕ) → left0 ≡ Some bytes → IsNext s least (place_of first) (place_of new) out bytes left2 (Err (call_stop failed))
due_stop s least first old new left0 left left2 out (Read failed) d f n bytes k =
    cut_on bytes left left2 (calls_left s least (place_of first)) (calls_left s least (place_of old)) (d bytes k) f
due_stop s least first old new left0 left left2 out (Fault fault) d f n bytes k =
    on_refused (calls_left s least (place_of first)) (calls_of s least old) old left0 left left2 d fault (refused_at new.number (ByWords fault)) f
    (λ line later is. calls-refused old.limit s old.read (old.number + 1) least line later (ByWords fault)
    (ap (timed_of s least (old.number + 1)) (words_fault old.limit old.read line fault is))
    ∙ ap (λ (i : ℕ). refused_at i (ByWords fault)) (sym n)) bytes k
