-- The next line of a reader, and what was due of it.
use Rattle.std.proofs.Common.{◌≡◌, ◌<◌, ◌≤◌, ℕ, ◌+◌, arith, Bool, true, false, Option, Some, Result, Ok, Err, List, [], ◌∷◌, length, sym, ap, ◌∙◌}
use Rattle.homa_plain.specs.declared.fault.ScriptFault.{ScriptFault}
use Rattle.homa_plain.specs.Script.{without_return}
use Rattle.text_lines.specs.Lines.{Reading}
use Rattle.script_lines.specs.declared.stop.ScriptStop.{ScriptStop}
use Rattle.script_lines.specs.Place.{IsCounted, place_of, lines_left}
use Rattle.script_lines.specs.Read.{IsRead}
use Rattle.script_lines.specs.Lines.{text_in, IsLine, IsRefused, IsNone, IsNextLine, IsNumbered}
use Rattle.script_lines.proofs.ReadParts.{read_to, read_on, read_map}

-- what was read, of whatever the source had at first, where it can tell
abbrev pub AreDue : {A : Type 0} → (List ℕ → A) → (List ℕ → A) → Option (List ℕ) → Option (List ℕ) → Type 0
AreDue due now left0 left = (bytes : List ℕ) → left0 ≡ Some bytes → IsRead bytes left due now

-- what the next line is, where the source can tell
abbrev pub IsComing : Reading → Reading → Option (List ℕ) → Option (List ℕ) → Result Bool ScriptStop → Type 0
IsComing old new left left2 answer = (bytes : List ℕ) → left ≡ Some bytes → IsNextLine old new bytes left2 answer

-- a line came and was counted, and `text` is what it says
pub record IsTaken (old new : Reading) (left left2 : Option (List ℕ)) (text : List ℕ) : Type 0 where
  pub line : (bytes : List ℕ) → left ≡ Some bytes → IsLine old new bytes left2
  pub number : new.number ≡ old.number + 1
  pub on : old.read < new.read
  pub within : new.read ≤ old.limit
  pub limit : new.limit ≡ old.limit
  pub words : text ≡ without_return new.line

pub taken : (old new : Reading) (left left2 : Option (List ℕ)) (there : Bool) (text : List ℕ) → there ≡ true → IsComing old new left left2 (Ok there)
    → IsNumbered (place_of old) (place_of new) (Ok there) → new.limit ≡ old.limit → text ≡ without_return new.line → IsTaken old new left left2 text
taken old new left left2 true text t f n m e = record { line = f; number = n.0; on = n.1; within = n.2; limit = m; words = e }
taken old new left left2 false text t f n m e = absurd cc

-- lines and bytes are counted on
pub counted_on : (old new : Reading) (left left2 : Option (List ℕ)) (text : List ℕ) → IsCounted (place_of old) → IsTaken old new left left2 text
    → IsCounted (place_of new)
counted_on old new left left2 text c t = record {
  counted = omega (arith, c.counted, t.number, t.on);
  within = omega (arith, t.within, t.limit);
  countable = omega (arith, c.countable, t.limit);
}

-- the number of the line behind the last one
pub end_number : (old new : Reading) (there : Bool) → there ≡ false → IsNumbered (place_of old) (place_of new) (Ok there) → new.number ≡ old.number + 1
end_number old new true e n = absurd cc
end_number old new false e n = n

module _ {A : Type 0} (due : List ℕ → A) (f : List (List ℕ)
    → A) (old : Reading) (left0 left left2 : Option (List ℕ)) (d : AreDue due (λ more. f (lines_left (place_of old) more)) left0 left) where
  -- a line came
  pub on_line : (new : Reading) (text : List ℕ) (next : List ℕ → A) → IsTaken old new left left2 text
      → ((line : List ℕ) → new.read ≡ old.read + length line → text_in old.limit old.read line ≡ Ok text → (more : List ℕ)
      → f (line ∷ lines_left (place_of new) more) ≡ next more) → AreDue due next left0 left2
  on_line new text next t g bytes k =
      read_on bytes left left2 due (λ more. f (lines_left (place_of old) more)) next (d bytes k)
      (λ rest h.
      let l = t.line rest h in
      read_to rest left2 (λ more. f (lines_left (place_of old) more)) (λ more. f (l.line ∷ lines_left (place_of new) more)) next
      (read_map rest left2 (lines_left (place_of old)) (λ more. l.line ∷ lines_left (place_of new) more) f l.lines)
      (g l.line l.read (l.text ∙ ap (λ (xs : List ℕ). Ok xs) (sym t.words))))

  -- a line is refused by what it is made of
  pub on_refused : (fault : ScriptFault) (answer : A) → ((bytes : List ℕ) → left ≡ Some bytes → IsRefused old bytes left2 fault)
      → ((line : List ℕ) (later : List (List ℕ)) → text_in old.limit old.read line ≡ Err fault → f (line ∷ later) ≡ answer)
      → AreDue due (λ more. answer) left0 left2
  on_refused fault answer r g bytes k =
      read_on bytes left left2 due (λ more. f (lines_left (place_of old) more)) (λ more. answer) (d bytes k)
      (λ rest h.
      let l = r rest h in
      read_to rest left2 (λ more. f (lines_left (place_of old) more)) (λ more. f (l.line more ∷ l.later more)) (λ more. answer)
      (read_map rest left2 (lines_left (place_of old)) (λ more. l.line more ∷ l.later more) f l.lines)
      (λ more. g (l.line more) (l.later more) (l.refused more)))

  -- no line is left
  pub on_none : ((bytes : List ℕ) → left ≡ Some bytes → IsNone old bytes left2) → AreDue due (λ more. f []) left0 left2
  on_none r bytes k =
      read_on bytes left left2 due (λ more. f (lines_left (place_of old) more)) (λ more. f []) (d bytes k)
      (λ rest h. read_map rest left2 (lines_left (place_of old)) (λ more. []) f (r rest h).0)
