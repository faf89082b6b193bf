-- The lines of a node script up to `go`, one by one.
use Rattle.std.proofs.Common.{◌≡◌, ℕ, ◌+◌, suc, arith, Bool, true, false, Option, Some, Result, Ok, Err, List, [], ◌∷◌, length, refl, sym, ap, ◌∙◌}
use Rattle.homa_plain.specs.declared.fault.ScriptFault.{ScriptFault}
use Rattle.homa_plain.specs.declared.fault.ScriptFault.TheVariants.{NoGo}
use Rattle.homa_plain.specs.Input.{words_of}
use Rattle.homa_plain.specs.Script.{◌>>=◌}
use Rattle.text_lines.specs.Lines.{Reading}
use Rattle.node_runs.specs.Script as script
use Rattle.node_runs.specs.Script.{Opening, Opened, unopened, opening, opening_from, opened_by, setup_of, calls_from, words_in, heading_of, spoken}
use Rattle.script_lines.specs.declared.stop.ScriptStop.{ScriptStop}
use Rattle.script_lines.specs.declared.stop.ScriptStop.TheVariants.{Read, Fault}
use Rattle.script_lines.specs.Place.{Place, place_of, first_place, lines_left}
use Rattle.script_lines.specs.Read.{IsRead, IsCut}
use Rattle.script_lines.specs.Lines.{text_in, IsNumbered}
use Rattle.script_lines.proofs.ReadParts.{read_start, read_to, cut_on}
use Rattle.script_lines.proofs.Taken.{AreDue, IsComing, IsTaken, on_line, on_refused, on_none}
use Rattle.node_script.specs.declared.setup.Setup.{Setup}
use Rattle.node_script.specs.declared.stop.SetupStop.{SetupStop}
use Rattle.node_script.specs.declared.stop.SetupStop.TheVariants as stop
use Rattle.node_script.specs.declared.head.Head.{Head}
use Rattle.node_script.specs.Heads.{IsHead, first_head, is_go, head_after, setup_seen, IsSetup}
use Rattle.node_script.specs.Calls.{calls_left, IsOpening}
use Rattle.node_script.specs.Stops.{setup_stop}
use Rattle.node_script.proofs.Spoken.{words_text, words_fault}

-- ---- one line

says_of : (limit read : ℕ) (line text : List ℕ) (r : Result script.Heading ScriptFault) → text_in limit read line ≡ Ok text
    → heading_of (spoken (words_of text)) ≡ r → (words_in limit read line >>= heading_of) ≡ r
says_of limit read line text r e p = ap (λ (w : Result (List (List ℕ)) ScriptFault). w >>= heading_of) (words_text limit read line text e) ∙ p

opening-says : (limit read n : ℕ) (head : script.Head) (line : List ℕ) (lines : List (List ℕ)) (h : script.Heading)
    → (words_in limit read line >>= heading_of) ≡ Ok h → is_go h ≡ false
    → opening_from limit read n head (line ∷ lines) ≡ opening_from limit (read + length line) (suc n) (head_after head h) lines
unfolding opening_from
opening-says limit read n head line lines script.Blank e g = rw (e, opening_from) refl
opening-says limit read n head line lines (script.SettingIs name m) e g = rw (e, opening_from) refl
opening-says limit read n head line lines (script.Names naming) e g = rw (e, opening_from) refl
opening-says limit read n head line lines (script.EndIs tick) e g = rw (e, opening_from) refl
opening-says limit read n head line lines (script.TurnsAre m) e g = rw (e, opening_from) refl
opening-says limit read n head line lines script.Go e g = absurd cc

opening-go : (limit read n : ℕ) (head : script.Head) (line : List ℕ) (lines : List (List ℕ)) (h : script.Heading)
    → (words_in limit read line >>= heading_of) ≡ Ok h → is_go h ≡ true
    → opening_from limit read n head (line ∷ lines) ≡ opened_by limit (setup_of head) (read + length line) n lines
unfolding opening_from
opening-go limit read n head line lines script.Blank e g = absurd cc
opening-go limit read n head line lines (script.SettingIs name m) e g = absurd cc
opening-go limit read n head line lines (script.Names naming) e g = absurd cc
opening-go limit read n head line lines (script.EndIs tick) e g = absurd cc
opening-go limit read n head line lines (script.TurnsAre m) e g = absurd cc
opening-go limit read n head line lines script.Go e g = rw (e, opening_from) refl

-- `go` says nothing more
pub go_after : (head : script.Head) (h : script.Heading) → is_go h ≡ true → head_after head h ≡ head
go_after head script.Blank g = refl
go_after head (script.SettingIs name n) g = absurd cc
go_after head (script.Names naming) g = absurd cc
go_after head (script.EndIs tick) g = absurd cc
go_after head (script.TurnsAre n) g = absurd cc
go_after head script.Go g = refl

opening-refused : (limit read n : ℕ) (head : script.Head) (line : List ℕ) (lines : List (List ℕ)) (fault : ScriptFault)
    → (words_in limit read line >>= heading_of) ≡ Err fault → opening_from limit read n head (line ∷ lines) ≡ unopened n fault
unfolding opening_from
opening-refused limit read n head line lines fault e = rw (e, opening_from) refl

opening-none : (limit read n : ℕ) (head : script.Head) → opening_from limit read n head [] ≡ unopened n NoGo
unfolding opening_from
opening-none limit read n head = refl

-- ---- the lines of a reader

-- what these lines are, where so much was said
abbrev pub opening_of : Reading → script.Head → List (List ℕ) → Opening
opening_of r head lines = opening_from r.limit r.read (r.number + 1) head lines

-- what is due so far
abbrev pub IsOpen : ℕ → Reading → script.Head → Option (List ℕ) → Option (List ℕ) → Type 0
IsOpen limit old head left0 left = AreDue (opening limit) (λ more. opening_of old head (lines_left (place_of old) more)) left0 left

same_opening : (limit read n limit2 read2 n2 : ℕ) (head : script.Head) (lines : List (List ℕ)) → limit2 ≡ limit → read2 ≡ read → n2 ≡ n
    → opening_from limit read n head lines ≡ opening_from limit2 read2 n2 head lines
same_opening limit read n limit2 read2 n2 head lines e f g = cc

same_calls : (s : script.Setup) (least limit read n limit2 read2 n2 : ℕ) (lines : List (List ℕ)) → limit2 ≡ limit → read2 ≡ read → n2 ≡ n
    → calls_from limit s read n least lines ≡ calls_from limit2 s read2 n2 least lines
same_calls s least limit read n limit2 read2 n2 lines e f g = cc

-- the calls behind a line that came
pub behind : (s : script.Setup) (least : ℕ) (old new : Reading) (left left2 : Option (List ℕ)) (text line : List ℕ) (lines : List (List ℕ))
    → IsTaken old new left left2 text → new.read ≡ old.read + length line
    → calls_from old.limit s (old.read + length line) (suc (old.number + 1)) least lines ≡ calls_from new.limit s new.read (new.number + 1) least lines
behind s least old new left left2 text line lines t r = same_calls s least _ _ _ _ _ _ lines t.limit r (omega (arith, t.number))

start_by : (r : Reading) → r.pending ≡ [] → r.read ≡ 0 → r.number ≡ 0 → (more : List ℕ)
    → opening r.limit more ≡ opening_of r first_head (lines_left (place_of r) more)
unfolding opening
start_by r e f n more = rw (e, f, n) refl

-- nothing was read yet
pub open_start : (r : Reading) (left : Option (List ℕ)) → place_of r ≡ first_place r.limit → IsOpen r.limit r first_head left left
open_start r left e bytes k =
    read_to bytes left (opening r.limit) (opening r.limit) (λ more. opening_of r first_head (lines_left (place_of r) more))
    (read_start bytes left (opening r.limit) k)
    (λ more. start_by r (ap (λ (p : Place). p.pending) e) (ap (λ (p : Place). p.read) e) (ap (λ (p : Place). p.number) e) more)

-- of what was read, some bytes came
pub cut_of : {A : Type 0} (bytes : List ℕ) (left : Option (List ℕ)) (due now : List ℕ → A) → IsRead bytes left due now → IsCut bytes left
cut_of bytes left due now d = record { came = d.came; rest = d.rest; split = d.split; has_left = d.has_left }

module _ (limit : ℕ) (old new : Reading) (head : script.Head) (left0 left left2 : Option (List ℕ)) (text : List ℕ) (d : IsOpen limit old head left0 left)
    (t : IsTaken old new left left2 text) where
  -- a line before `go`
  pub open_says : (h : script.Heading) → heading_of (spoken (words_of text)) ≡ Ok h → is_go h ≡ false → IsOpen limit new (head_after head h) left0 left2
  open_says h p g =
      on_line (opening limit) (opening_of old head) old left0 left left2 d new text
      (λ more. opening_of new (head_after head h) (lines_left (place_of new) more)) t
      (λ line read is more. opening-says old.limit old.read (old.number + 1) head line (lines_left (place_of new) more) h
      (says_of old.limit old.read line text (Ok h) is p) g
      ∙ same_opening _ _ _ _ _ _ (head_after head h) (lines_left (place_of new) more) t.limit read (omega (arith, t.number)))

  -- a line that is refused by its words
  pub open_fault : (fault : ScriptFault) → heading_of (spoken (words_of text)) ≡ Err fault
      → AreDue (opening limit) (λ more. unopened new.number fault) left0 left2
  open_fault fault p =
      on_line (opening limit) (opening_of old head) old left0 left left2 d new text (λ more. unopened new.number fault) t
      (λ line read is more. opening-refused old.limit old.read (old.number + 1) head line (lines_left (place_of new) more) fault
      (says_of old.limit old.read line text (Err fault) is p) ∙ ap (λ (i : ℕ). unopened i fault) (sym t.number))

  -- the line came, and nothing is said of it
  pub open_cut : (bytes : List ℕ) → left0 ≡ Some bytes → IsCut bytes left2
  open_cut bytes k =
      cut_on bytes left left2 (opening limit) (λ more. opening_of old head (lines_left (place_of old) more)) (d bytes k)
      (λ rest h. let l = t.line rest h in cut_of rest left2 (lines_left (place_of old)) (λ more. l.line ∷ lines_left (place_of new) more) l.lines)

  -- `go`
  pub open_go : (h : script.Heading) (answer : Result Setup SetupStop) → heading_of (spoken (words_of text)) ≡ Ok h → is_go h ≡ true
      → IsSetup (setup_of head) answer → (bytes : List ℕ) → left0 ≡ Some bytes → IsOpening limit (place_of new) bytes left2 answer
  open_go h (Ok s) p g v bytes k =
      on_line (opening limit) (opening_of old head) old left0 left left2 d new text
      (λ more. Opened (setup_seen s) (calls_left (setup_seen s) 0 (place_of new) more)) t
      (λ line read is more. opening-go old.limit old.read (old.number + 1) head line (lines_left (place_of new) more) h
      (says_of old.limit old.read line text (Ok h) is p) g
      ∙ (ap (λ (r : Result script.Setup ScriptFault). opened_by old.limit r (old.read + length line) (old.number + 1) (lines_left (place_of new) more)) v
      ∙ ap (λ c. Opened (setup_seen s) c) (behind (setup_seen s) 0 old new left left2 text line (lines_left (place_of new) more) t read))) bytes k
  open_go h (Err stop.NoMemory) p g v bytes k = open_cut bytes k
  open_go h (Err (stop.Read failed)) p g v bytes k = open_cut bytes k
  open_go h (Err (stop.Fault fault)) p g v bytes k =
      on_line (opening limit) (opening_of old head) old left0 left left2 d new text (λ more. unopened new.number fault) t
      (λ line read is more. opening-go old.limit old.read (old.number + 1) head line (lines_left (place_of new) more) h
      (says_of old.limit old.read line text (Ok h) is p) g
      ∙ (ap (λ (r : Result script.Setup ScriptFault). opened_by old.limit r (old.read + length line) (old.number + 1) (lines_left (place_of new) more)) v
      ∙ ap (λ (i : ℕ). unopened i fault) (sym t.number))) bytes k

-- no line is left
pub open_end : (limit : ℕ) (old new : Reading) (head : script.Head) (left0 left left2 : Option (List ℕ)) (there : Bool) → IsOpen limit old head left0 left
    → there ≡ false → IsComing old new left left2 (Ok there) → new.number ≡ old.number + 1
    → AreDue (opening limit) (λ more. unopened new.number NoGo) left0 left2
open_end limit old new head left0 left left2 true d t f n bytes k = absurd cc
open_end limit old new head left0 left left2 false d t f n bytes k =
    read_to bytes left2 (opening limit) (λ more. opening_of old head []) (λ more. unopened new.number NoGo)
    (on_none (opening limit) (opening_of old head) old left0 left left2 d f bytes k)
    (λ more. opening-none old.limit old.read (old.number + 1) head ∙ ap (λ (i : ℕ). unopened i NoGo) (sym n))

-- the next line is refused by what it is made of, or wasn't read
pub open_stop : (limit : ℕ) (old new : Reading) (head : script.Head) (left0 left left2 : Option (List ℕ)) (failed : ScriptStop)
    → IsOpen limit old head left0 left → IsComing old new left left2 (Err failed) → IsNumbered (place_of old) (place_of new) (Err failed) → (bytes : List ℕ)
    → left0 ≡ Some bytes → IsOpening limit (place_of new) bytes left2 (Err (setup_stop failed))
open_stop limit old new head left0 left left2 (Read failed) d f n bytes k =
    cut_on bytes left left2 (opening limit) (λ more. opening_of old head (lines_left (place_of old) more)) (d bytes k) f
open_stop limit old new head left0 left left2 (Fault fault) d f n bytes k =
    on_refused (opening limit) (opening_of old head) old left0 left left2 d fault (unopened new.number fault) f
    (λ line later is. opening-refused old.limit old.read (old.number + 1) head line later fault
    (ap (λ (w : Result (List (List ℕ)) ScriptFault). w >>= heading_of) (words_fault old.limit old.read line fault is))
    ∙ ap (λ (i : ℕ). unopened i fault) (sym n)) bytes k

-- so much was said by the lines so far
pub record IsSaid (limit : ℕ) (old : Reading) (h : Head) (left0 left : Option (List ℕ)) : Type 0 where
  pub head : script.Head
  pub is : IsHead h head
  pub due : IsOpen limit old head left0 left
