-- The lines of a text, one after the other.
use Rattle.std.proofs.Common.{◌≡◌, ◌∙◌, refl, sym, ap, subst, ℕ, suc, ◌+◌, Bool, true, false, ◌||◌, Option, Some, Result, Ok, Err, IfOk, IfErr, List, []}
use Rattle.std.proofs.Common.{◌∷◌, length, arith}
use Rattle.homa_plain.specs.Input.{words_of}
use Rattle.text_lines.specs.Lines.{Reading}
use Rattle.script_lines.specs.Place.{place_of, lines_left}
use Rattle.script_lines.specs.Lines.{text_in}
use Rattle.script_lines.proofs.ReadParts.{read_start, read_to, read_whole}
use Rattle.script_lines.proofs.Taken.{AreDue, IsComing, IsTaken, on_line, on_refused, on_none}
use Rattle.experiment.specs.declared.fault.Refusal.{Refusal}
use Rattle.experiment.specs.declared.fault.Wrong.{Wrong}
use Rattle.experiment.specs.declared.fault.Wrong.TheVariants.{Unreadable, Nothing}
use Rattle.experiment.specs.declared.fault.ExperimentFault.{ExperimentFault}
use Rattle.experiment.specs.declared.fault.ExperimentFault.TheVariants.{Read, NoMemory, Said}
use Rattle.experiment.specs.declared.trial.Experiment.{Experiment}
use Rattle.experiment.specs.Drafts.{Drafting}
use Rattle.experiment.specs.Grammar.{line_of}
use Rattle.experiment.specs.Made.{nothing_said, checked, IsMade}
use Rattle.experiment.specs.Texts.{line_after, faulted, fault_at, text_after, at_end, said_from, said_by, fit_by, fit}
use Rattle.experiment.specs.Texts.{IsUnread, IsNextText, IsTextNumbered, IsLineTaken, IsExperimentOf}

-- ---- one line

says_of : (limit read n : ℕ) (d : Drafting) (line text : List ℕ) (r : Result (Drafting × Bool) Refusal) → text_in limit read line ≡ Ok text
    → line_after d n (line_of n (words_of text)) ≡ r → text_after d n (text_in limit read line) ≡ faulted n r
says_of limit read n d line text r e p = ap (text_after d n) e ∙ ap (faulted n) p

said-line : (limit read n : ℕ) (any : Bool) (d : Drafting) (line : List ℕ) (lines : List (List ℕ)) (a : Drafting × Bool)
    → text_after d n (text_in limit read line) ≡ Ok a
    → said_from limit read n any d (line ∷ lines) ≡ said_from limit (read + length line) (suc n) (any || a.1) a.0 lines
unfolding said_from
said-line limit read n any d line lines a e = rw (e, said_from) refl

said-refused : (limit read n : ℕ) (any : Bool) (d : Drafting) (line : List ℕ) (lines : List (List ℕ)) (fault : ExperimentFault)
    → text_after d n (text_in limit read line) ≡ Err fault → said_from limit read n any d (line ∷ lines) ≡ Err fault
unfolding said_from
said-refused limit read n any d line lines fault e = rw (e, said_from) refl

said-none : (limit read n : ℕ) (any : Bool) (d : Drafting) → said_from limit read n any d [] ≡ at_end n any d
unfolding said_from
said-none limit read n any d = refl

-- ---- the lines of a reader

-- what these lines say, where so much was said
abbrev pub said_of : Reading → Bool → Drafting → List (List ℕ) → Result Drafting ExperimentFault
said_of r any d lines = said_from r.limit r.read (r.number + 1) any d lines

-- what is due so far
abbrev pub IsOpen : Reading → Bool → Drafting → Option (List ℕ) → Option (List ℕ) → Type 0
IsOpen old any d left0 left = AreDue said_by (λ more. said_of old any d (lines_left (place_of old) more)) left0 left

same_said : (limit read n limit2 read2 n2 : ℕ) (any : Bool) (d : Drafting) (lines : List (List ℕ)) → limit2 ≡ limit → read2 ≡ read → n2 ≡ n
    → said_from limit read n any d lines ≡ said_from limit2 read2 n2 any d lines
same_said limit read n limit2 read2 n2 any d lines e f g = cc

start_by : (r : Reading) → r.pending ≡ [] → r.read ≡ 0 → r.number ≡ 0 → r.limit ≡ 4294967296 → (more : List ℕ)
    → said_by more ≡ said_of r false nothing_said (lines_left (place_of r) more)
unfolding said_by
start_by r e f n limit more = rw (e, f, n, limit) refl

-- nothing was read yet
pub open_start : (r : Reading) (left : Option (List ℕ)) → r.pending ≡ [] → r.read ≡ 0 → r.number ≡ 0 → r.limit ≡ 4294967296
    → IsOpen r false nothing_said left left
open_start r left e f n limit bytes k =
    read_to bytes left said_by said_by (λ more. said_of r false nothing_said (lines_left (place_of r) more)) (read_start bytes left said_by k)
    (λ more. start_by r e f n limit more)

module _ (old new : Reading) (any : Bool) (d : Drafting) (left0 left left2 : Option (List ℕ)) (text : List ℕ) (due : IsOpen old any d left0 left)
    (t : IsTaken old new left left2 text) where
  -- a line that is taken
  pub open_says : (a : Drafting × Bool) → line_after d new.number (line_of new.number (words_of text)) ≡ Ok a → IsOpen new (any || a.1) a.0 left0 left2
  open_says a p =
      let p' : line_after d (old.number + 1) (line_of (old.number + 1) (words_of text)) ≡ Ok a
      = ap (λ (n : ℕ). line_after d n (line_of n (words_of text))) (sym t.number) ∙ p in
      on_line said_by (said_of old any d) old left0 left left2 due new text
      (λ more. said_of new (any || a.1) a.0 (lines_left (place_of new) more)) t
      (λ line read is more. said-line old.limit old.read (old.number + 1) any d line (lines_left (place_of new) more) a
      (says_of old.limit old.read (old.number + 1) d line text (Ok a) is p')
      ∙ same_said _ _ _ _ _ _ (any || a.1) a.0 (lines_left (place_of new) more) t.limit read (omega (arith, t.number)))

  -- a line that is refused by its words
  pub open_fault : (r : Refusal) → line_after d new.number (line_of new.number (words_of text)) ≡ Err r → (bytes : List ℕ) → left0 ≡ Some bytes
      → said_by bytes ≡ Err (fault_at new.number r)
  open_fault r p bytes k =
      let p' : line_after d (old.number + 1) (line_of (old.number + 1) (words_of text)) ≡ Err r
      = ap (λ (n : ℕ). line_after d n (line_of n (words_of text))) (sym t.number) ∙ p in
      read_whole bytes left2 said_by (λ more. Err (fault_at new.number r))
      (on_line said_by (said_of old any d) old left0 left left2 due new text (λ more. Err (fault_at new.number r)) t
      (λ line read is more. said-refused old.limit old.read (old.number + 1) any d line (lines_left (place_of new) more) (fault_at (old.number + 1) r)
      (says_of old.limit old.read (old.number + 1) d line text (Err r) is p')
      ∙ ap (λ (n : ℕ). Err (fault_at n r)) (sym t.number)) bytes k)

-- no line is left
pub open_end : (old new : Reading) (any : Bool) (d : Drafting) (left0 left left2 : Option (List ℕ)) (there : Bool) → IsOpen old any d left0 left
    → there ≡ false → IsComing old new left left2 (Ok there) → new.number ≡ old.number + 1 → (bytes : List ℕ) → left0 ≡ Some bytes
    → said_by bytes ≡ at_end new.number any d
open_end old new any d left0 left left2 true due t f n bytes k = absurd cc
open_end old new any d left0 left left2 false due t f n bytes k =
    read_whole bytes left2 said_by (λ more. at_end new.number any d)
    (read_to bytes left2 said_by (λ more. said_of old any d []) (λ more. at_end new.number any d)
    (on_none said_by (said_of old any d) old left0 left left2 due f bytes k)
    (λ more. said-none old.limit old.read (old.number + 1) any d ∙ ap (λ (i : ℕ). at_end i any d) (sym n)))

-- the next line is refused by what it is made of
stop_by : (old new : Reading) (any : Bool) (d : Drafting) (left0 left left2 : Option (List ℕ)) (n word : ℕ) (what : Wrong) → IsOpen old any d left0 left
    → ((bytes : List ℕ) → left ≡ Some bytes → IsUnread old new bytes left2 n word what) → new.number ≡ old.number + 1
    → (bytes : List ℕ) → left0 ≡ Some bytes → said_by bytes ≡ Err (Said n word what)
stop_by old new any d left0 left left2 n word (Unreadable fault) due f number bytes k =
    let here = due bytes k in
    let p = f here.rest here.has_left in
    let answer : Result Drafting ExperimentFault = Err (Said n word (Unreadable fault)) in
    read_whole bytes left2 said_by (λ more. answer)
    (on_refused said_by (said_of old any d) old left0 left left2 due fault answer (λ rest h. (f rest h).0)
    (λ line later is. said-refused old.limit old.read (old.number + 1) any d line later (Said (old.number + 1) 1 (Unreadable fault))
    (ap (text_after d (old.number + 1)) is)
    ∙ (ap (λ (i : ℕ). Err (Said i 1 (Unreadable fault))) (sym (p.1 ∙ number)) ∙ ap (λ (i : ℕ). Err (Said n i (Unreadable fault))) (sym p.2))) bytes k)
stop_by old new any d left0 left left2 n word _ due f number bytes k = absurd (f (due bytes k).rest (due bytes k).has_left)

pub open_stop : (old new : Reading) (any : Bool) (d : Drafting) (left0 left left2 : Option (List ℕ)) (fault : ExperimentFault) → IsOpen old any d left0 left
    → ((bytes : List ℕ) → left ≡ Some bytes → IsNextText old new bytes left2 (Err fault)) → IsTextNumbered (place_of old) (place_of new) (Err fault)
    → (bytes : List ℕ) → left0 ≡ Some bytes → IsExperimentOf bytes (Err fault)
open_stop old new any d left0 left left2 Read due f number bytes k = tt
open_stop old new any d left0 left left2 NoMemory due f number bytes k = tt
open_stop old new any d left0 left left2 (Said n word what) due f number bytes k =
    ap fit (stop_by old new any d left0 left left2 n word what due f number bytes k)

-- a line of the text isn't taken
pub open_refused : (old new : Reading) (any : Bool) (d e : Drafting) (left0 left left2 : Option (List ℕ)) (text : List ℕ) (n : ℕ) (fault : ExperimentFault)
    → IsOpen old any d left0 left → IsTaken old new left left2 text → n ≡ new.number
    → IsLineTaken (line_after d n (line_of n (words_of text))) n (Err fault) e → (bytes : List ℕ) → left0 ≡ Some bytes
    → IsExperimentOf bytes (Err fault)
open_refused old new any d e left0 left left2 text n Read due t is p bytes k = absurd p
open_refused old new any d e left0 left left2 text n NoMemory due t is p bytes k = tt
open_refused old new any d e left0 left left2 text n (Said l word what) due t is p bytes k =
    let refusal : Refusal = record { word = word; wrong = what } in
    let q : line_after d new.number (line_of new.number (words_of text)) ≡ Err refusal
    = subst (λ (i : ℕ). line_after d i (line_of i (words_of text)) ≡ Err refusal) is p.1 in
    ap fit (open_fault old new any d left0 left left2 text due t refusal q bytes k ∙ ap (λ (i : ℕ). Err (Said i word what)) (sym (p.0 ∙ is)))

-- all lines were taken, and what they say is checked
pub open_made : (bytes : List ℕ) (n : ℕ) (any : Bool) (d : Drafting) (r : Result Experiment ExperimentFault) → said_by bytes ≡ at_end n any d → any ≡ true
    → IfErr r (λ fault. checked d ≡ Err fault) → IfOk r (λ e. checked d ≡ Ok tt) → IfOk r (λ e. IsMade d e) → IsExperimentOf bytes r
open_made bytes n any d (Ok e) said any_said fault fits made = (d, ap fit (said ∙ ap (λ a. at_end n a d) any_said) ∙ ap (fit_by d) fits, made)
open_made bytes n any d (Err Read) said any_said fault fits made = tt
open_made bytes n any d (Err NoMemory) said any_said fault fits made = tt
open_made bytes n any d (Err (Said l word what)) said any_said fault fits made = ap fit (said ∙ ap (λ a. at_end n a d) any_said) ∙ ap (fit_by d) fault

-- no line says anything
pub open_nothing : (bytes : List ℕ) (n : ℕ) (any : Bool) (d : Drafting) → said_by bytes ≡ at_end n any d → any ≡ false
    → IsExperimentOf bytes (Err (Said n 1 Nothing))
open_nothing bytes n any d said none = ap fit (said ∙ ap (λ a. at_end n a d) none)
