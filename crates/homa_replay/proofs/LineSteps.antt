-- The lines of a schedule, one after the other.
use Rattle.std.proofs.Common.{◌≡◌, ◌≤◌, ℕ, ◌+◌, ◌*◌, Bool, true, false, Option, None, Some, Result, Ok, Err, List, [], ◌++◌, length, refl, sym, ap}
use Rattle.std.proofs.Common.{◌∙◌, subst, arith}
use Rattle.std.proofs.Math.Nat.{mul-le-mul_left}
use Rattle.std.proofs.lemmas.List.{append-nil}
use Rattle.homa_io.specs.Outside.{TookFront}
use Rattle.homa_plain.specs.declared.settings.Settings.{Settings}
use Rattle.homa_plain.specs.declared.fault.WorldFault.{WorldFault}
use Rattle.homa_plain.specs.declared.fault.ScriptFault.{ScriptFault}
use Rattle.homa_plain.specs.declared.fault.LineFault.{LineFault}
use Rattle.homa_plain.specs.declared.fault.LineFault.TheVariants.{Script as ByScript}
use Rattle.homa_plain.specs.Entries.{PlainEntry}
use Rattle.homa_plain.specs.Text.{line_text}
use Rattle.homa_plain.specs.Script.{Given, Steps, Step}
use Rattle.homa_plain.specs.Rules.{Answer}
use Rattle.homa_plain.specs.World.{World}
use Rattle.homa_plain.specs.Replay.{Happening, Replay, End, Finished, RefusedAt, replayed, events_of, with_told, last_entry}
use Rattle.script_lines.specs.declared.stop.ScriptStop.{ScriptStop}
use Rattle.script_lines.specs.declared.stop.ScriptStop.TheVariants.{Read, Fault}
use Rattle.homa_script.specs.declared.next.Next.{Next}
use Rattle.homa_script.specs.declared.next.Next.TheVariants.{Event, Ticks, End as AtEnd}
use Rattle.script_lines.specs.Place.{Place, IsCounted}
use Rattle.homa_script.specs.Steps.{steps_left, step_first, no_steps, refused_at}
use Rattle.script_lines.specs.Read.{IsRead, IsCut}
use Rattle.homa_script.specs.Script.{IsNext, IsInRange, IsOn}
use Rattle.homa_script.specs.Script.{is_end as script_end}
use Rattle.homa_plain.specs.Answers.{shown, answering}
use Rattle.homa_replay.specs.Stream.{goes_on, ending, refused_line}
use Rattle.homa_replay.specs.Lines.{ArePlayed, AreRefused, AreCut}
use Rattle.homa_replay.specs.NextLine.{given_of, line_events, is_end}
use Rattle.homa_replay.specs.Progress.{Whole, left_at, AreFar, AreParts}
use Rattle.homa_replay.proofs.Streams.{line_begins, line_over}
use Rattle.homa_replay.proofs.Ticks.{length-ticks}
use Rattle.homa_replay.proofs.Fronts.{front_same}
use Rattle.homa_replay.proofs.Plays.{front_of}
use Rattle.homa_replay.proofs.Fars.{far_to, fars_read, fars_told, fars_part, fars_cut}

-- ---- what was read

-- a read that failed
cut_read : {A : Type 0} (bytes : List ℕ) (left : Option (List ℕ)) (due now : List ℕ → A) → IsRead bytes left due now → IsCut bytes left
cut_read bytes left due now d = record { came = d.came; rest = d.rest; split = d.split; has_left = d.has_left }

-- whatever was answered, some bytes came
pub cut_of : (old new : Place) (operand bytes : List ℕ) (left : Option (List ℕ)) (answer : Result Next ScriptStop)
    → IsNext old new operand bytes left answer → IsCut bytes left
cut_of old new operand bytes left (Ok (Event event)) d = cut_read bytes left _ _ d
cut_of old new operand bytes left (Ok (Ticks n)) d = cut_read bytes left _ _ d
cut_of old new operand bytes left (Ok AtEnd) d = cut_read bytes left _ _ d.0
cut_of old new operand bytes left (Err (Read failed)) d = d
cut_of old new operand bytes left (Err (Fault fault)) d = cut_read bytes left _ _ d

-- a line came
line_read : (old new : Place) (operand bytes : List ℕ) (left : Option (List ℕ)) (next : Next) → is_end next ≡ false
    → IsNext old new operand bytes left (Ok next)
    → IsRead bytes left (steps_left old) (λ more. step_first (record { line = new.number; given = given_of next operand }) (steps_left new more))
line_read old new operand bytes left (Event event) e d = d
line_read old new operand bytes left (Ticks n) e d = d
line_read old new operand bytes left AtEnd e d = absurd cc

end_read : (old new : Place) (operand bytes : List ℕ) (left : Option (List ℕ)) (next : Next) → is_end next ≡ true
    → IsNext old new operand bytes left (Ok next) → IsRead bytes left (steps_left old) (λ more. no_steps) × (left ≡ Some [])
end_read old new operand bytes left (Event event) e d = absurd cc
end_read old new operand bytes left (Ticks n) e d = absurd cc
end_read old new operand bytes left AtEnd e d = d

-- how many events a line has
pub length-events : (hosts : ℕ) (next : Next) (bytes : List ℕ) → is_end next ≡ false → length (events_of hosts (given_of next bytes)) ≡ line_events hosts next
length-events hosts (Event event) bytes e = refl
length-events hosts (Ticks n) bytes e = length-ticks hosts n
length-events hosts AtEnd bytes e = absurd cc

-- ---- what is due

-- no line is left
none_due : (s : Settings) (w : World) (events : ℕ) → replayed s w events [] None ≡ ending (Finished events)
unfolding replayed
none_due s w events = refl

-- the next line is refused by its words
refusal_due : (s : Settings) (w : World) (events line : ℕ) (fault : ScriptFault)
    → replayed s w events [] (Some (record { line = line; fault = fault })) ≡ ending (RefusedAt line (ByScript fault))
unfolding replayed
refusal_due s w events line fault = refl

-- what is due of steps
abbrev pub due_of : Settings → World → ℕ → Steps → List Answer → Replay
due_of s w events steps later = replayed s (answering later w) events steps.steps steps.refused

-- what is due in the midst of a line
abbrev pub midst : Settings → World → ℕ → ℕ → List Happening → Place → Whole
midst s w events line es place more later = goes_on s (answering later w) events line es (steps_left place more)

module _ (whole : Whole) (first left left2 old before taken : Option (List ℕ)) (p q : List PlainEntry → Type 0) (s : Settings) (w : World)
    (events : ℕ) (place new : Place) (operand : List ℕ)
    (same : taken ≡ before) (d0 : AreFar whole first left old before p q (left_at s w events place)) where
  -- reading leaves the sink's text
  d : AreFar whole first left old taken p q (left_at s w events place)
  d = subst (λ (o : Option (List ℕ)). AreFar whole first left old o p q (left_at s w events place)) (sym same) d0

  -- the end of the input
  pub at_end : (next : Next) → is_end next ≡ true → ((bytes : List ℕ) → left ≡ Some bytes → IsNext place new operand bytes left2 (Ok next))
      → AreFar whole first left2 old taken p q (λ more later. ending (Finished events))
  at_end next e f =
      let come = fars_read whole first left old taken p q (due_of s w events) (steps_left place) (λ more. no_steps) left2 d
      (λ rest h. (end_read place new operand rest left2 next e (f rest h)).0) in
      λ bytes h. far_to whole bytes left2 old taken p q (λ more later. due_of s w events no_steps later) (λ more later. ending (Finished events))
      (come bytes h) (λ more later. none_due s (answering later w) events)

  -- a line that its words refuse
  pub at_refusal : (fault : ScriptFault) → ((bytes : List ℕ) → left ≡ Some bytes → IsNext place new operand bytes left2 (Err (Fault fault)))
      → AreFar whole first left2 old taken p q (λ more later. ending (RefusedAt new.number (ByScript fault)))
  at_refusal fault f =
      let come = fars_read whole first left old taken p q (due_of s w events) (steps_left place) (λ more. refused_at new.number fault) left2 d f in
      λ bytes h. far_to whole bytes left2 old taken p q (λ more later. due_of s w events (refused_at new.number fault) later)
      (λ more later. ending (RefusedAt new.number (ByScript fault))) (come bytes h) (λ more later. refusal_due s (answering later w) events new.number fault)

  -- a line with words
  pub at_line : (next : Next) (given : Given) (hosts : ℕ) → is_end next ≡ false → given_of next operand ≡ given → s.hosts ≡ hosts
      → ((bytes : List ℕ) → left ≡ Some bytes → IsNext place new operand bytes left2 (Ok next))
      → AreFar whole first left2 old taken p q (midst s w events new.number (events_of hosts given) new)
  at_line next given hosts e g h f =
      let step : Step = record { line = new.number; given = given_of next operand } in
      let come = fars_read whole first left old taken p q (due_of s w events) (steps_left place) (λ more. step_first step (steps_left new more)) left2
      d (λ rest k. line_read place new operand rest left2 next e (f rest k)) in
      λ bytes k. far_to whole bytes left2 old taken p q (λ more later. due_of s w events (step_first step (steps_left new more)) later)
      (midst s w events new.number (events_of hosts given) new) (come bytes k)
      (λ more later. line_begins s (answering later w) events step (steps_left new more)
      ∙ (ap (λ (x : Given). goes_on s (answering later w) events new.number (events_of s.hosts x) (steps_left new more)) g
      ∙ ap (λ (n : ℕ). goes_on s (answering later w) events new.number (events_of n given) (steps_left new more)) h))

  -- reading failed
  pub at_cut : (all : Bool) → q [] → ((bytes : List ℕ) → left ≡ Some bytes → IsCut bytes left2) → AreParts whole first left2 old taken p all
  at_cut all none f = fars_cut whole first left old taken p q (left_at s w events place) left2 all d none f

-- ---- in the midst of a line

module _ (whole : Whole) (first left old taken new : Option (List ℕ)) (p q : List PlainEntry → Type 0) (s : Settings) (w : World) (events line : ℕ)
    (es : List Happening) (place : Place)
    (d : AreFar whole first left old taken p q (midst s w events line es place)) where
  no_more : (answers : List Answer) (more : List ℕ) → goes_on s (answering answers w) events line es (steps_left place more) ≡ goes_on s
      (answering answers w) events line (es ++ []) (steps_left place more)
  no_more answers more = ap (λ (l : List Happening). goes_on s (answering answers w) events line l (steps_left place more)) (sym (append-nil es))

  -- its events were carried out
  pub line_done : (st : World → Type 0) (r : List PlainEntry → Type 0) (n : ℕ) → length es ≡ n → (a : ArePlayed s w es st taken new q r)
      → AreFar whole first left old new p r (left_at s a.next (events + n) place)
  line_done st r n e a =
      fars_told whole first left old taken p q new r (midst s w events line es place) (left_at s a.next (events + n) place) a.told d a.printed a.allowed
      (λ more later. no_more (shown a.told ++ later) more
      ∙ (a.same events line [] (steps_left place more) later
      ∙ (ap (λ (x : Replay). with_told a.told x) (line_over s (answering later a.next) (events + length es) line (steps_left place more))
      ∙ ap (λ (k : ℕ). with_told a.told (left_at s a.next (events + k) place more later)) e)))

  -- the world refused one of them
  pub line_refused : (fault : WorldFault) → AreRefused s w es taken new q fault
      → AreFar whole first left old new p (λ more. more ≡ []) (λ more later. refused_line line fault)
  line_refused fault a =
      fars_told whole first left old taken p q new (λ more. more ≡ []) (midst s w events line es place) (λ more later. refused_line line fault) a.told
      d a.printed
      (λ more e. subst q (sym (ap (λ (l : List PlainEntry). a.told ++ l) e ∙ append-nil a.told)) a.allowed)
      (λ more later. no_more (shown a.told ++ later) more ∙ a.same events line [] (steps_left place more) later)

  -- it stopped in their midst
  pub line_cut : (all : Bool) → AreCut s w es taken new q all → AreParts whole first left old new p all
  line_cut all a =
      fars_part whole first left old taken p q new (midst s w events line es place) a.told all d a.allowed a.printed
      (λ more later. front_of taken new a.told _ _ (sym (no_more (shown a.told ++ later) more)) (a.front events line [] (steps_left place more) later))

-- ---- the last line

module _ (whole : Whole) (first left old taken new : Option (List ℕ)) (p q : List PlainEntry → Type 0) (end : End)
    (d : AreFar whole first left old taken p q (λ more later. ending end)) (none : q []) where
  -- a front of it was printed
  pub last_cut : TookFront taken new (line_text (last_entry end)) → AreParts whole first left old new p false
  last_cut f =
      fars_part whole first left old taken p q new (λ more later. ending end) [] false d none (λ k. absurd cc)
      (λ more later. record { rest = []; tells = refl; took = front_same taken new _ _ (sym (append-nil (line_text (last_entry end)))) f })

-- the line's number
pub renumbered : (whole : Whole) (first left old taken : Option (List ℕ)) (p q : List PlainEntry → Type 0) (m n : ℕ) (fault : LineFault) → m ≡ n
    → AreFar whole first left old taken p q (λ more later. ending (RefusedAt n fault))
    → AreFar whole first left old taken p q (λ more later. ending (RefusedAt m fault))
renumbered whole first left old taken p q m n fault e d =
    subst (λ (k : ℕ). AreFar whole first left old taken p q (λ more later. ending (RefusedAt k fault))) (sym e) d

-- ---- counts

few_ticks : (n hosts : ℕ) → n ≤ 100000 → hosts ≤ 32 → n * (hosts + 1) ≤ 3300000
few_ticks n hosts a b =
    let h : hosts + 1 ≤ 33 = omega (arith, b) in
    let first : n * (hosts + 1) ≤ n * 33 = mul-le-mul_left n h in
    omega (arith, first, a)

pub few_events : (hosts : ℕ) (next : Next) → hosts ≤ 32 → IsInRange next → line_events hosts next ≤ 3300000
few_events hosts (Event event) h r = omega arith
few_events hosts (Ticks n) h r = few_ticks n hosts r.1 h
few_events hosts AtEnd h r = omega arith

pub line_on : (old new : Place) (next : Next) → is_end next ≡ false → IsOn old new next → IsCounted new × (old.read + 2 ≤ new.read)
line_on old new (Event event) e h = h
line_on old new (Ticks n) e h = h
line_on old new AtEnd e h = absurd cc

pub line_ended : (next : Next) → is_end next ≡ false → script_end (Ok next) ≡ false
line_ended (Event event) e = refl
line_ended (Ticks n) e = refl
line_ended AtEnd e = absurd cc

-- at the end nothing is left
pub end_left : (whole : Whole) (first left left2 old taken : Option (List ℕ)) (p q : List PlainEntry → Type 0) (place new : Place) (operand : List ℕ)
    (due : Whole) (next : Next) → AreFar whole first left old taken p q due → is_end next ≡ true
    → ((bytes : List ℕ) → left ≡ Some bytes → IsNext place new operand bytes left2 (Ok next)) → (bytes : List ℕ) → first ≡ Some bytes → left2 ≡ Some []
end_left whole first left left2 old taken p q place new operand due next d e f bytes h =
    let far = d bytes h in
    (end_read place new operand far.read.rest left2 next e (f far.read.rest far.read.has_left)).1
