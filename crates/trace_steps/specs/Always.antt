-- What it is for a law to hold of every trace, and for an event to keep it.
use Rattle.std.specs.Prelude.{◌≡◌, ◌≤◌, ℕ, ◌+◌, ◌-◌, true, List, [], ◌∷◌, ◌++◌, length}
use Rattle.std.specs.List.{AllByRecursion}
use Rattle.homa_plain.specs.declared.settings.Settings.{Settings}
use Rattle.homa_plain.specs.Settings.{IsValid}
use Rattle.homa_plain.specs.Entries.{PlainEntry, PlainSettings}
use Rattle.trace_rules.specs.Lines.{is_last}
use Rattle.homa_plain.specs.Rules.{Answer}
use Rattle.homa_plain.specs.World.{World, After, Done, outcome, new_world, last_tick}
use Rattle.homa_plain.specs.Replay.{Happening, carried}
use Rattle.trace_rules.specs.View.{View, at_start}
use Rattle.trace_rules.specs.Seen.{seen, seen_all}
use Rattle.trace_rules.specs.Laws.{Holds}

-- the greatest incarnation
abbrev pub last_incarnation : ℕ
last_incarnation = 4294967295

-- a world that may be opened, with these first incarnations, this first tick and so many boxes
pub record IsOpening (s : Settings) (incs : List ℕ) (clock boxes : ℕ) : Type 0 where
  pub valid : IsValid s
  pub hosts : length incs ≡ s.hosts
  pub from_one : AllByRecursion (λ (inc : ℕ). 1 ≤ inc) incs
  pub up_to_last : AllByRecursion (λ (inc : ℕ). inc + (boxes - length incs) ≤ last_incarnation) incs  -- with each spare box the incarnation rises
  pub tick : clock ≤ last_tick

-- the trace of a world that is opened so: of these events, or of those before the first that the world refuses, as it refuses each one that isn't timely
abbrev pub trace : Settings → List ℕ → ℕ → ℕ → List Answer → List Happening → List PlainEntry
trace s incs clock boxes answers events = PlainSettings s ∷ (carried s (new_world s incs clock boxes answers) events).told

-- A law holds of every trace, at each line from the first one on: of the trace alone, and of the trace with any last line behind it.
abbrev pub HoldsAlways : (View → PlainEntry → Type 0) → Type 0
HoldsAlways law =
    (s : Settings) (incs : List ℕ) (clock boxes : ℕ) (answers : List Answer) (events : List Happening)
    → IsOpening s incs clock boxes
    → Holds law (at_start clock) (trace s incs clock boxes answers events)
    × ((line : PlainEntry) → is_last line ≡ true → Holds law (at_start clock) (trace s incs clock boxes answers events ++ line ∷ []))

-- ---- how that is proved: by what is so of a world and of the lines that were told of it, between two events

-- it is so of a world just opened, behind the first line
abbrev pub IsSoAtFirst : (Settings → World → View → Type 0) → Type 0
IsSoAtFirst so =
    (s : Settings) (incs : List ℕ) (clock boxes : ℕ) (answers : List Answer)
    → IsOpening s incs clock boxes → so s (new_world s incs clock boxes answers) (seen (at_start clock) (PlainSettings s))

-- where it is so, and an event is carried out, the law holds at each line of the event, and it is so behind them
abbrev pub KeptByEvent : (Settings → World → View → Type 0) → (View → PlainEntry → Type 0) → Type 0
KeptByEvent so law =
    (s : Settings) (w : World) (v : View) (e : Happening) (after : After)
    → so s w v → outcome s w e.event e.bytes ≡ Done after → Holds law v after.told × so s after.world (seen_all v after.told)

-- where it is so, the law holds at a last line
abbrev pub IsHeldAtEnd : (Settings → World → View → Type 0) → (View → PlainEntry → Type 0) → Type 0
IsHeldAtEnd so law = (s : Settings) (w : World) (v : View) (line : PlainEntry) → so s w v → is_last line ≡ true → law v line

-- and the law holds at the first line of a trace
abbrev pub IsHeldAtFirst : (View → PlainEntry → Type 0) → Type 0
IsHeldAtFirst law = (s : Settings) (incs : List ℕ) (clock boxes : ℕ) → IsOpening s incs clock boxes → law (at_start clock) (PlainSettings s)

-- so it holds always
abbrev pub IsProvedBy : (Settings → World → View → Type 0) → (View → PlainEntry → Type 0) → Type 0
IsProvedBy so law = IsHeldAtFirst law → IsSoAtFirst so → KeptByEvent so law → IsHeldAtEnd so law → HoldsAlways law
