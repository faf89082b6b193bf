-- A run: its turns, the events that it counts, and the lines that a sink takes.
use Rattle.std.specs.Prelude.{◌≡◌, ◌+◌, ℕ, Bool, if◌then◌else◌, Option, None, List, [], ◌∷◌, ◌++◌, length, replicate}
use Rattle.std.specs.List.{flat_map}
use Rattle.homa_io.specs.Outside.{appended, TookFront}
use Rattle.homa_plain.specs.declared.settings.Settings.{Settings}
use Rattle.homa_plain.specs.Entries.{PlainEntry, PlainSettings}
use Rattle.homa_plain.specs.Rules.{Answer}
use Rattle.homa_plain.specs.Script.{settings_text}
use Rattle.homa_plain.specs.World.{World, new_world}
use Rattle.homa_plain.specs.Replay.{Happening, carried}
use Rattle.homa_plain.specs.Answers.{shown, answering}
use Rattle.homa_world.specs.declared.shown.Passing.{Passing}
use Rattle.simulated_network.specs.declared.step.RunStep.{RunStep}
use Rattle.simulation.specs.Turns.{Turn, happenings, told_of, line_of, AreTurns}

-- what is printed of a text, if anything is printed
abbrev pub said : Bool → List ℕ → List ℕ
said prints text = if prints then text else []

-- Where a run is, beside its world: the network, how many events happened, and what the sink took.
pub record At (N : Type 0) : Type 0 where
  pub network : N
  pub events : ℕ
  pub taken : Option (List ℕ)

abbrev pub at : {N : Type 0} → N → ℕ → Option (List ℕ) → At N
at network events taken = record { network = network; events = events; taken = taken }

module _ {N : Type 0} (gives : N → ℕ → RunStep → N → Type 0) (heeds : N → PlainEntry → Option Passing → N → Type 0) (leaves : N → N → Type 0)
    (s : Settings) (service : ℕ) (prints : Bool) (w : World) where
  -- A run went on from this world: its turns led on, its events were counted, and their lines printed, if lines are printed.
  -- `stands` says which plain worlds the code's world may be afterwards; `before` and `after` say which entries the boxes allow.
  pub record HasRun (a b : At N) (stands : World → Type 0) (before after : List PlainEntry → Type 0) : Type 0 where
    pub turns : List Turn
    pub end : World
    pub stood : stands end
    pub led : AreTurns gives heeds leaves s service w a.network turns end b.network
    pub counted : b.events ≡ a.events + length (happenings turns)
    pub printed : b.taken ≡ appended a.taken (said prints (flat_map line_of (happenings turns)))
    pub allowed : (more : List PlainEntry) → after more → before (told_of turns ++ more)

  -- A run stopped: behind its turns one event more may be printed, in part or as a whole.
  pub record HasStopped (a : At N) (new : Option (List ℕ)) (before : List PlainEntry → Type 0) : Type 0 where
    pub turns : List Turn
    pub end : World
    pub reached : N
    pub led : AreTurns gives heeds leaves s service w a.network turns end reached
    pub last : Happening
    pub front : TookFront a.taken new (said prints (flat_map line_of (happenings turns ++ last ∷ [])))
    pub allowed : before (told_of turns)

-- A run from its beginning to its end. Its events are carried out by the plain world with so many boxes, with the answers that its
-- own `run` lines show, which the boxes allow; none is refused. If it prints, the sink took its schedule.
pub record IsRun (s : Settings) (boxes : ℕ) (prints : Bool) (allowed : List PlainEntry → Type 0) (old new : Option (List ℕ)) (events : ℕ)
    : Type 0 where
  pub es : List Happening
  pub told : List PlainEntry
  pub end : World
  pub carries : (later : List Answer) → carried s (new_world s (replicate s.hosts 1) 0 boxes (shown told ++ later)) es
      ≡ record { world = answering later end; told = told; count = length es; fault = None }
  pub counted : events ≡ length es
  pub printed : new ≡ appended old (said prints (settings_text s ++ flat_map line_of es))
  pub allow : allowed (PlainSettings s ∷ told)

-- A run that stopped early. What was printed is a front of its schedule, in which one event more may stand.
pub record IsPart (s : Settings) (boxes : ℕ) (prints : Bool) (allowed : List PlainEntry → Type 0) (old new : Option (List ℕ)) : Type 0 where
  pub es : List Happening
  pub told : List PlainEntry
  pub end : World
  pub carries : (later : List Answer) → carried s (new_world s (replicate s.hosts 1) 0 boxes (shown told ++ later)) es
      ≡ record { world = answering later end; told = told; count = length es; fault = None }
  pub last : Happening
  pub front : TookFront old new (said prints (settings_text s ++ flat_map line_of (es ++ last ∷ [])))
  pub allow : allowed (PlainSettings s ∷ told)
