-- What events of a line do, one after the other, and what of it is printed.
use Rattle.std.specs.Prelude.{◌≡◌, ℕ, ◌+◌, Bool, true, Option, List, ◌∷◌, ◌++◌, length}
use Rattle.std.specs.List.{flat_map}
use Rattle.homa_io.specs.Outside.{appended, TookFront}
use Rattle.homa_plain.specs.declared.settings.Settings.{Settings}
use Rattle.homa_plain.specs.declared.fault.WorldFault.{WorldFault}
use Rattle.homa_plain.specs.Entries.{PlainEntry}
use Rattle.homa_plain.specs.Text.{line_text}
use Rattle.homa_plain.specs.Script.{Steps}
use Rattle.homa_plain.specs.Rules.{Answer}
use Rattle.homa_plain.specs.World.{World}
use Rattle.homa_plain.specs.declared.event.Event.TheVariants as event
use Rattle.homa_plain.specs.Replay.{Happening, Replay, bare, turns_of, with_told, lines}
use Rattle.homa_plain.specs.Answers.{shown, answering}
use Rattle.homa_replay.specs.Stream.{goes_on, refused_line}

-- what a replay prints
abbrev pub text_of : Replay → List ℕ
text_of r = flat_map line_text (lines r)

-- What was told is a front of what a replay tells, and a front of its text was printed.
pub record IsFront (r : Replay) (told : List PlainEntry) (old new : Option (List ℕ)) : Type 0 where
  pub rest : List PlainEntry
  pub tells : r.told ≡ told ++ rest
  pub took : TookFront old new (text_of r)

-- the events of one tick
abbrev pub tick_of : ℕ → List Happening
tick_of hosts = bare event.Clock ∷ turns_of 0 hosts

-- These events were carried out, and what they told was printed. The replay goes on with what stands behind them.
pub record ArePlayed (s : Settings) (w : World) (es : List Happening) (stands : World → Type 0) (old new : Option (List ℕ))
    (before after : List PlainEntry → Type 0) : Type 0 where
  pub next : World
  pub stood : stands next
  pub told : List PlainEntry
  pub printed : new ≡ appended old (flat_map line_text told)
  pub allowed : (more : List PlainEntry) → after more → before (told ++ more)
  pub same : (events line : ℕ) (rest : List Happening) (steps : Steps) (later : List Answer)
      → goes_on s (answering (shown told ++ later) w) events line (es ++ rest) steps
      ≡ with_told told (goes_on s (answering later next) (events + length es) line rest steps)

-- One of these events is refused, and what was told before it was printed.
pub record AreRefused (s : Settings) (w : World) (es : List Happening) (old new : Option (List ℕ)) (before : List PlainEntry → Type 0)
    (fault : WorldFault) : Type 0 where
  pub told : List PlainEntry
  pub printed : new ≡ appended old (flat_map line_text told)
  pub allowed : before told
  pub same : (events line : ℕ) (rest : List Happening) (steps : Steps) (later : List Answer)
      → goes_on s (answering (shown told ++ later) w) events line (es ++ rest) steps ≡ with_told told (refused_line line fault)

-- It stops in the midst of these events: these lines are a front of what they and what stands behind them tell, and a front of
-- that was printed; where `all` says so, these lines, and no more.
pub record AreCut (s : Settings) (w : World) (es : List Happening) (old new : Option (List ℕ)) (before : List PlainEntry → Type 0) (all : Bool) : Type 0 where
  pub told : List PlainEntry
  pub allowed : before told
  pub printed : all ≡ true → new ≡ appended old (flat_map line_text told)
  pub front : (events line : ℕ) (rest : List Happening) (steps : Steps) (later : List Answer)
      → IsFront (goes_on s (answering (shown told ++ later) w) events line (es ++ rest) steps) told old new
