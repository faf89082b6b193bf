-- What a world that is played does with an event.
use Rattle.std.specs.Prelude.{◌≡◌, Bool, true, false, List, ◌++◌}
use Rattle.homa_plain.specs.declared.settings.Settings.{Settings}
use Rattle.homa_plain.specs.declared.event.Event.{Event}
use Rattle.homa_plain.specs.declared.event.Event.TheVariants as event
use Rattle.homa_plain.specs.declared.fault.WorldFault.{WorldFault}
use Rattle.homa_plain.specs.Entries.{PlainEntry, is_memory}
use Rattle.homa_plain.specs.World.{World}
use Rattle.homa_plain.specs.Replay.{Happening}
use Rattle.homa_plain.specs.Answers.{shown}
use Rattle.homa_replay.specs.Stream.{IsDone, IsRefused}

-- An event was applied, and this is told of it: it is the plain world's outcome with the answers that its `run` line shows, which
-- the boxes allow. `stands` says which plain worlds the code's world may be afterwards; `before` and `after` say which entries the
-- boxes allow from then on.
pub record IsApplied (s : Settings) (w : World) (e : Happening) (stands : World → Type 0) (told : List PlainEntry)
    (before after : List PlainEntry → Type 0) : Type 0 where
  pub next : World
  pub stood : stands next
  pub done : IsDone s w e (shown told) next told
  pub allowed : (more : List PlainEntry) → after more → before (told ++ more)

-- whether an event may take memory: a step of the world's clock and a shift of a host's own never do
abbrev pub takes_memory : Event → Bool
takes_memory event.Clock = false
takes_memory (event.Shift host by) = false
takes_memory other = true

-- An event wasn't applied: the plain world refuses it, or it takes memory and there is none.
pub record IsNotApplied (s : Settings) (w : World) (e : Happening) (fault : WorldFault) : Type 0 where
  pub refused : is_memory fault ≡ false → IsRefused s w e fault
  pub memory : is_memory fault ≡ true → takes_memory e.event ≡ true
