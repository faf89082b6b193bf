-- The world with which a replay begins.
use Rattle.std.specs.Prelude.{◌≡◌, ℕ, Bool, true, false, Result, Ok, Err, List, replicate}
use Rattle.homa_plain.specs.declared.settings.Settings.{Settings}
use Rattle.homa_plain.specs.Rules.{Answer}
use Rattle.homa_plain.specs.World.{World, new_world}
use Rattle.homa_replay.specs.declared.stop.Stop.{Stop}
use Rattle.homa_replay.specs.declared.stop.Stop.TheVariants.{Read, Write, NoMemory}
use Rattle.homa_plain.specs.Answers.{answering}

-- a world in which nothing has happened, with so many boxes, whatever its services will answer
abbrev pub IsFirst : Settings → ℕ → World → Type 0
IsFirst s boxes w = (answers : List Answer) → answering answers w ≡ new_world s (replicate s.hosts 1) 0 boxes answers

-- it is one of those that stand for a world of the code
pub record IsOpened (s : Settings) (boxes : ℕ) (stands : World → Type 0) : Type 0 where
  pub first : World
  pub stood : stands first
  pub is_first : IsFirst s boxes first

-- neither reading nor writing failed
abbrev pub may_write : {A : Type 0} → Result A Stop → Bool
may_write (Ok answer) = true
may_write (Err Read) = false
may_write (Err Write) = false
may_write (Err NoMemory) = true
