-- The worlds with which a replay begins.
use Rattle.std.specs.Prelude.{◌≡◌, ℕ, List, length, replicate}
use Rattle.homa_plain.specs.declared.settings.Settings.{Settings}
use Rattle.homa_plain.specs.Rules.{Answer}
use Rattle.homa_plain.specs.World.{World as PlainWorld, new_world}
use Rattle.homa_plain.specs.Answers.{answering}
use Rattle.homa_world.specs.declared.parts.WorldParts.{WorldParts}
use Rattle.homa_world.specs.Standing.{StandsFor}

-- one of these plain worlds is one in which nothing has happened, with so many boxes, whatever its services will answer
pub record IsFirstAt (s : Settings) (start boxes : ℕ) (stands : PlainWorld → Type 0) : Type 0 where
  pub first : PlainWorld
  pub stood : stands first
  pub is_first : (answers : List Answer) → answering answers first ≡ new_world s (replicate s.hosts 1) start boxes answers

-- a world was opened at this tick, with these settings and boxes: no event was applied
pub record IsOpenedAt {S : Type 0} (s : Settings) (tick : ℕ) (boxes : List S) (w : WorldParts S) : Type 0 where
  pub first : IsFirstAt s tick (length boxes) (StandsFor w)
  pub settings : w.settings ≡ s
  pub applied : w.applied ≡ 0
