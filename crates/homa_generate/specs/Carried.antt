-- Events of a line that were carried out, up to one that the world refuses.
use Rattle.std.specs.Prelude.{◌≡◌, ℕ, Bool, is_none, List, ◌++◌}
use Rattle.homa_plain.specs.declared.settings.Settings.{Settings}
use Rattle.homa_plain.specs.Entries.{PlainEntry}
use Rattle.homa_plain.specs.Rules.{Answer}
use Rattle.homa_plain.specs.World.{World}
use Rattle.homa_plain.specs.Replay.{Happening, carried}
use Rattle.homa_plain.specs.Answers.{shown, answering}
use Rattle.homa_generate.specs.Counts.{counted}

-- This was told and counted of them, with the answers that it shows; it is known whether none was refused.
pub record IsCarried (s : Settings) (w : World) (es : List Happening) (stands : World → Type 0) (old new : List ℕ)
    (before after : List PlainEntry → Type 0) (done : Bool) : Type 0 where
  pub next : World
  pub stood : stands next
  pub told : List PlainEntry
  pub counts : new ≡ counted old told
  pub allowed : (more : List PlainEntry) → after more → before (told ++ more)
  pub world : (later : List Answer) → (carried s (answering (shown told ++ later) w) es).world ≡ answering later next
  pub tells : (later : List Answer) → (carried s (answering (shown told ++ later) w) es).told ≡ told
  pub ends : (later : List Answer) → is_none (carried s (answering (shown told ++ later) w) es).fault ≡ done
