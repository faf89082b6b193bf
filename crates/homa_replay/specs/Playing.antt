-- What becomes of events that are played one after the other.
use Rattle.std.specs.Prelude.{◌≡◌, ℕ, false, Option, None, Result, Ok, List, IfOk, IfErr, IfSome}
use Rattle.homa_plain.specs.declared.settings.Settings.{Settings}
use Rattle.homa_plain.specs.declared.fault.WorldFault.{WorldFault}
use Rattle.homa_plain.specs.Entries.{PlainEntry, is_memory}
use Rattle.homa_plain.specs.World.{World}
use Rattle.homa_plain.specs.Replay.{Happening}
use Rattle.homa_replay.specs.declared.stop.Stop.{Stop}
use Rattle.homa_replay.specs.Stops.{prints_all}
use Rattle.homa_replay.specs.Lines.{ArePlayed, AreRefused, AreCut}

-- These events were all played, or the world refuses one, for which memory isn't the reason, or it stopped in the midst of them. That
-- is so in each world that the code's world may stand for.
pub record Plays (s : Settings) (es : List Happening) (stands stands_then : World → Type 0) (before after : List PlainEntry → Type 0)
    (old new : Option (List ℕ)) (result : Result (Option WorldFault) Stop) : Type 0 where
  pub played : result ≡ Ok None → (w : World) → stands w → ArePlayed s w es stands_then old new before after
  pub refused : IfOk result (λ r. IfSome r (λ fault. (w : World) → stands w → AreRefused s w es old new before fault))
  pub real : IfOk result (λ r. IfSome r (λ fault. is_memory fault ≡ false))
  pub cut : IfErr result (λ stop. (w : World) → stands w → AreCut s w es old new before (prints_all stop))
