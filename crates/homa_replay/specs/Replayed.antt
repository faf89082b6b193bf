-- What a replay printed and read.
use Rattle.std.specs.Prelude.{◌≡◌, ℕ, Bool, true, false, Option, Some, Result, Ok, List, [], IfOk, IfErr}
use Rattle.homa_plain.specs.Entries.{PlainEntry}
use Rattle.homa_replay.specs.declared.stop.Stop.{Stop}
use Rattle.homa_replay.specs.Stops.{prints_all}
use Rattle.homa_replay.specs.Progress.{replay_of, ArePrinted, AreParts}
use Rattle.homa_replay.specs.RefusedReads.{IsReadUpTo}

-- The replay of the bytes that the source had was printed whole, and it was read to its end or to the line that is refused; or it stopped,
-- and a front of the replay was printed.
pub record IsReplayed (boxes : ℕ) (allowed : List PlainEntry → Type 0) (left left_then old new : Option (List ℕ)) (result : Result Bool Stop)
    : Type 0 where
  pub printed : IfOk result (λ accepted. ArePrinted (replay_of boxes) left old new allowed accepted)
  pub to_end : result ≡ Ok true → (bytes : List ℕ) → left ≡ Some bytes → left_then ≡ Some []
  pub behind : result ≡ Ok false → (bytes : List ℕ) → left ≡ Some bytes → IsReadUpTo bytes left_then old new
  pub part : IfErr result (λ stop. AreParts (replay_of boxes) left left_then old new allowed (prints_all stop))
