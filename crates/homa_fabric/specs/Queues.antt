-- The queues of a destination: their room, and a packet that comes to one.
use Rattle.std.specs.Prelude.{◌≡◌, ◌++◌, [], ◌∷◌, ℕ, List, length, nat_lt, if◌then◌else◌}
use Rattle.std.specs.List.{All}
use Rattle.circular_buffer.specs.Buffer.{Buffer}
use Rattle.generated_runs.specs.Fabric.{Queued, Destination, most_queued, level_of, with_level}

-- eight queues, each with its room
pub record AreQueues (queues : List (Buffer Queued)) : Type 0 where
  pub eight : length queues ≡ 8
  pub room : All (λ q. q.capacity ≡ most_queued) queues

-- a packet goes to the end of its queue, or is lost where that is full
abbrev pub entered : Destination → ℕ → Queued → Destination
entered d level p = if nat_lt (length (level_of d level)) most_queued then with_level d level (level_of d level ++ p ∷ []) else d
