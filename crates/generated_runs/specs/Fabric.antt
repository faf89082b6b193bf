-- The fabric: what is on its way between hosts, in strict order of level. It queues, loses, repeats and drops.
use Rattle.std.specs.Prelude.{ℕ, zero, suc, ◌+◌, ◌-◌, nat_lt, if◌then◌else◌, Option, None, Some, List, [], ◌∷◌, ◌++◌, length, replicate, slice_set}
use Rattle.std.specs.Prelude.{slice_index_or}
use Rattle.std.specs.List.{sum_by}
use Rattle.rand_pcg.specs.Lcg.{Lcg}
use Rattle.generated_runs.specs.Draws.{draw}

-- a packet on its way
pub record Queued : Type 0 where
  pub number : ℕ
  pub size : ℕ  -- how many bytes its frame has
  pub tick : ℕ  -- when it was sent

-- what is on its way to one host
pub record Destination : Type 0 where
  pub levels : List (List Queued)  -- a queue for each level, from 0 to 7
  pub budget : ℕ  -- how many bytes it may still be handed in this round
  pub again : Option ℕ  -- the packet that is handed over a second time

-- what is on its way to each host, and the generator of the run's draws
pub record Fabric : Type 0 where
  pub destinations : List Destination
  pub random : Lcg

-- how many packets a queue holds, and how many bytes a host is handed in a round
abbrev pub most_queued : ℕ
most_queued = 256

-- the most bytes that a host is handed in a round
abbrev pub round_bytes : ℕ
round_bytes = 16000

-- nothing is on its way, and nothing may be handed over
abbrev pub idle : Destination
idle = record { levels = replicate 8 []; budget = 0; again = None }

-- a fabric between so many hosts, with nothing on its way
abbrev pub new_fabric : ℕ → Lcg → Fabric
new_fabric hosts random = record { destinations = replicate hosts idle; random = random }

-- what is on its way to this host
abbrev pub destination : Fabric → ℕ → Destination
destination f to = slice_index_or f.destinations to idle

-- the fabric with this on its way to a host
abbrev pub with_destination : Fabric → ℕ → Destination → Fabric
with_destination f to d = record f { destinations = slice_set f.destinations to d }

-- the queue of a level
abbrev pub level_of : Destination → ℕ → List Queued
level_of d level = slice_index_or d.levels level []

-- what is on its way, with another queue at a level
abbrev pub with_level : Destination → ℕ → List Queued → Destination
with_level d level queue = record d { levels = slice_set d.levels level queue }

-- a packet that is sent goes to the end of its queue, or is lost if the queue is full
abbrev pub sent : Fabric → ℕ → ℕ → Queued → Fabric
sent f to level p =
    let d = destination f to in
    if nat_lt (length (level_of d level)) most_queued then with_destination f to (with_level d level (level_of d level ++ p ∷ [])) else f

-- a round begins: each host may be handed so many bytes
abbrev pub refilled : Destination → Destination
refilled d = record d { budget = round_bytes }

-- ---- what is handed over

-- the highest level, from one on, that has a packet
abbrev pub highest : ℕ → List (List Queued) → Option ℕ
highest level [] = None
highest level (queue ∷ queues) = higher (highest (suc level) queues) level queue
  where
    higher : Option ℕ → ℕ → List Queued → Option ℕ
    higher (Some above) level queue = Some above
    higher None level [] = None
    higher None level (p ∷ ps) = Some level

-- what becomes of the packet that comes first: the host's round ends, or the packet is lost, or it is handed over
pub data Hop : Type 0 where
  Ends : Hop
  Loses : (d : Destination) (random : Lcg) → Hop
  Hands : (number : ℕ) (d : Destination) (random : Lcg) → Hop

-- a packet that isn't too old is lost, handed over twice, or once, by a draw
abbrev pub drawn : Queued → Destination → ℕ × Lcg → Hop
drawn p d (zero, g) = Loses d g
drawn p d (suc zero, g) = Hands p.number (record d { again = Some p.number }) g
drawn p d (suc (suc n), g) = Hands p.number d g

-- the first packet of a level, after its life and where the budget isn't enough for it
abbrev pub first_hop : ℕ → ℕ → Destination → Lcg → ℕ → List Queued → Hop
first_hop life now d g level [] = Ends
first_hop life now d g level (p ∷ ps) =
    let rest = with_level d level ps in
    if nat_lt d.budget p.size then Ends
    else if nat_lt (p.tick + life) now then Loses rest g
    else drawn p (record rest { budget = d.budget - p.size }) (draw 64 g)

-- looks at the first packet of this level; if no level has a packet, the host's round ends
abbrev pub level_hop : ℕ → ℕ → Destination → Lcg → Option ℕ → Hop
level_hop life now d g None = Ends
level_hop life now d g (Some level) = first_hop life now d g level (level_of d level)

-- a packet that is to be handed over a second time comes first, and then the highest level that has a packet
abbrev pub again_hop : ℕ → ℕ → Destination → Lcg → Option ℕ → Hop
again_hop life now d g (Some number) = Hands number (record d { again = None }) g
again_hop life now d g None = level_hop life now d g (highest 0 d.levels)

-- the next packet in question, at a tick
abbrev pub hop : ℕ → ℕ → Destination → Lcg → Hop
hop life now d g = again_hop life now d g d.again

-- what a host gets next, if its round hasn't ended
pub record Handed : Type 0 where
  pub number : Option ℕ
  pub to : Destination
  pub random : Lcg

-- packets are looked at until one is handed over or the round ends; each that is lost leaves its queue
unfoldable pub handed : ℕ → ℕ → ℕ → Destination → Lcg → Handed
handed zero life now d g = record { number = None; to = d; random = g }
handed (suc n) life now d g =
    elim (hop life now d g) [
      | Ends ↦ record { number = None; to = d; random = g }
      | Loses rest random ↦ handed n life now rest random
      | Hands number rest random ↦ record { number = Some number; to = rest; random = random }
    ]

-- how many packets are on their way to a host
abbrev pub on_the_way : Destination → ℕ
on_the_way d = sum_by length d.levels

-- what a host is handed next, of all that is on its way to it
abbrev pub next_of : ℕ → ℕ → Destination → Lcg → Handed
next_of life now d g = handed (suc (on_the_way d)) life now d g

-- the fabric after it handed over, or didn't
abbrev pub after_next : Fabric → ℕ → Handed → Fabric
after_next f to h = record (with_destination f to h.to) { random = h.random }
