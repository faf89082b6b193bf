-- The amounts that lines may say: their words, their ranges, and what they are of a network and a load.
use Rattle.std.specs.Prelude.{ℕ, ◌≤◌, ◌<◌, List, [], ◌∷◌, map, slice_index, Option, None, Some, nat_lt, Bool, true, false, if◌then◌else◌}
use Rattle.std.specs.Prelude.{◌/◌, codes}
use Rattle.std.specs.Str.{bytes_eq}
use Rattle.experiment.specs.declared.amounts.Amount.{Amount}
use Rattle.experiment.specs.declared.amounts.Amount.TheVariants.{Link, Delay, Switch, HostDelay, ServiceTime, Overhead, Buffer, CardLimit, Tick, Spread}
use Rattle.experiment.specs.declared.amounts.Amount.TheVariants.{Loss, Repeat, Jitter, Load, Exact, Service, Incast, Burst, Warm, Measure, Seed}
use Rattle.experiment.specs.declared.amounts.Amount.TheVariants.{Seeds, Parts, Events}
use Rattle.experiment.specs.declared.network.Network.{Network}
use Rattle.experiment.specs.declared.load.Load.{Load as TheLoad}

-- the word of an amount
abbrev pub amount_word : Amount → List ℕ
amount_word Link = codes "link"
amount_word Delay = codes "delay"
amount_word Switch = codes "switch"
amount_word HostDelay = codes "host-delay"
amount_word ServiceTime = codes "service-time"
amount_word Overhead = codes "overhead"
amount_word Buffer = codes "buffer"
amount_word CardLimit = codes "card-limit"
amount_word Tick = codes "tick"
amount_word Spread = codes "spread"
amount_word Loss = codes "loss"
amount_word Repeat = codes "repeat"
amount_word Jitter = codes "jitter"
amount_word Load = codes "load"
amount_word Exact = codes "exact"
amount_word Service = codes "service"
amount_word Incast = codes "incast"
amount_word Burst = codes "burst"
amount_word Warm = codes "warm"
amount_word Measure = codes "measure"
amount_word Seed = codes "seed"
amount_word Seeds = codes "seeds"
amount_word Parts = codes "parts"
amount_word Events = codes "events"

-- all amounts
abbrev pub amounts : List Amount
amounts =
    Link ∷ Delay ∷ Switch ∷ HostDelay ∷ ServiceTime ∷ Overhead ∷ Buffer ∷ CardLimit ∷ Tick ∷ Spread ∷ Loss ∷ Repeat ∷ Jitter ∷ Load ∷ Exact ∷ Service
    ∷ Incast ∷ Burst ∷ Warm ∷ Measure ∷ Seed ∷ Seeds ∷ Parts ∷ Events ∷ []

-- the place of an amount among all
abbrev pub index : Amount → ℕ
index Link = 0
index Delay = 1
index Switch = 2
index HostDelay = 3
index ServiceTime = 4
index Overhead = 5
index Buffer = 6
index CardLimit = 7
index Tick = 8
index Spread = 9
index Loss = 10
index Repeat = 11
index Jitter = 12
index Load = 13
index Exact = 14
index Service = 15
index Incast = 16
index Burst = 17
index Warm = 18
index Measure = 19
index Seed = 20
index Seeds = 21
index Parts = 22
index Events = 23

-- the amount that a word names
abbrev pub amount_in : List Amount → List ℕ → Option Amount
amount_in [] word = None
amount_in (amount ∷ rest) word = if bytes_eq word (amount_word amount) then Some amount else amount_in rest word

-- the least number of an amount
abbrev pub least : Amount → ℕ
least Link = 1
least Delay = 0
least Switch = 0
least HostDelay = 0
least ServiceTime = 0
least Overhead = 0
least Buffer = 0
least CardLimit = 0
least Tick = 1
least Spread = 0
least Loss = 0
least Repeat = 0
least Jitter = 0
least Load = 1
least Exact = 0
least Service = 0
least Incast = 0
least Burst = 1
least Warm = 0
least Measure = 1
least Seed = 0
least Seeds = 1
least Parts = 1
least Events = 0

-- the greatest number of an amount
abbrev pub most : Amount → ℕ
most Link = 8000000
most Delay = 1000000000
most Switch = 1000000000
most HostDelay = 1000000000
most ServiceTime = 1000000000
most Overhead = 10000
most Buffer = 4000000000
most CardLimit = 4000000000
most Tick = 1000000000
most Spread = 1
most Loss = 1000000
most Repeat = 1000000
most Jitter = 1000000000
most Load = 100000
most Exact = 1
most Service = 3
most Incast = 31
most Burst = 1000
most Warm = 100000000
most Measure = 100000000
most Seed = 1000000000000000000
most Seeds = 10000
most Parts = 1000
most Events = 1125899906842624

-- 1 for yes, 0 for no
abbrev pub bit : Bool → ℕ
bit true = 1
bit false = 0

-- what an amount is of a load, and 0 for one of the network
abbrev pub load_value : TheLoad → Amount → ℕ
load_value load Link = 0
load_value load Delay = 0
load_value load Switch = 0
load_value load HostDelay = 0
load_value load ServiceTime = 0
load_value load Overhead = 0
load_value load Buffer = 0
load_value load CardLimit = 0
load_value load Tick = 0
load_value load Spread = 0
load_value load Loss = 0
load_value load Repeat = 0
load_value load Jitter = 0
load_value load Load = load.load
load_value load Exact = bit load.is_exact
load_value load Service = load.service
load_value load Incast = load.incast
load_value load Burst = load.burst
load_value load Warm = load.warm
load_value load Measure = load.calls
load_value load Seed = load.seed
load_value load Seeds = load.seeds
load_value load Parts = load.parts
load_value load Events = load.events

-- what an amount is of a network and a load: spans are nanoseconds, and a link's rate is in Mbit/s
abbrev pub value : Network → TheLoad → Amount → ℕ
value network load Link = 8000000 / network.byte
value network load Delay = network.delay / 1000
value network load Switch = network.switch / 1000
value network load HostDelay = network.host_delay / 1000
value network load ServiceTime = network.service_time / 1000
value network load Overhead = network.overhead
value network load Buffer = network.buffer
value network load CardLimit = network.card_limit
value network load Tick = network.tick / 1000
value network load Spread = bit network.is_spread
value network load Loss = network.loss
value network load Repeat = network.repeat
value network load Jitter = network.jitter / 1000
value network load Load = load.load
value network load Exact = bit load.is_exact
value network load Service = load.service
value network load Incast = load.incast
value network load Burst = load.burst
value network load Warm = load.warm
value network load Measure = load.calls
value network load Seed = load.seed
value network load Seeds = load.seeds
value network load Parts = load.parts
value network load Events = load.events

-- each of all amounts has a number within its range
pub record AreWithin (numbers : List ℕ) : Type 0 where
  pub least : (k : ℕ) → k < 24 → slice_index (map least amounts) k ≤ slice_index numbers k
  pub most : (k : ℕ) → k < 24 → slice_index numbers k ≤ slice_index (map most amounts) k

-- the number of an amount
abbrev pub number_of : List ℕ → Amount → ℕ
number_of numbers amount = slice_index numbers (index amount)

-- 1 is yes
abbrev pub is_yes : ℕ → Bool
is_yes n = nat_lt 0 n
