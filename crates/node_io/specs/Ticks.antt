-- What the clocks hold.
use Rattle.std.specs.Prelude.{ℕ, Option, Some, List, drop}
use Rattle.node_io.specs.declared.clock.MemClock.{MemClock}

-- the ticks that a clock in memory is still to give
abbrev pub clock_ticks : MemClock → Option (List ℕ)
clock_ticks clock = Some (drop clock.at clock.ticks.items)

-- the tick that it gave last, which is 0 at first
abbrev pub clock_last : MemClock → ℕ
clock_last clock = clock.last
