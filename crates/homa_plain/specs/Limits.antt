-- The limits that several definitions name. `limits.rt` has the code's own.
use Rattle.std.specs.Prelude.{ℕ}

-- the longest message, in bytes; no window, no cutoff and no rate is greater
abbrev pub longest_message : ℕ
longest_message = 1000000

-- the last tick of a host's own clock: a world's last tick, and twice the most by which a clock may be off
abbrev pub last_host_tick : ℕ
last_host_tick = 1000000002000

-- the longest that a service may hold a response back, in ticks
abbrev pub longest_hold : ℕ
longest_hold = 1000000

-- the most services of a world
abbrev pub most_services : ℕ
most_services = 1000000

-- the most bytes of an input
abbrev pub longest_input : ℕ
longest_input = 68719476736
