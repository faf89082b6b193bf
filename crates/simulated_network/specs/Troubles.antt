-- What shouldn't happen, in numbers.
use Rattle.std.specs.Prelude.{ℕ, ◌+◌, ◌-◌, ◌^◌, min}
use Rattle.simulated_network.specs.declared.trouble.Trouble.{Trouble}

-- nothing of it happened
abbrev pub no_trouble : Trouble
no_trouble = record { left_out = 0; dropped = 0; refused = 0; held = 0 }

-- one call more wasn't made; no more than 2^64 - 1 are counted
abbrev pub one_left_out : Trouble → Trouble
one_left_out t = record t { left_out = min (t.left_out + 1) (2 ^ 64 - 1) }
