-- Parts and means, rounded down.
use Rattle.std.specs.Prelude.{ℕ, ◌*◌, ◌/◌, ◌^◌, ◌-◌, ◌==◌, min, if◌then◌else◌}

-- a sum over so many; over none it is 0
abbrev pub mean_of : ℕ → ℕ → ℕ
mean_of sum count = if count == 0 then 0 else min (sum / count) (2 ^ 64 - 1)

-- a part of a whole, in 1000ths
abbrev pub part_of : ℕ → ℕ → ℕ
part_of n whole = mean_of (min (n * 1000) (2 ^ 128 - 1)) whole
