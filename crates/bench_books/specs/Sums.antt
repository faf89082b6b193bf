-- The sum of the answers.
use Rattle.std.specs.Prelude.{ℕ, ◌+◌, ◌*◌, ◌%◌}

-- the sum with one more answer
abbrev pub with_answer : ℕ → ℕ → ℕ
with_answer sum slot = (31 * sum + slot + 1) % 65536
