-- Ranks.
use Rattle.std.specs.Prelude.{◌≡◌, ℕ, ◌-◌, ◌^◌, ◌==◌, if◌then◌else◌}
use Rattle.call_figures.specs.declared.ranks.Rank.{Rank}
use Rattle.call_figures.specs.declared.ranks.Rank.TheVariants.{Slower, At}

-- the rank that a value is: the greatest number stands for a call that isn't done
abbrev pub rank_at : ℕ → Rank
rank_at n = if n == 2 ^ 64 - 1 then Slower else At n
