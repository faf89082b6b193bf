-- When figures may not say what they seem to say.
use Rattle.std.specs.Prelude.{ℕ, ◌+◌, ◌-◌, ◌*◌, ◌/◌, max, nat_lt, Bool, false, ◌||◌}
use Rattle.experiment.specs.declared.trial.Experiment.{Experiment}
use Rattle.experiment.specs.Wires.{wire, cut_for}
use Rattle.call_figures.specs.declared.ranks.Rank.{Rank}
use Rattle.call_figures.specs.declared.ranks.Rank.TheVariants.{At}

-- how many bytes of payload a link carries in a tick, in full frames
abbrev pub carried : Experiment → ℕ
carried e = e.network.tick / e.network.byte * e.settings.seg / max (wire (cut_for e.settings e.network.overhead) e.settings.seg) 1

-- two numbers are further apart than this
abbrev pub are_far : ℕ → ℕ → ℕ → Bool
are_far a b off = nat_lt off (a - b) || nat_lt off (b - a)

-- two means with their intervals are told, and are further apart than both intervals reach
abbrev pub are_apart : (mean off mean' off' : Rank) → Bool
are_apart (At a) (At p) (At b) (At q) = are_far a b (p + q)
are_apart a p b q = false
