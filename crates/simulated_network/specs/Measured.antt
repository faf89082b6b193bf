-- The calls that are measured.
use Rattle.std.specs.Prelude.{ℕ, Bool, List, ◌+◌, ◌&&◌, nat_le, nat_lt, take, drop}
use Rattle.std.specs.List.{prefix_len}
use Rattle.experiment.specs.declared.load.Load.{Load}
use Rattle.call_figures.specs.declared.calls.SimCall.{SimCall}

-- the call with this number of those that were drawn is measured: so many came before, and so many are measured
abbrev pub is_measured : Load → ℕ → Bool
is_measured load n = nat_le load.warm n && nat_lt n (load.warm + load.calls)

-- how many calls from the first on have a lower number of those that were drawn
abbrev pub before : ℕ → List SimCall → ℕ
before n calls = prefix_len (λ c. nat_lt c.drawn n) calls

-- the calls from the first on that isn't before those that are measured, up to the first behind them
abbrev pub measured : Load → List SimCall → List SimCall
measured load calls =
    let rest = drop (before load.warm calls) calls in
    take (before (load.warm + load.calls) rest) rest
