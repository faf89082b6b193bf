-- What contracts see of a fabric.
use Rattle.std.specs.Prelude.{ℕ}
use Rattle.generated_runs.specs.Fabric.{Fabric}

-- what is on its way, and for how many ticks a packet lives
pub record Seen : Type 0 where
  pub fabric : Fabric
  pub life : ℕ
