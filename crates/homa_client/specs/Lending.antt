-- What a call does to what the host lends.
use Rattle.std.specs.Prelude.{◌≡◌}
use Rattle.homa_client.specs.declared.lent.Lent.{Lent}

-- the references are those that were lent
pub record IsSame (old new : Lent) : Type 0 where
  pub pool : new.pool.ghost_name ≡ old.pool.ghost_name
  pub scratch : new.scratch.ghost_name ≡ old.scratch.ghost_name
