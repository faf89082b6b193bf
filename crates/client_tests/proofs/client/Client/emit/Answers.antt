-- What changes the row at a place and takes no page leaves the parts in their pool.
use Rattle.std.proofs.Common.{◌≡◌, ℕ, Option, Some, None, IsSome, refl}
use Rattle.homa_plain.specs.declared.id.CallId.{CallId}
use Rattle.homa_plain.specs.Rows.{ClientRow}
use Rattle.host_places.specs.Placed.{StandsAt, spot_at}
use Rattle.host_places.proofs.PlacedLaws.{get-spot}
use Rattle.msg_pool.specs.Pool.{Pool}
use Rattle.homa_in.specs.Pooled.{AreIn, IsInPool}
use Rattle.homa_client.specs.Held.{HeldRow}
use Rattle.homa_client.specs.AtTable.{Clients, HeldRows, Moved, part_at}
use Rattle.homa_client.proofs.TableLaws.{in_after, part_stands}
use Rattle.client_tests.proofs.client.Client.emit.Goals as goal

at_spot : (rows : HeldRows) (n : ℕ) → IsSome (spot_at rows n) → (id : CallId) × (r : HeldRow) × StandsAt rows id n r
at_spot rows n some = by_spot (spot_at rows n) refl some where
  by_spot : (o : Option (CallId × HeldRow)) → spot_at rows n ≡ o → IsSome o → (id : CallId) × (r : HeldRow) × StandsAt rows id n r
  by_spot None e some = cc
  by_spot (Some x) e some = (x.0, x.1, get-spot rows n x.0 x.1 e)

pub kept_in : (old new : Clients) (pool : Pool) (slot : ℕ) (row : HeldRow → Option ClientRow) → IsSome (spot_at old.rows slot) → AreIn pool (part_at old.rows)
    → ((id : CallId) (r : HeldRow) → StandsAt old.rows id slot r → IsInPool pool r.part → Moved id old pool new pool (row r)) → AreIn pool (part_at new.rows)
kept_in old new pool slot row some are moves =
    let at = at_spot old.rows slot some in
    let moved = moves at.0 at.1 at.2 (part_stands pool old.rows are at.0 slot at.1 at.2) in
    in_after old.rows new.rows pool pool at.0 moved.changed.others are moved.moves

pub returns : goal.returns
returns c = kept_in c.args.self.now.table c.emit.new.self c.args.self.now.pool c.args.slot _ c.requires.stands c.requires.pool
    (λ id r stands is. c.emit.ensures.row id r c.args.self.now.pool stands is)
