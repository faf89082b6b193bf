-- A call that has a row.
use Rattle.std.proofs.Common.{◌≡◌, ℕ, sym, subst, Option, Some}
use Rattle.std.specs.Option.{option_map, IsSome}
use Rattle.homa_plain.specs.declared.id.CallId.{CallId}
use Rattle.msg_pool.specs.Pool.{Pool}
use Rattle.homa_in.specs.Part.{Part}
use Rattle.host_places.specs.Placed.{StandsAt, ArePlaced, spot_at}
use Rattle.homa_in.specs.Pooled.{Moves, AreIn}
use Rattle.homa_in.proofs.MoveLaws.{still}
use Rattle.homa_server.specs.Held.{HeldServer, state_part}
use Rattle.homa_server.specs.Table.{ServerRows, request_at, slot_at}
use Rattle.homa_server.proofs.StandLaws.{stands-slot, spot-there, lent_row, in_pool}

module _ (room : ℕ) (rows : ServerRows) (id : CallId) (slot : ℕ) (placed : ArePlaced room rows) (here : Some slot ≡ slot_at rows id) where
  pub known_there : IsSome (spot_at rows slot)
  known_there = let row = stands-slot rows id slot here in spot-there room rows slot placed id row.0 row.1

  module _ (row : HeldServer) (lent : option_map (λ (x : CallId × HeldServer). x.1) (spot_at rows slot) ≡ Some row) where
    -- the row that is lent is the call's
    pub known_stands : StandsAt rows id slot row
    known_stands =
        let found = stands-slot rows id slot here in
        subst (λ (r : HeldServer). StandsAt rows id slot r) (sym (lent_row room rows slot placed row lent id found.0 found.1)) found.1

    -- a row whose part stays
    pub known_still : (after : HeldServer) (pool : Pool) → state_part after.state ≡ state_part row.state → AreIn pool (request_at rows)
        → Moves pool (state_part row.state) pool (state_part after.state)
    known_still after pool same are = subst (λ (o : Option Part). Moves pool (state_part row.state) pool o) (sym same)
        (still pool (state_part row.state) (in_pool rows slot id row known_stands pool are))
