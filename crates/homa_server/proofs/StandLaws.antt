-- The row that stands at a place, and the table after its move.
use Rattle.std.proofs.Common.{◌≡◌, ◌<◌, ℕ, inl, inr, refl, sym, ap, subst, ◌∙◌, Option, Some, None}
use Rattle.std.specs.Option.{option_map, option_and_then, IsSome}
use Rattle.std.proofs.lemmas.Bool.{true≢false}
use Rattle.plain_sets.specs.Maps.{get, remove}
use Rattle.plain_sets.proofs.MapMembers.{same_some}
use Rattle.homa_plain.specs.declared.id.CallId.{CallId}
use Rattle.homa_plain.specs.declared.id.HostId.{HostId}
use Rattle.homa_plain.specs.declared.settings.Settings.{Settings}
use Rattle.homa_plain.specs.Rows.{ServerRow}
use Rattle.msg_pool.specs.Pool.{Pool}
use Rattle.homa_in.specs.Part.{Part}
use Rattle.host_places.specs.Placed.{Placed, StandsAt, ArePlaced, Changed, spot_at, set_at}
use Rattle.host_places.proofs.PlacedLaws.{one_call, spot-stands, set_at-insert, changed-put, changed-none, get-spot, get-insert_here, get-insert_else}
use Rattle.host_places.proofs.PlacedLaws.{get-remove_here, get-remove_else}
use Rattle.homa_in.specs.Pooled.{Moves, AreIn, IsInPool}
use Rattle.homa_in.proofs.MoveLaws.{still}
use Rattle.homa_server.specs.Held.{HeldServer, state_part, seen_state, seen_server}
use Rattle.homa_server.specs.Answers.{acked_of}
use Rattle.homa_plain.specs.Tombstones.{server_acked, state_acked}
use Rattle.homa_plain.specs.Rules.{Moment}
use Rattle.homa_server.specs.Table.{Servers, ServerRows, ServerMoved, server_at, request_at, slot_at}
use Rattle.homa_server.proofs.TableLaws.{server_moved, still_requests}

-- a call's row stands at its place
pub stands-slot : (rows : ServerRows) (id : CallId) (slot : ℕ) → Some slot ≡ slot_at rows id → (r : HeldServer) × StandsAt rows id slot r
stands-slot rows id slot e = at (get rows id) refl e where
  at : (o : Option (Placed HeldServer)) → get rows id ≡ o → Some slot ≡ option_map (λ (x : Placed HeldServer). x.place) o
      → (r : HeldServer) × (get rows id ≡ Some (record { place = slot; row = r }))
  at None is e = cc
  at (Some x) is e = (x.row, is ∙ ap (λ (n : ℕ). Some (record { place = n; row = x.row })) (sym (same_some slot x.place e)))

-- some call's row stands at a place that isn't free
pub some_spot : (rows : ServerRows) (slot : ℕ) → IsSome (spot_at rows slot) → (x : CallId × HeldServer) × StandsAt rows x.0 slot x.1
some_spot rows slot some = at (spot_at rows slot) refl some where
  at : (o : Option (CallId × HeldServer)) → spot_at rows slot ≡ o → IsSome o → (x : CallId × HeldServer) × StandsAt rows x.0 slot x.1
  at None is some = absurd (true≢false (sym some))
  at (Some x) is some = (x, get-spot rows slot x.0 x.1 is)

module _ (rows : ServerRows) (slot : ℕ) (id : CallId) (r : HeldServer) (stands : StandsAt rows id slot r) where
  -- its request stands in the pool
  pub request_is : request_at rows id ≡ state_part r.state
  request_is = ap (option_and_then (λ (x : Placed HeldServer). state_part x.row.state)) stands

  pub server_is : (pool : Pool) → server_at pool rows id ≡ Some (seen_server pool r)
  server_is pool = ap (option_map (λ (x : Placed HeldServer). seen_server pool x.row)) stands

  pub in_pool : (pool : Pool) → AreIn pool (request_at rows) → IsInPool pool (state_part r.state)
  in_pool pool are = subst (IsInPool pool) request_is (are.within id)

-- nothing moved
pub moved_none : (t : Servers) (pool : Pool) (id : CallId) → AreIn pool (request_at t.rows) → ServerMoved id t pool t pool (server_at pool t.rows id)
moved_none t pool id are = server_moved t t.rows pool pool id _ are (still pool (request_at t.rows id) (are.within id)) (changed-none t.rows id) refl

module _ (room : ℕ) (rows : ServerRows) (slot : ℕ) (placed : ArePlaced room rows) where
  pub spot-there : (id : CallId) (r : HeldServer) → StandsAt rows id slot r → IsSome (spot_at rows slot)
  spot-there id r stands = subst IsSome (sym (spot-stands room rows placed id slot r stands)) refl

  -- the row that is lent is that of the call
  pub lent_row : (row : HeldServer) → option_map (λ (x : CallId × HeldServer). x.1) (spot_at rows slot) ≡ Some row → (id : CallId) (r : HeldServer)
      → StandsAt rows id slot r → row ≡ r
  lent_row row lent id r stands =
      same_some row r (sym lent ∙ ap (option_map (λ (x : CallId × HeldServer). x.1)) (spot-stands room rows placed id slot r stands))

  -- what is found at the place is the call and its row
  pub found_spot : (x : CallId × HeldServer) → Some x ≡ spot_at rows slot → (id : CallId) (r : HeldServer) → StandsAt rows id slot r → x ≡ (id, r)
  found_spot x found id r stands = same_some x (id, r) (found ∙ spot-stands room rows placed id slot r stands)

  module _ (host : HostId) (s : Settings) (id : CallId) (r : HeldServer) (stands : StandsAt rows id slot r) where
    -- the row becomes another
    module _ (after : HeldServer) where
      abbrev pub new : ServerRows
      new = set_at rows slot after

      pub new_is : get new id ≡ Some (record { place = slot; row = after })
      new_is = ap (λ (m : ServerRows). get m id) (set_at-insert room rows placed id slot r after stands) ∙ get-insert_here rows id _

      pub slot_new : slot_at new id ≡ Some slot
      slot_new = ap (option_map (λ (x : Placed HeldServer). x.place)) new_is

    module _ (pool pool' : Pool) (after : HeldServer) (are : AreIn pool (request_at rows))
        (moves : Moves pool (state_part r.state) pool' (state_part after.state)) where
      pub server_new : server_at pool' (new after) id ≡ Some (seen_server pool' after)
      server_new = ap (option_map (λ (x : Placed HeldServer). seen_server pool' x.row)) (new_is after)

      changed : Changed id rows (new after)
      changed = subst (Changed id rows) (sym (set_at-insert room rows placed id slot r after stands)) (changed-put rows id slot r after stands)

      moves_at : Moves pool (request_at rows id) pool' (request_at (new after) id)
      moves_at =
          subst (λ (o : Option Part). Moves pool o pool' (request_at (new after) id)) (sym (request_is rows slot id r stands))
          (subst (λ (o : Option Part). Moves pool (state_part r.state) pool' o)
          (sym (ap (option_and_then (λ (x : Placed HeldServer). state_part x.row.state)) (new_is after))) moves)

      pub still_at : AreIn pool' (request_at (new after))
      still_at = still_requests rows (new after) pool pool' id are moves_at changed

      pub moved_at : ServerMoved id (record { host = host; settings = s; rows = rows }) pool (record { host = host; settings = s; rows = new after })
          pool' (Some (seen_server pool' after))
      moved_at = server_moved (record { host = host; settings = s; rows = rows }) (new after) pool pool' id _ are moves_at changed server_new

      -- the client has finished the call
      pub acked_at : (m : Moment) (until : Option ℕ) → state_acked s m id (seen_server pool r) (seen_state pool r.state) ≡ acked_of m id
          (Some (seen_server pool' after)) until
          → server_acked s m id (server_at pool rows id) ≡ acked_of m id (server_at pool' (new after) id) until
      unfolding server_acked
      acked_at m until e =
          ap (server_acked s m id) (server_is rows slot id r stands pool) ∙ e ∙ ap (λ (o : Option ServerRow). acked_of m id o until) (sym server_new)

      -- the same, with the row as it is found
      pub moved_new : ServerMoved id (record { host = host; settings = s; rows = rows }) pool (record { host = host; settings = s; rows = new after })
          pool' (server_at pool' (new after) id)
      moved_new = server_moved (record { host = host; settings = s; rows = rows }) (new after) pool pool' id _ are moves_at changed refl

    -- the row goes
    module _ (rest : ServerRows) (none : get rest id ≡ None) (others : (q : CallId) → (q ≡ id → ⊥) → get rest q ≡ get rows q) (pool pool' : Pool)
        (are : AreIn pool (request_at rows)) (moves : Moves pool (state_part r.state) pool' None) where
      gone_changed : Changed id rows rest
      gone_changed = record { place = λ x y was is. let no : None ≡ Some y = sym none ∙ is in cc; others = others }

      gone_moves : Moves pool (request_at rows id) pool' (request_at rest id)
      gone_moves =
          subst (λ (o : Option Part). Moves pool o pool' (request_at rest id)) (sym (request_is rows slot id r stands))
          (subst (λ (o : Option Part). Moves pool (state_part r.state) pool' o)
          (sym (ap (option_and_then (λ (x : Placed HeldServer). state_part x.row.state)) none)) moves)

      pub still_gone : AreIn pool' (request_at rest)
      still_gone = still_requests rows rest pool pool' id are gone_moves gone_changed

      pub server_gone : server_at pool' rest id ≡ None
      server_gone = ap (option_map (λ (x : Placed HeldServer). seen_server pool' x.row)) none

      pub moved_gone : ServerMoved id (record { host = host; settings = s; rows = rows }) pool (record { host = host; settings = s; rows = rest })
          pool' (server_at pool' rest id)
      moved_gone = server_moved (record { host = host; settings = s; rows = rows }) rest pool pool' id _ are gone_moves gone_changed refl

    -- the row at the place is taken out after it became another
    module _ (after : HeldServer) where
      pub rest_none : get (remove (set_at rows slot after) id) id ≡ None
      rest_none = get-remove_here (set_at rows slot after) id

      pub rest_others : (q : CallId) → (q ≡ id → ⊥) → get (remove (set_at rows slot after) id) q ≡ get rows q
      rest_others q ne =
          get-remove_else (set_at rows slot after) id q ne
          ∙ ap (λ (m : ServerRows). get m q) (set_at-insert room rows placed id slot r after stands) ∙ get-insert_else rows id _ q ne

      pub stands_new : StandsAt (set_at rows slot after) id slot after
      stands_new = new_is after

      -- each row has the place that it had
      had : (q : CallId) (y : Placed HeldServer) → get (set_at rows slot after) q ≡ Some y
          → (z : Placed HeldServer) × ((get rows q ≡ Some z) × (z.place ≡ y.place))
      had q y e = elim (one_call q id) [
        | inl is ↦ (
          record { place = slot; row = r },
          (
            ap (get rows) is ∙ stands,
            ap (λ (x : Placed HeldServer). x.place) (same_some _ y (sym stands_new ∙ ap (get (set_at rows slot after)) (sym is) ∙ e)),
          ),
        )
        | inr ne ↦ (
          y,
          (
            sym
                (ap (λ (m : ServerRows). get m q) (set_at-insert room rows placed id slot r after stands) ∙ get-insert_else rows id _ q ne) ∙ e,
            refl,
          ),
        )
      ]

      placed_new : ArePlaced room (set_at rows slot after)
      placed_new = record {
        within = λ q y e. let z = had q y e in subst (λ (n : ℕ). n < room) z.1.1 (placed.within q z.0 z.1.0);
        apart = λ p q y z e f same. let a = had p y e in let b = had q z f in placed.apart p q a.0 b.0 a.1.0 b.1.0 (a.1.1 ∙ same ∙ sym b.1.1);
      }

      -- a row stands there
      pub spot-set : IsSome (spot_at (set_at rows slot after) slot)
      spot-set = subst IsSome (sym (spot-stands room (set_at rows slot after) placed_new id slot after stands_new)) refl
