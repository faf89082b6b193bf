-- The plain rows of a table after one row's move.
use Rattle.std.proofs.Common.{◌≡◌, ◌≤◌, ℕ, ◌⊎◌, inl, inr, refl, sym, ap, subst, ◌∙◌, Option, Some, None}
use Rattle.std.specs.Option.{option_map, option_and_then, IsSomeAnd}
use Rattle.plain_sets.specs.Maps.{empty, get}
use Rattle.plain_sets.proofs.MapLaws.{same_map}
use Rattle.homa_plain.specs.declared.id.CallId.{CallId}
use Rattle.homa_plain.specs.Calls.{call_cmp}
use Rattle.homa_plain.specs.Rows.{ServerRow, set_row}
use Rattle.homa_plain.proofs.CallOrder.{call_total, call_same}
use Rattle.msg_pool.specs.Pool.{Pool}
use Rattle.homa_in.specs.Part.{Part}
use Rattle.host_places.specs.Placed.{Placed, Changed}
use Rattle.host_places.proofs.MappedLaws.{get-mapped}
use Rattle.host_places.proofs.PlacedLaws.{one_call, get-insert_here, get-insert_else, get-remove_here, get-remove_else}
use Rattle.homa_in.specs.Pooled.{Moves, AreIn, IsInPool, HasNumber, seen_part}
use Rattle.homa_in.proofs.MoveLaws.{still_in, seen_others}
use Rattle.homa_server.specs.Held.{HeldServer, HeldState, Arriving, Keeping, Answering, Gone, state_part, seen_state, seen_server}
use Rattle.homa_server.specs.Answers.{IsGrantable}
use Rattle.homa_server.specs.Table.{Servers, ServerRows, ServerMoved, seen_servers, server_at, request_at}

-- a row whose part is seen as before is seen as before
same_state : (pool pool' : Pool) (state : HeldState) → seen_part pool' (state_part state) ≡ seen_part pool (state_part state)
    → seen_state pool' state ≡ seen_state pool state
same_state pool pool' (Arriving service part base count) e = cc
same_state pool pool' (Keeping response release) e = refl
same_state pool pool' (Answering response out order base count) e = refl
same_state pool pool' (Gone until) e = refl

abbrev part_in : Option (Placed HeldServer) → Option Part
part_in o = option_and_then (λ (x : Placed HeldServer). state_part x.row.state) o

abbrev row_in : Pool → Option (Placed HeldServer) → Option ServerRow
row_in pool o = option_map (λ (x : Placed HeldServer). seen_server pool x.row) o

same_row : (pool pool' : Pool) (o : Option (Placed HeldServer)) → seen_part pool' (part_in o) ≡ seen_part pool (part_in o) → row_in pool' o ≡ row_in pool o
same_row pool pool' None e = refl
same_row pool pool' (Some x) e = ap (λ state. Some (record { order = x.row.order; state = state })) (same_state pool pool' x.row.state e)

module _ (old new : ServerRows) (pool pool' : Pool) (id : CallId) (are : AreIn pool (request_at old))
    (moves : Moves pool (request_at old id) pool' (request_at new id)) (changed : Changed id old new) where
  others : (q : CallId) → (q ≡ id → ⊥) → request_at new q ≡ request_at old q
  others q ne = ap part_in (changed.others q ne)

  -- the requests still stand in the pool, under different leases
  pub still_requests : AreIn pool' (request_at new)
  still_requests = still_in one_call pool pool' (request_at old) (request_at new) id others moves are

  -- the row of another call stays
  row_stays : (q : CallId) → (q ≡ id → ⊥) → server_at pool' new q ≡ server_at pool old q
  row_stays q ne =
      ap (row_in pool') (changed.others q ne)
      ∙ same_row pool pool' (get old q)
      (ap (seen_part pool') (sym (others q ne)) ∙ seen_others one_call pool pool' (request_at old) (request_at new) id others moves are q ne)

  seen_at : (pool : Pool) (rows : ServerRows) (q : CallId) → get (seen_servers pool rows) q ≡ server_at pool rows q
  seen_at pool rows q = get-mapped (λ (x : Placed HeldServer). seen_server pool x.row) rows q

  -- the plain rows changed at the call alone
  pub rows_set : (row : Option ServerRow) → server_at pool' new id ≡ row → seen_servers pool' new ≡ set_row (seen_servers pool old) id row
  rows_set row here = same_map call_total call_same _ _ (λ q. at row here q (one_call q id)) where
    at : (row : Option ServerRow) → server_at pool' new id ≡ row → (q : CallId) → ((q ≡ id) ⊎ (q ≡ id → ⊥))
        → get (seen_servers pool' new) q ≡ get (set_row (seen_servers pool old) id row) q
    at (Some r) here q (inl is) = subst (λ (x : CallId). get (seen_servers pool' new) x ≡ get (set_row (seen_servers pool old) id (Some r)) x) (sym is)
        (seen_at pool' new id ∙ here ∙ sym (get-insert_here (seen_servers pool old) id r))
    at None here q (inl is) = subst (λ (x : CallId). get (seen_servers pool' new) x ≡ get (set_row (seen_servers pool old) id None) x) (sym is)
        (seen_at pool' new id ∙ here ∙ sym (get-remove_here (seen_servers pool old) id))
    at (Some r) here q (inr ne) = seen_at pool' new q ∙ row_stays q ne ∙ sym (seen_at pool old q) ∙ sym (get-insert_else (seen_servers pool old) id r q ne)
    at None here q (inr ne) = seen_at pool' new q ∙ row_stays q ne ∙ sym (seen_at pool old q) ∙ sym (get-remove_else (seen_servers pool old) id q ne)

-- one call's row moved
pub server_moved : (t : Servers) (new : ServerRows) (pool pool' : Pool) (id : CallId) (row : Option ServerRow) → AreIn pool (request_at t.rows)
    → Moves pool (request_at t.rows id) pool' (request_at new id)
    → Changed id t.rows new → server_at pool' new id ≡ row → ServerMoved id t pool (record t { rows = new }) pool' row
server_moved t new pool pool' id row are moves changed here = record {
  here = here;
  rows = rows_set t.rows new pool pool' id are moves changed row here;
  changed = changed;
  moves = moves;
  kept = refl;
}

-- no request stands in a table without calls
none_stands : (q : CallId) → get {X = Placed HeldServer} (empty {R = call_cmp}) q ≡ None
unfolding get empty
none_stands q = refl

pub requests-empty : (pool : Pool) → AreIn pool (request_at empty)
requests-empty pool = record {
  within = λ q. subst (λ (o : Option (Placed HeldServer)). IsInPool pool (part_in o)) (sym (none_stands q)) tt;
  apart = λ p q n h k. absurd (subst (λ (o : Option (Placed HeldServer)). HasNumber n (part_in o)) (none_stands p) h);
}

-- the part of a request that arrives may be granted up to its length
pub grantable_of : (state : HeldState) (part : Part) (offset : ℕ) → Some part ≡ state_part state → part.granted ≤ offset → offset ≤ part.length
    → IsGrantable state offset
grantable_of (Arriving service held base count) part offset e low high =
    (subst (λ (o : Option Part). IsSomeAnd o (λ p. p.granted ≤ offset)) e low, subst (λ (o : Option Part). IsSomeAnd o (λ p. offset ≤ p.length)) e high)
grantable_of (Keeping response release) part offset e low high = cc
grantable_of (Answering response out order base count) part offset e low high = cc
grantable_of (Gone until) part offset e low high = cc
