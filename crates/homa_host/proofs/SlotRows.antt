-- The rows of a host at their slots.
use Rattle.std.proofs.Common.{◌≡◌, ◌<◌, ◌≤◌, ◌+◌, ◌-◌, ℕ, Option, Some, None, IsSome, [], refl, sym, ap, subst, ◌∙◌, arith}
use Rattle.std.specs.List.{Contains}
use Rattle.std.specs.Option.{option_map, unwrap_or, MatchOption}
use Rattle.plain_sets.specs.Maps.{get}
use Rattle.plain_sets.specs.Ordered.{ordered, first_of, IsLeast}
use Rattle.plain_sets.proofs.OrderSame.{all_at, none_in}
use Rattle.plain_sets.proofs.OrderFirst.{first-ordered}
use Rattle.plain_sets.proofs.MapMembers.{same_some}
use Rattle.homa_plain.specs.declared.id.CallId.{CallId}
use Rattle.homa_plain.specs.Rows.{ClientRow, ServerRow, RowsOf}
use Rattle.homa_plain.specs.Timers.{Place, OfClient, OfServer}
use Rattle.homa_plain.specs.Sending.{Arriving as Arrives, arrivals, arriving_at_client, arriving_at_server}
use Rattle.homa_plain.specs.SentNext.{Leaving}
use Rattle.host_places.specs.Mapped.{mapped}
use Rattle.host_places.specs.Placed.{Placed, StandsAt, spot_at}
use Rattle.host_places.proofs.MappedLaws.{get-mapped}
use Rattle.host_places.proofs.PlacedLaws.{spot-stands}
use Rattle.homa_in.specs.Pooled.{seen_part}
use Rattle.homa_in.specs.Part.{Part}
use Rattle.homa_client.specs.Held.{HeldRow, seen_row}
use Rattle.homa_server.specs.Held.{HeldServer, HeldState, Arriving, Keeping, Answering, Gone, seen_server, seen_state, state_part}
use Rattle.step_laws.specs.StepLaws.{client_order, reply_order}
use Rattle.homa_pacer.specs.Pace as pace
use Rattle.host_view.specs.Seen.{slot_of}
use Rattle.host_view.specs.Follow.{HasSlots, has_row, client_arrival, server_arrival}
use Rattle.host_books.proofs.Splits.{all_of}
use Rattle.host_books.proofs.Slots.{row_of_number, numbers, IsNumbered}
use Rattle.host_books.proofs.Tables.{made_of, has_places}
use Rattle.host_books.proofs.Things.{thing_at}
use Rattle.host_books.proofs.BookThings.{waiting_things, arrival_things}
use Rattle.homa_host.specs.declared.parts.HostParts.{HostParts}
use Rattle.homa_host.specs.Parts.{host_of, seen_of, IsKept}

-- a row of a table at the place that a host sees
module _ {R S : Type 0} (f : Placed R → S) (rows : RowsOf (Placed R)) (id : CallId) where
  held_row : (s : S) (n : ℕ) → get (mapped f rows) id ≡ Some s → unwrap_or (get (mapped (λ (x : Placed R). x.place) rows) id) 0 ≡ n
      → (r : R) × StandsAt rows id n r × (f (record { place = n; row = r }) ≡ s)
  held_row s n e at =
      let x = made_of f (get rows id) s (sym (get-mapped f rows id) ∙ e) in
      let place : x.0.place ≡ n =
      sym (ap (λ (o : Option ℕ). unwrap_or o 0) (get-mapped (λ (y : Placed R). y.place) rows id ∙ ap (option_map (λ (y : Placed R). y.place)) x.1)) ∙ at in
      (x.0.row, x.1 ∙ (λ i. Some (record { place = place i; row = x.0.row })), ap f (λ i. record { place = sym place i; row = x.0.row }) ∙ x.2)

  seen_held : (r : R) (n : ℕ) → StandsAt rows id n r → get (mapped f rows) id ≡ Some (f (record { place = n; row = r }))
  seen_held r n e = get-mapped f rows id ∙ ap (option_map f) e

  place_held : (r : R) (n : ℕ) → StandsAt rows id n r → unwrap_or (get (mapped (λ (x : Placed R). x.place) rows) id) 0 ≡ n
  place_held r n e = ap (λ (o : Option ℕ). unwrap_or o 0) (get-mapped (λ (y : Placed R). y.place) rows id ∙ ap (option_map (λ (y : Placed R). y.place)) e)

module _ (c : HostParts) where
  -- a client's row that stands at a place has that slot, and the other way round
  pub client_standing : (id : CallId) (n : ℕ) (r : HeldRow) → StandsAt c.clients.rows id n r
      → has_row (seen_of c) (OfClient id) × (slot_of (seen_of c) (OfClient id) ≡ n)
  client_standing id n r e = (
    (seen_row c.pool r, seen_held (λ (x : Placed HeldRow). seen_row c.pool x.row) c.clients.rows id r n e),
    place_held (λ (x : Placed HeldRow). seen_row c.pool x.row) c.clients.rows id r n e,
  )

  pub client_row : (id : CallId) (n : ℕ) (r : HeldRow) → StandsAt c.clients.rows id n r → get (host_of c).clients id ≡ Some (seen_row c.pool r)
  client_row id n r e = seen_held (λ (x : Placed HeldRow). seen_row c.pool x.row) c.clients.rows id r n e

  pub client_held : (id : CallId) (n : ℕ) (s : ClientRow) → get (host_of c).clients id ≡ Some s → slot_of (seen_of c) (OfClient id) ≡ n
      → (r : HeldRow) × StandsAt c.clients.rows id n r × (seen_row c.pool r ≡ s)
  client_held id n s e at = held_row (λ (x : Placed HeldRow). seen_row c.pool x.row) c.clients.rows id s n e at

  -- so has a server's
  pub server_standing : (id : CallId) (n : ℕ) (r : HeldServer) → StandsAt c.servers.rows id n r
      → has_row (seen_of c) (OfServer id) × (slot_of (seen_of c) (OfServer id) ≡ c.control.settings.calls + n)
  server_standing id n r e = (
    (seen_server c.pool r, seen_held (λ (x : Placed HeldServer). seen_server c.pool x.row) c.servers.rows id r n e),
    ap (λ k. c.control.settings.calls + k) (place_held (λ (x : Placed HeldServer). seen_server c.pool x.row) c.servers.rows id r n e),
  )

  pub server_row : (id : CallId) (n : ℕ) (r : HeldServer) → StandsAt c.servers.rows id n r → get (host_of c).servers id ≡ Some (seen_server c.pool r)
  server_row id n r e = seen_held (λ (x : Placed HeldServer). seen_server c.pool x.row) c.servers.rows id r n e

  pub server_held : (id : CallId) (n : ℕ) (s : ServerRow) → get (host_of c).servers id ≡ Some s
      → slot_of (seen_of c) (OfServer id) ≡ c.control.settings.calls + n
      → (r : HeldServer) × StandsAt c.servers.rows id n r × (seen_server c.pool r ≡ s)
  server_held id n s e at = held_row (λ (x : Placed HeldServer). seen_server c.pool x.row) c.servers.rows id s n e (omega arith)

  module _ (kept : IsKept c) where
    pub kept_slots : HasSlots (seen_of c)
    kept_slots = record {
      clients = has_places (λ (x : Placed HeldRow). seen_row c.pool x.row) c.control.settings.calls c.clients.rows kept.client_places;
      servers = has_places (λ (x : Placed HeldServer). seen_server c.pool x.row) c.control.settings.served c.servers.rows kept.server_places;
    }

    pub client_spot : (id : CallId) (n : ℕ) (r : HeldRow) → StandsAt c.clients.rows id n r → IsSome (spot_at c.clients.rows n)
    client_spot id n r e = rw (spot-stands c.control.settings.calls c.clients.rows kept.client_places id n r e) refl

    pub server_spot : (id : CallId) (n : ℕ) (r : HeldServer) → StandsAt c.servers.rows id n r → IsSome (spot_at c.servers.rows n)
    server_spot id n r e = rw (spot-stands c.control.settings.served c.servers.rows kept.server_places id n r e) refl

    -- the slot of a client's row is below the number of calls
    client_below : (id : CallId) (n : ℕ) (r : HeldRow) → StandsAt c.clients.rows id n r → n < c.control.settings.calls
    client_below id n r e = kept.client_places.within id (record { place = n; row = r }) e

    -- the first of the pacer is a message of a row with its slot
    first_waits : (n : ℕ) → option_map (λ (r : pace.Ready). r.slot) (first_of (ordered pace.ready_key c.books.pacer.ready)) ≡ Some n
        → (l : Leaving) × has_row (seen_of c) l.place × (slot_of (seen_of c) l.place ≡ n)
    first_waits n e = by_first (first_of (ordered pace.ready_key c.books.pacer.ready)) (first-ordered pace.ready_key c.books.pacer.ready) e where
      by_first : (o : Option pace.Ready) → MatchOption o (c.books.pacer.ready ≡ []) (IsLeast pace.ready_key c.books.pacer.ready)
          → option_map (λ (r : pace.Ready). r.slot) o ≡ Some n
          → (l : Leaving) × has_row (seen_of c) l.place × (slot_of (seen_of c) l.place ≡ n)
      by_first None least none = absurd (nothing none) where
        nothing : None ≡ Some n → ⊥
        nothing e = cc
      by_first (Some r) least e =
          let l = kept.booked.ready.only r least.0 in
          let number = all_at (IsNumbered waiting_things (host_of c)) (all_of waiting_things (host_of c)) l.0 (numbers waiting_things (host_of c)) l.1 in
          (l.0, row_of_number client_order reply_order (seen_of c) l.0.place l.0.order number, ap (λ (x : pace.Ready). x.slot) (sym l.2) ∙ same_some r.slot n e)

    -- what is picked has a row at its slot
    pub picked_client : (n : ℕ) → option_map (λ (r : pace.Ready). r.slot) (first_of (ordered pace.ready_key c.books.pacer.ready)) ≡ Some n
        → n < c.control.settings.calls → IsSome (spot_at c.clients.rows n)
    picked_client n e below =
        by_place (first_waits n e).0.place (first_waits n e).1 (first_waits n e).2 where
          by_place : (p : Place) → has_row (seen_of c) p → slot_of (seen_of c) p ≡ n → IsSome (spot_at c.clients.rows n)
          by_place (OfClient id) row at = let h = client_held id n row.0 row.1 at in client_spot id n h.0 h.1
          by_place (OfServer id) row at = absurd (omega arith)

    pub picked_server : (n : ℕ) → option_map (λ (r : pace.Ready). r.slot) (first_of (ordered pace.ready_key c.books.pacer.ready)) ≡ Some n
        → c.control.settings.calls ≤ n → IsSome (spot_at c.servers.rows (n - c.control.settings.calls))
    picked_server n e above =
        by_place (first_waits n e).0.place (first_waits n e).1 (first_waits n e).2 where
          by_place : (p : Place) → has_row (seen_of c) p → slot_of (seen_of c) p ≡ n → IsSome (spot_at c.servers.rows (n - c.control.settings.calls))
          by_place (OfClient id) row at = let h = client_held id n row.0 row.1 at in let l = client_below id n h.0 h.1 in absurd (omega arith)
          by_place (OfServer id) row at =
              let h = server_held id (n - c.control.settings.calls) row.0 row.1 (omega arith) in server_spot id (n - c.control.settings.calls) h.0 h.1

    -- a message that arrives is that of the row at its slot
    pub arriving_client : (a : Arrives) (id : CallId) (n : ℕ) → Contains (arrivals (host_of c)) a → a.place ≡ OfClient id → slot_of (seen_of c) a.place ≡ n
        → (r : HeldRow) × StandsAt c.clients.rows id n r × IsSome r.part
    arriving_client a id n arrives place at = by_row (get (host_of c).clients id) refl where
      there : Contains (client_arrival id (get (host_of c).clients id)) a
      there = thing_at arrival_things (host_of c) (OfClient id) a arrives place

      by_part : (r : HeldRow) → Contains (arriving_at_client id (seen_row c.pool r).part) a → IsSome r.part
      by_part r has = part_there r.part has where
        part_there : (o : Option Part) → Contains (arriving_at_client id (seen_part c.pool o)) a → IsSome o
        part_there None has = absurd (none_in a has)
        part_there (Some part) has = refl

      by_row : (o : Option ClientRow) → get (host_of c).clients id ≡ o → (r : HeldRow) × StandsAt c.clients.rows id n r × IsSome r.part
      by_row None e = absurd (none_in a (subst (λ (o : Option ClientRow). Contains (client_arrival id o) a) e there))
      by_row (Some s) e =
          let h = client_held id n s e (ap (slot_of (seen_of c)) (sym place) ∙ at) in
          (h.0, h.1, by_part h.0 (subst (λ (o : Option ClientRow). Contains (client_arrival id o) a) (e ∙ ap Some (sym h.2)) there))

    pub arriving_server : (a : Arrives) (id : CallId) (n : ℕ) → Contains (arrivals (host_of c)) a → a.place ≡ OfServer id
        → slot_of (seen_of c) a.place ≡ c.control.settings.calls + n
        → (r : HeldServer) × StandsAt c.servers.rows id n r × IsSome (state_part r.state)
    arriving_server a id n arrives place at = by_row (get (host_of c).servers id) refl where
      there : Contains (server_arrival id (get (host_of c).servers id)) a
      there = thing_at arrival_things (host_of c) (OfServer id) a arrives place

      by_row : (o : Option ServerRow) → get (host_of c).servers id ≡ o → (r : HeldServer) × StandsAt c.servers.rows id n r × IsSome (state_part r.state)
      by_row None e = absurd (none_in a (subst (λ (o : Option ServerRow). Contains (server_arrival id o) a) e there))
      by_row (Some s) e =
          let h = server_held id n s e (ap (slot_of (seen_of c)) (sym place) ∙ at) in
          (h.0, h.1, by_state h.0.state (subst (λ (o : Option ServerRow). Contains (server_arrival id o) a) (e ∙ ap Some (sym h.2)) there)) where
            by_state : (st : HeldState) → Contains (arriving_at_server id (seen_state c.pool st)) a → IsSome (state_part st)
            by_state (Arriving service part base count) has = refl
            by_state (Keeping response release) has = absurd (none_in a has)
            by_state (Answering response out order base count) has = absurd (none_in a has)
            by_state (Gone until) has = absurd (none_in a has)

    -- the place of a message that is granted to, by its slot
    pub arrives_at_client : (a : Arrives) (n : ℕ) → Contains (arrivals (host_of c)) a → slot_of (seen_of c) a.place ≡ n → n < c.control.settings.calls
        → (id : CallId) × (a.place ≡ OfClient id)
    arrives_at_client a n arrives at below = by_place a.place refl where
      by_place : (p : Place) → a.place ≡ p → (id : CallId) × (a.place ≡ OfClient id)
      by_place (OfClient id) e = (id, e)
      by_place (OfServer id) e = let slot : slot_of (seen_of c) (OfServer id) ≡ n = ap (slot_of (seen_of c)) (sym e) ∙ at in absurd (omega arith)

    pub arrives_at_server : (a : Arrives) (n : ℕ) → Contains (arrivals (host_of c)) a → slot_of (seen_of c) a.place ≡ n → c.control.settings.calls ≤ n
        → (id : CallId) × (a.place ≡ OfServer id)
    arrives_at_server a n arrives at above = by_place a.place refl where
      by_place : (p : Place) → a.place ≡ p → (id : CallId) × (a.place ≡ OfServer id)
      by_place (OfServer id) e = (id, e)
      by_place (OfClient id) e = let r = arriving_client a id n arrives e at in let l = client_below id n r.0 r.1 in absurd (omega arith)
