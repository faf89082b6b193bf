-- The books may follow a client's row that moved, and what they are then.
use Rattle.std.proofs.Common.{◌≡◌, ◌<◌, ℕ, refl, sym, ap, subst, ◌∙◌, Option, Some, None}
use Rattle.std.specs.Option.{option_map, IfSome, IsSome}
use Rattle.plain_sets.specs.Maps.{get}
use Rattle.homa_plain.specs.declared.id.CallId.{CallId}
use Rattle.homa_plain.specs.declared.settings.Settings.{Settings}
use Rattle.homa_plain.specs.Incoming.{Incoming}
use Rattle.homa_plain.specs.Rows.{ClientRow}
use Rattle.step_laws.specs.StepLaws.{HasOwnOrders}
use Rattle.msg_pool.specs.Pool.{Pool}
use Rattle.host_places.specs.Placed.{Placed, StandsAt, spot_at}
use Rattle.host_places.proofs.PlacedLaws.{spot-stands}
use Rattle.homa_in.specs.Pooled.{AreIn}
use Rattle.homa_client.specs.Held.{HeldRow, seen_row}
use Rattle.homa_client.specs.AtTable.{Clients, Moved, part_at, place_at}
use Rattle.homa_client.proofs.TableLaws.{part_stands}
use Rattle.host_books.specs.declared.books.Books.{Books}
use Rattle.host_books.specs.declared.books.Arrival.{Arrival}
use Rattle.host_books.specs.Duties.{AreOwn, HaveRoom}
use Rattle.host_books.specs.Duty.{client_duty, client_duty_in, arrival_duty, followed}
use Rattle.host_laws.specs.Peers.{KnowsServer}
use Rattle.homa_host.specs.Parts.{IsKept}
use Rattle.homa_host.specs.Outcomes.{IfStays, IfChanged, MayStayClient, FollowedClient}
use Rattle.homa_host.specs.declared.parts.HostParts.{HostParts}
use Rattle.homa_host.specs.declared.outcome.Change.{Change}
use Rattle.homa_host.specs.declared.outcome.Change.TheVariants.{Nothing, Stays, Goes}
use Rattle.homa_host.proofs.ClientKept.{at_slot_after, places_after, slot_within, host_after, duty_own}

-- the row of a call stays at the slot, or goes from it
abbrev pub IsChange : Change → ℕ → Option ClientRow → Type 0
IsChange Nothing slot row = ⊥
IsChange (Stays n) slot row = (n ≡ slot) × IsSome row
IsChange (Goes n) slot row = (n ≡ slot) × (row ≡ None)

peer_known : (hosts : ℕ) (part : Option Incoming) → IfSome part (λ p. p.peer.0 < hosts) → IfSome (arrival_duty part) (λ (a : Arrival). a.peer.0 < hosts)
peer_known hosts None k = tt
peer_known hosts (Some p) k = k

module _ (c : HostParts) (kept : IsKept c) (id : CallId) (slot : ℕ) (stood : place_at c.clients.rows id ≡ Some slot) (clients : Clients) (pool : Pool)
    (row : Option ClientRow)
    (moved : Moved id c.clients c.pool clients pool row) (are : AreIn pool (part_at clients.rows)) where
  same_settings : clients.settings ≡ c.control.settings
  same_settings = ap (λ (t : Clients). t.settings) moved.kept ∙ kept.one.client_settings

  -- the row that stays
  pub standing : IsSome row → (r : HeldRow) × StandsAt clients.rows id slot r × (row ≡ Some (seen_row pool r))
  standing is = at (get clients.rows id) refl (subst (λ (o : Option ClientRow). IsSome o) (sym moved.here) is) where
    at : (o : Option (Placed HeldRow)) → get clients.rows id ≡ o → IsSome (option_map (λ (x : Placed HeldRow). seen_row pool x.row) o)
        → (r : HeldRow) × StandsAt clients.rows id slot r × (row ≡ Some (seen_row pool r))
    at None e h = cc
    at (Some x) e h =
        let here : x.place ≡ slot = at_slot_after c kept id slot stood clients pool row moved x e in (
          x.row,
          e ∙ ap (λ (n : ℕ). Some (record { place = n; row = x.row })) here,
          sym moved.here ∙ ap (option_map (λ (x : Placed HeldRow). seen_row pool x.row)) e,
        )

  pub follow_room : HaveRoom clients.settings c.books
  follow_room = subst (λ (s : Settings). HaveRoom s c.books) (sym same_settings) kept.room

  pub follow_within : (change : Change) → IsChange change slot row → IfChanged change (λ n. n < clients.settings.calls)
  follow_within Nothing is = tt
  follow_within (Stays n) is =
      subst (λ (s : Settings). n < s.calls) (sym same_settings)
      (subst (λ (k : ℕ). k < c.control.settings.calls) (sym is.0) (slot_within c kept id slot stood clients pool row moved))
  follow_within (Goes n) is =
      subst (λ (s : Settings). n < s.calls) (sym same_settings)
      (subst (λ (k : ℕ). k < c.control.settings.calls) (sym is.0) (slot_within c kept id slot stood clients pool row moved))

  pub follow_stands : (change : Change) → IsChange change slot row → IfStays change (λ n. IsSome (spot_at clients.rows n))
  follow_stands Nothing is = tt
  follow_stands (Stays n) is =
      let r = standing is.1 in
      let spot = spot-stands c.control.settings.calls clients.rows (places_after c kept id slot stood clients pool row moved) id slot r.0 r.1 in
      subst (λ (k : ℕ). IsSome (spot_at clients.rows k)) (sym is.0) (subst (λ (o : Option (CallId × HeldRow)). IsSome o) (sym spot) refl)
  follow_stands (Goes n) is = tt

  module _ (order : ℕ) (own : HasOwnOrders (host_after c kept id slot stood clients pool row moved order))
      (known : IfSome row (KnowsServer c.control.settings.hosts)) where
    pub follow_may : (change : Change) → IsChange change slot row → IfStays change (MayStayClient clients c.books)
    follow_may Nothing is = tt
    follow_may (Stays n) is =
        let r = standing is.1 in
        let k = subst (λ (o : Option ClientRow). IfSome o (KnowsServer c.control.settings.hosts)) r.2 known in
        let duty = subst (λ (o : Option ClientRow). AreOwn c.books slot (client_duty_in c.control.settings o)) r.2
        (duty_own c kept id slot stood clients pool row moved order own) in
        subst (MayStayClient clients c.books) (sym is.0) (record {
          id = id;
          row = r.0;
          pool = pool;
          stands = r.1;
          inside = part_stands pool clients.rows are id slot r.0 r.1;
          peer = subst (λ (s : Settings). IfSome (client_duty s (seen_row pool r.0)).arrival (λ (a : Arrival). a.peer.0 < s.hosts))
              (sym same_settings) (peer_known c.control.settings.hosts (seen_row pool r.0).part k.sender);
          own = subst (λ (s : Settings). AreOwn c.books slot (client_duty s (seen_row pool r.0))) (sym same_settings) duty;
        })
    follow_may (Goes n) is = tt

  -- the books afterwards
  pub follow_books : (change : Change) (books : Books) → IsChange change slot row → FollowedClient clients change c.books books
      → books ≡ followed slot (client_duty_in c.control.settings row) c.books
  follow_books Nothing books is f = absurd is
  follow_books (Stays n) books is f =
      let r = standing is.1 in
      let at : StandsAt clients.rows id n r.0 = subst (λ (k : ℕ). StandsAt clients.rows id k r.0) (sym is.0) r.1 in
      f id r.0 pool at (part_stands pool clients.rows are id slot r.0 r.1)
      ∙ ap (λ (k : ℕ). followed k (client_duty clients.settings (seen_row pool r.0)) c.books) is.0
      ∙ ap (λ (s : Settings). followed slot (client_duty s (seen_row pool r.0)) c.books) same_settings
      ∙ ap (λ (o : Option ClientRow). followed slot (client_duty_in c.control.settings o) c.books) (sym r.2)
  follow_books (Goes n) books is f =
      f ∙ ap (λ (k : ℕ). followed k (client_duty_in c.control.settings None) c.books) is.0
      ∙ ap (λ (o : Option ClientRow). followed slot (client_duty_in c.control.settings o) c.books) (sym is.1)
