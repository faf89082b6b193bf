-- The books may follow a server's row that moved, and what they are then.
use Rattle.std.proofs.Common.{◌≡◌, ◌<◌, ◌+◌, ℕ, refl, sym, ap, subst, ◌∙◌, Option, Some, None}
use Rattle.std.specs.Option.{option_map, IfSome, IsSome}
use Rattle.plain_sets.specs.Maps.{get}
use Rattle.homa_plain.specs.declared.id.CallId.{CallId}
use Rattle.homa_plain.specs.declared.settings.Settings.{Settings}
use Rattle.homa_plain.specs.Rows.{ServerRow, State, Receiving, Held, Replying, Buried}
use Rattle.homa_plain.specs.Timers.{OfServer}
use Rattle.step_laws.specs.StepLaws.{HasOwnOrders}
use Rattle.msg_pool.specs.Pool.{Pool}
use Rattle.host_places.specs.Placed.{Placed, StandsAt, ArePlaced, spot_at}
use Rattle.host_places.proofs.PlacedLaws.{spot-stands}
use Rattle.homa_in.specs.Pooled.{AreIn}
use Rattle.homa_server.specs.Held.{HeldServer, seen_server}
use Rattle.homa_server.specs.Table.{Servers, ServerMoved, request_at}
use Rattle.host_books.specs.declared.books.Books.{Books}
use Rattle.host_books.specs.declared.books.Arrival.{Arrival}
use Rattle.host_books.specs.Duties.{AreOwn, HaveRoom}
use Rattle.host_books.specs.Duty.{server_duty, server_duty_in, arrival_duty, arriving, followed}
use Rattle.host_books.specs.Stood.{Stood}
use Rattle.host_laws.specs.Peers.{KnowsClient, KnowsSender}
use Rattle.homa_host.specs.Parts.{seen_of, IsKept}
use Rattle.homa_host.specs.Outcomes.{IfStays, IfChanged}
use Rattle.homa_host.specs.ServerFollow.{MayStayServer, FollowedServer}
use Rattle.homa_host.specs.declared.parts.HostParts.{HostParts}
use Rattle.homa_host.specs.declared.outcome.Change.{Change}
use Rattle.homa_host.specs.declared.outcome.Change.TheVariants.{Nothing, Stays, Goes}
use Rattle.homa_host.proofs.ServerKept.{requests_in, host_after, seen_after, duty_own}

-- the row of a call stays at the slot, or goes from it
abbrev pub IsServerChange : Change → ℕ → Option ServerRow → Type 0
IsServerChange Nothing slot row = ⊥
IsServerChange (Stays n) slot row = (n ≡ slot) × IsSome row
IsServerChange (Goes n) slot row = (n ≡ slot) × (row ≡ None)

sender_known : (hosts : ℕ) (state : State) → KnowsSender hosts state → IfSome (arrival_duty (arriving state)) (λ (a : Arrival). a.peer.0 < hosts)
sender_known hosts (Receiving service part base count) k = k
sender_known hosts (Held response release) k = tt
sender_known hosts (Replying response out order base count) k = tt
sender_known hosts (Buried until) k = tt

module _ (c : HostParts) (kept : IsKept c) (id : CallId) (slot : ℕ) (servers : Servers) (pool : Pool) (row : Option ServerRow)
    (moved : ServerMoved id c.servers c.pool servers pool row)
    (at_slot : (x : Placed HeldServer) → get c.servers.rows id ≡ Some x → x.place ≡ slot)
    (at_slot_after : (x : Placed HeldServer) → get servers.rows id ≡ Some x → x.place ≡ slot)
    (placed : ArePlaced c.control.settings.served servers.rows) where
  pub same_settings : servers.settings ≡ c.control.settings
  same_settings = ap (λ (t : Servers). t.settings) moved.kept ∙ kept.one.server_settings

  are : AreIn pool (request_at servers.rows)
  are = requests_in c kept id slot servers pool row moved at_slot at_slot_after placed

  -- the row that stays
  standing : IsSome row → (r : HeldServer) × StandsAt servers.rows id slot r × (row ≡ Some (seen_server pool r))
  standing is = at (get servers.rows id) refl (subst (λ (o : Option ServerRow). IsSome o) (sym moved.here) is) where
    at : (o : Option (Placed HeldServer)) → get servers.rows id ≡ o → IsSome (option_map (λ (x : Placed HeldServer). seen_server pool x.row) o)
        → (r : HeldServer) × StandsAt servers.rows id slot r × (row ≡ Some (seen_server pool r))
    at None e h = cc
    at (Some x) e h = (
      x.row,
      e ∙ ap (λ (n : ℕ). Some (record { place = n; row = x.row })) (at_slot_after x e),
      sym moved.here ∙ ap (option_map (λ (x : Placed HeldServer). seen_server pool x.row)) e,
    )

  pub follow_room : HaveRoom servers.settings c.books
  follow_room = subst (λ (s : Settings). HaveRoom s c.books) (sym same_settings) kept.room

  pub follow_stands : (change : Change) → IsServerChange change slot row → IfStays change (λ n. IsSome (spot_at servers.rows n))
  follow_stands Nothing is = tt
  follow_stands (Stays n) is =
      let r = standing is.1 in
      let spot = spot-stands c.control.settings.served servers.rows placed id slot r.0 r.1 in
      subst (λ (k : ℕ). IsSome (spot_at servers.rows k)) (sym is.0) (subst (λ (o : Option (CallId × HeldServer)). IsSome o) (sym spot) refl)
  follow_stands (Goes n) is = tt

  pub follow_within : (change : Change) → slot < c.control.settings.served → IsServerChange change slot row
      → IfChanged change (λ n. n < servers.settings.served)
  follow_within Nothing low is = tt
  follow_within (Stays n) low is = subst (λ (s : Settings). n < s.served) (sym same_settings) (subst (λ (k : ℕ). k < c.control.settings.served) (sym is.0) low)
  follow_within (Goes n) low is = subst (λ (s : Settings). n < s.served) (sym same_settings) (subst (λ (k : ℕ). k < c.control.settings.served) (sym is.0) low)

  module _ (order : ℕ) (stood : Stood (OfServer id) (seen_of c) (seen_after c kept id slot servers pool row moved at_slot at_slot_after placed order))
      (own : HasOwnOrders (host_after c kept id slot servers pool row moved at_slot at_slot_after placed order))
      (known : IfSome row (KnowsClient c.control.settings.hosts id)) where
    pub follow_may : (change : Change) → IsServerChange change slot row → IfStays change (MayStayServer servers c.control.settings.calls c.books)
    follow_may Nothing is = tt
    follow_may (Stays n) is =
        let r = standing is.1 in
        let k = subst (λ (o : Option ServerRow). IfSome o (KnowsClient c.control.settings.hosts id)) r.2 known in
        let duty = subst (λ (o : Option ServerRow). AreOwn c.books (c.control.settings.calls + slot) (server_duty_in c.control.settings o)) r.2
        (duty_own c kept id slot servers pool row moved at_slot at_slot_after placed order stood own) in
        subst (MayStayServer servers c.control.settings.calls c.books) (sym is.0) (record {
          id = id;
          row = r.0;
          pool = pool;
          stands = r.1;
          inside = are;
          peer = subst (λ (s : Settings). IfSome (server_duty s (seen_server pool r.0)).arrival (λ (a : Arrival). a.peer.0 < s.hosts))
              (sym same_settings) (sender_known c.control.settings.hosts (seen_server pool r.0).state k.sender);
          own = subst (λ (s : Settings). AreOwn c.books (c.control.settings.calls + slot) (server_duty s (seen_server pool r.0))) (sym same_settings) duty;
        })
    follow_may (Goes n) is = tt

  -- the books afterwards
  pub follow_books : (change : Change) (books : Books) → IsServerChange change slot row
      → FollowedServer servers c.control.settings.calls change c.books books
      → books ≡ followed (c.control.settings.calls + slot) (server_duty_in c.control.settings row) c.books
  follow_books Nothing books is f = absurd is
  follow_books (Stays n) books is f =
      let r = standing is.1 in
      let at : StandsAt servers.rows id n r.0 = subst (λ (k : ℕ). StandsAt servers.rows id k r.0) (sym is.0) r.1 in
      f id r.0 pool at are
      ∙ ap (λ (k : ℕ). followed (c.control.settings.calls + k) (server_duty servers.settings (seen_server pool r.0)) c.books) is.0
      ∙ ap (λ (s : Settings). followed (c.control.settings.calls + slot) (server_duty s (seen_server pool r.0)) c.books) same_settings
      ∙ ap (λ (o : Option ServerRow). followed (c.control.settings.calls + slot) (server_duty_in c.control.settings o) c.books) (sym r.2)
  follow_books (Goes n) books is f =
      f ∙ ap (λ (k : ℕ). followed (c.control.settings.calls + k) (server_duty_in c.control.settings None) c.books) is.0
      ∙ ap (λ (o : Option ServerRow). followed (c.control.settings.calls + slot) (server_duty_in c.control.settings o) c.books) (sym is.1)
