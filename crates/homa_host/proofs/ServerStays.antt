-- A server's row becomes another, at its place, and the pool stays.
use Rattle.std.proofs.Common.{◌≡◌, ◌<◌, ◌≤◌, ◌+◌, ℕ, inl, inr, Bool, true, false, Option, Some, None, IsSome, List, refl, sym, ap, subst, ◌∙◌, arith}
use Rattle.std.specs.List.{Contains}
use Rattle.std.specs.Option.{IfSome, option_and_then}
use Rattle.plain_sets.specs.Maps.{get}
use Rattle.plain_sets.proofs.OrderSame.{all_at, none_in}
use Rattle.plain_sets.proofs.MapMembers.{same_some}
use Rattle.homa_plain.proofs.CallOrder.{calls_are}
use Rattle.homa_plain.specs.Calls.{is_call}
use Rattle.homa_plain.specs.declared.id.CallId.{CallId}
use Rattle.homa_plain.specs.declared.settings.Settings.{Settings}
use Rattle.homa_plain.specs.Grants.{seen}
use Rattle.homa_plain.specs.Host.{Host}
use Rattle.homa_plain.specs.Rows.{ServerRow, State, Receiving, Held, Replying, Buried, set_row}
use Rattle.homa_plain.specs.Sending.{Arriving as Arrives, arrivals, arriving_at_server}
use Rattle.homa_plain.specs.Work.{Work}
use Rattle.homa_plain.specs.Timers.{OfServer}
use Rattle.step_laws.specs.StepLaws.{HasOwnOrders}
use Rattle.step_laws.proofs.Others.{set_row-others}
use Rattle.homa_in.specs.Part as part
use Rattle.homa_in.specs.Part.{Part, IsIn}
use Rattle.homa_in.specs.Pooled.{IsInPool, AreIn}
use Rattle.host_places.specs.Placed.{Placed, ArePlaced, StandsAt, spot_at}
use Rattle.host_places.specs.Mapped.{mapped}
use Rattle.host_places.proofs.PlacedLaws.{spot-stands, one_call}
use Rattle.homa_server.specs.Held.{HeldServer, HeldState, Arriving, Keeping, Answering, Gone, seen_server, seen_state, state_part}
use Rattle.homa_server.specs.Table.{Servers, ServerMoved, seen_servers, request_at}
use Rattle.host_state.specs.Control.{Control, IsSound}
use Rattle.homa_grants.specs.Books.{Book}
use Rattle.homa_grants.specs.Entries.{Entry}
use Rattle.host_view.specs.declared.outbox.SentFrame.{SentFrame}
use Rattle.host_view.specs.Follow.{ChangesAt, has_row, server_arrival}
use Rattle.host_books.specs.declared.books.Arrival.{Arrival}
use Rattle.host_books.specs.declared.books.Books.{Books}
use Rattle.host_books.specs.Duties.{noted, AreOwn, AreBooked, HaveRoom}
use Rattle.host_books.specs.Duty.{server_duty, server_duty_in, arrival_duty, arriving, followed}
use Rattle.host_books.proofs.Changing.{books_stay}
use Rattle.host_books.proofs.Noted.{noted_same}
use Rattle.host_books.proofs.Rebooked.{rebooked}
use Rattle.host_books.proofs.Tables.{made_of}
use Rattle.host_books.proofs.Things.{thing_at}
use Rattle.host_books.proofs.BookThings.{arrival_things}
use Rattle.host_laws.specs.Peers.{KnowsClient, KnowsSender, KnowsPeers}
use Rattle.host_laws.proofs.Known.{known-server}
use Rattle.homa_host.specs.declared.outcome.Change.TheVariants.{Stays}
use Rattle.homa_host.specs.declared.parts.HostParts.{HostParts}
use Rattle.homa_host.specs.Parts.{host_of, seen_of, IsKept}
use Rattle.homa_host.specs.Amid.{Amid}
use Rattle.homa_host.specs.ServerFollow.{MayStayServer, CanFollowServer, FollowedServer, WentOnServer}
use Rattle.homa_host.proofs.Begun.{at-amid, amid-at, rest-amid}
use Rattle.homa_host.proofs.SlotRows.{server_row, server_standing}
use Rattle.homa_host.proofs.ClientKept.{own_like}
use Rattle.homa_host.proofs.ClientStays.{Beside, beside_none, changes_like, changes_none, kept_books, places_stay, put_same}
use Rattle.homa_host.proofs.ServerKept.{server_parts, requests_in, host_after, seen_after, changes, duty_own, kept_after}

arrival_known : (n : ℕ) (state : State) → KnowsSender n state → IfSome (arrival_duty (arriving state)) (λ (a : Arrival). a.peer.0 < n)
arrival_known n (Receiving service part base count) k = k
arrival_known n (Held response release) k = tt
arrival_known n (Replying response out order base count) k = tt
arrival_known n (Buried until) k = tt

module _ (c : HostParts) (kept : IsKept c) (id : CallId) (place : ℕ) (r : HeldServer) (stands : StandsAt c.servers.rows id place r) where
  pub knows : KnowsClient c.control.settings.hosts id (seen_server c.pool r)
  knows = kept.known.servers id (seen_server c.pool r) (server_row c id place r stands)

  pub all_inside : AreIn c.pool (request_at c.servers.rows)
  all_inside = server_parts c kept.parts

  -- a part of it stands in the pool
  pub part_inside : (p : Part) → state_part r.state ≡ Some p → IsIn c.pool p
  part_inside p e =
      subst (IsInPool c.pool) e
      (subst (IsInPool c.pool) (ap (option_and_then (λ (x : Placed HeldServer). state_part x.row.state)) stands) (kept.parts.within (OfServer id)))

  -- the message that arrives is its part
  pub message_at : (p : Part) (a : Arrives) → state_part r.state ≡ Some p → a.place ≡ OfServer id → Contains (arrivals (host_of c)) a
      → a.message ≡ seen (part.seen c.pool p)
  message_at p a e at arrives =
      let there : Contains (server_arrival id (get (host_of c).servers id)) a = thing_at arrival_things (host_of c) (OfServer id) a arrives at in
      by_state r.state e (subst (λ (o : Option ServerRow). Contains (server_arrival id o) a) (server_row c id place r stands) there) where
        by_state : (state : HeldState) → state_part state ≡ Some p → Contains (arriving_at_server id (seen_state c.pool state)) a
            → a.message ≡ seen (part.seen c.pool p)
        by_state (Arriving service q base count) e has =
            all_at (λ (x : Arrives). x.message ≡ seen (part.seen c.pool p))
            (arriving_at_server id (seen_state c.pool (Arriving service q base count))) a
            (ap (λ (q : Part). seen (part.seen c.pool q)) (same_some q p e), tt) has
        by_state (Keeping response release) e has = absurd (none_in a has)
        by_state (Answering response out order base count) e has = absurd (none_in a has)
        by_state (Gone until) e has = absurd (none_in a has)

  -- what arrives in it is booked as it is
  arrival_booked : (followed (c.control.settings.calls + place) (server_duty c.control.settings (seen_server c.pool r)) c.books).grants ≡ c.books.grants
  arrival_booked =
      let at = server_standing c id place r stands in
      let anew = subst (λ (o : Option ServerRow). AreBooked (seen_of c)
      (followed (c.control.settings.calls + place) (server_duty_in c.control.settings o) c.books))
      (server_row c id place r stands)
      (rebooked (OfServer id) (c.control.settings.calls + place) (seen_of c) (seen_of c)
      (changes_none c kept (OfServer id) (c.control.settings.calls + place) at.1) (inl at.0) kept.own c.books kept.booked) in
      ap (λ (es : List Entry). record c.books.grants { entries = es }) (anew.entered ∙ sym kept.booked.entered)

  pub at_place : (x : Placed HeldServer) → get c.servers.rows id ≡ Some x → x.place ≡ place
  at_place x e = ap (λ (x : Placed HeldServer). x.place) (same_some x (record { place = place; row = r }) (sym e ∙ stands))

  module _ (servers : Servers) (row : ServerRow) (moved : ServerMoved id c.servers c.pool servers c.pool (Some row)) where
    pub at_place_after : (x : Placed HeldServer) → get servers.rows id ≡ Some x → x.place ≡ place
    at_place_after x e = moved.changed.place (record { place = place; row = r }) x stands e

    -- it stands there afterwards
    pub stands_after : (x : HeldServer) × StandsAt servers.rows id place x × (seen_server c.pool x ≡ row)
    stands_after =
        let m = made_of (λ (x : Placed HeldServer). seen_server c.pool x.row) (get servers.rows id) row moved.here in
        let at : m.0.place ≡ place = at_place_after m.0 m.1 in
        (m.0.row, m.1 ∙ (λ i. Some (record { place = at i; row = m.0.row })), m.2)

    pub places_after : ArePlaced c.control.settings.served servers.rows
    places_after = record {
      within = λ q x e. let w = was q x e in subst (λ n. n < c.control.settings.served) w.1.1 (kept.server_places.within q w.0 w.1.0);
      apart = λ p q x y e f at. kept.server_places.apart p q (was p x e).0 (was q y f).0 (was p x e).1.0 (was q y f).1.0
          ((was p x e).1.1 ∙ at ∙ sym ((was q y f).1.1));
    } where
      was : (q : CallId) (x : Placed HeldServer) → get servers.rows q ≡ Some x
          → (w : Placed HeldServer) × ((get c.servers.rows q ≡ Some w) × (w.place ≡ x.place))
      was q x e = elim (one_call q id) [
        | inl is ↦ (record { place = place; row = r }, (ap (get c.servers.rows) is ∙ stands, sym (at_place_after x (sym (ap (get servers.rows) is) ∙ e))))
        | inr ne ↦ (x, (sym (moved.changed.others q ne) ∙ e, refl))
      ]

    settings_after : servers.settings ≡ c.control.settings
    settings_after = ap (λ (t : Servers). t.settings) moved.kept ∙ kept.one.server_settings

    spot_after : IsSome (spot_at servers.rows place)
    spot_after = rw (spot-stands c.control.settings.served servers.rows places_after id place stands_after.0 stands_after.1) refl

    room_after : HaveRoom servers.settings c.books
    room_after = subst (λ (s : Settings). HaveRoom s c.books) (sym settings_after) kept.room

    within_after : place < servers.settings.served
    within_after = subst (λ (s : Settings). place < s.served) (sym settings_after) (kept.server_places.within id (record { place = place; row = r }) stands)

    calls_after : c.control.settings.calls ≡ servers.settings.calls
    calls_after = ap (λ (s : Settings). s.calls) (sym settings_after)

    small_after : c.control.settings.calls + servers.settings.served < 4294967296
    small_after =
        let served : servers.settings.served ≡ c.control.settings.served = ap (λ (s : Settings). s.served) settings_after in
        let range = kept.control.valid.in_range.2.2.2.2.2.2.2.2.2.2 in
        omega (arith, range.1, range.2.1, served)

    duty_after : server_duty servers.settings (seen_server c.pool stands_after.0) ≡ server_duty c.control.settings row
    duty_after = λ i. server_duty (settings_after i) (stands_after.2 i)

    inside_after : AreIn c.pool (request_at servers.rows)
    inside_after = requests_in c kept id place servers c.pool (Some row) moved at_place at_place_after places_after

    follows : (books : Books) → FollowedServer servers c.control.settings.calls (Stays place) c.books books
        → books ≡ followed (c.control.settings.calls + place) (server_duty c.control.settings row) c.books
    follows books f = f id stands_after.0 c.pool stands_after.1 inside_after ∙ ap (λ d. followed (c.control.settings.calls + place) d c.books) duty_after

    -- its place stays
    pub places_same : mapped (λ (x : Placed HeldServer). x.place) servers.rows ≡ mapped (λ (x : Placed HeldServer). x.place) c.servers.rows
    places_same = places_stay c.servers.rows servers.rows id place r stands_after.0 stands stands_after.1 moved.changed.others

    -- what is seen changed there alone
    pub changes_to : (control : Control) → Beside c.control control → (books : Books)
        → ChangesAt (OfServer id) (c.control.settings.calls + place) (seen_of c)
        (seen_of (record { control = control; clients = c.clients; servers = servers; pool = c.pool; books = books; order = c.order }))
    changes_to control beside books =
        changes_like (OfServer id) (c.control.settings.calls + place) (seen_of c)
        (seen_after c kept id place servers c.pool (Some row) moved at_place at_place_after places_after c.order)
        (seen_of (record { control = control; clients = c.clients; servers = servers; pool = c.pool; books = books; order = c.order }))
        (record { settings = sym beside.settings; last = sym beside.last; clients = refl; servers = refl; client_places = refl; server_places = refl })
        (changes c kept id place servers c.pool (Some row) moved at_place at_place_after places_after c.order)

    -- no call of its own is served
    foreign_after : (q : CallId) → q.client ≡ c.control.id → get (seen_servers c.pool servers.rows) q ≡ None
    foreign_after q of_host = ap (λ m. get m q) moved.rows ∙ by_one (is_call q id) refl where
      by_one : (b : Bool) → is_call q id ≡ b → get (set_row (seen_servers c.pool c.servers.rows) id (Some row)) q ≡ None
      by_one true e =
          absurd (both (sym (kept.foreign q of_host) ∙ ap (get (seen_servers c.pool c.servers.rows)) ((calls_are q id).0 e)
          ∙ server_row c id place r stands)) where
            both : {x : ServerRow} → None ≡ Some x → ⊥
            both e = cc
      by_one false e = set_row-others (seen_servers c.pool c.servers.rows) id (Some row) q e ∙ kept.foreign q of_host

    stood_there : has_row (seen_of c) (OfServer id)
    stood_there = (server_standing c id place r stands).0

    module _ (own : HasOwnOrders (host_after c kept id place servers c.pool (Some row) moved at_place at_place_after places_after c.order))
        (known : KnowsClient c.control.settings.hosts id row) where
      may_stay : MayStayServer servers c.control.settings.calls c.books place
      may_stay = record {
        id = id;
        row = stands_after.0;
        pool = c.pool;
        stands = stands_after.1;
        inside = inside_after;
        peer = subst (λ (q : Settings × ServerRow). IfSome (server_duty q.0 q.1).arrival (λ (a : Arrival). a.peer.0 < q.0.hosts))
            (λ i. (sym settings_after i, sym stands_after.2 i))
            (arrival_known c.control.settings.hosts row.state known.sender);
        own = subst (AreOwn c.books (c.control.settings.calls + place)) (sym duty_after)
            (duty_own c kept id place servers c.pool (Some row) moved at_place at_place_after places_after c.order (inl stood_there) own);
      }

      -- all holds again
      pub kept_stays : (control : Control) → IsSound control → Beside c.control control → (books : Books)
          → books ≡ followed (c.control.settings.calls + place) (server_duty c.control.settings row) c.books
          → IsKept (record { control = control; clients = c.clients; servers = servers; pool = c.pool; books = books; order = c.order })
      kept_stays control sound beside books e =
          subst (λ (b : Books). IsKept
          (record { control = control; clients = c.clients; servers = servers; pool = c.pool; books = b; order = c.order })) (sym e)
          (kept_after c kept id place servers c.pool (Some row) moved at_place at_place_after places_after c.order control
          (inl stood_there) sound beside.settings beside.id beside.inc beside.last
          (record { rows = own.rows; arriving = own.arriving; leaving = own.leaving }) peers (λ q of_host. foreign_after q (of_host ∙ beside.id))
          (subst (λ n. n ≤ c.order) (sym beside.opened) kept.opened)) where
            peers : KnowsPeers control.settings
                (host_of (record {
                  control = control;
                  clients = c.clients;
                  servers = servers;
                  pool = c.pool;
                  books = followed (c.control.settings.calls + place) (server_duty c.control.settings row) c.books;
                  order = c.order;
                }))
            peers =
                let h : Host = host_of
                (record {
                  control = control;
                  clients = c.clients;
                  servers = servers;
                  pool = c.pool;
                  books = followed (c.control.settings.calls + place) (server_duty c.control.settings row) c.books;
                  order = c.order;
                }) in
                subst (λ (s : Settings). KnowsPeers s h) (sym beside.settings)
                (known-server c.control.settings (host_of c) h beside.id beside.inc kept.known id (Some row) moved.rows refl known)

      -- the books can follow, where so many slots of clients' rows stand before
      pub can_follow : (calls : ℕ) (books : Books) → calls ≡ c.control.settings.calls → books ≡ c.books → CanFollowServer servers calls books (Stays place)
      can_follow calls books n e = subst (λ (x : ℕ × Books). CanFollowServer servers x.0 x.1 (Stays place)) (λ i. (sym n i, sym e i)) (record {
        stands = spot_after;
        may = may_stay;
        room = room_after;
        calls = calls_after;
        within = within_after;
        small = small_after;
      })

    -- the books of the row, where what arrives in it is what arrived before
    pub went_on : (calls : ℕ) (books after : Books) → calls ≡ c.control.settings.calls → books ≡ c.books
        → arrival_duty (arriving row.state) ≡ arrival_duty (arriving (seen_server c.pool r).state) → WentOnServer servers calls place books after
        → after ≡ followed (c.control.settings.calls + place) (server_duty c.control.settings row) c.books
    went_on calls books after n e same went =
        let slot = c.control.settings.calls + place in
        let duty = server_duty c.control.settings row in
        let is = subst (λ (x : ℕ × Books). WentOnServer servers x.0 place x.1 after) (λ i. (n i, e i)) went in
        let there = ap (λ (a : Option Arrival). (followed slot (record duty { arrival = a }) c.books).grants) same ∙ arrival_booked in
        let note = noted_same slot duty.arrival c.books (ap (λ (g : Book). g.entries) there) in
        is id stands_after.0 c.pool stands_after.1 inside_after
        ∙ ap (λ d. record (followed slot d c.books) { grants = c.books.grants; changed = noted slot c.books }) duty_after
        ∙ (λ i. record (followed slot duty c.books) { grants = sym there i; changed = sym note i })

    -- the books followed
    pub followed_by : (calls : ℕ) (books after : Books) → calls ≡ c.control.settings.calls → books ≡ c.books
        → FollowedServer servers calls (Stays place) books after
        → after ≡ followed (c.control.settings.calls + place) (server_duty c.control.settings row) c.books
    followed_by calls books after n e f = follows after (subst (λ (x : ℕ × Books). FollowedServer servers x.0 (Stays place) x.1 after) (λ i. (n i, e i)) f)

    -- the host as the control has it, with the row put
    abbrev pub host_put : Host
    host_put = host_after c kept id place servers c.pool (Some row) moved at_place at_place_after places_after c.order

  -- ---- its row is seen as before

  module _ (servers : Servers) (moved : ServerMoved id c.servers c.pool servers c.pool (Some (seen_server c.pool r))) where
    pub rows_same : seen_servers c.pool servers.rows ≡ seen_servers c.pool c.servers.rows
    rows_same = moved.rows ∙ put_same (seen_servers c.pool c.servers.rows) id (seen_server c.pool r) (server_row c id place r stands)

    module _ (books : Books) (credit : books.pacer.credit ≡ c.books.pacer.credit) (refilled : books.pacer.refilled ≡ c.books.pacer.refilled) where
      -- so is the host
      pub amid_same : (w : Work) (out : List SentFrame) → Amid w c out
          → Amid w (record { control = c.control; clients = c.clients; servers = servers; pool = c.pool; books = books; order = c.order }) out
      amid_same w out amid =
          let rest = rest-amid w c out amid in
          amid-at w (record { control = c.control; clients = c.clients; servers = servers; pool = c.pool; books = books; order = c.order }) out
          (at-amid w c out amid)
          (record {
            seq = rest.seq;
            order = rest.order;
            credit = credit ∙ rest.credit;
            refilled = refilled ∙ rest.refilled;
            clients = rest.clients;
            servers = rows_same ∙ rest.servers;
          })

      -- all holds with the same books, or with others that hold what the rows say
      pub kept_same : HaveRoom c.control.settings books → AreBooked (seen_of c) books
          → IsKept (record { control = c.control; clients = c.clients; servers = servers; pool = c.pool; books = books; order = c.order })
      kept_same room booked =
          let row = seen_server c.pool r in
          let after : HostParts = record { control = c.control; clients = c.clients; servers = servers; pool = c.pool; books = books; order = c.order } in
          let own : HasOwnOrders (host_put servers row moved) = own_like (host_of c) (host_put servers row moved) refl refl (sym rows_same) kept.own in
          let k = kept_stays servers row moved own knows c.control kept.control (beside_none c.control)
          (followed (c.control.settings.calls + place) (server_duty c.control.settings row) c.books) refl in
          let middle = record after { books = followed (c.control.settings.calls + place) (server_duty c.control.settings row) c.books } in
          kept_books middle books k room
          (books_stay (seen_of c) (seen_of middle) books
          (record {
            settings = refl;
            last = refl;
            clients = refl;
            servers = sym rows_same;
            client_places = refl;
            server_places = sym (places_same servers row moved);
          }) booked)
