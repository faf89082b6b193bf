-- What holds of a host's parts after a move of one client's row.
use Rattle.std.proofs.Common.{◌≡◌, ◌⊎◌, ◌<◌, ◌≤◌, ℕ, inl, inr, refl, sym, ap, subst, ◌∙◌, arith, Option, Some, None}
use Rattle.std.specs.Option.{option_map, option_and_then}
use Rattle.plain_sets.specs.Maps.{get}
use Rattle.plain_sets.proofs.MapLaws.{same_map}
use Rattle.plain_sets.proofs.MapMembers.{same_some}
use Rattle.homa_plain.specs.declared.id.CallId.{CallId}
use Rattle.homa_plain.specs.declared.settings.Settings.{Settings}
use Rattle.homa_plain.specs.Host.{Host, part_pages}
use Rattle.homa_plain.specs.Incoming.{Incoming}
use Rattle.homa_plain.specs.Rows.{ClientRow, ServerRow, RowsOf, State, Receiving}
use Rattle.homa_plain.specs.Timers.{Place, OfClient, OfServer}
use Rattle.homa_plain.proofs.CallOrder.{call_total, call_same}
use Rattle.step_laws.specs.StepLaws.{HasOwnOrders}
use Rattle.step_laws.proofs.Places.{client_inject, server_inject, two_sides}
use Rattle.msg_pool.specs.Pool.{Pool, leased_pages}
use Rattle.homa_in.specs.Part.{Part, seen}
use Rattle.homa_in.specs.Pooled.{AreIn, seen_part, pages_of}
use Rattle.homa_in.proofs.MoveLaws.{still_in, seen_others}
use Rattle.host_places.specs.Mapped.{mapped}
use Rattle.host_places.specs.Placed.{Placed, ArePlaced}
use Rattle.host_places.proofs.PlacedLaws.{one_call}
use Rattle.host_places.proofs.MappedLaws.{get-mapped}
use Rattle.homa_client.specs.Held.{HeldRow, seen_row}
use Rattle.homa_client.specs.AtTable.{Clients, Moved, seen_rows, part_at, place_at}
use Rattle.homa_server.specs.Held.{HeldServer, HeldState, Arriving, Keeping, Answering, Gone, seen_server, seen_state, state_part}
use Rattle.homa_server.specs.Table.{seen_servers}
use Rattle.host_state.specs.Control.{Control, IsSound}
use Rattle.host_view.specs.Seen.{Seen}
use Rattle.host_view.specs.Follow.{ChangesAt, HasSlots, has_row}
use Rattle.host_books.specs.Duties.{AreBooked, AreOwn, HaveRoom}
use Rattle.host_books.specs.Duty.{client_duty_in, followed}
use Rattle.host_books.specs.Pages.{client_pages, row_pages}
use Rattle.host_books.proofs.Changing.{client_changes, books_stay}
use Rattle.host_books.proofs.PageSums.{pages_changed}
use Rattle.host_books.proofs.Tables.{has_places}
use Rattle.host_books.proofs.Rebooked.{rebooked, rebooked_own}
use Rattle.host_laws.specs.Peers.{KnowsPeers}
use Rattle.homa_host.specs.Parts.{host_of, seen_of, part_in, IsKept}
use Rattle.homa_host.specs.declared.parts.HostParts.{HostParts}

-- two places are one, or not
pub one_place : (p q : Place) → (p ≡ q) ⊎ (p ≡ q → ⊥)
one_place (OfClient p) (OfClient q) = elim (one_call p q) [ inl e ↦ inl (ap OfClient e) | inr ne ↦ inr (λ e. ne (client_inject p q e)) ]
one_place (OfClient p) (OfServer q) = inr (two_sides p q)
one_place (OfServer p) (OfClient q) = inr (λ e. two_sides q p (sym e))
one_place (OfServer p) (OfServer q) = elim (one_call p q) [ inl e ↦ inl (ap OfServer e) | inr ne ↦ inr (λ e. ne (server_inject p q e)) ]

-- the responses' parts stand in the pool
pub client_parts : (c : HostParts) → AreIn c.pool (part_in c) → AreIn c.pool (part_at c.clients.rows)
client_parts c are = record { within = λ k. are.within (OfClient k); apart = λ j k n a b. client_inject j k (are.apart (OfClient j) (OfClient k) n a b) }

-- a server's row is seen as before where its part is
same_state : (pool pool' : Pool) (state : HeldState) → seen_part pool' (state_part state) ≡ seen_part pool (state_part state)
    → seen_state pool' state ≡ seen_state pool state
same_state pool pool' (Arriving service part base count) e =
    ap (λ (p : Incoming). Receiving service p base count) (same_some (seen pool' part) (seen pool part) e)
same_state pool pool' (Keeping response release) e = refl
same_state pool pool' (Answering response out order base count) e = refl
same_state pool pool' (Gone until) e = refl

same_server : (pool pool' : Pool) (x : HeldServer) → seen_part pool' (state_part x.state) ≡ seen_part pool (state_part x.state)
    → seen_server pool' x ≡ seen_server pool x
same_server pool pool' x e = ap (λ (state : State). record { order = x.order; state = state }) (same_state pool pool' x.state e)

-- orders are of the rows alone
pub own_like : (h new : Host) → h.order ≡ new.order → h.clients ≡ new.clients → h.servers ≡ new.servers → HasOwnOrders h → HasOwnOrders new
own_like h new order clients servers own =
    let middle = subst (λ (m : Host). HasOwnOrders m) (λ i. record h { order = order i; clients = clients i; servers = servers i }) own in
    record { rows = middle.rows; arriving = middle.arriving; leaving = middle.leaving }

-- the pages of a row are those of its part
pub row_pages_at : (pool : Pool) (o : Option (Placed HeldRow)) → client_pages (option_map (λ (x : Placed HeldRow). seen_row pool x.row) o) ≡ pages_of
    (option_and_then (λ (x : Placed HeldRow). x.row.part) o)
row_pages_at pool None = refl
row_pages_at pool (Some x) = of_part x.row.part where
  of_part : (part : Option Part) → part_pages (seen_part pool part) ≡ pages_of part
  of_part None = refl
  of_part (Some p) = refl

-- a live call is the host's own
pub own_call : (c : HostParts) → IsKept c → (id : CallId) (slot : ℕ) → place_at c.clients.rows id ≡ Some slot
    → (id.client ≡ c.control.id) × (id.inc ≡ c.control.inc)
own_call c kept id slot stood = of_row (get c.clients.rows id) refl stood where
  of_row : (o : Option (Placed HeldRow)) → get c.clients.rows id ≡ o → option_map (λ (x : Placed HeldRow). x.place) o ≡ Some slot
      → (id.client ≡ c.control.id) × (id.inc ≡ c.control.inc)
  of_row None e f = absurd (nothing f) where
    nothing : None ≡ Some slot → ⊥
    nothing f = cc
  of_row (Some x) e f =
      kept.known.own id (seen_row c.pool x.row)
      (get-mapped (λ (x : Placed HeldRow). seen_row c.pool x.row) c.clients.rows id ∙ ap (option_map (λ (x : Placed HeldRow). seen_row c.pool x.row)) e)

module _ (c : HostParts) (kept : IsKept c) (id : CallId) (slot : ℕ) (stood : place_at c.clients.rows id ≡ Some slot) (clients : Clients) (pool : Pool)
    (row : Option ClientRow)
    (moved : Moved id c.clients c.pool clients pool row) where
  -- the row before
  before : (x : Placed HeldRow) × (get c.clients.rows id ≡ Some x)
  before = has (get c.clients.rows id) refl stood where
    has : (o : Option (Placed HeldRow)) → get c.clients.rows id ≡ o → option_map (λ (x : Placed HeldRow). x.place) o ≡ Some slot
        → (x : Placed HeldRow) × (get c.clients.rows id ≡ Some x)
    has None e f = absurd (nothing f) where
      nothing : None ≡ Some slot → ⊥
      nothing f = cc
    has (Some x) e f = (x, e)

  pub at_slot : (x : Placed HeldRow) → get c.clients.rows id ≡ Some x → x.place ≡ slot
  at_slot x e = same_some x.place slot (sym (ap (option_map (λ (x : Placed HeldRow). x.place)) e) ∙ stood)

  pub at_slot_after : (x : Placed HeldRow) → get clients.rows id ≡ Some x → x.place ≡ slot
  at_slot_after x e = moved.changed.place before.0 x before.1 e ∙ at_slot before.0 before.1

  -- places
  pub places_after : ArePlaced c.control.settings.calls clients.rows
  places_after = record {
    within = λ q x e. elim (one_call q id) [
      | inl is ↦
          let here : x.place ≡ slot = at_slot_after x (sym (ap (get clients.rows) is) ∙ e) in
          subst (λ n. n < c.control.settings.calls) (at_slot before.0 before.1 ∙ sym here) (kept.client_places.within id before.0 before.1)
      | inr ne ↦ kept.client_places.within q x (sym (moved.changed.others q ne) ∙ e)
    ];
    apart = λ p q x y e f at. kept.client_places.apart p q (was p x e).0 (was q y f).0 (was p x e).1.0 (was q y f).1.0
        ((was p x e).1.1 ∙ at ∙ sym ((was q y f).1.1));
  } where
    was : (q : CallId) (x : Placed HeldRow) → get clients.rows q ≡ Some x → (w : Placed HeldRow) × ((get c.clients.rows q ≡ Some w) × (w.place ≡ x.place))
    was q x e = elim (one_call q id) [
      | inl is ↦ (before.0, (ap (get c.clients.rows) is ∙ before.1, at_slot before.0 before.1 ∙ sym (at_slot_after x (sym (ap (get clients.rows) is) ∙ e))))
      | inr ne ↦ (x, (sym (moved.changed.others q ne) ∙ e, refl))
    ]

  pub slot_within : slot < c.control.settings.calls
  slot_within = subst (λ n. n < c.control.settings.calls) (at_slot before.0 before.1) (kept.client_places.within id before.0 before.1)

  -- parts
  abbrev pub part_after : Place → Option Part
  part_after = part_in (record c { clients = clients; pool = pool })

  parts_else : (p : Place) → (p ≡ OfClient id → ⊥) → part_after p ≡ part_in c p
  parts_else (OfClient q) ne =
      ap (λ (o : Option (Placed HeldRow)). option_and_then (λ (x : Placed HeldRow). x.row.part) o) (moved.changed.others q (λ e. ne (ap OfClient e)))
  parts_else (OfServer q) ne = refl

  pub parts_in : AreIn pool part_after
  parts_in = still_in one_place c.pool pool (part_in c) part_after (OfClient id) parts_else moved.moves kept.parts

  pub servers_same : seen_servers pool c.servers.rows ≡ seen_servers c.pool c.servers.rows
  servers_same = same_map call_total call_same _ _ (λ q.
      get-mapped (λ (x : Placed HeldServer). seen_server pool x.row) c.servers.rows q
      ∙ same (get c.servers.rows q)
      (seen_others one_place c.pool pool (part_in c) part_after (OfClient id) parts_else moved.moves kept.parts (OfServer q) (λ e. two_sides id q (sym e)))
      ∙ sym (get-mapped (λ (x : Placed HeldServer). seen_server c.pool x.row) c.servers.rows q)) where
        same : (o : Option (Placed HeldServer))
            → seen_part pool (option_and_then (λ (x : Placed HeldServer). state_part x.row.state) o) ≡ seen_part c.pool
            (option_and_then (λ (x : Placed HeldServer). state_part x.row.state) o)
            → option_map (λ (x : Placed HeldServer). seen_server pool x.row) o ≡ option_map (λ (x : Placed HeldServer). seen_server c.pool x.row) o
        same None e = refl
        same (Some x) e = ap Some (same_server c.pool pool x.row e)

  -- ---- what it is seen as, where this is the number of what is opened next

  module _ (order : ℕ) where
    abbrev pub host_after : Host
    host_after = record (host_of c) { order = order; clients = seen_rows pool clients.rows }

    abbrev pub seen_after : Seen
    seen_after = record (seen_of c) { host = host_after; client_places = mapped (λ (x : Placed HeldRow). x.place) clients.rows }

    slots_before : HasSlots (seen_of c)
    slots_before = record {
      clients = has_places (λ (x : Placed HeldRow). seen_row c.pool x.row) c.control.settings.calls c.clients.rows kept.client_places;
      servers = has_places (λ (x : Placed HeldServer). seen_server c.pool x.row) c.control.settings.served c.servers.rows kept.server_places;
    }

    slots_after : HasSlots seen_after
    slots_after = record {
      clients = has_places (λ (x : Placed HeldRow). seen_row pool x.row) c.control.settings.calls clients.rows places_after;
      servers = has_places (λ (x : Placed HeldServer). seen_server c.pool x.row) c.control.settings.served c.servers.rows kept.server_places;
    }

    pub changes : ChangesAt (OfClient id) slot (seen_of c) seen_after
    changes =
        client_changes (λ (x : Placed HeldRow). seen_row c.pool x.row) (λ (x : Placed HeldRow). seen_row pool x.row) c.clients.rows clients.rows id
        row slot (seen_of c) seen_after
        moved.changed moved.rows at_slot at_slot_after refl refl refl refl refl refl refl refl slots_before slots_after

    stood_there : has_row (seen_of c) (OfClient id)
    stood_there = (
      seen_row c.pool before.0.row,
      get-mapped (λ (x : Placed HeldRow). seen_row c.pool x.row) c.clients.rows id
          ∙ ap (option_map (λ (x : Placed HeldRow). seen_row c.pool x.row)) before.1,
    )

    pub row_is : get (seen_rows pool clients.rows) id ≡ row
    row_is = get-mapped (λ (x : Placed HeldRow). seen_row pool x.row) clients.rows id ∙ moved.here

    pub leased_after : leased_pages pool.leases ≡ row_pages host_after
    leased_after =
        let all = pages_changed (OfClient id) slot (seen_of c) seen_after changes in
        let was : client_pages (get (seen_rows c.pool c.clients.rows) id) ≡ pages_of (part_at c.clients.rows id) =
        ap client_pages (get-mapped (λ (x : Placed HeldRow). seen_row c.pool x.row) c.clients.rows id) ∙ row_pages_at c.pool (get c.clients.rows id) in
        let is : client_pages (get (seen_rows pool clients.rows) id) ≡ pages_of (part_at clients.rows id) =
        ap client_pages (get-mapped (λ (x : Placed HeldRow). seen_row pool x.row) clients.rows id) ∙ row_pages_at pool (get clients.rows id) in
        let count = moved.moves.count in
        let leased = kept.leased in
        omega arith

    module _ (own : HasOwnOrders host_after) where
      pub duty_own : AreOwn c.books slot (client_duty_in c.control.settings row)
      duty_own = subst (λ (o : Option ClientRow). AreOwn c.books slot (client_duty_in c.control.settings o)) row_is
          (rebooked_own (OfClient id) slot (seen_of c) seen_after changes (inl stood_there) own c.books kept.booked)

      pub booked_after : AreBooked seen_after (followed slot (client_duty_in c.control.settings row) c.books)
      booked_after = subst (λ (o : Option ClientRow). AreBooked seen_after (followed slot (client_duty_in c.control.settings o) c.books)) row_is
          (rebooked (OfClient id) slot (seen_of c) seen_after changes (inl stood_there) own c.books kept.booked)

    -- ---- and all holds again

    module _ (control : Control) where
      abbrev pub parts_after : HostParts
      parts_after = record {
        control = control;
        clients = clients;
        servers = c.servers;
        pool = pool;
        books = followed slot (client_duty_in c.control.settings row) c.books;
        order = order;
      }

      pub kept_after : IsSound control → control.settings ≡ c.control.settings → control.id ≡ c.control.id → control.inc ≡ c.control.inc
          → control.last ≡ c.control.last
          → HasOwnOrders (host_of parts_after) → KnowsPeers control.settings (host_of parts_after) → control.tuning.opened ≤ order → IsKept parts_after
      kept_after sound settings same_id inc last own known opened =
          let own' = own_like (host_of parts_after) host_after refl refl servers_same own in
          record {
            control = sound;
            one = record {
              client = ap (λ (t : Clients). t.host) moved.kept ∙ kept.one.client ∙ sym same_id;
              life = ap (λ (t : Clients). t.inc) moved.kept ∙ kept.one.life ∙ sym inc;
              client_settings = ap (λ (t : Clients). t.settings) moved.kept ∙ kept.one.client_settings ∙ sym settings;
              server = kept.one.server ∙ sym same_id;
              server_settings = kept.one.server_settings ∙ sym settings;
            };
            own = own;
            known = known;
            foreign = λ q own_q. ap (λ m. get m q) servers_same ∙ kept.foreign q (own_q ∙ same_id);
            opened = opened;
            parts = record { within = parts_in.within; apart = parts_in.apart };
            pages = moved.moves.pages ∙ kept.pages ∙ ap (λ (s : Settings). s.pages) (sym settings);
            leased = leased_after ∙ ap (λ (servers : RowsOf ServerRow). row_pages (record host_after { servers = servers })) (sym servers_same);
            client_places = subst (λ (s : Settings). ArePlaced s.calls clients.rows) (sym settings) places_after;
            server_places = subst (λ (s : Settings). ArePlaced s.served c.servers.rows) (sym settings) kept.server_places;
            room = subst (λ (s : Settings). HaveRoom s (followed slot (client_duty_in c.control.settings row) c.books)) (sym settings)
                (record {
                  timers = kept.room.timers;
                  grants = kept.room.grants;
                  hosts = kept.room.hosts;
                  most = kept.room.most;
                  pacer = kept.room.pacer;
                  rate = kept.room.rate;
                });
            booked = books_stay seen_after (seen_of parts_after) _
                (record {
                  settings = sym settings;
                  last = sym last;
                  clients = refl;
                  servers = sym servers_same;
                  client_places = refl;
                  server_places = refl;
                }) (booked_after own');
          }
