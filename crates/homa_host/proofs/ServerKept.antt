-- What holds of a host's parts after a move of one server's row.
use Rattle.std.proofs.Common.{◌≡◌, ◌≤◌, ◌+◌, ℕ, refl, sym, ap, subst, ◌∙◌, arith, Option, Some, None, List}
use Rattle.std.specs.Option.{option_map, option_and_then, IfSome}
use Rattle.plain_sets.specs.Maps.{get}
use Rattle.plain_sets.proofs.MapLaws.{same_map}
use Rattle.homa_plain.specs.declared.id.CallId.{CallId}
use Rattle.homa_plain.specs.declared.settings.Settings.{Settings}
use Rattle.homa_plain.specs.Host.{Host}
use Rattle.homa_plain.specs.Rows.{ClientRow, ServerRow, set_row}
use Rattle.homa_plain.specs.Rules.{Did}
use Rattle.homa_plain.specs.Work.{Work}
use Rattle.homa_plain.specs.Steps.{served}
use Rattle.homa_plain.specs.Timers.{Place, OfClient, OfServer}
use Rattle.homa_plain.proofs.CallOrder.{call_total, call_same}
use Rattle.step_laws.specs.StepLaws.{HasOwnOrders}
use Rattle.step_laws.proofs.ToldBy.{served-servers, served-clients, served-carried}
use Rattle.step_laws.proofs.Places.{server_inject, two_sides}
use Rattle.msg_pool.specs.Pool.{Pool, leased_pages}
use Rattle.homa_in.specs.Part.{Part}
use Rattle.homa_in.specs.Pooled.{AreIn, seen_part, pages_of}
use Rattle.homa_in.proofs.MoveLaws.{still_in, seen_others}
use Rattle.host_places.specs.Mapped.{mapped}
use Rattle.host_places.specs.Placed.{Placed, ArePlaced}
use Rattle.host_places.proofs.MappedLaws.{get-mapped}
use Rattle.homa_client.specs.Held.{HeldRow, seen_row}
use Rattle.homa_client.specs.AtTable.{seen_rows}
use Rattle.homa_server.specs.Held.{HeldServer, HeldState, Arriving, Keeping, Answering, Gone, seen_server, state_part}
use Rattle.homa_server.specs.Table.{Servers, ServerMoved, seen_servers, request_at}
use Rattle.host_view.specs.Seen.{Seen}
use Rattle.host_view.specs.Follow.{ChangesAt, HasSlots}
use Rattle.host_books.specs.Duties.{AreBooked, AreOwn, HaveRoom}
use Rattle.host_books.specs.Duty.{followed}
use Rattle.host_books.specs.Pages.{server_pages, row_pages}
use Rattle.host_books.specs.Stood.{Stood}
use Rattle.host_books.proofs.Changing.{server_changes, books_stay}
use Rattle.host_laws.specs.Peers.{KnowsClient}
use Rattle.host_laws.proofs.Known.{known-server}
use Rattle.host_state.specs.Control.{Control, IsSound}
use Rattle.host_books.proofs.PageSums.{pages_changed}
use Rattle.host_books.proofs.Tables.{has_places}
use Rattle.host_books.proofs.Rebooked.{rebooked, rebooked_own}
use Rattle.homa_plain.specs.Rows.{RowsOf}
use Rattle.step_laws.proofs.OwnOrders.{Own}
use Rattle.host_places.proofs.PlacedLaws.{get-insert_else, get-remove_else}
use Rattle.host_state.specs.Control.{IsAt}
use Rattle.host_view.specs.declared.outbox.SentFrame.{SentFrame}
use Rattle.host_books.specs.Duty.{server_duty_in}
use Rattle.host_laws.specs.Peers.{KnowsPeers}
use Rattle.homa_host.specs.Amid.{Amid}
use Rattle.homa_host.proofs.ClientKept.{one_place, own_like}
use Rattle.homa_host.proofs.AskedLaws.{served-aside, silent}
use Rattle.homa_host.proofs.Begun.{amid-at}
use Rattle.homa_host.specs.Parts.{host_of, seen_of, part_in, IsKept}
use Rattle.homa_host.specs.declared.parts.HostParts.{HostParts}

-- the requests' parts stand in the pool
pub server_parts : (c : HostParts) → AreIn c.pool (part_in c) → AreIn c.pool (request_at c.servers.rows)
server_parts c are = record { within = λ k. are.within (OfServer k); apart = λ j k n a b. server_inject j k (are.apart (OfServer j) (OfServer k) n a b) }

-- a client's row is seen as before where its part is
same_client : (pool pool' : Pool) (x : HeldRow) → seen_part pool' x.part ≡ seen_part pool x.part → seen_row pool' x ≡ seen_row pool x
same_client pool pool' x e = ap (λ part. record (seen_row pool x) { part = part }) e

-- the pages of a row are those of its part
pub state_pages_of : (pool : Pool) (o : Option (Placed HeldServer))
    → server_pages (option_map (λ (x : Placed HeldServer). seen_server pool x.row) o) ≡ pages_of
    (option_and_then (λ (x : Placed HeldServer). state_part x.row.state) o)
state_pages_of pool None = refl
state_pages_of pool (Some x) = of_state x.row.order x.row.state where
  of_state : (order : ℕ) (state : HeldState) → server_pages (Some (seen_server pool (record { order = order; state = state }))) ≡ pages_of (state_part state)
  of_state order (Arriving service part base count) = refl
  of_state order (Keeping response release) = refl
  of_state order (Answering response out sent base count) = refl
  of_state order (Gone until) = refl

module _ (c : HostParts) (kept : IsKept c) (id : CallId) (slot : ℕ) (servers : Servers) (pool : Pool) (row : Option ServerRow)
    (moved : ServerMoved id c.servers c.pool servers pool row)
    (at_slot : (x : Placed HeldServer) → get c.servers.rows id ≡ Some x → x.place ≡ slot)
    (at_slot_after : (x : Placed HeldServer) → get servers.rows id ≡ Some x → x.place ≡ slot)
    (placed : ArePlaced c.control.settings.served servers.rows) where
  -- ---- parts

  abbrev pub part_after : Place → Option Part
  part_after = part_in (record c { servers = servers; pool = pool })

  parts_else : (p : Place) → (p ≡ OfServer id → ⊥) → part_after p ≡ part_in c p
  parts_else (OfClient q) ne = refl
  parts_else (OfServer q) ne = ap (λ (o : Option (Placed HeldServer)). option_and_then (λ (x : Placed HeldServer). state_part x.row.state) o)
      (moved.changed.others q (λ e. ne (ap OfServer e)))

  pub parts_in : AreIn pool part_after
  parts_in = still_in one_place c.pool pool (part_in c) part_after (OfServer id) parts_else moved.moves kept.parts

  pub requests_in : AreIn pool (request_at servers.rows)
  requests_in = record { within = λ k. parts_in.within (OfServer k); apart = λ j k n a b. server_inject j k (parts_in.apart (OfServer j) (OfServer k) n a b) }

  pub clients_same : seen_rows pool c.clients.rows ≡ seen_rows c.pool c.clients.rows
  clients_same = same_map call_total call_same _ _ (λ q.
      get-mapped (λ (x : Placed HeldRow). seen_row pool x.row) c.clients.rows q
      ∙ same (get c.clients.rows q)
      (seen_others one_place c.pool pool (part_in c) part_after (OfServer id) parts_else moved.moves kept.parts (OfClient q) (two_sides q id))
      ∙ sym (get-mapped (λ (x : Placed HeldRow). seen_row c.pool x.row) c.clients.rows q)) where
        same : (o : Option (Placed HeldRow)) → seen_part pool (option_and_then (λ (x : Placed HeldRow). x.row.part) o) ≡ seen_part c.pool
            (option_and_then (λ (x : Placed HeldRow). x.row.part) o)
            → option_map (λ (x : Placed HeldRow). seen_row pool x.row) o ≡ option_map (λ (x : Placed HeldRow). seen_row c.pool x.row) o
        same None e = refl
        same (Some x) e = ap Some (same_client c.pool pool x.row e)

  -- ---- what it is seen as, where this is the number of what is opened next

  module _ (order : ℕ) where
    abbrev pub host_after : Host
    host_after = record (host_of c) { order = order; servers = seen_servers pool servers.rows }

    abbrev pub seen_after : Seen
    seen_after = record (seen_of c) { host = host_after; server_places = mapped (λ (x : Placed HeldServer). x.place) servers.rows }

    slots_before : HasSlots (seen_of c)
    slots_before = record {
      clients = has_places (λ (x : Placed HeldRow). seen_row c.pool x.row) c.control.settings.calls c.clients.rows kept.client_places;
      servers = has_places (λ (x : Placed HeldServer). seen_server c.pool x.row) c.control.settings.served c.servers.rows kept.server_places;
    }

    slots_after : HasSlots seen_after
    slots_after = record {
      clients = has_places (λ (x : Placed HeldRow). seen_row c.pool x.row) c.control.settings.calls c.clients.rows kept.client_places;
      servers = has_places (λ (x : Placed HeldServer). seen_server pool x.row) c.control.settings.served servers.rows placed;
    }

    pub changes : ChangesAt (OfServer id) (c.control.settings.calls + slot) (seen_of c) seen_after
    changes =
        server_changes (λ (x : Placed HeldServer). seen_server c.pool x.row) (λ (x : Placed HeldServer). seen_server pool x.row) c.servers.rows
        servers.rows id row slot (seen_of c) seen_after
        moved.changed moved.rows at_slot at_slot_after refl refl refl refl refl refl refl refl slots_before slots_after

    pub row_is : get (seen_servers pool servers.rows) id ≡ row
    row_is = get-mapped (λ (x : Placed HeldServer). seen_server pool x.row) servers.rows id ∙ moved.here

    pub leased_after : leased_pages pool.leases ≡ row_pages host_after
    leased_after =
        let all = pages_changed (OfServer id) (c.control.settings.calls + slot) (seen_of c) seen_after changes in
        let was : server_pages (get (seen_servers c.pool c.servers.rows) id) ≡ pages_of (request_at c.servers.rows id) =
        ap server_pages (get-mapped (λ (x : Placed HeldServer). seen_server c.pool x.row) c.servers.rows id) ∙ state_pages_of c.pool (get c.servers.rows id) in
        let is : server_pages (get (seen_servers pool servers.rows) id) ≡ pages_of (request_at servers.rows id) =
        ap server_pages (get-mapped (λ (x : Placed HeldServer). seen_server pool x.row) servers.rows id) ∙ state_pages_of pool (get servers.rows id) in
        let count = moved.moves.count in
        let leased = kept.leased in
        omega arith

    module _ (stood : Stood (OfServer id) (seen_of c) seen_after) (own : HasOwnOrders host_after) where
      pub duty_own : AreOwn c.books (c.control.settings.calls + slot) (server_duty_in c.control.settings row)
      duty_own = subst (λ (o : Option ServerRow). AreOwn c.books (c.control.settings.calls + slot) (server_duty_in c.control.settings o)) row_is
          (rebooked_own (OfServer id) (c.control.settings.calls + slot) (seen_of c) seen_after changes stood own c.books kept.booked)

      pub booked_after : AreBooked seen_after (followed (c.control.settings.calls + slot) (server_duty_in c.control.settings row) c.books)
      booked_after = subst
          (λ (o : Option ServerRow). AreBooked seen_after (followed (c.control.settings.calls + slot) (server_duty_in c.control.settings o) c.books)) row_is
          (rebooked (OfServer id) (c.control.settings.calls + slot) (seen_of c) seen_after changes stood own c.books kept.booked)

    -- ---- and all holds again

    module _ (control : Control) where
      abbrev pub parts_after : HostParts
      parts_after = record {
        control = control;
        clients = c.clients;
        servers = servers;
        pool = pool;
        books = followed (c.control.settings.calls + slot) (server_duty_in c.control.settings row) c.books;
        order = order;
      }

      pub kept_after : Stood (OfServer id) (seen_of c) seen_after → IsSound control → control.settings ≡ c.control.settings
          → control.id ≡ c.control.id → control.inc ≡ c.control.inc → control.last ≡ c.control.last
          → HasOwnOrders (host_of parts_after) → KnowsPeers control.settings (host_of parts_after)
          → ((q : CallId) → q.client ≡ control.id → get (host_of parts_after).servers q ≡ None) → control.tuning.opened ≤ order → IsKept parts_after
      kept_after stood sound settings same_id inc last own known foreign opened =
          let own' = own_like (host_of parts_after) host_after refl clients_same refl own in
          record {
            control = sound;
            one = record {
              client = kept.one.client ∙ sym same_id;
              life = kept.one.life ∙ sym inc;
              client_settings = kept.one.client_settings ∙ sym settings;
              server = ap (λ (t : Servers). t.host) moved.kept ∙ kept.one.server ∙ sym same_id;
              server_settings = ap (λ (t : Servers). t.settings) moved.kept ∙ kept.one.server_settings ∙ sym settings;
            };
            own = own;
            known = known;
            foreign = foreign;
            opened = opened;
            parts = record { within = parts_in.within; apart = parts_in.apart };
            pages = moved.moves.pages ∙ kept.pages ∙ ap (λ (s : Settings). s.pages) (sym settings);
            leased = leased_after ∙ ap (λ (clients : RowsOf ClientRow). row_pages (record host_after { clients = clients })) (sym clients_same);
            client_places = subst (λ (s : Settings). ArePlaced s.calls c.clients.rows) (sym settings) kept.client_places;
            server_places = subst (λ (s : Settings). ArePlaced s.served servers.rows) (sym settings) placed;
            room =
                subst (λ (s : Settings). HaveRoom s (followed (c.control.settings.calls + slot) (server_duty_in c.control.settings row) c.books)) (sym settings)
                (record {
                  timers = kept.room.timers;
                  grants = kept.room.grants;
                  hosts = kept.room.hosts;
                  most = kept.room.most;
                  pacer = kept.room.pacer;
                  rate = kept.room.rate;
                });
            booked = books_stay seen_after (seen_of parts_after) _
                (record {
                  settings = sym settings;
                  last = sym last;
                  clients = sym clients_same;
                  servers = refl;
                  client_places = refl;
                  server_places = refl;
                }) (booked_after stood own');
          }

  -- ---- a rule at a call's server

  module _ (did : Did ServerRow) (at_row : did.row ≡ row) (control : Control) where
    abbrev pub after : HostParts
    after = parts_after did.order control

    pub served_amid : (w : Work) (before frames : List SentFrame) → Amid w c before → IsAt (served c.control.settings id did w) control frames
        → Amid (served c.control.settings id did w) after frames
    served_amid w before frames amid at =
        let s = c.control.settings in
        let v : Work = served s id did w in
        let aside = served-aside s id did w in
        amid-at v after frames at
        (record {
          seq = ap (λ (h : Host). h.seq) amid.host ∙ sym aside.seq;
          order = sym (served-carried s id did w).order;
          credit = ap (λ (h : Host). h.credit) amid.host ∙ sym aside.credit;
          refilled = ap (λ (h : Host). h.refilled) amid.host ∙ sym aside.refilled;
          clients = clients_same ∙ ap (λ (h : Host). h.clients) amid.host ∙ sym (served-clients s id did w);
          servers =
              moved.rows ∙ ap (λ (h : Host). set_row h.servers id row) amid.host ∙ ap (set_row w.host.servers id) (sym at_row)
              ∙ sym (served-servers s id did w);
        })

    -- the orders of its rows
    pub served_orders : Own (served c.control.settings id did (silent c)) → HasOwnOrders (host_after did.order)
    served_orders own =
        let v : Work = served c.control.settings id did (silent c) in
        own_like v.host (host_after did.order) (served-carried c.control.settings id did (silent c)).order (served-clients c.control.settings id did (silent c))
        (served-servers c.control.settings id did (silent c) ∙ ap (set_row (host_of c).servers id) at_row ∙ sym moved.rows) own

    pub served_kept : Stood (OfServer id) (seen_of c) (seen_after did.order) → IsSound control
        → control ≡ record c.control { tuning = control.tuning; marks = control.marks } → control.tuning.opened ≤ did.order
        → IfSome did.row (KnowsClient c.control.settings.hosts id) → (id.client ≡ c.control.id → ⊥)
        → Own (served c.control.settings id did (silent c)) → IsKept after
    served_kept stood sound same opened known other own =
        let s = c.control.settings in
        let settings = ap (λ (x : Control). x.settings) same in
        let same_id = ap (λ (x : Control). x.id) same in
        let inc = ap (λ (x : Control). x.inc) same in
        let orders = own_like (host_after did.order) (host_of after) refl (sym clients_same) refl (served_orders own) in
        let peers = known-server s (host_of c) (host_of after) same_id inc kept.known id did.row
        (moved.rows ∙ ap (set_row (host_of c).servers id) (sym at_row)) clients_same known in
        kept_after did.order control stood sound settings same_id inc (ap (λ (x : Control). x.last) same) orders
        (subst (λ (s : Settings). KnowsPeers s (host_of after)) (sym settings) peers)
        (λ q own_q. ap (λ m. get m q) moved.rows ∙ set_row-else q (λ e. other (ap (λ (x : CallId). x.client) (sym e) ∙ own_q ∙ same_id))
        ∙ kept.foreign q (own_q ∙ same_id)) opened where
          set_row-else : (q : CallId) → (q ≡ id → ⊥) → get (set_row (host_of c).servers id row) q ≡ get (host_of c).servers q
          set_row-else q ne = by_row row where
            by_row : (o : Option ServerRow) → get (set_row (host_of c).servers id o) q ≡ get (host_of c).servers q
            by_row None = get-remove_else (host_of c).servers id q ne
            by_row (Some r) = get-insert_else (host_of c).servers id r q ne
