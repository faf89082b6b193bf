-- A client's row becomes another, at its place, and the pool stays.
use Rattle.std.proofs.Common.{◌≡◌, ◌<◌, ◌≤◌, ℕ, ◌-◌, ◌⊎◌, inl, inr, Option, Some, None, IsSome, List, refl, sym, ap, subst, ◌∙◌}
use Rattle.std.specs.List.{Contains}
use Rattle.std.specs.Option.{IfSome, option_map, option_and_then}
use Rattle.plain_sets.specs.Maps.{get}
use Rattle.plain_sets.proofs.MapLaws.{same_map}
use Rattle.homa_plain.proofs.CallOrder.{call_total, call_same}
use Rattle.plain_sets.proofs.OrderSame.{all_at}
use Rattle.homa_plain.specs.declared.id.CallId.{CallId}
use Rattle.homa_plain.specs.declared.settings.Settings.{Settings}
use Rattle.homa_plain.specs.Grants.{seen}
use Rattle.homa_plain.specs.Host.{Host}
use Rattle.homa_plain.specs.Incoming.{Incoming}
use Rattle.homa_plain.specs.Rows.{ClientRow, RowsOf, set_row}
use Rattle.homa_plain.specs.Sending.{Arriving, arrivals, arriving_at_client}
use Rattle.homa_plain.specs.Work.{Work}
use Rattle.homa_plain.specs.Timers.{Place, OfClient, OfServer}
use Rattle.step_laws.specs.StepLaws.{HasOwnOrders}
use Rattle.homa_in.specs.Part as part
use Rattle.homa_in.specs.Part.{Part, IsIn}
use Rattle.homa_in.specs.Pooled.{IsInPool, HasNumber, AreIn, seen_part}
use Rattle.host_places.specs.Placed.{Placed, StandsAt, spot_at}
use Rattle.host_places.specs.Mapped.{mapped}
use Rattle.host_places.proofs.MappedLaws.{get-mapped}
use Rattle.host_places.proofs.PlacedLaws.{spot-stands, one_call}
use Rattle.homa_client.specs.Held.{HeldRow, seen_row}
use Rattle.homa_client.specs.AtTable.{Clients, Moved, seen_rows, place_at}
use Rattle.host_state.specs.Control.{Control, IsSound}
use Rattle.host_view.specs.declared.outbox.SentFrame.{SentFrame}
use Rattle.host_view.specs.Seen.{Seen, slot_of}
use Rattle.homa_grants.specs.Books.{Book}
use Rattle.homa_grants.specs.Entries.{Entry}
use Rattle.host_view.specs.Follow.{ChangesAt, has_row, client_arrival}
use Rattle.host_books.specs.declared.books.Arrival.{Arrival}
use Rattle.host_books.specs.declared.books.Books.{Books}
use Rattle.host_books.specs.Duties.{noted, AreOwn, AreBooked, HaveRoom}
use Rattle.host_books.proofs.Changing.{books_stay}
use Rattle.host_books.specs.Duty.{client_duty, client_duty_in, arrival_duty, followed}
use Rattle.host_books.specs.SameRows.{SameRows}
use Rattle.host_books.proofs.Splits.{is_set}
use Rattle.host_books.proofs.Noted.{noted_same}
use Rattle.host_books.proofs.Rebooked.{rebooked}
use Rattle.host_books.proofs.Tables.{made_of}
use Rattle.host_books.proofs.Things.{thing_at}
use Rattle.host_books.proofs.BookThings.{arrival_things}
use Rattle.host_laws.specs.Peers.{KnowsServer, KnowsPeers}
use Rattle.host_laws.proofs.Known.{known-client}
use Rattle.homa_host.specs.declared.outcome.Change.TheVariants.{Stays}
use Rattle.homa_host.specs.declared.parts.HostParts.{HostParts}
use Rattle.homa_host.specs.Parts.{host_of, seen_of, part_in, IsKept}
use Rattle.homa_host.specs.Amid.{Amid}
use Rattle.homa_host.proofs.Begun.{at-amid, amid-at, rest-amid}
use Rattle.homa_host.specs.Outcomes.{MayStayClient, CanFollowClient, FollowedClient, WentOnClient}
use Rattle.homa_host.proofs.SlotRows.{client_row, client_standing, kept_slots}
use Rattle.homa_host.proofs.ClientKept.{own_like, at_slot_after, places_after, slot_within, parts_in, host_after, seen_after, changes, duty_own, kept_after}

-- ---- the control goes on, and leaves what the rows depend on

pub record Beside (old new : Control) : Type 0 where
  pub settings : new.settings ≡ old.settings
  pub id : new.id ≡ old.id
  pub inc : new.inc ≡ old.inc
  pub last : new.last ≡ old.last
  pub opened : new.tuning.opened ≡ old.tuning.opened

-- it stays
pub beside_none : (c : Control) → Beside c c
beside_none c = record { settings = refl; id = refl; inc = refl; last = refl; opened = refl }

-- a piece was sent
pub beside_sent : (old new : Control) → new ≡ record old { finished = new.finished; marks = new.marks } → Beside old new
beside_sent old new e =
    record {
      settings = ap (λ (c : Control). c.settings) e;
      id = ap (λ (c : Control). c.id) e;
      inc = ap (λ (c : Control). c.inc) e;
      last = ap (λ (c : Control). c.last) e;
      opened = ap (λ (c : Control). c.tuning.opened) e;
    }

-- a change is one, whatever stands beside the rows
pub changes_like : (place : Place) (n : ℕ) (old g h : Seen) → SameRows g h → ChangesAt place n old g → ChangesAt place n old h
changes_like place n old g h same change =
    let c = subst (ChangesAt place n old) (λ i. record {
      settings = same.settings i;
      host = record g.host { last = same.last i; clients = same.clients i; servers = same.servers i };
      client_places = same.client_places i;
      server_places = same.server_places i;
      marks = g.marks;
    }) change in
    record {
      settings = c.settings;
      last = c.last;
      clients = c.clients;
      servers = c.servers;
      client_places = c.client_places;
      server_places = c.server_places;
      before = c.before;
      after = after place c.after;
      slots_before = c.slots_before;
      slots_after = record { clients = c.slots_after.clients; servers = c.slots_after.servers };
    } where
      middle : Seen
      middle = record {
        settings = h.settings;
        host = record g.host { last = h.host.last; clients = h.host.clients; servers = h.host.servers };
        client_places = h.client_places;
        server_places = h.server_places;
        marks = g.marks;
      }

      after : (p : Place) → (has_row middle p → slot_of middle p ≡ n) → has_row h p → slot_of h p ≡ n
      after (OfClient id) is = is
      after (OfServer id) is = is

-- nothing changes where the rows stay
pub changes_none : (c : HostParts) → IsKept c → (place : Place) (n : ℕ) → slot_of (seen_of c) place ≡ n → ChangesAt place n (seen_of c) (seen_of c)
changes_none c kept place n at =
    let slots = kept_slots c kept in
    record {
      settings = refl;
      last = refl;
      clients = λ q e. refl;
      servers = λ q e. refl;
      client_places = λ q e. refl;
      server_places = λ q e. refl;
      before = λ has. at;
      after = λ has. at;
      slots_before = slots;
      slots_after = slots;
    }

-- ---- the books

-- parts that are the same stand in the pool
pub parts_like : (c d : HostParts) → ((k : Place) → part_in d k ≡ part_in c k) → AreIn c.pool (part_in c) → AreIn c.pool (part_in d)
parts_like c d same are = record {
  within = λ k. subst (IsInPool c.pool) (sym (same k)) (are.within k);
  apart = λ j k n x y. are.apart j k n (subst (HasNumber n) (same j) x) (subst (HasNumber n) (same k) y);
}

-- all holds with other books that hold what the rows say
pub kept_books : (c : HostParts) (books : Books) → IsKept c → HaveRoom c.control.settings books → AreBooked (seen_of c) books
    → IsKept (record c { books = books })
kept_books c books kept room booked = record {
  control = kept.control;
  one = record {
    client = kept.one.client;
    life = kept.one.life;
    client_settings = kept.one.client_settings;
    server = kept.one.server;
    server_settings = kept.one.server_settings;
  };
  own = record { rows = kept.own.rows; arriving = kept.own.arriving; leaving = kept.own.leaving };
  known = record { clients = kept.known.clients; own = kept.known.own; servers = kept.known.servers };
  foreign = kept.foreign;
  opened = kept.opened;
  parts = parts_like c (record c { books = books }) (λ k. same k) kept.parts;
  pages = kept.pages;
  leased = kept.leased;
  client_places = kept.client_places;
  server_places = kept.server_places;
  room = room;
  booked = books_stay (seen_of c) (seen_of (record c { books = books })) books
      (record { settings = refl; last = refl; clients = refl; servers = refl; client_places = refl; server_places = refl }) booked;
} where
  same : (k : Place) → part_in (record c { books = books }) k ≡ part_in c k
  same (OfClient id) = refl
  same (OfServer id) = refl

-- the bytes of a packet are spent
abbrev pub spends : ℕ → Books → Books
spends n b = record b { pacer = record b.pacer { credit = b.pacer.credit - n } }

pub kept_spent : (c : HostParts) (n : ℕ) → IsKept c → IsKept (record c { books = spends n c.books })
kept_spent c n kept =
    let room = kept.room in
    let booked = kept.booked in
    kept_books c (spends n c.books) kept
    (record { timers = room.timers; grants = room.grants; hosts = room.hosts; most = room.most; pacer = room.pacer; rate = room.rate })
    (record { armed = booked.armed; entered = booked.entered; ready = booked.ready; granted = booked.granted })

-- ---- the rows

-- the places stay where the row of a call stays at its place
pub places_stay : {R : Type 0} (rows new : RowsOf (Placed R)) (id : CallId) (n : ℕ) (r s : R) → StandsAt rows id n r → StandsAt new id n s
    → ((q : CallId) → (q ≡ id → ⊥) → get new q ≡ get rows q)
    → mapped (λ (x : Placed R). x.place) new ≡ mapped (λ (x : Placed R). x.place) rows
places_stay {R} rows new id n r s stood stands others = same_map call_total call_same _ _ (λ q.
    get-mapped (λ (x : Placed R). x.place) new q ∙ by_one q (one_call q id) ∙ sym (get-mapped (λ (x : Placed R). x.place) rows q)) where
      by_one : (q : CallId) → (q ≡ id) ⊎ (q ≡ id → ⊥) → option_map (λ (x : Placed R). x.place) (get new q) ≡ option_map (λ (x : Placed R). x.place) (get rows q)
      by_one q (inl is) =
          ap (option_map (λ (x : Placed R). x.place)) (ap (get new) is ∙ stands) ∙ sym (ap (option_map (λ (x : Placed R). x.place)) (ap (get rows) is ∙ stood))
      by_one q (inr ne) = ap (option_map (λ (x : Placed R). x.place)) (others q ne)

-- the rows stay where the row of a call is put that is there
pub put_same : {R : Type 0} (rows : RowsOf R) (id : CallId) (r : R) → get rows id ≡ Some r → set_row rows id (Some r) ≡ rows
put_same rows id r there = sym (is_set rows rows id (λ q e. refl) ∙ ap (set_row rows id) there)

arrival_known : (n : ℕ) (o : Option Incoming) → IfSome o (λ (p : Incoming). p.peer.0 < n) → IfSome (arrival_duty o) (λ (a : Arrival). a.peer.0 < n)
arrival_known n None k = tt
arrival_known n (Some p) k = k

module _ (c : HostParts) (kept : IsKept c) (id : CallId) (slot : ℕ) (r : HeldRow) (stands : StandsAt c.clients.rows id slot r) where
  pub stood : place_at c.clients.rows id ≡ Some slot
  stood = ap (option_map (λ (x : Placed HeldRow). x.place)) stands

  pub knows : KnowsServer c.control.settings.hosts (seen_row c.pool r)
  knows = kept.known.clients id (seen_row c.pool r) (client_row c id slot r stands)

  pub owned : (id.client ≡ c.control.id) × (id.inc ≡ c.control.inc)
  owned = kept.known.own id (seen_row c.pool r) (client_row c id slot r stands)

  pub inside : IsInPool c.pool r.part
  inside = subst (IsInPool c.pool) (ap (option_and_then (λ (x : Placed HeldRow). x.row.part)) stands) (kept.parts.within (OfClient id))

  -- a part of it stands in the pool
  pub part_inside : (p : Part) → r.part ≡ Some p → IsIn c.pool p
  part_inside p e = subst (IsInPool c.pool) e inside

  -- the message that arrives is its part
  pub message_at : (p : Part) (a : Arriving) → r.part ≡ Some p → a.place ≡ OfClient id → Contains (arrivals (host_of c)) a
      → a.message ≡ seen (part.seen c.pool p)
  message_at p a e place arrives =
      let there : Contains (client_arrival id (get (host_of c).clients id)) a = thing_at arrival_things (host_of c) (OfClient id) a arrives place in
      let here : Contains (arriving_at_client id (seen_part c.pool r.part)) a =
      subst (λ (o : Option ClientRow). Contains (client_arrival id o) a) (client_row c id slot r stands) there in
      let only : Contains (arriving_at_client id (seen_part c.pool (Some p))) a =
      subst (λ (o : Option Part). Contains (arriving_at_client id (seen_part c.pool o)) a) e here in
      all_at (λ (x : Arriving). x.message ≡ seen (part.seen c.pool p)) (arriving_at_client id (seen_part c.pool (Some p))) a (refl, tt) only

  -- what arrives in it is booked as it is
  arrival_booked : (followed slot (client_duty c.control.settings (seen_row c.pool r)) c.books).grants ≡ c.books.grants
  arrival_booked =
      let at = client_standing c id slot r stands in
      let anew = subst (λ (o : Option ClientRow). AreBooked (seen_of c) (followed slot (client_duty_in c.control.settings o) c.books))
      (client_row c id slot r stands)
      (rebooked (OfClient id) slot (seen_of c) (seen_of c) (changes_none c kept (OfClient id) slot at.1) (inl at.0) kept.own c.books kept.booked) in
      ap (λ (es : List Entry). record c.books.grants { entries = es }) (anew.entered ∙ sym kept.booked.entered)

  module _ (clients : Clients) (row : ClientRow) (moved : Moved id c.clients c.pool clients c.pool (Some row)) where
    -- it stands there afterwards
    pub stands_after : (x : HeldRow) × StandsAt clients.rows id slot x × (seen_row c.pool x ≡ row)
    stands_after =
        let m = made_of (λ (x : Placed HeldRow). seen_row c.pool x.row) (get clients.rows id) row moved.here in
        let place : m.0.place ≡ slot = at_slot_after c kept id slot stood clients c.pool (Some row) moved m.0 m.1 in
        (m.0.row, m.1 ∙ (λ i. Some (record { place = place i; row = m.0.row })), m.2)

    settings_after : clients.settings ≡ c.control.settings
    settings_after = ap (λ (t : Clients). t.settings) moved.kept ∙ kept.one.client_settings

    pub spot_after : IsSome (spot_at clients.rows slot)
    spot_after = rw (spot-stands c.control.settings.calls clients.rows (places_after c kept id slot stood clients c.pool (Some row) moved) id slot
        stands_after.0 stands_after.1) refl

    room_after : HaveRoom clients.settings c.books
    room_after = subst (λ (s : Settings). HaveRoom s c.books) (sym settings_after) kept.room

    within_after : slot < clients.settings.calls
    within_after = subst (λ (s : Settings). slot < s.calls) (sym settings_after) (slot_within c kept id slot stood clients c.pool (Some row) moved)

    duty_after : client_duty clients.settings (seen_row c.pool stands_after.0) ≡ client_duty c.control.settings row
    duty_after = λ i. client_duty (settings_after i) (stands_after.2 i)

    inside_after : IsInPool c.pool stands_after.0.part
    inside_after =
        subst (IsInPool c.pool) (ap (option_and_then (λ (x : Placed HeldRow). x.row.part)) stands_after.1)
        ((parts_in c kept id slot stood clients c.pool (Some row) moved).within (OfClient id))

    follows : (books : Books) → FollowedClient clients (Stays slot) c.books books → books ≡ followed slot (client_duty c.control.settings row) c.books
    follows books f = f id stands_after.0 c.pool stands_after.1 inside_after ∙ ap (λ d. followed slot d c.books) duty_after

    -- its place stays
    pub places_same : mapped (λ (x : Placed HeldRow). x.place) clients.rows ≡ mapped (λ (x : Placed HeldRow). x.place) c.clients.rows
    places_same = places_stay c.clients.rows clients.rows id slot r stands_after.0 stands stands_after.1 moved.changed.others

    -- what is seen changed there alone
    pub changes_to : (control : Control) → Beside c.control control → (books : Books)
        → ChangesAt (OfClient id) slot (seen_of c)
        (seen_of (record { control = control; clients = clients; servers = c.servers; pool = c.pool; books = books; order = c.order }))
    changes_to control beside books =
        changes_like (OfClient id) slot (seen_of c) (seen_after c kept id slot stood clients c.pool (Some row) moved c.order)
        (seen_of (record { control = control; clients = clients; servers = c.servers; pool = c.pool; books = books; order = c.order }))
        (record { settings = sym beside.settings; last = sym beside.last; clients = refl; servers = refl; client_places = refl; server_places = refl })
        (changes c kept id slot stood clients c.pool (Some row) moved c.order)

    module _ (own : HasOwnOrders (host_after c kept id slot stood clients c.pool (Some row) moved c.order))
        (known : KnowsServer c.control.settings.hosts row) where
      may_stay : MayStayClient clients c.books slot
      may_stay = record {
        id = id;
        row = stands_after.0;
        pool = c.pool;
        stands = stands_after.1;
        inside = inside_after;
        peer = subst (λ (q : Settings × ClientRow). IfSome (client_duty q.0 q.1).arrival (λ (a : Arrival). a.peer.0 < q.0.hosts))
            (λ i. (sym settings_after i, sym stands_after.2 i))
            (arrival_known c.control.settings.hosts row.part known.sender);
        own = subst (AreOwn c.books slot) (sym duty_after) (duty_own c kept id slot stood clients c.pool (Some row) moved c.order own);
      }

      -- all holds again
      pub kept_stays : (control : Control) → IsSound control → Beside c.control control → (books : Books)
          → books ≡ followed slot (client_duty c.control.settings row) c.books
          → IsKept (record { control = control; clients = clients; servers = c.servers; pool = c.pool; books = books; order = c.order })
      kept_stays control sound beside books e =
          subst (λ (b : Books). IsKept
          (record { control = control; clients = clients; servers = c.servers; pool = c.pool; books = b; order = c.order })) (sym e)
          (kept_after c kept id slot stood clients c.pool (Some row) moved c.order control sound beside.settings beside.id beside.inc beside.last
          (record { rows = own.rows; arriving = own.arriving; leaving = own.leaving }) peers (subst (λ n. n ≤ c.order) (sym beside.opened) kept.opened)) where
            peers : KnowsPeers control.settings
                (host_of (record {
                  control = control;
                  clients = clients;
                  servers = c.servers;
                  pool = c.pool;
                  books = followed slot (client_duty c.control.settings row) c.books;
                  order = c.order;
                }))
            peers =
                let h : Host = host_of
                (record {
                  control = control;
                  clients = clients;
                  servers = c.servers;
                  pool = c.pool;
                  books = followed slot (client_duty c.control.settings row) c.books;
                  order = c.order;
                }) in
                subst (λ (s : Settings). KnowsPeers s h) (sym beside.settings)
                (known-client c.control.settings (host_of c) h beside.id beside.inc kept.known id (Some row) moved.rows refl (known, owned))

      -- the books can follow
      pub can_follow : (books : Books) → books ≡ c.books → CanFollowClient clients books (Stays slot)
      can_follow books e = subst (λ (b : Books). CanFollowClient clients b (Stays slot)) (sym e)
          (record { stands = spot_after; may = may_stay; room = room_after; within = within_after })

    -- the books of the row, where what arrives in it is what arrived before
    pub went_on : (books after : Books) → books ≡ c.books → arrival_duty row.part ≡ arrival_duty (seen_row c.pool r).part
        → WentOnClient clients slot books after → after ≡ followed slot (client_duty c.control.settings row) c.books
    went_on books after e same went =
        let duty = client_duty c.control.settings row in
        let is = subst (λ (b : Books). WentOnClient clients slot b after) e went in
        let there = ap (λ (a : Option Arrival). (followed slot (record duty { arrival = a }) c.books).grants) same ∙ arrival_booked in
        let note = noted_same slot duty.arrival c.books (ap (λ (g : Book). g.entries) there) in
        is id stands_after.0 c.pool stands_after.1 inside_after
        ∙ ap (λ d. record (followed slot d c.books) { grants = c.books.grants; changed = noted slot c.books }) duty_after
        ∙ (λ i. record (followed slot duty c.books) { grants = sym there i; changed = sym note i })

    -- the books followed
    pub followed_by : (books after : Books) → books ≡ c.books → FollowedClient clients (Stays slot) books after
        → after ≡ followed slot (client_duty c.control.settings row) c.books
    followed_by books after e f = follows after (subst (λ (b : Books). FollowedClient clients (Stays slot) b after) e f)

  -- ---- its row is seen as before

  module _ (clients : Clients) (moved : Moved id c.clients c.pool clients c.pool (Some (seen_row c.pool r))) where
    pub rows_same : seen_rows c.pool clients.rows ≡ seen_rows c.pool c.clients.rows
    rows_same = moved.rows ∙ put_same (seen_rows c.pool c.clients.rows) id (seen_row c.pool r) (client_row c id slot r stands)

    module _ (books : Books) (credit : books.pacer.credit ≡ c.books.pacer.credit) (refilled : books.pacer.refilled ≡ c.books.pacer.refilled) where
      -- so is the host
      pub amid_same : (w : Work) (out : List SentFrame) → Amid w c out
          → Amid w (record { control = c.control; clients = clients; servers = c.servers; pool = c.pool; books = books; order = c.order }) out
      amid_same w out amid =
          let rest = rest-amid w c out amid in
          amid-at w (record { control = c.control; clients = clients; servers = c.servers; pool = c.pool; books = books; order = c.order }) out
          (at-amid w c out amid)
          (record {
            seq = ap (λ (t : Clients). t.seq) moved.kept ∙ rest.seq;
            order = rest.order;
            credit = credit ∙ rest.credit;
            refilled = refilled ∙ rest.refilled;
            clients = rows_same ∙ rest.clients;
            servers = rest.servers;
          })

      -- all holds with the same books, or with others that hold what the rows say
      pub kept_same : HaveRoom c.control.settings books → AreBooked (seen_of c) books
          → IsKept (record { control = c.control; clients = clients; servers = c.servers; pool = c.pool; books = books; order = c.order })
      kept_same room booked =
          let row = seen_row c.pool r in
          let after : HostParts = record { control = c.control; clients = clients; servers = c.servers; pool = c.pool; books = books; order = c.order } in
          let own : HasOwnOrders (host_after c kept id slot stood clients c.pool (Some row) moved c.order) =
          own_like (host_of c) (host_after c kept id slot stood clients c.pool (Some row) moved c.order) refl (sym rows_same) refl kept.own in
          let k = kept_stays clients row moved own knows c.control kept.control (beside_none c.control)
          (followed slot (client_duty c.control.settings row) c.books) refl in
          let middle = record after { books = followed slot (client_duty c.control.settings row) c.books } in
          kept_books middle books k room
          (books_stay (seen_of c) (seen_of middle) books
          (record {
            settings = refl;
            last = refl;
            clients = sym rows_same;
            servers = refl;
            client_places = sym (places_same clients row moved);
            server_places = refl;
          }) booked)
