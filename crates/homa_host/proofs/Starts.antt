-- A call starts: its row is a new one, and the books follow.
use Rattle.std.proofs.Common.{◌≡◌, ◌⊎◌, ◌<◌, ◌≤◌, ◌+◌, ℕ, inl, inr, refl, sym, ap, subst, ◌∙◌, arith, Option, Some, None, List, []}
use Rattle.std.specs.Prelude.{IsSome, length, nat_lt, nat_le, ◌==◌, if◌then◌else◌}
use Rattle.std.specs.Option.{option_map, option_and_then, IfSome}
use Rattle.plain_sets.specs.Maps.{get, insert}
use Rattle.plain_sets.proofs.MapMembers.{same_some}
use Rattle.homa_plain.specs.declared.fault.StartFault.TheVariants.{Empty, TooLong, SelfCall, CallsFull, SeqSpent}
use Rattle.homa_plain.specs.declared.id.CallId.{CallId}
use Rattle.homa_plain.specs.declared.id.HostId.{HostId}
use Rattle.homa_plain.specs.declared.settings.Settings.{Settings}
use Rattle.homa_plain.specs.Calls.{is_host}
use Rattle.homa_plain.specs.Host.{Host}
use Rattle.homa_plain.specs.Rows.{ClientRow}
use Rattle.homa_plain.specs.Work.{begun}
use Rattle.homa_plain.specs.Steps.{starts, start_fault, next_id, new_call}
use Rattle.homa_plain.specs.Timers.{Place, OfClient, OfServer}
use Rattle.step_laws.specs.StepLaws.{HasOwnOrders}
use Rattle.step_laws.proofs.Others.{get-set_row}
use Rattle.step_laws.proofs.OwnOrders.{starts-own, begun-own}
use Rattle.host_books.specs.declared.books.Arrival.{Arrival}
use Rattle.host_books.specs.declared.books.Duties.{Duties}
use Rattle.homa_host.specs.Outcomes.{CanFollowClient, FollowedClient}
use Rattle.homa_host.specs.declared.outcome.Change.TheVariants.{Stays}
use Rattle.homa_host.proofs.Begun.{kept-control, sound-begun}
use Rattle.msg_pool.specs.Pool.{leased_pages}
use Rattle.homa_in.specs.Part.{Part}
use Rattle.homa_in.specs.Pooled.{AreIn, IsInPool, HasNumber}
use Rattle.host_places.specs.Mapped.{mapped}
use Rattle.host_places.specs.Placed.{Placed, StandsAt, ArePlaced, spot_at}
use Rattle.host_places.proofs.PlacedLaws.{one_call, some_placed, spot-stands}
use Rattle.host_places.proofs.MappedLaws.{get-mapped, len-mapped}
use Rattle.homa_client.specs.Held.{HeldRow, seen_row}
use Rattle.homa_client.specs.AtTable.{Clients, Started, seen_rows, part_at, fault_of}
use Rattle.homa_server.specs.Held.{HeldServer, seen_server}
use Rattle.host_state.specs.Control.{Control, IsSound}
use Rattle.host_view.specs.Seen.{Seen}
use Rattle.host_view.specs.Follow.{ChangesAt, HasSlots}
use Rattle.host_books.specs.declared.books.Books.{Books}
use Rattle.host_books.specs.Duties.{AreBooked, AreOwn, HaveRoom}
use Rattle.host_books.specs.Duty.{client_duty, client_duty_in, followed}
use Rattle.host_books.specs.Pages.{client_pages, row_pages}
use Rattle.host_books.proofs.Changing.{client_changes, books_stay}
use Rattle.host_books.proofs.PageSums.{pages_changed}
use Rattle.host_books.proofs.Tables.{has_places}
use Rattle.host_books.proofs.Rebooked.{rebooked, rebooked_own}
use Rattle.host_laws.specs.Peers.{KnowsPeers}
use Rattle.host_laws.proofs.Known.{known-client}
use Rattle.homa_host.specs.Parts.{host_of, seen_of, part_in, IsKept}
use Rattle.homa_host.specs.declared.parts.HostParts.{HostParts}

-- ---- why a call can't start

pub fault-same : (p : HostParts) (server : HostId) (request : List ℕ) → p.clients.host ≡ p.control.id → p.clients.settings ≡ p.control.settings
    → start_fault p.control.settings (host_of p) server request ≡ fault_of p.clients server request
unfolding start_fault
fault-same p server request host settings = λ i.
    if length request == 0 then Some Empty
    else if nat_lt 1000000 (length request) then Some TooLong
    else if is_host server (sym host i) then Some SelfCall
    else if nat_le (sym settings i).calls (len-mapped (λ (x : Placed HeldRow). seen_row p.pool x.row) p.clients.rows i) then Some CallsFull
    else if nat_le 4294967295 p.clients.seq then Some SeqSpent
    else None

-- ---- the row is new

module _ (c : HostParts) (kept : IsKept c) (server : HostId) (service : ℕ) (request : List ℕ) (now order : ℕ) (clients : Clients) (slot : ℕ) (id : CallId)
    (started : Started c.clients server service request now order clients slot id) where
  abbrev row : ClientRow
  row = new_call c.clients.settings now order server service request

  pub held : (r : HeldRow) × (get clients.rows id ≡ Some (record { place = slot; row = r }))
  held = some_placed (get clients.rows id) slot started.place

  pub stands : get clients.rows id ≡ Some (record { place = slot; row = held.0 })
  stands = held.1

  none_before : {A : Type 0} (x : Placed HeldRow) → get c.clients.rows id ≡ Some x → A
  none_before x e = no (sym started.first ∙ e) where
    no : {A : Type 0} → None ≡ Some x → A
    no e = cc

  at_slot_after : (x : Placed HeldRow) → get clients.rows id ≡ Some x → x.place ≡ slot
  at_slot_after x e = ap (λ (y : Placed HeldRow). y.place) (same_some x (record { place = slot; row = held.0 }) (sym e ∙ held.1))

  -- a row is the new one, or was there
  which : (q : CallId) (x : Placed HeldRow) → get clients.rows q ≡ Some x → ((q ≡ id) × (x.place ≡ slot)) ⊎ (get c.clients.rows q ≡ Some x)
  which q x e = elim (one_call q id) [
    | inl is ↦ inl (is, at_slot_after x (sym (ap (get clients.rows) is) ∙ e))
    | inr ne ↦ inr (sym (started.changed.others q ne) ∙ e)
  ]

  places_after : ArePlaced c.clients.settings.calls c.clients.rows → ArePlaced c.clients.settings.calls clients.rows
  places_after places = record {
    within = λ q x e. elim (which q x e) [ inl new ↦ subst (λ n. n < c.clients.settings.calls) (sym new.1) started.within | inr old ↦ places.within q x old ];
    apart = λ p q x y e f at. elim (which p x e) [
      | inl new ↦ elim (which q y f) [
        | inl new' ↦ new.0 ∙ sym new'.0
        | inr old' ↦ absurd (started.free q y old' (sym at ∙ new.1))
      ]
      | inr old ↦ elim (which q y f) [
        | inl new' ↦ absurd (started.free p x old (at ∙ new'.1))
        | inr old' ↦ places.apart p q x y old old' at
      ]
    ];
  }

  abbrev part_after : Place → Option Part
  part_after = part_in (record c { clients = clients })

  parts_same : (p : Place) → part_after p ≡ part_in c p
  parts_same (OfClient q) = elim (one_call q id) [
    | inl is ↦ ap (part_at clients.rows) is ∙ started.part ∙ sym (ap (option_and_then (λ (x : Placed HeldRow). x.row.part)) started.first)
        ∙ sym (ap (part_at c.clients.rows) is)
    | inr ne ↦ ap (option_and_then (λ (x : Placed HeldRow). x.row.part)) (started.changed.others q ne)
  ]
  parts_same (OfServer q) = refl

  parts_in : AreIn c.pool part_after
  parts_in = record {
    within = λ k. subst (IsInPool c.pool) (sym (parts_same k)) (kept.parts.within k);
    apart = λ j k n a b. kept.parts.apart j k n (subst (HasNumber n) (parts_same j) a) (subst (HasNumber n) (parts_same k) b);
  }

  abbrev pub host_after : Host
  host_after = record (host_of c) { seq = clients.seq; order = order + 1; clients = seen_rows c.pool clients.rows }

  abbrev pub seen_after : Seen
  seen_after = record (seen_of c) { host = host_after; client_places = mapped (λ (x : Placed HeldRow). x.place) clients.rows }

  module _ (settings : c.clients.settings ≡ c.control.settings) where
    pub placed_after : ArePlaced c.control.settings.calls clients.rows
    placed_after = subst (λ (s : Settings). ArePlaced s.calls clients.rows) settings
        (places_after (subst (λ (s : Settings). ArePlaced s.calls c.clients.rows) (sym settings) kept.client_places))

    slots_before : HasSlots (seen_of c)
    slots_before = record {
      clients = has_places (λ (x : Placed HeldRow). seen_row c.pool x.row) c.control.settings.calls c.clients.rows kept.client_places;
      servers = has_places (λ (x : Placed HeldServer). seen_server c.pool x.row) c.control.settings.served c.servers.rows kept.server_places;
    }

    slots_after : HasSlots seen_after
    slots_after = record {
      clients = has_places (λ (x : Placed HeldRow). seen_row c.pool x.row) c.control.settings.calls clients.rows placed_after;
      servers = has_places (λ (x : Placed HeldServer). seen_server c.pool x.row) c.control.settings.served c.servers.rows kept.server_places;
    }

    changes : ChangesAt (OfClient id) slot (seen_of c) seen_after
    changes =
        client_changes (λ (x : Placed HeldRow). seen_row c.pool x.row) (λ (x : Placed HeldRow). seen_row c.pool x.row) c.clients.rows clients.rows id
        (Some row) slot (seen_of c) seen_after
        started.changed (started.rows c.pool) (λ x e. none_before x e) at_slot_after refl refl refl refl refl refl refl refl slots_before slots_after

    row_is : get (seen_rows c.pool clients.rows) id ≡ Some row
    row_is = ap (λ rows. get rows id) (started.rows c.pool) ∙ get-set_row (seen_rows c.pool c.clients.rows) id (Some row)

    pub held_is : seen_row c.pool held.0 ≡ row
    held_is = same_some (seen_row c.pool held.0) row
        (sym (get-mapped (λ (x : Placed HeldRow). seen_row c.pool x.row) clients.rows id
        ∙ ap (option_map (λ (x : Placed HeldRow). seen_row c.pool x.row)) held.1) ∙ row_is)

    none_seen : get (seen_rows c.pool c.clients.rows) id ≡ None
    none_seen = get-mapped (λ (x : Placed HeldRow). seen_row c.pool x.row) c.clients.rows id
        ∙ ap (option_map (λ (x : Placed HeldRow). seen_row c.pool x.row)) started.first

    leased_after : leased_pages c.pool.leases ≡ row_pages host_after
    leased_after =
        let all = pages_changed (OfClient id) slot (seen_of c) seen_after changes in
        let was : client_pages (get (seen_rows c.pool c.clients.rows) id) ≡ 0 = ap client_pages none_seen in
        let is : client_pages (get (seen_rows c.pool clients.rows) id) ≡ 0 = ap client_pages row_is in
        let leased = kept.leased in
        omega arith

    module _ (own : HasOwnOrders host_after) where
      pub duty_own : AreOwn c.books slot (client_duty c.control.settings row)
      duty_own = subst (λ (o : Option ClientRow). AreOwn c.books slot (client_duty_in c.control.settings o)) row_is
          (rebooked_own (OfClient id) slot (seen_of c) seen_after changes (inr (row, row_is)) own c.books kept.booked)

      pub booked_after : AreBooked seen_after (followed slot (client_duty c.control.settings row) c.books)
      booked_after = subst (λ (o : Option ClientRow). AreBooked seen_after (followed slot (client_duty_in c.control.settings o) c.books)) row_is
          (rebooked (OfClient id) slot (seen_of c) seen_after changes (inr (row, row_is)) own c.books kept.booked)

      abbrev pub parts_after : Control → HostParts
      parts_after control =
          record {
            control = control;
            clients = clients;
            servers = c.servers;
            pool = c.pool;
            books = followed slot (client_duty c.control.settings row) c.books;
            order = order + 1;
          }

      pub kept_after : (control : Control) → IsSound control → control.settings ≡ c.control.settings → control.id ≡ c.control.id
          → control.inc ≡ c.control.inc → control.last ≡ c.control.last
          → KnowsPeers control.settings (host_of (parts_after control)) → control.tuning.opened ≤ order + 1 → IsKept (parts_after control)
      kept_after control sound same id_same inc last known opened = record {
        control = sound;
        one = record {
          client = ap (λ (t : Clients). t.host) started.kept ∙ kept.one.client ∙ sym id_same;
          life = ap (λ (t : Clients). t.inc) started.kept ∙ kept.one.life ∙ sym inc;
          client_settings = ap (λ (t : Clients). t.settings) started.kept ∙ kept.one.client_settings ∙ sym same;
          server = kept.one.server ∙ sym id_same;
          server_settings = kept.one.server_settings ∙ sym same;
        };
        own = record { rows = own.rows; arriving = own.arriving; leaving = own.leaving };
        known = known;
        foreign = λ q e. kept.foreign q (e ∙ id_same);
        opened = opened;
        parts = record { within = λ k. in_place k; apart = λ j k. apart_in j k };
        pages = kept.pages ∙ ap (λ (s : Settings). s.pages) (sym same);
        leased = leased_after;
        client_places = subst (λ (s : Settings). ArePlaced s.calls clients.rows) (sym same) placed_after;
        server_places = subst (λ (s : Settings). ArePlaced s.served c.servers.rows) (sym same) kept.server_places;
        room = subst (λ (s : Settings). HaveRoom s (followed slot (client_duty c.control.settings row) c.books)) (sym same)
            (record {
              timers = kept.room.timers;
              grants = kept.room.grants;
              hosts = kept.room.hosts;
              most = kept.room.most;
              pacer = kept.room.pacer;
              rate = kept.room.rate;
            });
        booked = books_stay seen_after (seen_of (parts_after control)) _
            (record { settings = sym same; last = sym last; clients = refl; servers = refl; client_places = refl; server_places = refl }) booked_after;
      } where
        in_place : (k : Place) → IsInPool c.pool (part_in (parts_after control) k)
        in_place (OfClient q) = parts_in.within (OfClient q)
        in_place (OfServer q) = parts_in.within (OfServer q)

        apart_in : (j k : Place) (n : ℕ) → HasNumber n (part_in (parts_after control) j) → HasNumber n (part_in (parts_after control) k) → j ≡ k
        apart_in (OfClient a) (OfClient b) n x y = parts_in.apart (OfClient a) (OfClient b) n x y
        apart_in (OfClient a) (OfServer b) n x y = parts_in.apart (OfClient a) (OfServer b) n x y
        apart_in (OfServer a) (OfClient b) n x y = parts_in.apart (OfServer a) (OfClient b) n x y
        apart_in (OfServer a) (OfServer b) n x y = parts_in.apart (OfServer a) (OfServer b) n x y

-- ---- the plain move

-- the host after a call has started
pub starts-is : (p : HostParts) (server : HostId) (service : ℕ) (request : List ℕ) (now : ℕ) (clients : Clients) (slot : ℕ) (id : CallId)
    → p.clients.host ≡ p.control.id → p.clients.inc ≡ p.control.inc → p.clients.settings ≡ p.control.settings
    → Started p.clients server service request now p.order clients slot id
    → (id ≡ next_id (host_of p))
    × ((starts p.control.settings server service request (begun (host_of p) now)).host ≡ record (host_of p)
    { seq = clients.seq; order = p.order + 1; last = now; clients = seen_rows p.pool clients.rows })
starts-is p server service request now clients slot id host inc settings started =
    let named : id ≡ next_id (host_of p) = started.named ∙ (λ i. record { client = host i; inc = inc i; seq = p.clients.seq }) in (
      named,
      λ i. record (host_of p) {
        seq = sym (ap (λ (t : Clients). t.seq) started.kept) i;
        order = p.order + 1;
        last = now;
        clients =
            (sym (started.rows p.pool
            ∙ (λ j. insert (seen_rows p.pool p.clients.rows) (named j) (new_call (settings j) now p.order server service request)))) i;
      },
    )

-- ---- all of it

-- what has no arrival owes the grants' book nothing
no-arrival : (P : Arrival → Type 0) (d e : Duties) → d ≡ e → e.arrival ≡ None → IfSome d.arrival P
no-arrival P d e same none = subst (λ (o : Option Arrival). IfSome o P) (sym (ap (λ (d : Duties). d.arrival) same ∙ none)) tt

module _ (o : HostParts) (kept : IsKept o) (server : HostId) (service : ℕ) (request : List ℕ) (now : ℕ) (clients : Clients) (slot : ℕ) (id : CallId)
    (started : Started o.clients server service request now o.order clients slot id)
    (clock : now ≤ 1000000002000) (later : o.control.last ≤ now) where
  abbrev pub base : HostParts
  base = record o { control = record o.control { last = now; marks = [] } }

  pub base_kept : IsKept base
  base_kept = kept-control o (record o.control { last = now; marks = [] }) (record { settings = refl; id = refl; inc = refl; last = later; opened = refl })
      (sound-begun o.control now [] clock (omega arith) kept.control) kept

  own_after : HasOwnOrders (host_after base base_kept server service request now o.order clients slot id started)
  own_after =
      let own = subst (λ (h : Host). HasOwnOrders h)
      (starts-is o server service request now clients slot id kept.one.client kept.one.life kept.one.client_settings started).1
      (starts-own o.control.settings server service request (begun (host_of o) now) (begun-own o.control.settings (host_of o) now kept.own)) in
      record { rows = own.rows; arriving = own.arriving; leaving = own.leaving }

  pub spot-there : IsSome (spot_at clients.rows slot)
  spot-there =
      let there = stands base base_kept server service request now o.order clients slot id started in
      let places = placed_after base base_kept server service request now o.order clients slot id started kept.one.client_settings in
      let row = (held base base_kept server service request now o.order clients slot id started).0 in
      subst IsSome (sym (spot-stands o.control.settings.calls clients.rows places id slot row there)) refl

  abbrev pub held_row : HeldRow
  held_row = (held base base_kept server service request now o.order clients slot id started).0

  pub stands-there : StandsAt clients.rows id slot held_row
  stands-there = stands base base_kept server service request now o.order clients slot id started

  no_part : held_row.part ≡ None
  no_part = sym (ap (option_and_then (λ (x : Placed HeldRow). x.row.part)) stands-there) ∙ started.part

  pub in-pool : IsInPool o.pool held_row.part
  in-pool = subst (IsInPool o.pool) (sym no_part) tt

  abbrev pub new_row : ClientRow
  new_row = new_call o.clients.settings now o.order server service request

  abbrev pub new_duty : Duties
  new_duty = client_duty o.control.settings new_row

  abbrev there : Duties
  there = client_duty clients.settings (seen_row o.pool held_row)

  duty-is : (d : Duties) → d ≡ client_duty clients.settings (seen_row o.pool held_row) → d ≡ new_duty
  duty-is d e =
      let settings : clients.settings ≡ o.control.settings = ap (λ (t : Clients). t.settings) started.kept ∙ kept.one.client_settings in
      e ∙ (λ i. client_duty (settings i) (held_is base base_kept server service request now o.order clients slot id started kept.one.client_settings i))

  own-there : (d : Duties) → d ≡ new_duty → AreOwn o.books slot d
  own-there d e =
      subst (AreOwn o.books slot) (sym e)
      (duty_own base base_kept server service request now o.order clients slot id started kept.one.client_settings own_after)

  -- the books can follow the row
  pub can-follow : CanFollowClient clients o.books (Stays slot)
  can-follow =
      let settings : clients.settings ≡ o.control.settings = ap (λ (t : Clients). t.settings) started.kept ∙ kept.one.client_settings in
      let places = placed_after base base_kept server service request now o.order clients slot id started kept.one.client_settings in
      record {
        stands = spot-there;
        may = record {
          id = id;
          row = held_row;
          pool = o.pool;
          stands = stands-there;
          inside = in-pool;
          peer = no-arrival _ there new_duty (duty-is there refl) refl;
          own = own-there there (duty-is there refl);
        };
        room = subst (λ (s : Settings). HaveRoom s o.books) (sym settings) kept.room;
        within = subst (λ (s : Settings). slot < s.calls) (sym settings) (places.within id (record { place = slot; row = held_row }) stands-there);
      }

  -- and are those of the new row then
  pub followed-there : (books : Books) → FollowedClient clients (Stays slot) o.books books → books ≡ followed slot new_duty o.books
  followed-there books follows = follows id held_row o.pool stands-there in-pool ∙ ap (λ (d : Duties). followed slot d o.books) (duty-is there refl)

  pub kept-there : (control : Control) (books : Books) → control ≡ record o.control { last = now; marks = control.marks } → length control.marks ≤ 128
      → books ≡ followed slot new_duty o.books → server.0 < o.control.settings.hosts
      → IsKept (record { control = control; clients = clients; servers = o.servers; pool = o.pool; books = books; order = o.order + 1 })
  kept-there control books e few f known =
      let c1 : Control = record o.control { last = now; marks = control.marks } in
      let is = starts-is o server service request now clients slot id kept.one.client kept.one.life kept.one.client_settings started in
      let peers = known-client o.control.settings (host_of o)
      (host_of (parts_after base base_kept server service request now o.order clients slot id started kept.one.client_settings own_after c1)) refl
      refl kept.known id (Some new_row)
      (started.rows o.pool) refl (record { server = known; sender = tt }, (ap (λ (c : CallId). c.client) is.0, ap (λ (c : CallId). c.inc) is.0)) in
      let opened = kept.opened in
      let all = kept_after base base_kept server service request now o.order clients slot id started kept.one.client_settings own_after c1
      (sound-begun o.control now control.marks clock few kept.control) refl refl refl refl peers (omega (arith, opened)) in
      subst IsKept (λ i. record { control = sym e i; clients = clients; servers = o.servers; pool = o.pool; books = sym f i; order = o.order + 1 }) all
