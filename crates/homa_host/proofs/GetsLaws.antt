-- A packet at a call's client, as the parts have it.
use Rattle.std.proofs.Common.{◌≡◌, ◌≤◌, ◌+◌, ℕ, Bool, true, false, cond, ◌&&◌, not, nat_lt, if◌then◌else◌, refl, sym, ap, subst, ◌∙◌, arith, List, []}
use Rattle.std.proofs.Common.{Option, Some, None}
use Rattle.std.specs.Option.{option_map, option_and_then, IfSome, IsSome}
use Rattle.plain_sets.specs.Maps.{get, len}
use Rattle.plain_sets.proofs.MapMembers.{same_some}
use Rattle.homa_plain.specs.declared.id.CallId.{CallId}
use Rattle.homa_plain.specs.declared.id.HostId.{HostId}
use Rattle.homa_plain.specs.declared.packet.Role.TheVariants.{Server}
use Rattle.homa_plain.specs.declared.packet.Packet.{Packet as WirePacket}
use Rattle.homa_plain.specs.declared.settings.Settings.{Settings}
use Rattle.homa_plain.specs.Calls.{is_host}
use Rattle.homa_plain.specs.Host.{Host, free_beside}
use Rattle.homa_plain.specs.Packets.{Packet, sender, packet_between}
use Rattle.homa_plain.specs.Rows.{ClientRow}
use Rattle.homa_plain.specs.Rules.{Moment, Did}
use Rattle.homa_plain.specs.AtClient.{client_gets}
use Rattle.homa_plain.specs.Work.{Work}
use Rattle.homa_plain.specs.Steps.{moment, asked}
use Rattle.step_laws.proofs.OwnOrders.{Own, row-own}
use Rattle.msg_pool.specs.Pool.{Pool, leased_pages, free_pages}
use Rattle.homa_in.specs.Pooled.{AreIn, pages_of}
use Rattle.homa_in.specs.Pieces.{moment_with}
use Rattle.host_places.specs.Placed.{Placed}
use Rattle.host_places.proofs.MappedLaws.{get-mapped}
use Rattle.homa_client.specs.Held.{HeldRow, seen_row}
use Rattle.homa_client.specs.AtTable.{Clients, Moved, Received, HasLeft, answer_of, slot_in, seen_rows, row_at, part_at, place_at}
use Rattle.homa_client.specs.declared.answers.ClientDid.{ClientDid}
use Rattle.homa_client.specs.declared.answers.ClientDid.TheVariants as did
use Rattle.homa_client.proofs.ReceivedLaws.{from_server, of_server}
use Rattle.host_books.specs.Pages.{client_pages, server_pages}
use Rattle.host_books.proofs.PageSums.{pages_free}
use Rattle.host_laws.specs.Peers.{KnowsServer}
use Rattle.host_laws.proofs.Known.{client_gets-known}
use Rattle.homa_host.specs.Parts.{host_of, IsKept}
use Rattle.homa_host.specs.Outcomes.{client_change, client_orders, IfStays, IfTouched}
use Rattle.homa_host.specs.declared.parts.HostParts.{HostParts}
use Rattle.homa_host.specs.declared.outcome.Change.{Change}
use Rattle.homa_host.specs.declared.outcome.Change.TheVariants.{Nothing}
use Rattle.homa_host.proofs.ClientKept.{row_pages_at}
use Rattle.homa_host.proofs.AskedLaws.{silent}
use Rattle.homa_host.proofs.FollowLaws.{IsChange}
use Rattle.homa_host.proofs.WholeLaws.{SayWhole}

-- ---- answers

answer_row : (m : Moment) (p : Packet) (row : Option ClientRow) (told : List ℕ) (d : ClientDid) → (answer_of m p row told d).row ≡ row
answer_row m p row told did.Nothing = refl
answer_row m p row told (did.Touched slot) = refl
answer_row m p row told (did.Opened slot) = refl
answer_row m p row told (did.Done slot id true) = refl
answer_row m p row told (did.Done slot id false) = refl
answer_row m p row told (did.Full slot id need free) = refl
answer_row m p row told (did.Gaps slot id) = refl
answer_row m p row told (did.Busy slot) = refl
answer_row m p row told did.Ack = refl
answer_row m p row told (did.Forgotten slot id) = refl

answer_order : (m : Moment) (p : Packet) (row : Option ClientRow) (told : List ℕ) (d : ClientDid) → (answer_of m p row told d).order ≡ m.order + client_orders d
answer_order m p row told did.Nothing = omega arith
answer_order m p row told (did.Touched slot) = omega arith
answer_order m p row told (did.Opened slot) = refl
answer_order m p row told (did.Done slot id true) = refl
answer_order m p row told (did.Done slot id false) = omega arith
answer_order m p row told (did.Full slot id need free) = omega arith
answer_order m p row told (did.Gaps slot id) = omega arith
answer_order m p row told (did.Busy slot) = omega arith
answer_order m p row told did.Ack = omega arith
answer_order m p row told (did.Forgotten slot id) = omega arith

pub answer_whole : (m : Moment) (p : Packet) (row : Option ClientRow) (told : List ℕ) (d : ClientDid) → SayWhole told (answer_of m p row told d).says
answer_whole m p row told did.Nothing = tt
answer_whole m p row told (did.Touched slot) = tt
answer_whole m p row told (did.Opened slot) = tt
answer_whole m p row told (did.Done slot id true) = (refl, tt)
answer_whole m p row told (did.Done slot id false) = (refl, tt)
answer_whole m p row told (did.Full slot id need free) = (tt, tt)
answer_whole m p row told (did.Gaps slot id) = (tt, tt)
answer_whole m p row told (did.Busy slot) = tt
answer_whole m p row told did.Ack = tt
answer_whole m p row told (did.Forgotten slot id) = (tt, tt)

-- the row's change, by the answer
pub change_of : (d : ClientDid) (slot : ℕ) (row : Option ClientRow) → slot_in d ≡ Some slot → HasLeft d row → IsChange (client_change d) slot row
change_of did.Nothing slot row e left = cc
change_of (did.Touched n) slot row e left = (same_some n slot e, left)
change_of (did.Opened n) slot row e left = (same_some n slot e, left)
change_of (did.Done n id opened) slot row e left = (same_some n slot e, left)
change_of (did.Full n id need free) slot row e left = (same_some n slot e, left)
change_of (did.Gaps n id) slot row e left = (same_some n slot e, left)
change_of (did.Busy n) slot row e left = (same_some n slot e, left)
change_of did.Ack slot row e left = cc
change_of (did.Forgotten n id) slot row e left = (same_some n slot e, left)

pub no_change : (d : ClientDid) → slot_in d ≡ None → client_change d ≡ Nothing
no_change did.Nothing e = refl
no_change (did.Touched n) e = cc
no_change (did.Opened n) e = cc
no_change (did.Done n id opened) e = cc
no_change (did.Full n id need free) e = cc
no_change (did.Gaps n id) e = cc
no_change (did.Busy n) e = cc
no_change did.Ack e = refl
no_change (did.Forgotten n id) e = cc

pub no_orders : (d : ClientDid) → slot_in d ≡ None → client_orders d ≡ 0
no_orders did.Nothing e = refl
no_orders (did.Touched n) e = cc
no_orders (did.Opened n) e = cc
no_orders (did.Done n id opened) e = cc
no_orders (did.Full n id need free) e = cc
no_orders (did.Gaps n id) e = cc
no_orders (did.Busy n) e = cc
no_orders did.Ack e = refl
no_orders (did.Forgotten n id) e = cc

-- a row that was touched stands
pub touched_stays : (P : ℕ → Type 0) (d : ClientDid) → IfStays (client_change d) P → IfTouched d P
touched_stays P did.Nothing h = tt
touched_stays P (did.Touched n) h = h
touched_stays P (did.Opened n) h = tt
touched_stays P (did.Done n id opened) h = tt
touched_stays P (did.Full n id need free) h = tt
touched_stays P (did.Gaps n id) h = tt
touched_stays P (did.Busy n) h = tt
touched_stays P did.Ack h = tt
touched_stays P (did.Forgotten n id) h = tt

-- what is known of a row that was touched
pub touched_row : (X : Type 0) (P : HeldRow → ℕ → Type 0) (d : ClientDid) (slot : ℕ) (row : Option ClientRow) → slot_in d ≡ Some slot → HasLeft d row
    → ((r : HeldRow) → IfTouched d (P r)) → (IsSome row → (r : HeldRow) × (P r slot → X)) → IfTouched d (λ _. X)
touched_row X P did.Nothing slot row e left f k = tt
touched_row X P (did.Touched n) slot row e left f k = (k left).1 (subst (P (k left).0) (same_some n slot e) (f (k left).0))
touched_row X P (did.Opened n) slot row e left f k = tt
touched_row X P (did.Done n id opened) slot row e left f k = tt
touched_row X P (did.Full n id need free) slot row e left f k = tt
touched_row X P (did.Gaps n id) slot row e left f k = tt
touched_row X P (did.Busy n) slot row e left f k = tt
touched_row X P did.Ack slot row e left f k = tt
touched_row X P (did.Forgotten n id) slot row e left f k = tt

pub no_touch : (P : ℕ → Type 0) (d : ClientDid) → slot_in d ≡ None → IfTouched d P
no_touch P d e = touched_stays P d (subst (λ (ch : Change). IfStays ch P) (sym (no_change d e)) tt)

-- the place of a row that a packet is for is that of the call's row
slot_stood : (p : Packet) (o : Option (Placed HeldRow)) (slot : ℕ)
    → option_and_then (λ (x : Placed HeldRow). if is_host (sender p) x.row.server && not (nat_lt p.inc x.row.seen) then Some x.place else None) o
    ≡ Some slot → option_map (λ (x : Placed HeldRow). x.place) o ≡ Some slot
slot_stood p None slot e = cc
slot_stood p (Some x) slot e = at (is_host (sender p) x.row.server && not (nat_lt p.inc x.row.seen)) e where
  at : (b : Bool) → cond b (Some x.place) None ≡ Some slot → Some x.place ≡ Some slot
  at true e = e
  at false e = cc

known_if : (c : HostParts) → IsKept c → (id : CallId) (o : Option ClientRow) → get (host_of c).clients id ≡ o → IfSome o (KnowsServer c.control.settings.hosts)
known_if c kept id None e = tt
known_if c kept id (Some r) e = kept.known.clients id r e

-- ---- the packet

-- a packet of a server came to a host, whose table took it up
pub record HasReceived (c : HostParts) (from : HostId) (packet : WirePacket) (payload : List ℕ) (now : ℕ) (clients : Clients) (pool : Pool)
    (told : List ℕ) (d : ClientDid) : Type 0 where
  pub role : packet.role ≡ Server
  pub now_is : now ≡ c.control.last
  pub most : leased_pages c.pool.leases ≤ c.pool.pages
  pub received : Received c.clients c.pool (packet_between from c.clients.host packet payload) now c.order clients pool told d
  pub inside : AreIn pool (part_at clients.rows)

module _ (c : HostParts) (kept : IsKept c) {from : HostId} {packet : WirePacket} {payload : List ℕ} {now : ℕ} {clients : Clients} {pool : Pool}
    {told : List ℕ} {d : ClientDid} (taken : HasReceived c from packet payload now clients pool told d) where
  abbrev pub p : Packet
  p = from_server (record { client = c.control.id; inc = packet.inc; seq = packet.seq }) from packet payload

  pub is_p : p ≡ packet_between from c.control.id packet payload
  is_p = of_server from c.control.id packet payload p.id taken.role refl

  pub got : Received c.clients c.pool p now c.order clients pool told d
  got =
      subst (λ (q : Packet). Received c.clients c.pool q now c.order clients pool told d) (sym is_p)
      (subst (λ (h : HostId). Received c.clients c.pool (packet_between from h packet payload) now c.order clients pool told d) kept.one.client taken.received)

  -- the pages that all other messages leave free
  free_is : free_pages c.pool + pages_of (part_at c.clients.rows p.id) ≡ free_beside c.control.settings (host_of c) p.id
  free_is =
      let most = taken.most in
      let leased = kept.leased in
      let pages = kept.pages in
      let mine : client_pages (get (seen_rows c.pool c.clients.rows) p.id) ≡ pages_of (part_at c.clients.rows p.id) =
      ap client_pages (get-mapped (λ (x : Placed HeldRow). seen_row c.pool x.row) c.clients.rows p.id) ∙ row_pages_at c.pool (get c.clients.rows p.id) in
      let none : server_pages (get (host_of c).servers p.id) ≡ 0 = ap server_pages (kept.foreign p.id refl) in
      let free = pages_free c.control.settings (host_of c) p.id (omega arith) in
      omega arith

  -- what the plain rule does
  abbrev pub gets : Work → Did ClientRow
  gets w = client_gets c.control.settings (moment c.control.settings p.id w) p (get w.host.clients p.id)

  pub gets_is : (w : Work) → host_of c ≡ w.host → gets w ≡ answer_of (moment c.control.settings p.id w) p (row_at pool clients.rows p.id) told d
  gets_is w same =
      let s = c.control.settings in
      let rows = len w.host.servers in
      let m : moment_with c.clients.host now c.order (free_pages c.pool + pages_of (part_at c.clients.rows p.id)) rows ≡ moment s p.id w = λ i. record {
        host = (kept.one.client ∙ ap (λ (h : Host). h.id) same) i;
        now = (taken.now_is ∙ ap (λ (h : Host). h.last) same) i;
        order = ap (λ (h : Host). h.order) same i;
        free = (free_is ∙ ap (λ (h : Host). free_beside s h p.id) same) i;
        rows = rows;
      } in
      let row : row_at c.pool c.clients.rows p.id ≡ get w.host.clients p.id =
      sym (get-mapped (λ (x : Placed HeldRow). seen_row c.pool x.row) c.clients.rows p.id) ∙ ap (λ (h : Host). get h.clients p.id) same in
      subst (λ (o : Option ClientRow). client_gets s (moment s p.id w) p o ≡ answer_of (moment s p.id w) p (row_at pool clients.rows p.id) told d) row
      (subst (λ (m : Moment). client_gets s m p (row_at c.pool c.clients.rows p.id) ≡ answer_of m p (row_at pool clients.rows p.id) told d) m
      (subst (λ (s : Settings). client_gets s
      (moment_with c.clients.host now c.order (free_pages c.pool + pages_of (part_at c.clients.rows p.id)) rows) p (row_at c.pool c.clients.rows p.id)
      ≡ answer_of (moment_with c.clients.host now c.order (free_pages c.pool + pages_of (part_at c.clients.rows p.id)) rows) p
      (row_at pool clients.rows p.id) told d) kept.one.client_settings (got.did rows)))

  pub gets_row : (w : Work) → host_of c ≡ w.host → row_at pool clients.rows p.id ≡ (gets w).row
  gets_row w same =
      sym (ap (λ (d : Did ClientRow). d.row) (gets_is w same) ∙ answer_row (moment c.control.settings p.id w) p (row_at pool clients.rows p.id) told d)

  pub gets_order : (w : Work) → host_of c ≡ w.host → (gets w).order ≡ c.order + client_orders d
  gets_order w same =
      ap (λ (d : Did ClientRow). d.order) (gets_is w same) ∙ answer_order (moment c.control.settings p.id w) p (row_at pool clients.rows p.id) told d
      ∙ ap (λ (h : Host). h.order + client_orders d) (sym same)

  pub gets_whole : (w : Work) → host_of c ≡ w.host → SayWhole told (gets w).says
  gets_whole w same = subst (λ (x : Did ClientRow). SayWhole told x.says) (sym (gets_is w same))
      (answer_whole (moment c.control.settings p.id w) p (row_at pool clients.rows p.id) told d)

  pub gets_moved : (w : Work) → host_of c ≡ w.host → Moved p.id c.clients c.pool clients pool (gets w).row
  gets_moved w same = subst (λ (o : Option ClientRow). Moved p.id c.clients c.pool clients pool o) (gets_row w same) got.moved

  pub gets_stood : (slot : ℕ) → slot_in d ≡ Some slot → place_at c.clients.rows p.id ≡ Some slot
  gets_stood slot e = slot_stood p (get c.clients.rows p.id) slot (sym got.slot ∙ e)

  pub gets_change : (w : Work) → host_of c ≡ w.host → (slot : ℕ) → slot_in d ≡ Some slot → IsChange (client_change d) slot (gets w).row
  gets_change w same slot e = change_of d slot (gets w).row e (subst (λ (o : Option ClientRow). HasLeft d o) (gets_row w same) got.left)

  pub gets_known : IfSome (gets (silent c)).row (KnowsServer c.control.settings.hosts)
  gets_known = client_gets-known c.control.settings.hosts c.control.settings (moment c.control.settings p.id (silent c)) p
      (get (host_of c).clients p.id) (known_if c kept p.id (get (host_of c).clients p.id) refl)

  pub gets_own : Own (asked c.control.settings p.id from (gets (silent c)) (silent c))
  gets_own = row-own c.control.settings p (record { bytes = []; hold = 0 }) Server (silent c) kept.own
