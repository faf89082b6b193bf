-- A packet at a call's server, as the parts have it.
use Rattle.std.proofs.Common.{◌≡◌, ◌<◌, ◌≤◌, ◌+◌, ℕ, ◌==◌, Bool, true, false, cond, inr, refl, sym, ap, subst, ◌∙◌, arith, List, [], Option, Some, None}
use Rattle.std.specs.Option.{option_map, option_map_or, unwrap_or, IfSome, IsSome}
use Rattle.std.proofs.lemmas.Bool.{cond_both}
use Rattle.plain_sets.specs.Maps.{get, len}
use Rattle.plain_sets.proofs.MapMembers.{same_some}
use Rattle.homa_plain.specs.declared.id.CallId.{CallId}
use Rattle.homa_plain.specs.declared.id.HostId.{HostId}
use Rattle.homa_plain.specs.declared.packet.Role.{Role}
use Rattle.homa_plain.specs.declared.packet.Role.TheVariants.{Client}
use Rattle.homa_plain.specs.declared.packet.Packet.{Packet as WirePacket}
use Rattle.homa_plain.specs.declared.settings.Settings.{Settings}
use Rattle.homa_plain.specs.declared.packet.Body.{Body}
use Rattle.homa_plain.specs.declared.packet.Body.TheVariants as body
use Rattle.homa_plain.specs.Host.{Host, PeerCutoffs, peer_cutoffs, free_beside}
use Rattle.homa_plain.specs.Packets.{Packet, packet_between, call_between, server_between}
use Rattle.homa_plain.specs.Rows.{ClientRow, ServerRow, set_row}
use Rattle.homa_plain.specs.Rules.{Moment, Answer, Did, Piece}
use Rattle.homa_plain.specs.AtServer.{server_gets}
use Rattle.homa_plain.specs.Timers.{OfServer}
use Rattle.homa_plain.specs.Work.{Work, begun}
use Rattle.homa_plain.specs.Steps.{moment, served}
use Rattle.homa_plain.specs.CutoffsPackets.{is_newer, hears_cutoffs}
use Rattle.step_laws.proofs.OwnOrders.{Own, row-own}
use Rattle.step_laws.proofs.ToldBy.{served-carried, served-clients, served-servers}
use Rattle.msg_pool.specs.Pool.{Pool, leased_pages, free_pages}
use Rattle.homa_in.specs.Pooled.{pages_of}
use Rattle.homa_in.specs.Pieces.{piece_in, moment_with}
use Rattle.host_places.specs.Placed.{Placed, StandsAt, ArePlaced, spot_at}
use Rattle.host_places.proofs.MappedLaws.{get-mapped, len-mapped}
use Rattle.host_view.specs.declared.outbox.SentFrame.{SentFrame}
use Rattle.homa_client.specs.AtTable.{seen_rows}
use Rattle.host_view.specs.Marks.{response_of, response_in as mark_response}
use Rattle.homa_server.specs.Held.{HeldServer, HeldState, Arriving, Keeping, Answering, Gone, seen_server, seen_state, response_in as held_response}
use Rattle.homa_server.specs.Answers.{served_of, service_in, slot_in, IsSlotOf, IsReply, version_there}
use Rattle.homa_server.specs.Table.{Servers, ServerRows, Served, seen_servers, server_at, slot_at, request_at, response_at, server_moment}
use Rattle.homa_server.specs.declared.answers.ServerDid.{ServerDid}
use Rattle.homa_server.specs.declared.answers.ServerDid.TheVariants as did
use Rattle.host_state.specs.Control.{Control, IsSound, IsAt}
use Rattle.host_books.specs.declared.books.Books.{Books}
use Rattle.host_books.specs.Duties.{HaveRoom}
use Rattle.host_books.specs.Pages.{client_pages, server_pages}
use Rattle.host_books.specs.Duty.{server_duty_in, followed}
use Rattle.host_books.specs.Stood.{Stood}
use Rattle.host_books.proofs.PageSums.{pages_free}
use Rattle.host_laws.specs.Peers.{KnowsClient, KnowsSender}
use Rattle.host_laws.proofs.Known.{server_gets-known}
use Rattle.homa_host.specs.Parts.{host_of, seen_of, IsKept}
use Rattle.homa_host.specs.Amid.{Amid}
use Rattle.homa_host.specs.Outcomes.{server_change, server_orders, one_if, IfStays, IfChanged, IfServerTouched}
use Rattle.homa_host.specs.ServerFollow.{MayStayServer, CanFollowServer, FollowedServer}
use Rattle.homa_host.specs.declared.parts.HostParts.{HostParts}
use Rattle.homa_host.specs.declared.outcome.Change.{Change}
use Rattle.homa_host.specs.declared.outcome.Change.TheVariants.{Nothing}
use Rattle.homa_host.proofs.AskedLaws.{silent, served-aside, amid_of}
use Rattle.homa_host.proofs.Begun.{GoesOn, kept-control}
use Rattle.homa_host.proofs.ServerHeard.{HasHeard}
use Rattle.homa_host.proofs.ServerKept.{state_pages_of, seen_after, clients_same, served_orders, served_kept}
use Rattle.homa_host.proofs.ServerFollows.{IsServerChange, follow_stands, follow_within, follow_may, follow_books}
use Rattle.homa_host.proofs.ServerActLaws.{placed_in, known_row, few_places}

-- ---- answers

-- an answer of the service that is that of the row, where it ran
abbrev pub reply_of : ServerDid → List ℕ → Answer
reply_of did.Nothing response = record { bytes = []; hold = 0 }
reply_of (did.Touched slot) response = record { bytes = []; hold = 0 }
reply_of (did.Opened slot) response = record { bytes = []; hold = 0 }
reply_of (did.Ran slot opened hold) response = record { bytes = response; hold = hold }
reply_of (did.FullRows rows) response = record { bytes = []; hold = 0 }
reply_of (did.FullPages need free) response = record { bytes = []; hold = 0 }
reply_of (did.Gaps slot) response = record { bytes = []; hold = 0 }
reply_of (did.Busy slot) response = record { bytes = []; hold = 0 }
reply_of (did.Unknown slot) response = record { bytes = []; hold = 0 }

pub is_reply_of : (d : ServerDid) (response : List ℕ) → IsReply response (reply_of d response) d
is_reply_of did.Nothing response = tt
is_reply_of (did.Touched slot) response = tt
is_reply_of (did.Opened slot) response = tt
is_reply_of (did.Ran slot opened hold) response = refl
is_reply_of (did.FullRows rows) response = tt
is_reply_of (did.FullPages need free) response = tt
is_reply_of (did.Gaps slot) response = tt
is_reply_of (did.Busy slot) response = tt
is_reply_of (did.Unknown slot) response = tt

module _ (s : Settings) (m : Moment) (id : CallId) (piece : Option Piece) (row : Option ServerRow) (told : List ℕ) (a : Answer) where
  answer_row : (d : ServerDid) → (served_of s m id piece row told a d).row ≡ row
  answer_row did.Nothing = refl
  answer_row (did.Touched slot) = refl
  answer_row (did.Opened slot) = refl
  answer_row (did.Ran slot true hold) = refl
  answer_row (did.Ran slot false hold) = refl
  answer_row (did.FullRows rows) = refl
  answer_row (did.FullPages need free) = refl
  answer_row (did.Gaps slot) = refl
  answer_row (did.Busy slot) = refl
  answer_row (did.Unknown slot) = refl

  one_more : (b : Bool) (n : ℕ) → cond b (n + 1) n ≡ n + one_if b
  one_more true n = refl
  one_more false n = omega arith

  answer_order : (d : ServerDid) → (served_of s m id piece row told a d).order ≡ m.order + server_orders d
  answer_order did.Nothing = omega arith
  answer_order (did.Touched slot) = omega arith
  answer_order (did.Opened slot) = refl
  answer_order (did.Ran slot true hold) = let e = one_more (hold == 0) (m.order + 1) in omega (arith, e)
  answer_order (did.Ran slot false hold) = let e = one_more (hold == 0) m.order in omega (arith, e)
  answer_order (did.FullRows rows) = omega arith
  answer_order (did.FullPages need free) = omega arith
  answer_order (did.Gaps slot) = omega arith
  answer_order (did.Busy slot) = omega arith
  answer_order (did.Unknown slot) = omega arith

-- the row's change, by the answer
change_of : (d : ServerDid) (slot : ℕ) (row : Option ServerRow) → slot_in d ≡ Some slot → IsSome row → IsServerChange (server_change d) slot row
change_of did.Nothing slot row e is = cc
change_of (did.Touched n) slot row e is = (same_some n slot e, is)
change_of (did.Opened n) slot row e is = (same_some n slot e, is)
change_of (did.Ran n opened hold) slot row e is = (same_some n slot e, is)
change_of (did.FullRows rows) slot row e is = cc
change_of (did.FullPages need free) slot row e is = cc
change_of (did.Gaps n) slot row e is = (same_some n slot e, is)
change_of (did.Busy n) slot row e is = (same_some n slot e, is)
change_of (did.Unknown None) slot row e is = cc
change_of (did.Unknown (Some n)) slot row e is = (same_some n slot e, is)

no_change : (d : ServerDid) → slot_in d ≡ None → server_change d ≡ Nothing
no_change did.Nothing e = refl
no_change (did.Touched n) e = cc
no_change (did.Opened n) e = cc
no_change (did.Ran n opened hold) e = cc
no_change (did.FullRows rows) e = refl
no_change (did.FullPages need free) e = refl
no_change (did.Gaps n) e = cc
no_change (did.Busy n) e = cc
no_change (did.Unknown None) e = refl
no_change (did.Unknown (Some n)) e = cc

no_orders : (d : ServerDid) → slot_in d ≡ None → server_orders d ≡ 0
no_orders did.Nothing e = refl
no_orders (did.Touched n) e = cc
no_orders (did.Opened n) e = cc
no_orders (did.Ran n opened hold) e = cc
no_orders (did.FullRows rows) e = refl
no_orders (did.FullPages need free) e = refl
no_orders (did.Gaps n) e = cc
no_orders (did.Busy n) e = cc
no_orders (did.Unknown n) e = refl

slot_is : (d : ServerDid) (place : Option ℕ) (slot : ℕ) → IsSlotOf place d → slot_in d ≡ Some slot → place ≡ Some slot
slot_is did.Nothing place slot is e = cc
slot_is (did.Touched n) place slot is e = is ∙ e
slot_is (did.Opened n) place slot is e = is ∙ e
slot_is (did.Ran n opened hold) place slot is e = is ∙ e
slot_is (did.FullRows rows) place slot is e = cc
slot_is (did.FullPages need free) place slot is e = cc
slot_is (did.Gaps n) place slot is e = is ∙ e
slot_is (did.Busy n) place slot is e = is ∙ e
slot_is (did.Unknown n) place slot is e = is ∙ e

-- a row that was touched stands
pub touched_stays : (P : ℕ → Type 0) (d : ServerDid) → IfStays (server_change d) P → IfServerTouched d P
touched_stays P did.Nothing h = tt
touched_stays P (did.Touched n) h = h
touched_stays P (did.Opened n) h = tt
touched_stays P (did.Ran n opened hold) h = tt
touched_stays P (did.FullRows rows) h = tt
touched_stays P (did.FullPages need free) h = tt
touched_stays P (did.Gaps n) h = tt
touched_stays P (did.Busy n) h = tt
touched_stays P (did.Unknown n) h = tt

-- what is known of a row that was touched
touched_row : (X : Type 0) (P : ℕ → Type 0) (d : ServerDid) (slot : ℕ) → slot_in d ≡ Some slot → IfServerTouched d P → (P slot → X) → IfServerTouched d (λ _. X)
touched_row X P did.Nothing slot e h k = tt
touched_row X P (did.Touched n) slot e h k = k (subst P (same_some n slot e) h)
touched_row X P (did.Opened n) slot e h k = tt
touched_row X P (did.Ran n opened hold) slot e h k = tt
touched_row X P (did.FullRows rows) slot e h k = tt
touched_row X P (did.FullPages need free) slot e h k = tt
touched_row X P (did.Gaps n) slot e h k = tt
touched_row X P (did.Busy n) slot e h k = tt
touched_row X P (did.Unknown n) slot e h k = tt

-- the response of a call, as it is seen
seen_response : (pool : Pool) (state : HeldState) → mark_response (seen_state pool state) ≡ held_response state
seen_response pool (Arriving service part base count) = refl
seen_response pool (Keeping response release) = refl
seen_response pool (Answering response out order base count) = refl
seen_response pool (Gone until) = refl

pub response_same : (pool : Pool) (rows : ServerRows) (id : CallId) (h : Host) → h.servers ≡ seen_servers pool rows → response_of h id ≡ response_at rows id
response_same pool rows id h e = ap (λ m. unwrap_or (option_map (λ (r : ServerRow). mark_response r.state) (get m id)) []) e
    ∙ ap (λ o. unwrap_or (option_map (λ (r : ServerRow). mark_response r.state) o) [])
    (get-mapped (λ (x : Placed HeldServer). seen_server pool x.row) rows id) ∙ by_row (get rows id) where
      by_row : (o : Option (Placed HeldServer))
          → unwrap_or (option_map (λ (r : ServerRow). mark_response r.state) (option_map (λ (x : Placed HeldServer). seen_server pool x.row) o))
          [] ≡ option_map_or (λ (x : Placed HeldServer). held_response x.row.state) o []
      by_row None = refl
      by_row (Some x) = seen_response pool x.row.state

-- ---- the packet

abbrev pub from_client : HostId → HostId → WirePacket → List ℕ → Packet
from_client from host w payload = record {
  role = Client;
  id = record { client = from; inc = w.inc; seq = w.seq };
  server = host;
  inc = w.sender;
  at = w.at;
  level = w.level;
  body = w.body;
  payload = payload;
}

pub of_client : (from host : HostId) (w : WirePacket) (payload : List ℕ) → w.role ≡ Client
    → from_client from host w payload ≡ packet_between from host w payload
of_client from host w payload e = ap (λ (role : Role). record {
  role = role;
  id = call_between role from host w.inc w.seq;
  server = server_between role from host;
  inc = w.sender;
  at = w.at;
  level = w.level;
  body = w.body;
  payload = payload;
}) (sym e)

-- the pages that all other messages leave free
free_left : (c : HostParts) (kept : IsKept c) (id : CallId) → (id.client ≡ c.control.id → ⊥) → leased_pages c.pool.leases ≤ c.pool.pages
    → free_pages c.pool + pages_of (request_at c.servers.rows id) ≡ free_beside c.control.settings (host_of c) id
free_left c kept id other most =
    let leased = kept.leased in
    let pages = kept.pages in
    let mine : server_pages (get (seen_servers c.pool c.servers.rows) id) ≡ pages_of (request_at c.servers.rows id) =
    ap server_pages (get-mapped (λ (x : Placed HeldServer). seen_server c.pool x.row) c.servers.rows id) ∙ state_pages_of c.pool (get c.servers.rows id) in
    let none : client_pages (get (host_of c).clients id) ≡ 0 = none_of (get (host_of c).clients id) refl in
    let free = pages_free c.control.settings (host_of c) id (omega arith) in
    omega arith where
      none_of : (o : Option ClientRow) → get (host_of c).clients id ≡ o → client_pages o ≡ 0
      none_of None e = refl
      none_of (Some r) e = absurd (other (kept.known.own id r e).0)

-- a packet of a client came to a host, whose table took it up
pub record HasReceived (c : HostParts) (from : HostId) (packet : WirePacket) (payload : List ℕ) (now : ℕ) (servers : Servers) (pool : Pool)
    (told : List ℕ) (allowed : List ℕ → List ℕ → ℕ → Type 0) (d : ServerDid) : Type 0 where
  pub known : from.0 < c.control.settings.hosts
  pub other : from ≡ c.control.id → ⊥
  pub role : packet.role ≡ Client
  pub life : 1 ≤ packet.inc
  pub now_is : now ≡ c.control.last
  pub most : leased_pages c.pool.leases ≤ c.pool.pages
  pub received : Served c.servers c.pool (packet_between from c.servers.host packet payload) now c.order servers pool told allowed d
  pub placed : ArePlaced servers.settings.served servers.rows

module _ (c : HostParts) (kept : IsKept c) {from : HostId} {packet : WirePacket} {payload : List ℕ} {now : ℕ} {servers : Servers} {pool : Pool}
    {told : List ℕ} {allowed : List ℕ → List ℕ → ℕ → Type 0} {d : ServerDid}
    (taken : HasReceived c from packet payload now servers pool told allowed d) where
  abbrev pub p : Packet
  p = from_client from c.control.id packet payload

  pub is_p : p ≡ packet_between from c.control.id packet payload
  is_p = of_client from c.control.id packet payload taken.role

  pub got : Served c.servers c.pool p now c.order servers pool told allowed d
  got =
      subst (λ (q : Packet). Served c.servers c.pool q now c.order servers pool told allowed d) (sym is_p)
      (subst (λ (h : HostId). Served c.servers c.pool (packet_between from h packet payload) now c.order servers pool told allowed d) kept.one.server
      taken.received)

  abbrev pub row_now : Option ServerRow
  row_now = server_at pool servers.rows p.id

  free_is : free_pages c.pool + pages_of (request_at c.servers.rows p.id) ≡ free_beside c.control.settings (host_of c) p.id
  free_is = free_left c kept p.id taken.other taken.most

  -- what the plain rule does
  abbrev pub gets : Answer → Work → Did ServerRow
  gets a w = server_gets c.control.settings (moment c.control.settings p.id w) p a (get w.host.servers p.id)

  abbrev pub Replies : Answer → Type 0
  Replies a = IsReply (response_at servers.rows p.id) a d

  pub gets_is : (a : Answer) → Replies a → (w : Work) → host_of c ≡ w.host
      → gets a w ≡ served_of c.control.settings (moment c.control.settings p.id w) p.id (piece_in p.body p.payload) row_now told a d
  gets_is a reply w same =
      let s = c.control.settings in
      let piece = piece_in p.body p.payload in
      let m : moment_with c.servers.host now c.order (free_pages c.pool + pages_of (request_at c.servers.rows p.id)) (len c.servers.rows) ≡ moment s p.id w =
      λ i. record {
        host = (kept.one.server ∙ ap (λ (h : Host). h.id) same) i;
        now = (taken.now_is ∙ ap (λ (h : Host). h.last) same) i;
        order = ap (λ (h : Host). h.order) same i;
        free = (free_is ∙ ap (λ (h : Host). free_beside s h p.id) same) i;
        rows = (sym (len-mapped (λ (x : Placed HeldServer). seen_server c.pool x.row) c.servers.rows) ∙ ap (λ (h : Host). len h.servers) same) i;
      } in
      let row : server_at c.pool c.servers.rows p.id ≡ get w.host.servers p.id =
      sym (get-mapped (λ (x : Placed HeldServer). seen_server c.pool x.row) c.servers.rows p.id) ∙ ap (λ (h : Host). get h.servers p.id) same in
      subst (λ (o : Option ServerRow). server_gets s (moment s p.id w) p a o ≡ served_of s (moment s p.id w) p.id piece row_now told a d) row
      (subst (λ (m : Moment). server_gets s m p a (server_at c.pool c.servers.rows p.id) ≡ served_of s m p.id piece row_now told a d) m
      (subst (λ (s : Settings). server_gets s
      (moment_with c.servers.host now c.order (free_pages c.pool + pages_of (request_at c.servers.rows p.id)) (len c.servers.rows)) p a
      (server_at c.pool c.servers.rows p.id)
      ≡ served_of s (moment_with c.servers.host now c.order (free_pages c.pool + pages_of (request_at c.servers.rows p.id)) (len c.servers.rows)) p.id
      piece row_now told a d) kept.one.server_settings (got.did a reply)))

  abbrev pub answer : Answer
  answer = reply_of d (response_at servers.rows p.id)

  pub replies : Replies answer
  replies = is_reply_of d (response_at servers.rows p.id)

  gets_row : (a : Answer) → Replies a → (w : Work) → host_of c ≡ w.host → (gets a w).row ≡ row_now
  gets_row a reply w same = ap (λ (d : Did ServerRow). d.row) (gets_is a reply w same) ∙ answer_row c.control.settings
      (moment c.control.settings p.id w) p.id (piece_in p.body p.payload) row_now told a d

  gets_order : (a : Answer) → Replies a → (w : Work) → host_of c ≡ w.host → (gets a w).order ≡ c.order + server_orders d
  gets_order a reply w same =
      ap (λ (d : Did ServerRow). d.order) (gets_is a reply w same) ∙ answer_order c.control.settings (moment c.control.settings p.id w) p.id
      (piece_in p.body p.payload) row_now told a d
      ∙ ap (λ (h : Host). h.order + server_orders d) (sym same)

  gets_own : Own (served c.control.settings p.id (gets answer (silent c)) (silent c))
  gets_own = row-own c.control.settings p answer Client (silent c) kept.own

  gets_known : IfSome row_now (KnowsClient c.control.settings.hosts p.id)
  gets_known = subst (λ (o : Option ServerRow). IfSome o (KnowsClient c.control.settings.hosts p.id)) (gets_row answer replies (silent c) refl)
      (known_row c.control.settings.hosts p.id taken.known taken.life (gets answer (silent c)).row
      (server_gets-known c.control.settings.hosts p.id taken.known c.control.settings (moment c.control.settings p.id (silent c)) p answer
      (get (host_of c).servers p.id) refl (old_known (get (host_of c).servers p.id) refl))) where
        old_known : (o : Option ServerRow) → get (host_of c).servers p.id ≡ o → IfSome o (λ row. KnowsSender c.control.settings.hosts row.state)
        old_known None e = tt
        old_known (Some row) e = (kept.known.servers p.id row e).sender

  placed : ArePlaced c.control.settings.served servers.rows
  placed = placed_in c kept p.id servers pool row_now got.moved taken.placed

  -- where the answer names a slot, the row stands there
  module _ (slot : ℕ) (e : slot_in d ≡ Some slot) where
    at_slot : slot_at servers.rows p.id ≡ Some slot
    at_slot = slot_is d (slot_at servers.rows p.id) slot got.slot e

    row_in : (o : Option (Placed HeldServer)) → get servers.rows p.id ≡ o → (x : Placed HeldServer) × ((get servers.rows p.id ≡ Some x) × (x.place ≡ slot))
    row_in None f = let a : None ≡ Some slot = ap (option_map (λ (z : Placed HeldServer). z.place)) (sym f) ∙ at_slot in cc
    row_in (Some x) f = (x, (f, same_some _ _ (ap (option_map (λ (z : Placed HeldServer). z.place)) (sym f) ∙ at_slot)))

    there : (x : Placed HeldServer) × ((get servers.rows p.id ≡ Some x) × (x.place ≡ slot))
    there = row_in (get servers.rows p.id) refl

    after : (x : Placed HeldServer) → get servers.rows p.id ≡ Some x → x.place ≡ slot
    after x f = ap (λ (z : Placed HeldServer). z.place) (same_some x there.0 (sym f ∙ there.1.0)) ∙ there.1.1

    before : (x : Placed HeldServer) → get c.servers.rows p.id ≡ Some x → x.place ≡ slot
    before x f = sym (got.moved.changed.place x there.0 f there.1.0) ∙ there.1.1

    is_some : IsSome row_now
    is_some = subst (λ (o : Option (Placed HeldServer)). IsSome (option_map (λ (x : Placed HeldServer). seen_server pool x.row) o)) (sym there.1.0) refl

    change : IsServerChange (server_change d) slot row_now
    change = change_of d slot row_now e is_some

    stood : (order : ℕ) → Stood (OfServer p.id) (seen_of c) (seen_after c kept p.id slot servers pool row_now got.moved before after placed order)
    stood order = inr (
      seen_server pool there.0.row,
      get-mapped (λ (x : Placed HeldServer). seen_server pool x.row) servers.rows p.id
          ∙ ap (option_map (λ (x : Placed HeldServer). seen_server pool x.row)) there.1.0,
    )

    row_is : (gets answer (silent c)).row ≡ row_now
    row_is = gets_row answer replies (silent c) refl

    may_there : IfStays (server_change d) (MayStayServer servers c.control.settings.calls c.books)
    may_there =
        let orders = served_orders c kept p.id slot servers pool row_now got.moved before after placed (gets answer (silent c)) row_is c.control gets_own in
        follow_may c kept p.id slot servers pool row_now got.moved before after placed (gets answer (silent c)).order
        (stood (gets answer (silent c)).order) orders gets_known (server_change d) change

    stands_there : IfStays (server_change d) (λ n. IsSome (spot_at servers.rows n))
    stands_there = follow_stands c kept p.id slot servers pool row_now got.moved before after placed (server_change d) change

    within_there : IfChanged (server_change d) (λ n. n < servers.settings.served)
    within_there = follow_within c kept p.id slot servers pool row_now got.moved before after placed (server_change d)
        (subst (λ n. n < c.control.settings.served) there.1.1 (placed.within p.id there.0 there.1.0)) change

    books_there : (books : Books) → FollowedServer servers c.control.settings.calls (server_change d) c.books books
        → books ≡ followed (c.control.settings.calls + slot) (server_duty_in c.control.settings row_now) c.books
    books_there books f = follow_books c kept p.id slot servers pool row_now got.moved before after placed (server_change d) books change f

    kept_there : (books : Books) (control : Control) (order : ℕ) → order ≡ c.order + server_orders d
        → FollowedServer servers c.control.settings.calls (server_change d) c.books books → IsSound control
        → control ≡ record c.control { tuning = control.tuning; marks = control.marks } → control.tuning.opened ≤ order
        → IsKept (record { control = control; clients = c.clients; servers = servers; pool = pool; books = books; order = order })
    kept_there books control order order_is f sound same opened =
        let b = books_there books f in
        let did : Did ServerRow = gets answer (silent c) in
        let count : did.order ≡ order = gets_order answer replies (silent c) refl ∙ sym order_is in
        let all = served_kept c kept p.id slot servers pool row_now got.moved before after placed did row_is control (stood did.order) sound same
        (subst (λ n. control.tuning.opened ≤ n) (sym count) opened)
        (subst (λ (o : Option ServerRow). IfSome o (KnowsClient c.control.settings.hosts p.id)) (sym row_is) gets_known) taken.other gets_own in
        subst (λ (q : HostParts). IsKept q)
        (λ i. record { control = control; clients = c.clients; servers = servers; pool = pool; books = (sym b) i; order = count i }) all

    clients_there : seen_rows pool c.clients.rows ≡ seen_rows c.pool c.clients.rows
    clients_there = clients_same c kept p.id slot servers pool row_now got.moved before after placed

  -- by whether the answer names a slot
  by_slot : (P : Type 0) → (slot_in d ≡ None → P) → ((slot : ℕ) → slot_in d ≡ Some slot → P) → P
  by_slot P none some = elim (slot_in d) as (λ o. slot_in d ≡ o → P) [ None ↦ none | Some slot ↦ some slot ] refl

  pub gets_stands : IfStays (server_change d) (λ n. IsSome (spot_at servers.rows n))
  gets_stands = by_slot _ (λ e. subst (λ (ch : Change). IfStays ch (λ n. IsSome (spot_at servers.rows n))) (sym (no_change d e)) tt) stands_there

  -- the books can follow this change, where so many slots of clients' rows stand before
  pub gets_follows : (calls : ℕ) (ch : Change) → calls ≡ c.control.settings.calls → ch ≡ server_change d → CanFollowServer servers calls c.books ch
  gets_follows calls ch calls_are ch_is = subst (λ (y : ℕ × Change). CanFollowServer servers y.0 c.books y.1) (λ i. (sym calls_are i, sym ch_is i)) (record {
    stands = gets_stands;
    may = by_slot _ (λ e. subst (λ (ch : Change). IfStays ch (MayStayServer servers c.control.settings.calls c.books)) (sym (no_change d e)) tt) may_there;
    room = subst (λ (s : Settings). HaveRoom s c.books) (sym same) kept.room;
    calls = ap (λ (s : Settings). s.calls) (sym same);
    within = by_slot _ (λ e. subst (λ (ch : Change). IfChanged ch (λ n. n < servers.settings.served)) (sym (no_change d e)) tt) within_there;
    small = few_places c kept c.control.settings servers.settings refl same;
  }) where
    same : servers.settings ≡ c.control.settings
    same = ap (λ (t : Servers). t.settings) got.moved.kept ∙ kept.one.server_settings

  -- the version in a first piece of the row that was touched
  pub gets_touched : (v : Option ℕ) (piece : Option Piece)
      → ((r : HeldServer) → IfServerTouched d (λ slot. StandsAt servers.rows p.id slot r → v ≡ version_there piece (Some (seen_server pool r))))
      → IfServerTouched d (λ _. v ≡ version_there piece row_now)
  gets_touched v piece f =
      by_slot _ (λ e. touched_stays (λ _. v ≡ version_there piece row_now) d
      (subst (λ (ch : Change). IfStays ch (λ _. v ≡ version_there piece row_now)) (sym (no_change d e)) tt))
      (λ slot e.
      let x = there slot e in
      touched_row (v ≡ version_there piece row_now)
      (λ n. StandsAt servers.rows p.id n x.0.row → v ≡ version_there piece (Some (seen_server pool x.0.row))) d slot e (f x.0.row)
      (λ h. h (x.1.0 ∙ ap (λ (n : ℕ). Some (record { place = n; row = x.0.row })) x.1.1)
      ∙ ap (λ (o : Option (Placed HeldServer)). version_there piece (option_map (λ (x : Placed HeldServer). seen_server pool x.row) o)) (sym x.1.0)))

  module _ (control : Control) (books : Books) (order : ℕ) (order_is : order ≡ c.order + server_orders d)
      (follows : FollowedServer servers c.control.settings.calls (server_change d) c.books books) where
    abbrev pub parts : HostParts
    parts = record { control = control; clients = c.clients; servers = servers; pool = pool; books = books; order = order }

    same_books : slot_in d ≡ None → books ≡ c.books
    same_books e = subst (λ (ch : Change). FollowedServer servers c.control.settings.calls ch c.books books) (no_change d e) follows

    pub gets_kept : IsSound control → control ≡ record c.control { tuning = control.tuning; marks = control.marks }
        → c.control.tuning.opened ≤ control.tuning.opened → control.tuning.opened ≤ c.control.tuning.opened + server_orders d → IsKept parts
    gets_kept sound same no_fewer opened = by_slot (IsKept parts)
        (λ e.
        let both = got.same e in
        let none = no_orders d e in
        let on : GoesOn c.control control = record {
          settings = ap (λ (x : Control). x.settings) same;
          id = ap (λ (x : Control). x.id) same;
          inc = ap (λ (x : Control). x.inc) same;
          last = omega (arith, ap (λ (x : Control). x.last) same);
          opened = omega (arith, no_fewer, opened, none);
        } in
        let all = kept-control c control on sound kept in
        let count : c.order ≡ order = omega (arith, order_is, none) in
        subst (λ (x : HostParts). IsKept x)
        (λ i. record {
          control = control;
          clients = c.clients;
          servers = (sym both.0) i;
          pool = (sym both.1) i;
          books = (sym (same_books e)) i;
          order = count i;
        }) all)
        (λ slot e. kept_there slot e books control order order_is follows sound same (omega (arith, opened, kept.opened, order_is)))

    clients_are : seen_rows pool c.clients.rows ≡ seen_rows c.pool c.clients.rows
    clients_are = by_slot _ (λ e. ap (λ (q : Pool). seen_rows q c.clients.rows) (got.same e).1) clients_there

    credit_is : books.pacer.credit ≡ c.books.pacer.credit
    credit_is =
        by_slot _ (λ e. ap (λ (b : Books). b.pacer.credit) (same_books e)) (λ slot e. ap (λ (b : Books). b.pacer.credit) (books_there slot e books follows))

    refilled_is : books.pacer.refilled ≡ c.books.pacer.refilled
    refilled_is =
        by_slot _ (λ e. ap (λ (b : Books). b.pacer.refilled) (same_books e)) (λ slot e. ap (λ (b : Books). b.pacer.refilled) (books_there slot e books follows))

    pub gets_amid : (a : Answer) → Replies a → (w : Work) (before frames : List SentFrame) → Amid w c before
        → IsAt (served c.control.settings p.id (gets a w) w) control frames → Amid (served c.control.settings p.id (gets a w) w) parts frames
    gets_amid a reply w before frames amid at =
        let s = c.control.settings in
        let did : Did ServerRow = gets a w in
        let v : Work = served s p.id did w in
        let aside = served-aside s p.id did w in
        amid_of v parts frames at
        (ap (λ (h : Host). h.seq) amid.host ∙ sym aside.seq)
        (order_is ∙ sym (gets_order a reply w amid.host) ∙ sym (served-carried s p.id did w).order)
        (credit_is ∙ ap (λ (h : Host). h.credit) amid.host ∙ sym aside.credit)
        (refilled_is ∙ ap (λ (h : Host). h.refilled) amid.host ∙ sym aside.refilled)
        (clients_are ∙ ap (λ (h : Host). h.clients) amid.host ∙ sym (served-clients s p.id did w))
        (got.moved.rows ∙ ap (λ (h : Host). set_row h.servers p.id row_now) amid.host ∙ ap (set_row w.host.servers p.id)
        (sym (gets_row a reply w amid.host)) ∙ sym (served-servers s p.id did w))

-- a host heard a packet of a client, which its table had taken up
pub record HasTaken (host : HostParts) (from : HostId) (packet : WirePacket) (payload : List ℕ) (now : ℕ) (control : Control) (servers : Servers)
    (pool : Pool) (told : List ℕ) (allows : ℕ → List ℕ → List ℕ → ℕ → Type 0) (d : ServerDid) : Type 0 where
  pub heard : HasHeard host from packet now control
  pub taken : HasReceived (record host { control = control }) from packet payload now servers pool told (allows (service_in (piece_in packet.body payload))) d

pub taken_by : (host : HostParts) (from : HostId) (packet : WirePacket) (payload : List ℕ) (now : ℕ) (control : Control) (servers : Servers)
    (pool : Pool) (told : List ℕ) (allows : ℕ → List ℕ → List ℕ → ℕ → Type 0) (d : ServerDid)
    → HasHeard host from packet now control → from.0 < host.control.settings.hosts → (from ≡ host.control.id → ⊥) → packet.role ≡ Client
    → 1 ≤ packet.inc → leased_pages host.pool.leases ≤ host.pool.pages
    → Served host.servers host.pool (packet_between from host.servers.host packet payload) now host.order servers pool told
    (allows (service_in (piece_in packet.body payload))) d → ArePlaced servers.settings.served servers.rows
    → HasTaken host from packet payload now control servers pool told allows d
taken_by host from packet payload now control servers pool told allows d heard known other role life most received placed = record {
  heard = heard;
  taken = record {
    known = subst (λ (s : Settings). from.0 < s.hosts) (sym heard.on.settings) known;
    other = λ e. other (e ∙ heard.on.id);
    role = role;
    life = life;
    now_is = sym heard.last;
    most = most;
    received = received;
    placed = placed;
  };
}

-- ---- where the service found no memory

module _ (c : HostParts) (kept : IsKept c) (from : HostId) (other : from ≡ c.control.id → ⊥) (packet : WirePacket) (payload : List ℕ)
    (role : packet.role ≡ Client) (now : ℕ) (most : leased_pages c.pool.leases ≤ c.pool.pages) where
  abbrev q : Packet
  q = from_client from c.control.id packet payload

  pub gets_then : (a : Answer) (w : Work) (peers : List PeerCutoffs) → record (host_of c) { last = now; peers = peers } ≡ w.host
      → let x = packet_between from c.servers.host packet payload in
      let y = packet_between from c.control.id packet payload in
      server_gets c.servers.settings (server_moment c.servers now c.order c.pool x.id) x a (server_at c.pool c.servers.rows x.id)
      ≡ server_gets c.control.settings (moment c.control.settings y.id w) y a (get w.host.servers y.id)
  gets_then a w peers same =
      let s = c.control.settings in
      let h : Host = record (host_of c) { last = now; peers = peers } in
      let m : server_moment c.servers now c.order c.pool q.id ≡ moment s q.id w = λ i. record {
        host = (kept.one.server ∙ ap (λ (h : Host). h.id) same) i;
        now = ap (λ (h : Host). h.last) same i;
        order = ap (λ (h : Host). h.order) same i;
        free = (free_left c kept q.id other most ∙ ap (λ (h : Host). free_beside s h q.id) same) i;
        rows = (sym (len-mapped (λ (x : Placed HeldServer). seen_server c.pool x.row) c.servers.rows) ∙ ap (λ (h : Host). len h.servers) same) i;
      } in
      let row : server_at c.pool c.servers.rows q.id ≡ get w.host.servers q.id =
      sym (get-mapped (λ (x : Placed HeldServer). seen_server c.pool x.row) c.servers.rows q.id) ∙ ap (λ (h : Host). get h.servers q.id) same in
      ap (λ (t : HostId × Settings). let x = packet_between from t.0 packet payload in
      server_gets t.1 (server_moment c.servers now c.order c.pool x.id) x a (server_at c.pool c.servers.rows x.id))
      (λ i. (kept.one.server i, kept.one.server_settings i))
      ∙ ap (λ (x : Packet). server_gets s (server_moment c.servers now c.order c.pool x.id) x a (server_at c.pool c.servers.rows x.id))
      (sym (of_client from c.control.id packet payload role))
      ∙ (λ i. server_gets s (m i) q a (row i))
      ∙ ap (λ (x : Packet). server_gets s (moment s x.id w) x a (get w.host.servers x.id)) (of_client from c.control.id packet payload role)

-- a host that hears cutoffs goes on to another tick, with others' cutoffs
pub heard_host : (s : Settings) (from : HostId) (inc : ℕ) (what : Body) (c : HostParts) (now : ℕ) → let w =
    hears_cutoffs s from inc what (begun (host_of c) now) in record (host_of c) { last = now; peers = w.host.peers } ≡ w.host
heard_host s from inc (body.Cutoffs cutoffs) c now = cond_both (is_newer inc cutoffs (peer_cutoffs s (begun (host_of c) now).host from)) _ _
    (λ (v : Work). record (host_of c) { last = now; peers = v.host.peers } ≡ v.host) (λ _. refl) (λ _. refl)
heard_host s from inc (body.Data size offset version service ack) c now = refl
heard_host s from inc (body.Grant offset prio) c now = refl
heard_host s from inc (body.Resend f to prio) c now = refl
heard_host s from inc body.Busy c now = refl
heard_host s from inc (body.Unknown reason) c now = refl
heard_host s from inc body.NeedAck c now = refl
heard_host s from inc (body.Ack more) c now = refl
