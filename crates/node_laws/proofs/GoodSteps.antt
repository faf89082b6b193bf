-- Every step of a host sends well-formed packets.
use Rattle.std.proofs.Common.{◌≡◌, ℕ, zero, suc, ◌≤◌, ◌<◌, ◌^◌, Bool, true, false, Option, None, Some, List, [], ◌∷◌, length, refl, sym, ap, subst, ◌∙◌, arith}
use Rattle.std.specs.Prelude.{Contains, ◌==◌, not, nat_lt, nat_le, if◌then◌else◌, map, replicate}
use Rattle.std.specs.Option.{IfSome}
use Rattle.std.specs.List.{AllByRecursion}
use Rattle.std.proofs.lemmas.Bool.{cond_both, ltb-false, leb-false, eqb-false}
use Rattle.plain_sets.specs.Maps.{get, len}
use Rattle.plain_sets.proofs.MapLaws.{get-empty, len-empty}
use Rattle.plain_sets.proofs.OrderSame.{filter-all}
use Rattle.homa_plain.specs.declared.id.CallId.{CallId}
use Rattle.homa_plain.specs.declared.id.HostId.{HostId}
use Rattle.homa_plain.specs.declared.packet.Role.{Role}
use Rattle.homa_plain.specs.declared.packet.Role.TheVariants.{Client, Server}
use Rattle.homa_plain.specs.declared.packet.Body.{Body}
use Rattle.homa_plain.specs.declared.packet.Body.TheVariants as body
use Rattle.homa_plain.specs.declared.settings.Settings.{Settings}
use Rattle.homa_plain.specs.declared.fault.StartFault.{StartFault}
use Rattle.homa_plain.specs.declared.fault.StartFault.TheVariants.{Empty, TooLong, SelfCall, CallsFull, SeqSpent}
use Rattle.homa_plain.specs.Bytes.{IsBytes}
use Rattle.homa_plain.specs.Calls.{is_call, is_host, call_cmp}
use Rattle.homa_plain.specs.Settings.{IsValid}
use Rattle.homa_plain.specs.Wire.{IsCall, FitsKind}
use Rattle.homa_plain.specs.Cutoffs.{levels}
use Rattle.homa_plain.specs.Grants.{Granted, Message, new_end, seen, choice_key, chosen}
use Rattle.homa_plain.specs.Grants as choice
use Rattle.homa_plain.specs.Entries.{PlainFullRows, PlainFullPages}
use Rattle.homa_plain.specs.Incoming.{Incoming}
use Rattle.homa_plain.specs.Incoming as incoming
use Rattle.homa_plain.specs.Packets.{Packet, sender, acks, acks_in, calls_of}
use Rattle.homa_plain.specs.Rows.{ServerRow, Receiving, RowsOf, set_row}
use Rattle.homa_plain.specs.Host.{Host, new_host, peer_cutoffs, pages_for}
use Rattle.homa_plain.specs.Rules.{Moment, Answer, Piece, Tells, Did, leaves, says, opening}
use Rattle.homa_plain.specs.AtServer.{piece_comes, opens, piece_of, unknown_gets, row_gets, server_gets}
use Rattle.homa_plain.specs.Tombstones.{state_acked, server_acked}
use Rattle.homa_plain.specs.Timers.{Place, OfClient, OfServer, server_acts}
use Rattle.homa_plain.specs.Sending.{Arriving, arrivals}
use Rattle.homa_plain.specs.Work.{Work, now_of, begun}
use Rattle.homa_plain.specs.CutoffsPackets.{is_newer, hears_cutoffs}
use Rattle.homa_plain.specs.Steps.{comes_to_row, acked, takes, comes, moment, client_acted}
use Rattle.homa_plain.specs.OldPackets.{is_stale}
use Rattle.homa_plain.specs.Credit.{refilled}
use Rattle.homa_plain.specs.Steps.{server_acted, acts_at, acts, grants_at, gives_grants, client_is_granted, server_is_granted, ended, next_id, new_call}
use Rattle.homa_plain.specs.Steps.{starts, start_fault, call_step, arrival_step, turn_step}
use Rattle.homa_plain.proofs.ChoiceLaws.{grant-chosen, few-chosen}
use Rattle.step_moves.proofs.Hosts.{none_some}
use Rattle.step_moves.proofs.Chosen.{IsTimerAt, IsArrivingAt, IsGrantAt, grants_of, message_of}
use Rattle.step_moves.proofs.Folds.{turn_kept, grants_kept, pump_kept, PieceKeeps}
use Rattle.world_laws.specs.Sound.{IsSent, IsId, IsMessage, IsClientRow}
use Rattle.node_runs.specs.Replayed.{IsAnswer}
use Rattle.node_laws.proofs.Told.{IsMoment, pages_small, served_small, dated_small, rows_gone, rows_more, rows_kept}
use Rattle.node_laws.proofs.Parts.{part_opened}
use Rattle.node_laws.proofs.Ruled.{IsServerRow, gets_good, serves_good, acked_good, client_acts_good, server_acts_good}
use Rattle.node_laws.proofs.Good.{IsPeer, AreFinished, IsGoodHost, IsGoodWork, set_good, all_set, asked_good, served_good, tells_good, request_good}
use Rattle.node_laws.proofs.Good.{response_good, client_grant_good, server_grant_good}

module _ (s : Settings) (v : IsValid s) (now : ℕ) (soon : now ≤ 1000000002000) where
  abbrev Good : Work → Type 0
  Good = IsGoodWork s v now soon

  row_is : {R : Type 0} (P : R → Type 0) (o : Option R) → ((r : R) → o ≡ Some r → P r) → IfSome o P
  row_is P None k = tt
  row_is P (Some r) k = k r refl

  -- what a rule knows of such a host
  moment_fits : (id : CallId) (w : Work) → Good w → IsMoment (moment s id w)
  moment_fits id w k = record { now = omega (arith, k.last, soon); free = omega (arith, pages_small s v); rows = k.host.rows }

  -- ---- how many calls it serves

  module _ (rows : RowsOf ServerRow) (id : CallId) (few : len rows < 2 ^ 32) where
    abbrev HasRoom : Did ServerRow → Type 0
    HasRoom did = len (set_row rows id did.row) < 2 ^ 32

    none_room : len (set_row rows id None) < 2 ^ 32
    none_room = omega (arith, rows_gone rows id, few)

    stands_room : (row : ServerRow) (did : Did ServerRow) → get rows id ≡ Some row → HasRoom did
    stands_room row did at = omega (arith, rows_kept rows id row did.row at, few)

    opens_room : (m : Moment) (piece : Piece) (answer : Answer) → m.rows ≡ len rows → HasRoom (opens s m id piece answer)
    opens_room m piece answer many = by_test (nat_le s.served m.rows) refl where
      left : Did ServerRow
      left = if nat_lt m.free (pages_for piece.size) then says m None (Tells (PlainFullPages m.host id (pages_for piece.size) m.free) ∷ [])
          else (let part = incoming.opened id.client piece.size m.order s.unsched in
          piece_comes s m id piece.service part (record { order = m.order; state = Receiving piece.service part m.now 0 }) piece answer
          (opening piece.size (leaves m None)))

      by_test : (b : Bool) → nat_le s.served m.rows ≡ b → HasRoom (if b then says m None (Tells (PlainFullRows m.host id m.rows s.served) ∷ []) else left)
      by_test true e = none_room
      by_test false e = omega (arith, rows_more rows id left.row, leb-false s.served m.rows e, many, served_small s v)

    unknown_room : (m : Moment) (what : Body) (payload : List ℕ) (answer : Answer) → m.rows ≡ len rows → HasRoom (unknown_gets s m id what payload answer)
    unknown_room m (body.Data size offset version service ack) payload answer many = opens_room m (piece_of size offset version service payload) answer many
    unknown_room m (body.Resend from to prio) payload answer many = none_room
    unknown_room m (body.Grant offset prio) payload answer many = none_room
    unknown_room m body.Busy payload answer many = none_room
    unknown_room m (body.Cutoffs c) payload answer many = none_room
    unknown_room m (body.Unknown reason) payload answer many = none_room
    unknown_room m body.NeedAck payload answer many = none_room
    unknown_room m (body.Ack more) payload answer many = none_room

    serves_room : (m : Moment) (p : Packet) (answer : Answer) (o : Option ServerRow) → get rows id ≡ o → p.id ≡ id → m.rows ≡ len rows
        → HasRoom (server_gets s m p answer o)
    unfolding server_gets
    serves_room m p answer None at same many =
        subst (λ (q : CallId). HasRoom (unknown_gets s m q p.body p.payload answer)) (sym same) (unknown_room m p.body p.payload answer many)
    serves_room m p answer (Some row) at same many = stands_room row (row_gets s m p.id p.body p.payload answer row row.state) at

    acked_room : (m : Moment) (o : Option ServerRow) → get rows id ≡ o → HasRoom (server_acked s m id o)
    unfolding server_acked
    acked_room m None at = none_room
    acked_room m (Some row) at = stands_room row (state_acked s m id row row.state) at

  -- ---- a packet comes

  hears_good : (peer : HostId) (inc : ℕ) (what : Body) (w : Work) (role : Role) (level : ℕ) (payload : List ℕ) → FitsKind role level what payload → Good w
      → Good (hears_cutoffs s peer inc what w)
  hears_good peer inc (body.Cutoffs c) w role level payload f k = cond_both (is_newer inc c (peer_cutoffs s w.host peer)) _ _ Good
      (λ _. let h = k.host in
      record {
        host = record {
          inc = h.inc;
          inc_fits = h.inc_fits;
          seq = h.seq;
          tuning = h.tuning;
          peers =
              all_set IsPeer w.host.peers peer.0 (record { inc = inc; cutoffs = c }) f.1 h.peers;
          finished = h.finished;
          clients = h.clients;
          servers =
              h.servers;
          rows = h.rows;
        };
        last = k.last;
        sent = k.sent;
        told = k.told;
      })
      (λ _. k)
  hears_good peer inc (body.Data size offset version service ack) w role level payload f k = k
  hears_good peer inc (body.Grant offset prio) w role level payload f k = k
  hears_good peer inc (body.Resend from to prio) w role level payload f k = k
  hears_good peer inc body.Busy w role level payload f k = k
  hears_good peer inc (body.Unknown reason) w role level payload f k = k
  hears_good peer inc body.NeedAck w role level payload f k = k
  hears_good peer inc (body.Ack more) w role level payload f k = k

  row_gets_good : (p : Packet) (answer : Answer) (role : Role) (w : Work) → IsSent s p → IsAnswer answer → Good w → Good (comes_to_row s p answer role w)
  row_gets_good p answer Client w sent a k =
      served_good s v now soon p.id _ w sent.call
      (serves_good s v (moment s p.id w) (moment_fits p.id w k) p answer (get w.host.servers p.id) a sent.of_kind
      (row_is IsServerRow (get w.host.servers p.id) (λ row at. (k.host.servers p.id row at).1)))
      (serves_room w.host.servers p.id k.host.rows (moment s p.id w) p answer (get w.host.servers p.id) refl refl refl) k
  row_gets_good p answer Server w sent a k =
      asked_good s v now soon p.id p.server _ w sent.call
      (gets_good s (moment s p.id w) (moment_fits p.id w k) p (get w.host.clients p.id) sent.of_kind
      (row_is IsClientRow (get w.host.clients p.id) (λ r at. (k.host.clients p.id r at).1))) k

  -- the calls that it acknowledges
  calls_are_ids : (client : HostId) (calls : List (ℕ × ℕ)) → AllByRecursion IsCall calls → AllByRecursion IsId (calls_of client calls)
  calls_are_ids client [] all = tt
  calls_are_ids client (c ∷ calls) all = (all.0, calls_are_ids client calls all.1)

  acks_are_ids : (id : CallId) (role : Role) (level : ℕ) (what : Body) (payload : List ℕ) → IsId id → FitsKind role level what payload
      → AllByRecursion IsId (acks_in id what)
  acks_are_ids id role level (body.Data size offset version service None) payload named f = tt
  acks_are_ids id role level (body.Data size offset version service (Some call)) payload named f =
      filter-all IsId (λ q. not (is_call q id)) (calls_of id.client (call ∷ [])) (f.acknowledged, tt)
  acks_are_ids id role level (body.Ack more) payload named f = (named, calls_are_ids id.client more f.3)
  acks_are_ids id role level (body.Grant offset prio) payload named f = tt
  acks_are_ids id role level (body.Resend from to prio) payload named f = tt
  acks_are_ids id role level body.Busy payload named f = tt
  acks_are_ids id role level (body.Cutoffs c) payload named f = tt
  acks_are_ids id role level (body.Unknown reason) payload named f = tt
  acks_are_ids id role level body.NeedAck payload named f = tt

  all_acked : (ids : List CallId) (w : Work) → AllByRecursion IsId ids → Good w → Good (acked s ids w)
  all_acked [] w named k = k
  all_acked (id ∷ ids) w named k =
      all_acked ids _ named.1
      (served_good s v now soon id _ w named.0
      (acked_good s v (moment s id w) id (moment_fits id w k) (get w.host.servers id)
      (row_is IsServerRow (get w.host.servers id) (λ row at. (k.host.servers id row at).1)))
      (acked_room w.host.servers id k.host.rows (moment s id w) (get w.host.servers id) refl) k)

  takes_good : (p : Packet) (answer : Answer) (w : Work) → IsSent s p → IsAnswer answer → Good w → Good (takes s p answer w)
  unfolding takes
  takes_good p answer w sent a k =
      all_acked (acks p) _ (acks_are_ids p.id p.role p.level p.body p.payload sent.call sent.of_kind)
      (row_gets_good p answer p.role _ sent a (hears_good (sender p) p.inc p.body w p.role p.level p.payload sent.of_kind k))

  comes_good : (o : Option Packet) (answer : Answer) (w : Work) → IfSome o (IsSent s) → IsAnswer answer → Good w → Good (comes s o answer w)
  comes_good None answer w sent a k = tells_good s v now soon w _ k tt (tt, tt)
  comes_good (Some p) answer w sent a k =
      cond_both (is_stale s (now_of w) p) _ _ Good (λ _. tells_good s v now soon w _ k tt ((dated_small s v p sent, omega (arith, k.last, soon)), tt))
      (λ _. takes_good p answer w sent a k)

  -- ---- the end of a step

  grant_good : (start w : Work) (g : Granted Arriving) → Contains (grants_of s start.host) g → Good w → IsGrantAt s w.host g
      → Good (grants_at s g.to.place g.offset g.prio w)
  grant_good start w g c k at = by_place g.to.place at.stands where
    is : choice.IsGrant message_of s.window (chosen message_of s.overcommit (arrivals start.host)) g
    is = grant-chosen message_of s.overcommit s.window (arrivals start.host) g c

    few : g.prio ≤ 7
    few = omega (
      arith,
      is.prio,
      few-chosen (λ (a : Arriving). choice.sender a.message) (λ (a : Arriving). choice_key a.message) s.overcommit
          (arrivals start.host),
      v.in_range.2.2.2.2.1,
    )

    within : (part : Incoming) → g.to.message ≡ seen part → g.offset ≤ part.length
    within part e = let z : g.offset ≡ new_end s.window (seen part) = at.offset ∙ ap (new_end s.window) e in omega (arith, z)

    by_place : (place : Place) → IsArrivingAt w.host g.to.message place → Good (grants_at s place g.offset g.prio w)
    by_place (OfClient id) a =
        subst (λ o. Good (client_is_granted s id (body.Grant g.offset g.prio) g.offset o w)) (sym a.stands)
        (client_grant_good s v now soon id a.row a.part g.offset g.prio w k a.stands a.has (omega (arith, at.more)) (within a.part a.message) few)
    by_place (OfServer id) a =
        subst (λ o. Good (server_is_granted s id (body.Grant g.offset g.prio) g.offset o w)) (sym a.stands)
        (server_grant_good s v now soon id a.row a.service a.part a.base a.count g.offset g.prio w k a.stands a.state (omega (arith, at.more))
        (within a.part a.message) few)

  pieces : PieceKeeps s Good
  pieces = record {
    request = λ w id r range k at may e. request_good s v now soon id r range w k at e;
    response = λ w id row response out order base count range k at is e. response_good s v now soon id row response out order base count range w k at is e;
  }

  ended_good : (w : Work) → Good w → Good (ended s w)
  ended_good w k = pump_kept s Good pieces (gives_grants s w) (grants_kept s Good w (λ x g c k at. grant_good w x g c k at) k)

  -- ---- a turn

  act_good : (w : Work) (place : Place) (at : ℕ) → Good w → IsTimerAt s w.host at place → at ≤ now_of w → Good (acts_at s place w)
  act_good w (OfClient id) at k timer past =
      let row = k.host.clients id timer.0 timer.1 in
      subst (λ o. Good (client_acted s id o w)) (sym timer.1)
      (asked_good s v now soon id (timer.0).server _ w row.0 (client_acts_good s v (moment s id w) id timer.0 row.1) k)
  act_good w (OfServer id) at k timer past =
      let row = k.host.servers id timer.0 timer.1 in
      subst (λ o. Good (server_acted s id o w)) (sym timer.1)
      (served_good s v now soon id _ w row.0 (server_acts_good s v (moment s id w) id (moment_fits id w k) timer.0 row.1)
      (stands_room w.host.servers id k.host.rows timer.0 (server_acts s (moment s id w) id timer.0) timer.1) k)

  begun_good : (h : Host) → IsGoodHost h → Good (begun h now)
  begun_good h k = record {
    host =
        record {
          inc = k.inc;
          inc_fits = k.inc_fits;
          seq = k.seq;
          tuning = k.tuning;
          peers = k.peers;
          finished = k.finished;
          clients = k.clients;
          servers =
              k.servers;
          rows = k.rows;
        };
    last = refl;
    sent = tt;
    told = tt;
  }

  filled_good : (h : Host) → IsGoodHost h → IsGoodHost (refilled s (record h { last = now }))
  filled_good h k = cond_both (nat_lt h.refilled now) (record h { last = now; credit = s.rate; refilled = now }) (record h { last = now }) IsGoodHost
      (λ _. record {
        inc = k.inc;
        inc_fits = k.inc_fits;
        seq = k.seq;
        tuning = k.tuning;
        peers = k.peers;
        finished = k.finished;
        clients =
            k.clients;
        servers = k.servers;
        rows = k.rows;
      })
      (λ _. record {
        inc = k.inc;
        inc_fits = k.inc_fits;
        seq = k.seq;
        tuning = k.tuning;
        peers = k.peers;
        finished = k.finished;
        clients =
            k.clients;
        servers = k.servers;
        rows = k.rows;
      })

  -- ---- steps

  pub turn_good : (h : Host) → IsGoodHost h → Good (turn_step s h now)
  unfolding turn_step
  turn_good h k =
      let filled : Host = refilled s (record h { last = now }) in
      ended_good (acts s (begun filled now)) (turn_kept s Good act_good v.in_range.2.2.2.2.2.2.0 (begun filled now) (begun_good filled (filled_good h k)))

  pub arrival_good : (h : Host) (o : Option Packet) (answer : Answer) → IsGoodHost h → IfSome o (IsSent s) → IsAnswer answer
      → Good (arrival_step s h now o answer)
  unfolding arrival_step
  arrival_good h o answer k sent a = ended_good (comes s o answer (begun h now)) (comes_good o answer (begun h now) sent a (begun_good h k))

  -- a call that can start
  pub record CanStart (h : Host) (request : List ℕ) : Type 0 where
    pub some : 1 ≤ length request
    pub most : length request ≤ 1000000
    pub seq : h.seq < 4294967295

  by_if : (b : Bool) (fault : StartFault) (o : Option StartFault) → (if b then Some fault else o) ≡ None → (b ≡ false) × (o ≡ None)
  by_if true fault o e = absurd (let z : Some fault ≡ None = e in cc)
  by_if false fault o e = (refl, e)

  pub can_start : (h : Host) (server : HostId) (request : List ℕ) → start_fault s h server request ≡ None → CanStart h request
  unfolding start_fault
  can_start h server request e =
      let a = by_if (length request == 0) Empty _ e in
      let b = by_if (nat_lt 1000000 (length request)) TooLong _ a.1 in
      let c = by_if (is_host server h.id) SelfCall _ b.1 in
      let d = by_if (nat_le s.calls (len h.clients)) CallsFull _ c.1 in
      let f = by_if (nat_le 4294967295 h.seq) SeqSpent None d.1 in
      record {
        some = omega (arith, eqb-false (length request) 0 a.0);
        most = omega (arith, ltb-false 1000000 (length request) b.0);
        seq =
            omega (arith, leb-false 4294967295 h.seq f.0);
      }

  started_good : (h : Host) (server : HostId) (service : ℕ) (request : List ℕ) → IsGoodHost h → CanStart h request → IsBytes request → service < 256
      → Good (starts s server service request (begun h now))
  started_good h server service request k can bytes small =
      let message : IsMessage request = ((can.some, can.most), bytes) in
      let row : IsClientRow (new_call s now h.order server service request) =
      record { message = message; out = part_opened request s.unsched; service = small; part = tt } in
      let named : IsId (next_id h) = (k.inc, k.inc_fits, omega (arith, can.seq)) in
      record {
        host = record {
          inc = k.inc;
          inc_fits = k.inc_fits;
          seq = omega (arith, can.seq);
          tuning = k.tuning;
          peers = k.peers;
          finished = k.finished;
          clients = set_good IsClientRow h.clients (next_id h) (Some (new_call s now h.order server service request)) named row k.clients;
          servers = k.servers;
          rows = k.rows;
        };
        last = refl;
        sent = tt;
        told = (tt, tt);
      }

  pub call_good : (h : Host) (server : HostId) (service : ℕ) (request : List ℕ) → IsGoodHost h → start_fault s h server request ≡ None → IsBytes request
      → service < 256 → Good (call_step s h now server service request)
  unfolding call_step
  call_good h server service request k none bytes small =
      ended_good (starts s server service request (begun h now)) (started_good h server service request k (can_start h server request none) bytes small)

-- ---- a host that was just opened

all_replicate : {X : Type 0} (P : X → Type 0) (n : ℕ) (x : X) → P x → AllByRecursion P (replicate n x)
all_replicate P zero x p = tt
all_replicate P (suc n) x p = (p, all_replicate P n x p)

first_bounds : (k : ℕ) (is : List ℕ) → AllByRecursion (λ n. n ≤ 1000000) (map (λ i. if nat_lt i k then 0 else 1000000) is)
first_bounds k [] = tt
first_bounds k (i ∷ is) = (cond_both (nat_lt i k) 0 1000000 (λ n. n ≤ 1000000) (λ _. omega arith) (λ _. omega arith), first_bounds k is)

pub new_good : (s : Settings) (id : HostId) (inc last : ℕ) → 1 ≤ inc → inc < 2 ^ 32 → IsGoodHost (new_host s id inc last)
new_good s id inc last some few = record {
  inc = some;
  inc_fits = few;
  seq = omega arith;
  tuning = record { own = record { version = omega arith; eight = refl; within = first_bounds s.overcommit levels }; lengths = tt };
  peers = all_replicate IsPeer s.hosts _ (omega arith);
  finished = all_replicate AreFinished s.hosts [] (omega arith, tt);
  clients = λ q r at. absurd (none_some r (sym (get-empty call_cmp q) ∙ at));
  servers = λ q row at. absurd (none_some row (sym (get-empty call_cmp q) ∙ at));
  rows = omega (arith, len-empty call_cmp ServerRow);
}
