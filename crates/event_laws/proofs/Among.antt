-- The hosts to whom a host's rows and the packets of its steps go are such as they were.
use Rattle.std.proofs.Common.{◌≡◌, ℕ, ◌≤◌, Bool, true, false, Option, Some, None, List, [], ◌∷◌, ◌++◌, length, refl, sym, ap, subst, ◌∙◌}
use Rattle.std.specs.Prelude.{◌==◌, ◌+◌, not, nat_lt}
use Rattle.std.specs.Option.{IfSome}
use Rattle.std.specs.List.{AllByRecursion}
use Rattle.std.proofs.lemmas.Bool.{cond_both}
use Rattle.plain_sets.specs.Maps.{get}
use Rattle.plain_sets.proofs.MapLaws.{get-empty}
use Rattle.homa_plain.specs.declared.id.CallId.{CallId}
use Rattle.homa_plain.specs.declared.id.HostId.{HostId}
use Rattle.homa_plain.specs.declared.packet.Role.{Role}
use Rattle.homa_plain.specs.declared.packet.Role.TheVariants.{Client, Server}
use Rattle.homa_plain.specs.declared.packet.Body.{Body}
use Rattle.homa_plain.specs.declared.packet.Body.TheVariants as body
use Rattle.homa_plain.specs.declared.settings.Settings.{Settings}
use Rattle.homa_plain.specs.Calls.{is_host, is_call, call_cmp}
use Rattle.homa_plain.specs.Entries.{PlainJunk, PlainStale}
use Rattle.homa_plain.specs.Incoming.{Incoming, with_bytes, leaves_too_many_gaps, is_whole}
use Rattle.homa_plain.specs.Incoming as incoming
use Rattle.homa_plain.specs.Packets.{Packet, sender, sender_of, receiver, receiver_of, acks}
use Rattle.homa_plain.specs.Rows.{ClientRow, ServerRow, RowsOf, set_row}
use Rattle.homa_plain.specs.Host.{Host, new_host, Told, packets_in, pages_for, finished_at}
use Rattle.homa_plain.specs.Rules.{Moment, Answer, Piece, Say, Tells, Posts, Did, keeps, opening}
use Rattle.homa_plain.specs.AtClient.{renewed, refreshed, response_piece, started_over, unasked, answered, client_gets}
use Rattle.homa_plain.specs.AtClient as client
use Rattle.homa_plain.specs.Tombstones.{server_acked}
use Rattle.homa_plain.specs.Timers.{Place, OfClient, OfServer, client_acts, server_acts}
use Rattle.homa_plain.specs.Sending.{client_granted, server_granted, client_sends, state_sends}
use Rattle.homa_plain.specs.Work.{Work, begun, now_of, said}
use Rattle.homa_plain.specs.Steps.{moment, asked, served, comes_to_row, acked, takes, comes}
use Rattle.homa_plain.specs.CutoffsPackets.{hears_cutoffs}
use Rattle.homa_plain.specs.OldPackets.{is_stale}
use Rattle.homa_plain.specs.Steps.{client_acted, server_acted, acts_at, acts, ended, next_id, new_call, starts, call_step, arrival_step, turn_step}
use Rattle.homa_plain.specs.Credit.{refilled}
use Rattle.homa_plain.proofs.CallOrder.{calls_are}
use Rattle.step_laws.proofs.Others.{get-set_row, set_row-others}
use Rattle.step_laws.proofs.Places.{all-append}
use Rattle.step_laws.proofs.ToldBy.{packets_in-append}
use Rattle.step_moves.specs.Worlds.{HasOwnName}
use Rattle.step_laws.proofs.Own.{AllOwn, gets_own, acked_own, server_acts_own, gets_quiet, client_acts_quiet}
use Rattle.step_moves.proofs.Moves.{IsMove, reply_told, acknowledged_told, finishes_told, served_noted, served_told, served_packets, served-move}
use Rattle.step_moves.proofs.AskedMove.{asked_noted, asked_said, asked_told, asked_packets, asked-move}
use Rattle.step_moves.proofs.SendMoves.{server_granted-move, client_granted-move, response_leaves-move, request_leaves-move, says-move}
use Rattle.step_moves.proofs.SendMoves.{hears-move}
use Rattle.step_moves.proofs.Hosts.{none_some, some_is}
use Rattle.step_moves.proofs.Chosen.{IsTimerAt}
use Rattle.step_moves.proofs.Folds.{turn_kept, ended_kept, GrantKeeps, PieceKeeps}
use Rattle.event_laws.specs.Named.{IsOwnStep}
use Rattle.event_laws.specs.Among.{IsAmong, IsAmongStep}
use Rattle.event_laws.proofs.Names.{named_served, named_asked, grants_named, pieces_named, named_beside, begun_named, started_named}
use Rattle.event_laws.proofs.Names.{filled_named}

-- ---- a rule at a client leaves the server of its row

abbrev IsOfServer : HostId → Option ClientRow → Type 0
IsOfServer h o = IfSome o (λ (r : ClientRow). r.server ≡ h)

renewed_server : (inc : ℕ) (r : ClientRow) → (renewed inc r).server ≡ r.server
renewed_server inc r = cond_both (nat_lt r.seen inc) _ _ (λ (x : ClientRow). x.server ≡ r.server) (λ _. refl) (λ _. refl)

refreshed_server : (now : ℕ) (what : Body) (r : ClientRow) → (refreshed now what r).server ≡ r.server
refreshed_server now (body.Unknown reason) r = refl
refreshed_server now body.NeedAck r = refl
refreshed_server now (body.Cutoffs cutoffs) r = refl
refreshed_server now what r = refl

comes_server : (id : CallId) (r : ClientRow) (part : Incoming) (piece : Piece) (d : Did ClientRow)
    → IsOfServer r.server (client.piece_comes id r part piece d).row
comes_server id r part piece d =
    cond_both (not (part.length == piece.size)) _ _ (λ (x : Did ClientRow). IsOfServer r.server x.row) (λ _. refl)
    (λ _. cond_both (leaves_too_many_gaps part piece.offset piece.payload) _ _ (λ (x : Did ClientRow). IsOfServer r.server x.row) (λ _. refl)
    (λ _. cond_both (is_whole (with_bytes part piece.offset piece.payload)) _ _ (λ (x : Did ClientRow). IsOfServer r.server x.row) (λ _. tt) (λ _. refl)))

piece_server : (s : Settings) (m : Moment) (id : CallId) (r : ClientRow) (o : Option Incoming) (piece : Piece)
    → IsOfServer r.server (response_piece s m id r o piece).row
piece_server s m id r None piece =
    cond_both (nat_lt m.free (pages_for piece.size)) _ _ (λ (x : Did ClientRow). IsOfServer r.server x.row) (λ _. refl)
    (λ _. comes_server id r (incoming.opened r.server piece.size m.order s.unsched) piece (opening piece.size (keeps m r)))
piece_server s m id r (Some part) piece = comes_server id r part piece (keeps m r)

over_server : (r : ClientRow) (o : Option Incoming) → (started_over r o).server ≡ r.server
over_server r None = refl
over_server r (Some part) = refl

answered_server : (s : Settings) (m : Moment) (id : CallId) (what : Body) (payload : List ℕ) (r : ClientRow)
    → IsOfServer r.server (answered s m id what payload r).row
answered_server s m id (body.Data size offset version service ack) payload r =
    piece_server s m id r r.part (record { size = size; offset = offset; version = version; service = service; payload = payload })
answered_server s m id (body.Grant offset prio) payload r = refl
answered_server s m id (body.Resend from to prio) payload r = refl
answered_server s m id body.Busy payload r = refl
answered_server s m id (body.Cutoffs cutoffs) payload r = refl
answered_server s m id (body.Unknown reason) payload r =
    cond_both (reason == 0) _ _ (λ (x : Did ClientRow). IsOfServer r.server x.row) (λ _. over_server r r.part) (λ _. tt)
answered_server s m id body.NeedAck payload r = refl
answered_server s m id (body.Ack more) payload r = refl

unasked_none : (m : Moment) (what : Body) → (unasked m what).row ≡ None
unasked_none m body.NeedAck = refl
unasked_none m what = refl

-- what a packet leaves is a row of the server that it was of
gets_row : (s : Settings) (m : Moment) (p : Packet) (o : Option ClientRow) (x : ClientRow)
    → (client_gets s m p o).row ≡ Some x → (r : ClientRow) × (o ≡ Some r) × (x.server ≡ r.server)
unfolding client_gets
gets_row s m p None x e = absurd (none_some x (sym (unasked_none m p.body) ∙ e))
gets_row s m p (Some r) x e =
    let now : ClientRow = refreshed m.now p.body (renewed p.inc r) in
    let same : now.server ≡ r.server = refreshed_server m.now p.body (renewed p.inc r) ∙ renewed_server p.inc r in
    let goal = (λ (d : Did ClientRow). IsOfServer r.server d.row) in
    let of : IsOfServer r.server (client_gets s m p (Some r)).row =
    cond_both (not (is_host (sender p) r.server)) _ _ goal (λ _. refl)
    (λ _. cond_both (nat_lt p.inc r.seen) _ _ goal (λ _. refl)
    (λ _. subst (λ (h : HostId). IsOfServer h (answered s m p.id p.body p.payload now).row) same (answered_server s m p.id p.body p.payload now))) in
    (r, refl, subst (IsOfServer r.server) e of)

acts_row : (s : Settings) (m : Moment) (id : CallId) (r x : ClientRow) → (client_acts s m id r).row ≡ Some x → x.server ≡ r.server
acts_row s m id r x e =
    subst (IsOfServer r.server) e (cond_both (nat_lt r.count s.tries) _ _ (λ (d : Did ClientRow). IsOfServer r.server d.row) (λ _. refl) (λ _. tt))

-- ---- to whom packets go

abbrev AllTo : HostId → List Packet → Type 0
AllTo h ps = AllByRecursion (λ (p : Packet). receiver p ≡ h) ps

said_to : (s : Settings) (h : Host) (role : Role) (id : CallId) (server : HostId) (says : List Say)
    → AllTo (receiver_of role id server) (packets_in (said s h role id server says))
said_to s h role id server [] = tt
said_to s h role id server (Tells entry ∷ says) = said_to s h role id server says
said_to s h role id server (Posts what ∷ says) = (refl, said_to s h role id server says)

reply_to : (s : Settings) (role : Role) (id : CallId) (server : HostId) (o : Option ℕ) (w : Work)
    → AllTo (receiver_of role id server) (packets_in (reply_told s role id server o w))
reply_to s role id server None w = tt
reply_to s role id server (Some version) w =
    cond_both (version == w.host.tuning.own.version) _ _ (λ (t : List Told). AllTo (receiver_of role id server) (packets_in t)) (λ _. tt) (λ _. (refl, tt))

acknowledged_to : (s : Settings) (server : HostId) (calls : List (ℕ × ℕ)) (w : Work) → AllTo server (packets_in (acknowledged_told s server calls w))
acknowledged_to s server [] w = tt
acknowledged_to s server (call ∷ calls) w = cond_both (nat_lt (length calls) 4) _ _ (λ (t : List Told). AllTo server (packets_in t)) (λ _. tt) (λ _. (refl, tt))

finishes_to : (s : Settings) (id : CallId) (server : HostId) (done : Bool) (w : Work) → AllTo server (packets_in (finishes_told s id server done w))
finishes_to s id server false w = tt
finishes_to s id server true w = acknowledged_to s server (finished_at w.host server ++ (id.inc, id.seq) ∷ []) w

-- ---- rows of which one is set

set_all : {R : Type 0} (P : CallId → R → Type 0) (rows : RowsOf R) (id : CallId) (o : Option R) → ((x : R) → o ≡ Some x → P id x)
    → ((q : CallId) (r : R) → get rows q ≡ Some r → P q r) → (q : CallId) (r : R) → get (set_row rows id o) q ≡ Some r → P q r
set_all P rows id o new old q r is = by_call (is_call q id) refl where
  by_call : (b : Bool) → is_call q id ≡ b → P q r
  by_call true e =
      let same : q ≡ id = (calls_are q id).0 e in
      let here : get (set_row rows id o) id ≡ Some r = subst (λ (x : CallId). get (set_row rows id o) x ≡ Some r) same is in
      subst (λ (x : CallId). P x r) (sym same) (new r (sym (get-set_row rows id o) ∙ here))
  by_call false e = old q r (sym (set_row-others rows id o q e) ∙ is)

-- ---- moves

module _ (s : Settings) (id : HostId) (such : HostId → Type 0) where
  -- the packets go to such hosts
  abbrev Sent : List Packet → Type 0
  Sent ps = AllByRecursion (λ (p : Packet). such (receiver p)) ps

  sent_to : (h : HostId) (ps : List Packet) → such h → AllTo h ps → Sent ps
  sent_to h [] is all = tt
  sent_to h (p ∷ ps) is all = (subst such (sym all.0) is, sent_to h ps is all.1)

  module _ (seq : ℕ) where
    -- a name, and rows and packets of such hosts
    record IsBoth (work : Work) : Type 0 where
      own : IsOwnStep id work
      among : IsAmongStep such seq work

    among_move : (work new : Work) (told : List Told) (clients : RowsOf ClientRow) (servers : RowsOf ServerRow)
        → IsMove work new told clients servers → ((q : CallId) (r : ClientRow) → get clients q ≡ Some r → such r.server)
        → ((q : CallId) (row : ServerRow) → get servers q ≡ Some row → such q.client) → Sent (packets_in told)
        → IsAmongStep such seq work → IsAmongStep such seq new
    among_move work new told clients servers m at_clients at_servers sent k = record {
      among = record {
        clients = λ q r is. at_clients q r (ap (λ (rows : RowsOf ClientRow). get rows q) (sym m.at_clients) ∙ is);
        servers = λ q row is. at_servers q row (ap (λ (rows : RowsOf ServerRow). get rows q) (sym m.at_servers) ∙ is);
      };
      sent = subst Sent (sym (ap packets_in m.grown ∙ packets_in-append work.told told))
          (all-append (λ (p : Packet). such (receiver p)) (packets_in work.told) (packets_in told) k.sent sent);
      calls = m.seq ∙ k.calls;
    }

    -- a rule at a server
    both_served : (work : Work) (q : CallId) (did : Did ServerRow) → AllOwn work.host.id q did.says → such q.client → IsBoth work
        → IsBoth (served s q did work)
    both_served work q did own is k =
        let one = packets_in (reply_told s Server q work.host.id did.version (served_noted s q did work)) in
        let two = packets_in (said s work.host Server q work.host.id did.says) in
        record {
          own = named_served s id work q did own k.own;
          among = among_move work (served s q did work) (served_told s q did work) work.host.clients (set_row work.host.servers q did.row)
              (served-move s q did work own) k.among.among.clients
              (set_all (λ (x : CallId) (row : ServerRow). such x.client) work.host.servers q did.row (λ _ _. is) k.among.among.servers)
              (sent_to q.client (packets_in (served_told s q did work)) is
              (subst (AllTo q.client) (sym (served_packets s q did work))
              (all-append (λ (p : Packet). receiver p ≡ q.client) one two (reply_to s Server q work.host.id did.version (served_noted s q did work))
              (said_to s work.host Server q work.host.id did.says)))) k.among;
        }

    -- a rule at a client
    both_asked : (work : Work) (q : CallId) (server : HostId) (did : Did ClientRow) → q.client ≡ id → AllOwn q.client q did.says → such server
        → ((x : ClientRow) → did.row ≡ Some x → such x.server) → IsBoth work → IsBoth (asked s q server did work)
    both_asked work q server did mine own is row k =
        let one = packets_in (reply_told s Client q server did.version (asked_noted s q server did work)) in
        let two = packets_in (said s work.host Client q server did.says) in
        let three = packets_in (finishes_told s q server did.finished (asked_said s q server did work)) in
        let to = (λ (p : Packet). receiver p ≡ server) in
        record {
          own = named_asked s id work q server did mine own k.own;
          among = among_move work (asked s q server did work) (asked_told s q server did work) (set_row work.host.clients q did.row) work.host.servers
              (asked-move s q server did work (mine ∙ sym k.own.name.name) own)
              (set_all (λ (x : CallId) (r : ClientRow). such r.server) work.host.clients q did.row row k.among.among.clients) k.among.among.servers
              (sent_to server (packets_in (asked_told s q server did work)) is
              (subst (AllTo server) (sym (asked_packets s q server did work))
              (all-append to one (two ++ three) (reply_to s Client q server did.version (asked_noted s q server did work))
              (all-append to two three (said_to s work.host Client q server did.says)
              (finishes_to s q server did.finished (asked_said s q server did work)))))) k.among;
        }

    -- one that tells nothing, and changes no row
    both_beside : (work new : Work) (told : List Told) → IsMove work new told work.host.clients work.host.servers → packets_in told ≡ []
        → IsBoth work → IsBoth new
    both_beside work new told m silent k = record {
      own = named_beside s id work new told work.host.servers m k.own;
      among = among_move work new told work.host.clients work.host.servers m k.among.among.clients k.among.among.servers
          (subst Sent (sym silent) tt) k.among;
    }

    -- ---- the end of a step, and its acts

    both_grants : GrantKeeps s IsBoth
    both_grants = record {
      response = λ work q r part offset prio k at has o m.
          let mine : q.client ≡ id = k.own.name.own q r at in
          let is = k.among.among.clients q r at in
          record {
            own = (grants_named s id).response work q r part offset prio k.own at has o m;
            among = among_move work _ _ _ _ (client_granted-move s q work offset prio r (mine ∙ sym k.own.name.name))
                (set_all (λ (x : CallId) (y : ClientRow). such y.server) work.host.clients q (Some (client_granted (now_of work) offset r))
                (λ x e. subst (λ (y : ClientRow). such y.server) (some_is _ x e) is) k.among.among.clients) k.among.among.servers (is, tt) k.among;
          };
      request = λ work q row service part base count offset prio k at here o m.
          let is = k.among.among.servers q row at in
          record {
            own = (grants_named s id).request work q row service part base count offset prio k.own at here o m;
            among = among_move work _ _ _ _ (server_granted-move s q work offset prio row) k.among.among.clients
                (set_all (λ (x : CallId) (y : ServerRow). such x.client) work.host.servers q (Some (server_granted (now_of work) offset row))
                (λ _ _. is) k.among.among.servers) (is, tt) k.among;
          };
    }

    sends_server : (now : ℕ) (r : ClientRow) → (client_sends s now r).server ≡ r.server
    sends_server now r = cond_both (nat_lt r.out.top r.out.length) _ _ (λ (x : ClientRow). x.server ≡ r.server) (λ _. refl) (λ _. refl)

    both_pieces : PieceKeeps s IsBoth
    both_pieces = record {
      request = λ work q r range k at may e.
          let mine : q.client ≡ id = k.own.name.own q r at in
          let is = k.among.among.clients q r at in
          record {
            own = (pieces_named s id).request work q r range k.own at may e;
            among = among_move work _ _ _ _ (request_leaves-move s q work r range (mine ∙ sym k.own.name.name))
                (set_all (λ (x : CallId) (y : ClientRow). such y.server) work.host.clients q (Some (client_sends s (now_of work) r))
                (λ x f. subst (λ (y : ClientRow). such y.server) (some_is _ x f) (subst such (sym (sends_server (now_of work) r)) is))
                k.among.among.clients) k.among.among.servers (is, tt) k.among;
          };
      response = λ work q row response out order base count range k at here e.
          let is = k.among.among.servers q row at in
          record {
            own = (pieces_named s id).response work q row response out order base count range k.own at here e;
            among = among_move work _ _ _ _ (response_leaves-move s q work row _ range) k.among.among.clients
                (set_all (λ (x : CallId) (y : ServerRow). such x.client) work.host.servers q
                (Some (record row { state = state_sends s (now_of work) row.state })) (λ _ _. is) k.among.among.servers) (is, tt) k.among;
          };
    }

    both_ended : (work : Work) → IsBoth work → IsBoth (ended s work)
    both_ended work k = ended_kept s IsBoth both_grants both_pieces work k

    both_acted : (work : Work) (place : Place) (at : ℕ) → IsBoth work → IsTimerAt s work.host at place → at ≤ now_of work
        → IsBoth (acts_at s place work)
    both_acted work (OfClient q) at k timer past =
        let r : ClientRow = timer.0 in
        let is = k.among.among.clients q r timer.1 in
        subst (λ o. IsBoth (client_acted s q o work)) (sym timer.1)
        (both_asked work q r.server (client_acts s (moment s q work) q r) (k.own.name.own q r timer.1) (client_acts_quiet s (moment s q work) q r).0 is
        (λ x e. subst such (sym (acts_row s (moment s q work) q r x e)) is) k)
    both_acted work (OfServer q) at k timer past =
        subst (λ o. IsBoth (server_acted s q o work)) (sym timer.1)
        (both_served work q (server_acts s (moment s q work) q timer.0) (server_acts_own s (moment s q work) q timer.0)
        (k.among.among.servers q timer.0 timer.1) k)

    -- ---- a packet of such a host comes

    both_row : (p : Packet) (answer : Answer) (role : Role) (work : Work) → receiver_of role p.id p.server ≡ id
        → such (sender_of role p.id p.server) → IsBoth work → IsBoth (comes_to_row s p answer role work)
    both_row p answer Client work at is k =
        both_served work p.id _ (gets_own s (moment s p.id work) p answer (get work.host.servers p.id)) is k
    both_row p answer Server work at is k =
        both_asked work p.id p.server _ at (gets_quiet s (moment s p.id work) p (get work.host.clients p.id)).0 is
        (λ x e. let g = gets_row s (moment s p.id work) p (get work.host.clients p.id) x e in
        subst such (sym g.2) (k.among.among.clients p.id g.0 g.1)) k

    -- a call that is acknowledged: where no row stands, nothing is sent
    both_acked : (qs : List CallId) (work : Work) → IsBoth work → IsBoth (acked s qs work)
    unfolding server_acked
    both_acked [] work k = k
    both_acked (q ∷ qs) work k = both_acked qs _ (by_row (get work.host.servers q) refl) where
      did : Did ServerRow
      did = server_acked s (moment s q work) q None

      none : IsBoth (served s q (server_acked s (moment s q work) q None) work)
      none =
          let own = acked_own s (moment s q work) q None in
          record {
            own = named_served s id work q did own k.own;
            among = among_move work (served s q did work) (served_told s q did work) work.host.clients (set_row work.host.servers q None)
                (served-move s q did work own) k.among.among.clients
                (set_all (λ (x : CallId) (row : ServerRow). such x.client) work.host.servers q None (λ x e. absurd (none_some x e))
                k.among.among.servers) (subst Sent (sym (served_packets s q did work)) tt) k.among;
          }

      by_row : (o : Option ServerRow) → get work.host.servers q ≡ o → IsBoth (served s q (server_acked s (moment s q work) q o) work)
      by_row None e = none
      by_row (Some row) e =
          both_served work q (server_acked s (moment s q work) q (Some row)) (acked_own s (moment s q work) q (Some row)) (k.among.among.servers q row e) k

    both_takes : (p : Packet) (answer : Answer) (work : Work) → receiver p ≡ id → such (sender p) → IsBoth work → IsBoth (takes s p answer work)
    unfolding takes
    both_takes p answer work at is k =
        both_acked (acks p) _ (both_row p answer p.role (hears_cutoffs s (sender p) p.inc p.body work) at is
        (both_beside work (hears_cutoffs s (sender p) p.inc p.body work) [] (hears-move s (sender p) p.inc p.body work) refl k))

    both_comes : (o : Option Packet) (answer : Answer) (work : Work) → IfSome o (λ p. (receiver p ≡ id) × such (sender p)) → IsBoth work
        → IsBoth (comes s o answer work)
    both_comes None answer work at k = both_beside work _ _ (says-move (PlainJunk work.host.id) work tt) refl k
    both_comes (Some p) answer work at k =
        cond_both (is_stale s (now_of work) p) _ _ IsBoth
        (λ _. both_beside work _ _ (says-move (PlainStale work.host.id p.at (now_of work)) work tt) refl k) (λ _. both_takes p answer work at.0 at.1 k)

  -- ---- steps

  both_begun : (h : Host) (now : ℕ) → HasOwnName id h → IsAmong such h → IsBoth h.seq (begun h now)
  both_begun h now name among = record {
    own = begun_named s id h now name;
    among = record { among = record { clients = among.clients; servers = among.servers }; sent = tt; calls = refl };
  }

  pub call_among : (h : Host) (now : ℕ) (server : HostId) (service : ℕ) (request : List ℕ) → HasOwnName id h → IsAmong such h → such server
      → IsAmongStep such (h.seq + 1) (call_step s h now server service request)
  unfolding call_step
  call_among h now server service request name among is =
      (both_ended (h.seq + 1) (starts s server service request (begun h now))
      (record {
        own = started_named s id h now server service request name;
        among = record {
          among = record {
            clients = set_all (λ (x : CallId) (r : ClientRow). such r.server) h.clients (next_id h) (Some (new_call s now h.order server service request))
                (λ x e. subst (λ (y : ClientRow). such y.server) (some_is _ x e) is) among.clients;
            servers = among.servers;
          };
          sent = tt;
          calls = refl;
        };
      })).among

  pub arrival_among : (h : Host) (now : ℕ) (o : Option Packet) (answer : Answer) → HasOwnName id h → IsAmong such h
      → IfSome o (λ p. (receiver p ≡ id) × such (sender p)) → IsAmongStep such h.seq (arrival_step s h now o answer)
  unfolding arrival_step
  arrival_among h now o answer name among at =
      (both_ended h.seq (comes s o answer (begun h now)) (both_comes h.seq o answer (begun h now) at (both_begun h now name among))).among

  -- a turn fills the credit up
  filled_among : (h : Host) (now : ℕ) → IsAmong such h → IsAmong such (refilled s (record h { last = now }))
  filled_among h now among =
      cond_both (nat_lt h.refilled now) (record h { last = now; credit = s.rate; refilled = now }) (record h { last = now }) (IsAmong such)
      (λ _. record { clients = among.clients; servers = among.servers }) (λ _. record { clients = among.clients; servers = among.servers })

  filled_seq : (h : Host) (now : ℕ) → (refilled s (record h { last = now })).seq ≡ h.seq
  filled_seq h now =
      cond_both (nat_lt h.refilled now) (record h { last = now; credit = s.rate; refilled = now }) (record h { last = now })
      (λ (g : Host). g.seq ≡ h.seq) (λ _. refl) (λ _. refl)

  pub turn_among : 1 ≤ s.resend → (h : Host) (now : ℕ) → HasOwnName id h → IsAmong such h → IsAmongStep such h.seq (turn_step s h now)
  unfolding turn_step
  turn_among resend h now name among =
      let filled : Host = refilled s (record h { last = now }) in
      let first = both_begun filled now (filled_named s id h now name) (filled_among h now among) in
      let step = (both_ended filled.seq (acts s (begun filled now))
      (turn_kept s (IsBoth filled.seq) (both_acted filled.seq) resend (begun filled now) first)).among in
      record { among = step.among; sent = step.sent; calls = step.calls ∙ filled_seq h now }

  pub new_among : (inc last : ℕ) → IsAmong such (new_host s id inc last)
  new_among inc last = record {
    clients = λ q r is. absurd (none_some r (sym (get-empty call_cmp q) ∙ is));
    servers = λ q row is. absurd (none_some row (sym (get-empty call_cmp q) ∙ is));
  }
