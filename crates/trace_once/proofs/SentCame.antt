-- A GRANT or a piece of a message is sent, and the row of its call changes: the lifetime invariant is kept.
use Rattle.std.proofs.Common.{◌≡◌, ℕ, ◌+◌, ◌≤◌, ◌<◌, Bool, true, false, ◌&&◌, Some, None, List, [], ◌∷◌, length, cond, refl, sym, ap, subst, ◌∙◌, arith}
use Rattle.std.specs.Prelude.{drop}
use Rattle.std.specs.List.{AllByRecursion}
use Rattle.std.proofs.lemmas.Bool.{and_parts}
use Rattle.plain_sets.specs.Maps.{get}
use Rattle.plain_sets.specs.Ranges.{Range}
use Rattle.homa_plain.specs.declared.id.CallId.{CallId}
use Rattle.homa_plain.specs.declared.id.HostId.{HostId}
use Rattle.homa_plain.specs.declared.packet.Role.TheVariants.{Client, Server}
use Rattle.homa_plain.specs.declared.packet.Body.{Body}
use Rattle.homa_plain.specs.declared.packet.Body.TheVariants as body
use Rattle.homa_plain.specs.declared.settings.Settings.{Settings}
use Rattle.homa_plain.specs.Calls.{is_host, is_call}
use Rattle.homa_plain.specs.Incoming.{Incoming}
use Rattle.homa_plain.specs.Outgoing.{Outgoing, next_range}
use Rattle.homa_plain.specs.Packets.{Packet, acks_in}
use Rattle.homa_plain.specs.Rows.{ClientRow, ServerRow, State, Receiving, Replying, set_row}
use Rattle.homa_plain.specs.Host.{Sends, finished_at, peer_cutoffs}
use Rattle.homa_plain.specs.Sending.{Content, client_granted, server_granted, state_granted, client_sends, state_sends, request_content}
use Rattle.homa_plain.specs.SentNext.{may_send_request}
use Rattle.homa_plain.specs.Work.{Work, now_of, bare, packet_from}
use Rattle.homa_plain.specs.Steps.{client_is_granted, server_is_granted}
use Rattle.homa_plain.specs.SentNext.{request_leaves, response_leaves}
use Rattle.homa_plain.specs.FiveAcks.{oldest}
use Rattle.trace_rules.specs.View.{View}
use Rattle.homa_plain.specs.World.{World}
use Rattle.homa_plain.proofs.CallOrder.{calls_are, hosts_are}
use Rattle.trace_steps.specs.Stands.{Stand, state_of, with_client, with_server, amid}
use Rattle.step_moves.proofs.Moves.{IsMove}
use Rattle.step_moves.proofs.SendMoves.{server_granted-move, client_granted-move, response_leaves-move, request_leaves-move}
use Rattle.trace_steps.proofs.Frame.{server_stand, client_stand, server_there, client_there}
use Rattle.step_moves.proofs.Names.{own_set}
use Rattle.trace_once.specs.Lifetime.{times, IsOver, Fits}
use Rattle.trace_once.specs.Kept.{call_of}
use Rattle.trace_once.proofs.ServerRules.{later_server, lifetime_server}
use Rattle.trace_once.proofs.ServerTimers.{ServerSends, server_granted_keeps, server_sends_keeps}
use Rattle.trace_once.proofs.ClientRules.{later_client, lifetime_client}
use Rattle.trace_once.proofs.ClientTimers.{ClientSends, client_granted_keeps, client_sends_keeps}
use Rattle.trace_once.proofs.Goes.{Goes, AllGo, goes_still, lists_later}
use Rattle.trace_once.proofs.Acks.{all_set, all_but_first, riding, no_acks}
use Rattle.trace_once.proofs.Amid.{IsAmid, Came, AreOver, own_lists, lists_still, moved}

module _ (s : Settings) (w : World) (v : View) (host : HostId) (now : ℕ) (stands : host.0 < length w.hosts) (work new : Work) (id : CallId)
    (content : Content) where
  -- ---- at a server

  abbrev server_packet : Packet
  server_packet = packet_from s work.host Server id work.host.id content

  module _ (row : ServerRow) (move : IsMove work new (Sends server_packet ∷ []) work.host.clients (set_row work.host.servers id (Some row)))
      (k : IsAmid s w v host now work)
      (d : ServerSends s host (amid w v host work id host) (Some row.state) content.body content.payload) where
    pub server_is : (q : CallId) (n : HostId) (b : Bool) → (is_call id q && is_host host n) ≡ b
        → amid w v host new q n ≡ with_server (amid w v host work q n) (cond b (Some row.state) (amid w v host work q n).server) (amid w v host work q n).ran
    server_is q n b e = server_stand w v host work new (Sends server_packet ∷ []) work.host.clients (set_row work.host.servers id (Some row)) move
        stands id (Some row) refl refl q n b e

    server_here : amid w v host new id host ≡ with_server (amid w v host work id host) (Some row.state) (amid w v host work id host).ran
    server_here = server_is id host true (ap (λ b. b && is_host host host) ((calls_are id id).1 refl) ∙ (hosts_are host host).1 refl)

    server_goes : AllGo s (amid w v host work) (amid w v host new)
    server_goes q n = by_test (is_call id q && is_host host n) refl where
      by_test : (b : Bool) → (is_call id q && is_host host n) ≡ b → Goes (times s) n (amid w v host work q n) (amid w v host new q n)
      by_test true e =
          let both = and_parts (is_call id q) (is_host host n) e in
          let old : Stand = amid w v host work id host in
          subst (λ (x : CallId). Goes (times s) n (amid w v host work x n) (amid w v host new x n)) ((calls_are id q).0 both.0)
          (subst (λ (x : HostId). Goes (times s) x (amid w v host work id x) (amid w v host new id x)) ((hosts_are host n).0 both.1)
          (subst (Goes (times s) host old) (sym server_here)
          (record {
            later = later_server (times s) host old (Some row.state) old.ran d.change;
            kept = lifetime_server (times s) host old (Some row.state) old.ran d.change (k.kept.calls id host);
          })))
      by_test false e = goes_still (times s) n (amid w v host work q n) (amid w v host new q n) (k.kept.calls q n) (server_is q n false e)

    -- the packet goes to the call's client
    pub server_sent : new.host.finished ≡ work.host.finished → Came s w v host now work new
    server_sent same =
        let u = amid w v host new in
        let f : Fits (times s) host (u id host) w.clock Server content.body content.payload =
        subst (λ (x : Stand). Fits (times s) host x w.clock Server content.body content.payload) (sym server_here) d.packet in
        let g : Fits (times s) work.host.id (u id work.host.id) w.clock Server content.body content.payload =
        subst (λ (x : HostId). Fits (times s) x (u id x) w.clock Server content.body content.payload) (sym k.name) f in
        moved s w v host now stands work new (Sends server_packet ∷ []) work.host.clients (set_row work.host.servers id (Some row)) move k server_goes
        (record { fits = g; acked = no_acks (λ q. IsOver work.host.id (u q work.host.id)) (times s) (u id work.host.id) w.clock id content.body g.fits }, tt)
        (lists_still s w v host now stands work new k server_goes same) k.own (tt, tt)

  -- ---- at a client

  module _ (server : HostId) where
    abbrev client_packet : Packet
    client_packet = packet_from s work.host Client id server content

    module _ (row : ClientRow) (mine : id.client ≡ host)
        (move : IsMove work new (Sends client_packet ∷ []) (set_row work.host.clients id (Some row)) work.host.servers) (k : IsAmid s w v host now work)
        (d : (n : HostId) → ClientSends s n (amid w v host work id n) server (Some row) content.body content.payload) where
      pub client_is : (q : CallId) (n : HostId) (b : Bool) → is_call id q ≡ b
          → amid w v host new q n ≡ with_client (amid w v host work q n) (cond b (Some row) (amid w v host work q n).client)
      client_is q n b e = client_stand w v host work new (Sends client_packet ∷ []) (set_row work.host.clients id (Some row)) work.host.servers move
          stands id (Some row) mine refl refl q n b e refl

      pub client_goes : AllGo s (amid w v host work) (amid w v host new)
      client_goes q n = by_test (is_call id q) refl where
        by_test : (b : Bool) → is_call id q ≡ b → Goes (times s) n (amid w v host work q n) (amid w v host new q n)
        by_test true e =
            let old : Stand = amid w v host work id n in
            subst (λ (x : CallId). Goes (times s) n (amid w v host work x n) (amid w v host new x n)) ((calls_are id q).0 e)
            (subst (Goes (times s) n old) (sym (client_is id n true ((calls_are id id).1 refl)))
            (record {
              later = later_client (times s) n old (Some row) (d n).row;
              kept = lifetime_client (times s) n old (Some row) (d n).row (k.kept.calls id n);
            }))
        by_test false e = goes_still (times s) n (amid w v host work q n) (amid w v host new q n) (k.kept.calls q n) (client_is q n false e)

      -- the packet goes to the call's server; what it acknowledges is over
      pub client_sent : AllByRecursion (λ q. IsOver server (amid w v host new q server)) (acks_in id content.body)
          → AreOver s w v host now new (finished_at new.host) → Came s w v host now work new
      client_sent acked over =
          let u = amid w v host new in
          let here = client_is id server true ((calls_are id id).1 refl) in
          let f : Fits (times s) server (u id server) w.clock Client content.body content.payload =
          subst (λ (x : Stand). Fits (times s) server x w.clock Client content.body content.payload) (sym here) ((d server).packet refl) in
          moved s w v host now stands work new (Sends client_packet ∷ []) (set_row work.host.clients id (Some row)) work.host.servers move k client_goes
          (record { fits = f; acked = acked }, tt) over (own_set host work.host.clients id (Some row) mine k.own) (tt, tt)

-- ---- GRANTs

module _ (s : Settings) (w : World) (v : View) (host : HostId) (now : ℕ) (stands : host.0 < length w.hosts) (work : Work)
    (k : IsAmid s w v host now work) (id : CallId) where
  -- for a request, which isn't whole
  pub server_granted_came : (offset prio : ℕ) (row : ServerRow) (service : ℕ) (part : Incoming) (base count : ℕ) → get work.host.servers id ≡ Some row
      → row.state ≡ Receiving service part base count
      → Came s w v host now work (server_is_granted s id (body.Grant offset prio) offset (Some row) work)
  server_granted_came offset prio row service part base count at is =
      let old : Stand = amid w v host work id host in
      let d = server_granted_keeps s host old service part (now_of work) base count offset prio (k.kept.calls id host)
      (server_there w v host work id stands ∙ ap state_of at ∙ ap (λ (x : State). Some x) is) in
      server_sent s w v host now stands work (server_is_granted s id (body.Grant offset prio) offset (Some row) work) id
      (bare (body.Grant offset prio)) (server_granted (now_of work) offset row) (server_granted-move s id work offset prio row) k
      (subst (λ (x : State). ServerSends s host old (Some (state_granted (now_of work) offset x)) (body.Grant offset prio) []) (sym is) d) refl

  -- for a response
  pub client_granted_came : (offset prio : ℕ) (r : ClientRow) → get work.host.clients id ≡ Some r
      → Came s w v host now work (client_is_granted s id (body.Grant offset prio) offset (Some r) work)
  client_granted_came offset prio r at =
      let mine : id.client ≡ host = k.own id r at in
      let new : Work = client_is_granted s id (body.Grant offset prio) offset (Some r) work in
      let d = (λ (n : HostId). client_granted_keeps s n (amid w v host work id n) (now_of work) offset prio r (k.kept.calls id n)
      (client_there w v host work id n stands mine ∙ at)) in
      let move = client_granted-move s id work offset prio r (mine ∙ sym k.name) in
      let goes = client_goes s w v host now stands work new id (bare (body.Grant offset prio)) r.server (client_granted (now_of work) offset r) mine move k d in
      client_sent s w v host now stands work new id (bare (body.Grant offset prio)) r.server (client_granted (now_of work) offset r) mine move k d tt
      (lists_still s w v host now stands work new k goes refl)

  -- ---- pieces

  -- of the response
  pub response_came : (row : ServerRow) (response : List ℕ) (out : Outgoing) (order base count : ℕ) (content : Content) (range : Range)
      (size offset version service : ℕ) → get work.host.servers id ≡ Some row
      → row.state ≡ Replying response out order base count → content.body ≡ body.Data size offset version service None
      → Came s w v host now work (response_leaves s id row content range work)
  response_came row response out order base count content range size offset version service at is says =
      let old : Stand = amid w v host work id host in
      let d = server_sends_keeps s host old (now_of work) response out order base count size offset version service content.payload
      (k.kept.calls id host) (server_there w v host work id stands ∙ ap state_of at ∙ ap (λ (x : State). Some x) is) in
      server_sent s w v host now stands work (response_leaves s id row content range work) id content
      (record row { state = state_sends s (now_of work) row.state }) (response_leaves-move s id work row content range) k
      (subst (λ (x : State). ServerSends s host old (Some (state_sends s (now_of work) x)) content.body content.payload) (sym is)
      (subst (λ (x : Body). ServerSends s host old (Some (state_sends s (now_of work) (Replying response out order base count))) x content.payload)
      (sym says) d)) refl

  -- of the request
  pub request_came : (r : ClientRow) (range : Range) → w.clock ≤ now → now ≤ w.clock + (times s).band → 0 < s.seg → get work.host.clients id ≡ Some r
      → may_send_request s (now_of work) r ≡ true → next_range r.out s.seg ≡ Some range
      → Came s w v host now work (request_leaves s id r range work)
  request_came r range from soon seg at may next =
      let mine : id.client ≡ host = k.own id r at in
      let new : Work = request_leaves s id r range work in
      let finished : List (ℕ × ℕ) = finished_at work.host r.server in
      let cutoffs = (peer_cutoffs s work.host r.server).cutoffs in
      let content : Content = request_content s cutoffs (oldest finished) r range in
      let d = (λ (n : HostId).
      client_sends_keeps s n (amid w v host work id n) r range (now_of work) (k.kept.calls id n) (client_there w v host work id n stands mine ∙ at)
      (omega (arith, from, k.last)) (omega (arith, soon, k.last)) seg may next cutoffs.version (oldest finished)) in
      let move = request_leaves-move s id work r range (mine ∙ sym k.name) in
      let goes = client_goes s w v host now stands work new id content r.server (client_sends s (now_of work) r) mine move k d in
      let over = (λ (m : HostId). lists_later s (amid w v host work) (amid w v host new) goes host m (finished_at work.host m)
      (own_lists s w v host now stands work k m)) in
      let P = (λ (j : ℕ) (c : ℕ × ℕ). IsOver (record { 0 = j }) (amid w v host new (call_of host c) (record { 0 = j }))) in
      client_sent s w v host now stands work new id content r.server (client_sends s (now_of work) r) mine move k d
      (riding (λ q. IsOver r.server (amid w v host new q r.server)) id finished r.out.length range.from cutoffs.version r.service
      (subst (λ (x : HostId). AllByRecursion (λ (c : ℕ × ℕ). IsOver r.server (amid w v host new (call_of x c) r.server)) finished) (sym mine) (over r.server)))
      (λ m. all_set P work.host.finished r.server.0 m.0 (drop 1 finished) (all_but_first (P r.server.0) finished (over r.server))
      (λ j. over (record { 0 = j })))
