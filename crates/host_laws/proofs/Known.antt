-- The hosts that rows name, after each rule for a row.
use Rattle.std.proofs.Common.{◌≡◌, ◌<◌, ℕ, Bool, true, false, not, Option, Some, None, List, refl, sym, ap, subst, ◌∙◌}
use Rattle.std.specs.Prelude.{◌==◌, ◌||◌, nat_lt, nat_le, IfSome}
use Rattle.std.proofs.lemmas.Bool.{cond_both}
use Rattle.plain_sets.specs.Maps.{get}
use Rattle.homa_plain.specs.declared.id.CallId.{CallId}
use Rattle.homa_plain.specs.declared.packet.Body.{Body}
use Rattle.homa_plain.specs.declared.packet.Body.TheVariants as body
use Rattle.homa_plain.specs.declared.settings.Settings.{Settings}
use Rattle.homa_plain.specs.Calls.{is_call}
use Rattle.homa_plain.specs.Incoming.{Incoming, with_bytes, leaves_too_many_gaps, is_whole, message}
use Rattle.homa_plain.specs.Incoming as incoming
use Rattle.homa_plain.specs.Outgoing.{Outgoing}
use Rattle.homa_plain.specs.Packets.{Packet, sender}
use Rattle.homa_plain.specs.Rows.{ClientRow, ServerRow, State, Receiving, Held, Replying, Buried, set_row}
use Rattle.homa_plain.specs.Host.{Host, pages_for}
use Rattle.homa_plain.specs.Rules.{Moment, Answer, Piece, Did, leaves, keeps, opening, version_of}
use Rattle.homa_plain.specs.AtClient.{renewed, refreshed, answered, response_piece, unasked, client_gets, started_over}
use Rattle.homa_plain.specs.AtClient as client
use Rattle.homa_plain.specs.AtServer.{piece_comes, runs, opens, piece_of, unknown_gets, receiving_gets, held_gets, replying_gets}
use Rattle.homa_plain.specs.Unknown.{buried_gets}
use Rattle.homa_plain.specs.AtServer.{row_gets, server_gets}
use Rattle.homa_plain.specs.Tombstones.{state_acked, server_acked}
use Rattle.homa_plain.specs.Timers.{client_acts, server_acts, state_acts}
use Rattle.homa_plain.specs.Sending.{client_granted, granted_part, while_new, client_sends, state_granted, state_sends}
use Rattle.step_laws.proofs.Others.{get-set_row, set_row-others}
use Rattle.homa_plain.proofs.CallOrder.{calls_are}
use Rattle.host_laws.specs.Peers.{KnowsServer, KnowsSender, KnowsClient, KnowsPeers}

-- ---- at its client

module _ (n : ℕ) where
  with_part-known : (r : ClientRow) (part : Incoming) → KnowsServer n r → part.peer.0 < n → KnowsServer n (client.with_part r part)
  with_part-known r part k p = record { server = k.server; sender = p }

  out-known : (r : ClientRow) (out : Outgoing) → KnowsServer n r → KnowsServer n (record r { out = out })
  out-known r out k = record { server = k.server; sender = k.sender }

  renewed-known : (inc : ℕ) (r : ClientRow) → KnowsServer n r → KnowsServer n (renewed inc r)
  renewed-known inc r k = cond_both (nat_lt r.seen inc) _ _ (KnowsServer n) (λ _. record { server = k.server; sender = tt }) (λ _. k)

  refreshed-known : (now : ℕ) (what : Body) (r : ClientRow) → KnowsServer n r → KnowsServer n (refreshed now what r)
  refreshed-known now (body.Unknown reason) r k = k
  refreshed-known now body.NeedAck r k = record { server = k.server; sender = k.sender }
  refreshed-known now (body.Cutoffs cutoffs) r k = record { server = k.server; sender = k.sender }
  refreshed-known now (body.Data size offset version service ack) r k = record { server = k.server; sender = k.sender }
  refreshed-known now (body.Grant offset prio) r k = record { server = k.server; sender = k.sender }
  refreshed-known now (body.Resend from to prio) r k = record { server = k.server; sender = k.sender }
  refreshed-known now body.Busy r k = record { server = k.server; sender = k.sender }
  refreshed-known now (body.Ack more) r k = record { server = k.server; sender = k.sender }

  piece-known : (id : CallId) (r : ClientRow) (part : Incoming) (piece : Piece) (d : Did ClientRow) → KnowsServer n r → part.peer.0 < n
      → IfSome (client.piece_comes id r part piece d).row (KnowsServer n)
  piece-known id r part piece d k p =
      cond_both (not (part.length == piece.size)) _ _ (λ (d : Did ClientRow). IfSome d.row (KnowsServer n)) (λ _. with_part-known r part k p)
      (λ _. cond_both (leaves_too_many_gaps part piece.offset piece.payload) _ _ (λ (d : Did ClientRow). IfSome d.row (KnowsServer n))
      (λ _. with_part-known r part k p)
      (λ _. cond_both (is_whole (with_bytes part piece.offset piece.payload)) _ _ (λ (d : Did ClientRow). IfSome d.row (KnowsServer n)) (λ _. tt)
      (λ _. with_part-known r (with_bytes part piece.offset piece.payload) k p)))

  response-known : (s : Settings) (m : Moment) (id : CallId) (r : ClientRow) (o : Option Incoming) (piece : Piece) → KnowsServer n r
      → IfSome o (λ (p : Incoming). p.peer.0 < n) → IfSome (response_piece s m id r o piece).row (KnowsServer n)
  response-known s m id r None piece k p =
      cond_both (nat_lt m.free (pages_for piece.size)) _ _ (λ (d : Did ClientRow). IfSome d.row (KnowsServer n)) (λ _. k)
      (λ _. piece-known id r (incoming.opened r.server piece.size m.order s.unsched) piece (opening piece.size (keeps m r)) k k.server)
  response-known s m id r (Some part) piece k p = piece-known id r part piece (keeps m r) k p

  over-known : (r : ClientRow) (o : Option Incoming) → KnowsServer n r → KnowsServer n (started_over r o)
  over-known r None k = record { server = k.server; sender = k.sender }
  over-known r (Some part) k = k

  answered-known : (s : Settings) (m : Moment) (id : CallId) (what : Body) (payload : List ℕ) (r : ClientRow) → KnowsServer n r
      → IfSome (answered s m id what payload r).row (KnowsServer n)
  answered-known s m id (body.Data size offset version service ack) payload r k = response-known s m id r r.part _ k k.sender
  answered-known s m id (body.Grant offset prio) payload r k = record { server = k.server; sender = k.sender }
  answered-known s m id (body.Resend from to prio) payload r k = record { server = k.server; sender = k.sender }
  answered-known s m id body.Busy payload r k = k
  answered-known s m id (body.Cutoffs cutoffs) payload r k = k
  answered-known s m id (body.Unknown reason) payload r k =
      cond_both (reason == 0) _ _ (λ (d : Did ClientRow). IfSome d.row (KnowsServer n)) (λ _. over-known r r.part k) (λ _. tt)
  answered-known s m id body.NeedAck payload r k = k
  answered-known s m id (body.Ack more) payload r k = k

  unasked-known : (m : Moment) (what : Body) → IfSome (unasked m what).row (KnowsServer n)
  unasked-known m (body.Data size offset version service ack) = tt
  unasked-known m (body.Grant offset prio) = tt
  unasked-known m (body.Resend from to prio) = tt
  unasked-known m body.Busy = tt
  unasked-known m (body.Cutoffs cutoffs) = tt
  unasked-known m (body.Unknown reason) = tt
  unasked-known m body.NeedAck = tt
  unasked-known m (body.Ack more) = tt

  pub client_gets-known : (s : Settings) (m : Moment) (p : Packet) (o : Option ClientRow) → IfSome o (KnowsServer n)
      → IfSome (client_gets s m p o).row (KnowsServer n)
  unfolding client_gets
  client_gets-known s m p None k = unasked-known m p.body
  client_gets-known s m p (Some r) k =
      cond_both (not ((sender p).0 == r.server.0)) _ _ (λ (d : Did ClientRow). IfSome d.row (KnowsServer n)) (λ _. k)
      (λ _. cond_both (nat_lt p.inc r.seen) _ _ (λ (d : Did ClientRow). IfSome d.row (KnowsServer n)) (λ _. k)
      (λ _. answered-known s m p.id p.body p.payload (refreshed m.now p.body (renewed p.inc r))
      (refreshed-known m.now p.body (renewed p.inc r) (renewed-known p.inc r k))))

  pub client_acts-known : (s : Settings) (m : Moment) (id : CallId) (r : ClientRow) → KnowsServer n r → IfSome (client_acts s m id r).row (KnowsServer n)
  client_acts-known s m id r k = cond_both (nat_lt r.count s.tries) _ _ (λ (d : Did ClientRow). IfSome d.row (KnowsServer n))
      (λ _. record { server = k.server; sender = k.sender }) (λ _. tt)

  part-granted : (offset : ℕ) (o : Option Incoming) → IfSome o (λ (p : Incoming). p.peer.0 < n)
      → IfSome (granted_part offset o) (λ (p : Incoming). p.peer.0 < n)
  part-granted offset None k = tt
  part-granted offset (Some part) k = k

  pub client_granted-known : (now offset : ℕ) (r : ClientRow) → KnowsServer n r → KnowsServer n (client_granted now offset r)
  client_granted-known now offset r k = record { server = k.server; sender = part-granted offset r.part k.sender }

  while-known : (now : ℕ) (r : ClientRow) → KnowsServer n r → KnowsServer n (while_new now r)
  while-known now r k = cond_both (nat_lt r.out.top r.out.length) _ _ (KnowsServer n) (λ _. record { server = k.server; sender = k.sender }) (λ _. k)

  pub client_sends-known : (s : Settings) (now : ℕ) (r : ClientRow) → KnowsServer n r → KnowsServer n (client_sends s now r)
  client_sends-known s now r k = let w = while-known now r k in record { server = w.server; sender = w.sender }

-- ---- at its server

-- the sender of the request in a row is known
abbrev pub KnownIn : ℕ → ServerRow → Type 0
KnownIn n row = KnowsSender n row.state

module _ (n : ℕ) (id : CallId) (client : id.client.0 < n) where
  runs-known : (s : Settings) (m : Moment) (service : ℕ) (request : List ℕ) (a : Answer) (row : ServerRow) (d : Did ServerRow)
      → IfSome (runs s m id service request a row d).row (KnownIn n)
  runs-known s m service request a row d = cond_both (a.hold == 0) _ _ (λ (d : Did ServerRow). IfSome d.row (KnownIn n)) (λ _. tt) (λ _. tt)

  request-known : (s : Settings) (m : Moment) (service : ℕ) (part : Incoming) (row : ServerRow) (piece : Piece) (a : Answer) (d : Did ServerRow)
      → KnownIn n row → part.peer.0 < n
      → IfSome (piece_comes s m id service part row piece a d).row (KnownIn n)
  request-known s m service part row piece a d k p =
      cond_both (not (part.length == piece.size) || not (service == piece.service)) _ _ (λ (d : Did ServerRow). IfSome d.row (KnownIn n)) (λ _. k)
      (λ _. cond_both (leaves_too_many_gaps part piece.offset piece.payload) _ _ (λ (d : Did ServerRow). IfSome d.row (KnownIn n)) (λ _. p)
      (λ _. cond_both (is_whole (with_bytes part piece.offset piece.payload)) _ _ (λ (d : Did ServerRow). IfSome d.row (KnownIn n))
      (λ _. runs-known s m service (message (with_bytes part piece.offset piece.payload)) a row (record d { version = version_of piece })) (λ _. p)))

  opens-known : (s : Settings) (m : Moment) (piece : Piece) (a : Answer) → IfSome (opens s m id piece a).row (KnownIn n)
  opens-known s m piece a =
      let part : Incoming = incoming.opened id.client piece.size m.order s.unsched in
      cond_both (nat_le s.served m.rows) _ _ (λ (d : Did ServerRow). IfSome d.row (KnownIn n)) (λ _. tt)
      (λ _. cond_both (nat_lt m.free (pages_for piece.size)) _ _ (λ (d : Did ServerRow). IfSome d.row (KnownIn n)) (λ _. tt)
      (λ _. request-known s m piece.service part (record { order = m.order; state = Receiving piece.service part m.now 0 }) piece a
      (opening piece.size (leaves m None)) client client))

  unknown-known : (s : Settings) (m : Moment) (what : Body) (payload : List ℕ) (a : Answer) → IfSome (unknown_gets s m id what payload a).row (KnownIn n)
  unknown-known s m (body.Data size offset version service ack) payload a = opens-known s m (piece_of size offset version service payload) a
  unknown-known s m (body.Grant offset prio) payload a = tt
  unknown-known s m (body.Resend from to prio) payload a = tt
  unknown-known s m body.Busy payload a = tt
  unknown-known s m (body.Cutoffs cutoffs) payload a = tt
  unknown-known s m (body.Unknown reason) payload a = tt
  unknown-known s m body.NeedAck payload a = tt
  unknown-known s m (body.Ack more) payload a = tt

  receiving-known : (s : Settings) (m : Moment) (what : Body) (payload : List ℕ) (a : Answer) (row : ServerRow) (service : ℕ) (part : Incoming)
      (base : ℕ) → KnownIn n row → part.peer.0 < n
      → IfSome (receiving_gets s m id what payload a row service part base).row (KnownIn n)
  receiving-known s m (body.Data size offset version service' ack) payload a row service part base k p =
      request-known s m service part row (piece_of size offset version service' payload) a (leaves m None) k p
  receiving-known s m (body.Grant offset prio) payload a row service part base k p = k
  receiving-known s m (body.Resend from to prio) payload a row service part base k p = p
  receiving-known s m body.Busy payload a row service part base k p = p
  receiving-known s m (body.Cutoffs cutoffs) payload a row service part base k p = k
  receiving-known s m (body.Unknown reason) payload a row service part base k p = k
  receiving-known s m body.NeedAck payload a row service part base k p = k
  receiving-known s m (body.Ack more) payload a row service part base k p = k

  held-known : (m : Moment) (what : Body) (row : ServerRow) → KnownIn n row → IfSome (held_gets m what row).row (KnownIn n)
  held-known m (body.Data size offset version service ack) row k = k
  held-known m (body.Grant offset prio) row k = k
  held-known m (body.Resend from to prio) row k = k
  held-known m body.Busy row k = k
  held-known m (body.Cutoffs cutoffs) row k = k
  held-known m (body.Unknown reason) row k = k
  held-known m body.NeedAck row k = k
  held-known m (body.Ack more) row k = k

  replying-known : (m : Moment) (what : Body) (row : ServerRow) (response : List ℕ) (out : Outgoing) (order : ℕ) → KnownIn n row
      → IfSome (replying_gets m what row response out order).row (KnownIn n)
  replying-known m (body.Data size offset version service ack) row response out order k = tt
  replying-known m (body.Grant offset prio) row response out order k = tt
  replying-known m (body.Resend from to prio) row response out order k = tt
  replying-known m body.Busy row response out order k = tt
  replying-known m (body.Cutoffs cutoffs) row response out order k = tt
  replying-known m (body.Unknown reason) row response out order k = tt
  replying-known m body.NeedAck row response out order k = tt
  replying-known m (body.Ack more) row response out order k = k

  buried-known : (m : Moment) (what : Body) (row : ServerRow) → KnownIn n row → IfSome (buried_gets m what row).row (KnownIn n)
  buried-known m (body.Data size offset version service ack) row k = k
  buried-known m (body.Grant offset prio) row k = k
  buried-known m (body.Resend from to prio) row k = k
  buried-known m body.Busy row k = k
  buried-known m (body.Cutoffs cutoffs) row k = k
  buried-known m (body.Unknown reason) row k = k
  buried-known m body.NeedAck row k = k
  buried-known m (body.Ack more) row k = k

  row-known : (s : Settings) (m : Moment) (what : Body) (payload : List ℕ) (a : Answer) (row : ServerRow) (state : State) → KnownIn n row
      → KnowsSender n state → IfSome (row_gets s m id what payload a row state).row (KnownIn n)
  row-known s m what payload a row (Receiving service part base count) k p = receiving-known s m what payload a row service part base k p
  row-known s m what payload a row (Held response release) k p = held-known m what row k
  row-known s m what payload a row (Replying response out order base count) k p = replying-known m what row response out order k
  row-known s m what payload a row (Buried until) k p = buried-known m what row k

  pub server_gets-known : (s : Settings) (m : Moment) (p : Packet) (a : Answer) (o : Option ServerRow) → p.id ≡ id → IfSome o (KnownIn n)
      → IfSome (server_gets s m p a o).row (KnownIn n)
  unfolding server_gets
  server_gets-known s m p a None same k =
      subst (λ q. IfSome (unknown_gets s m q p.body p.payload a).row (KnownIn n)) (sym same) (unknown-known s m p.body p.payload a)
  server_gets-known s m p a (Some row) same k =
      subst (λ q. IfSome (row_gets s m q p.body p.payload a row row.state).row (KnownIn n)) (sym same) (row-known s m p.body p.payload a row row.state k k)

module _ (n : ℕ) where
  acked-known : (s : Settings) (m : Moment) (id : CallId) (row : ServerRow) (state : State) → KnownIn n row
      → IfSome (state_acked s m id row state).row (KnownIn n)
  acked-known s m id row (Receiving service part base count) k = k
  acked-known s m id row (Held response release) k = tt
  acked-known s m id row (Replying response out order base count) k = tt
  acked-known s m id row (Buried until) k = k

  pub server_acked-known : (s : Settings) (m : Moment) (id : CallId) (o : Option ServerRow) → IfSome o (KnownIn n)
      → IfSome (server_acked s m id o).row (KnownIn n)
  unfolding server_acked
  server_acked-known s m id None k = tt
  server_acked-known s m id (Some row) k = acked-known s m id row row.state k

  state_acts-known : (s : Settings) (m : Moment) (id : CallId) (row : ServerRow) (state : State) → KnowsSender n state
      → IfSome (state_acts s m id row state).row (KnownIn n)
  state_acts-known s m id row (Receiving service part base count) k =
      cond_both (nat_lt count s.tries) _ _ (λ (d : Did ServerRow). IfSome d.row (KnownIn n)) (λ _. k) (λ _. tt)
  state_acts-known s m id row (Held response release) k = tt
  state_acts-known s m id row (Replying response out order base count) k =
      cond_both (nat_lt count s.tries) _ _ (λ (d : Did ServerRow). IfSome d.row (KnownIn n)) (λ _. tt) (λ _. tt)
  state_acts-known s m id row (Buried until) k = tt

  pub server_acts-known : (s : Settings) (m : Moment) (id : CallId) (row : ServerRow) → KnownIn n row → IfSome (server_acts s m id row).row (KnownIn n)
  server_acts-known s m id row k = state_acts-known s m id row row.state k

  pub state_granted-known : (now offset : ℕ) (state : State) → KnowsSender n state → KnowsSender n (state_granted now offset state)
  state_granted-known now offset (Receiving service part base count) k = k
  state_granted-known now offset (Held response release) k = tt
  state_granted-known now offset (Replying response out order base count) k = tt
  state_granted-known now offset (Buried until) k = tt

  pub state_sends-known : (s : Settings) (now : ℕ) (state : State) → KnowsSender n state → KnowsSender n (state_sends s now state)
  state_sends-known s now (Receiving service part base count) k = k
  state_sends-known s now (Held response release) k = tt
  state_sends-known s now (Replying response out order base count) k = tt
  state_sends-known s now (Buried until) k = tt

-- ---- one row of a host changes

module _ (s : Settings) (h h' : Host) (same_id : h'.id ≡ h.id) (same_inc : h'.inc ≡ h.inc) (k : KnowsPeers s h) where
  client_known : (id : CallId) (row : Option ClientRow) → h'.clients ≡ set_row h.clients id row
      → IfSome row (λ r. KnowsServer s.hosts r × ((id.client ≡ h.id) × (id.inc ≡ h.inc)))
      → (q : CallId) (r : ClientRow) (b : Bool) → is_call q id ≡ b → (b ≡ true → q ≡ id) → get h'.clients q ≡ Some r
      → KnowsServer s.hosts r × ((q.client ≡ h.id) × (q.inc ≡ h.inc))
  client_known id row e new q r true b same is =
      let at : row ≡ Some r =
      sym (get-set_row h.clients id row) ∙ ap (get (set_row h.clients id row)) (sym (same refl)) ∙ sym (ap (λ rows. get rows q) e) ∙ is in
      let known = subst (λ (o : Option ClientRow). IfSome o (λ r. KnowsServer s.hosts r × ((id.client ≡ h.id) × (id.inc ≡ h.inc)))) at new in
      (known.0, (ap (λ (c : CallId). c.client) (same refl) ∙ known.1.0, ap (λ (c : CallId). c.inc) (same refl) ∙ known.1.1))
  client_known id row e new q r false b same is =
      let at : get h.clients q ≡ Some r = sym (set_row-others h.clients id row q b) ∙ sym (ap (λ rows. get rows q) e) ∙ is in
      (k.clients q r at, k.own q r at)

  server_known : (id : CallId) (row : Option ServerRow) → h'.servers ≡ set_row h.servers id row → IfSome row (KnowsClient s.hosts id)
      → (q : CallId) (r : ServerRow) (b : Bool) → is_call q id ≡ b → (b ≡ true → q ≡ id) → get h'.servers q ≡ Some r → KnowsClient s.hosts q r
  server_known id row e new q r true b same is =
      let at : row ≡ Some r =
      sym (get-set_row h.servers id row) ∙ ap (get (set_row h.servers id row)) (sym (same refl)) ∙ sym (ap (λ rows. get rows q) e) ∙ is in
      subst (λ c. KnowsClient s.hosts c r) (sym (same refl)) (subst (λ (o : Option ServerRow). IfSome o (KnowsClient s.hosts id)) at new)
  server_known id row e new q r false b same is = k.servers q r (sym (set_row-others h.servers id row q b) ∙ sym (ap (λ rows. get rows q) e) ∙ is)

  pub known-client : (id : CallId) (row : Option ClientRow) → h'.clients ≡ set_row h.clients id row → h'.servers ≡ h.servers
      → IfSome row (λ r. KnowsServer s.hosts r × ((id.client ≡ h.id) × (id.inc ≡ h.inc))) → KnowsPeers s h'
  known-client id row e f new =
      let all : (q : CallId) (r : ClientRow) → get h'.clients q ≡ Some r → KnowsServer s.hosts r × ((q.client ≡ h.id) × (q.inc ≡ h.inc)) =
      λ q r is. client_known id row e new q r (is_call q id) refl (λ t. (calls_are q id).0 t) is in
      record {
        clients = λ q r is. (all q r is).0;
        own = λ q r is. ((all q r is).1.0 ∙ sym same_id, (all q r is).1.1 ∙ sym same_inc);
        servers = λ q r is. k.servers q r (ap (λ rows. get rows q) (sym f) ∙ is);
      }

  pub known-server : (id : CallId) (row : Option ServerRow) → h'.servers ≡ set_row h.servers id row → h'.clients ≡ h.clients
      → IfSome row (KnowsClient s.hosts id) → KnowsPeers s h'
  known-server id row e f new = record {
    clients = λ q r is. k.clients q r (ap (λ rows. get rows q) (sym f) ∙ is);
    own = λ q r is. let o = k.own q r (ap (λ rows. get rows q) (sym f) ∙ is) in (o.0 ∙ sym same_id, o.1 ∙ sym same_inc);
    servers = λ q r is. server_known id row e new q r (is_call q id) refl (λ t. (calls_are q id).0 t) is;
  }
