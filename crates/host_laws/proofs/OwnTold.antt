-- What the moves of a step tell is told of their own host at its own clock.
use Rattle.std.proofs.Common.{◌≡◌, ℕ, zero, suc, ◌-◌, Bool, true, false, not, Option, Some, None, List, [], ◌∷◌, ◌++◌, length, refl, subst}
use Rattle.std.specs.Prelude.{◌==◌, ◌||◌, nat_lt, nat_le}
use Rattle.std.specs.List.{AllByRecursion}
use Rattle.std.proofs.lemmas.Bool.{cond_both}
use Rattle.plain_sets.specs.Maps.{get}
use Rattle.homa_plain.specs.declared.id.CallId.{CallId}
use Rattle.homa_plain.specs.declared.id.HostId.{HostId}
use Rattle.homa_plain.specs.declared.packet.Role.{Role}
use Rattle.homa_plain.specs.declared.packet.Role.TheVariants.{Client, Server}
use Rattle.homa_plain.specs.declared.packet.Body.{Body}
use Rattle.homa_plain.specs.declared.packet.Body.TheVariants as body
use Rattle.homa_plain.specs.declared.settings.Settings.{Settings}
use Rattle.homa_plain.specs.Incoming.{Incoming, with_bytes, leaves_too_many_gaps, is_whole, message, first_gap}
use Rattle.homa_plain.specs.Incoming as incoming
use Rattle.homa_plain.specs.Outgoing.{Outgoing, next_range}
use Rattle.homa_plain.specs.Busy.{Answer as OutAnswer, Busy, Queued, resend}
use Rattle.homa_plain.specs.Packets.{Packet, sender}
use Rattle.homa_plain.specs.Rows.{ClientRow, ServerRow, State, Receiving, Held, Replying, Buried, set_row}
use Rattle.homa_plain.specs.Host.{Host, Tuning, Tuned, tuned, is_balance_due, counted, pages_for, Told, Sends, finished_at, peer_cutoffs, packets_in}
use Rattle.homa_plain.specs.Rules.{Moment, Answer, Piece, Say, Tells, Posts, Did, leaves, keeps, opening, version_of}
use Rattle.homa_plain.specs.Busy.{busy_for}
use Rattle.homa_plain.specs.AtClient.{renewed, refreshed, answered, response_piece, unasked, client_gets}
use Rattle.homa_plain.specs.AtClient as client
use Rattle.homa_plain.specs.AtServer.{piece_comes, runs, opens, piece_of, unknown_gets, receiving_gets, held_gets, replying_gets}
use Rattle.homa_plain.specs.Unknown.{buried_gets}
use Rattle.homa_plain.specs.AtServer.{row_gets, server_gets}
use Rattle.homa_plain.specs.Tombstones.{state_acked, server_acked}
use Rattle.homa_plain.specs.Timers.{Place, OfClient, OfServer, resend_of, wanted, client_acts, server_acts, state_acts}
use Rattle.homa_plain.specs.Grants.{Granted, grants}
use Rattle.homa_plain.specs.SentNext.{least}
use Rattle.homa_plain.specs.Sending.{Arriving, arrivals, response_content}
use Rattle.homa_plain.specs.SentNext.{Leaving, leaving_key, departures}
use Rattle.step_laws.proofs.StepEnd.{left}
use Rattle.plain_sets.specs.Ranges.{Range}
use Rattle.homa_plain.specs.Work.{Work, now_of, tells, said}
use Rattle.homa_plain.specs.CutoffsPackets.{notes, tells_cutoffs, is_newer}
use Rattle.homa_plain.specs.FiveAcks.{acknowledged, finishes}
use Rattle.homa_plain.specs.Steps.{asked, served, moment}
use Rattle.homa_plain.specs.CutoffsPackets.{hears_cutoffs}
use Rattle.homa_plain.specs.Steps.{comes_to_row, client_acted, server_acted, acts_at, client_is_granted, server_is_granted, grants_at}
use Rattle.homa_plain.specs.Steps.{all_granted, gives_grants}
use Rattle.homa_plain.specs.SentNext.{request_leaves, response_leaves, client_leaves, state_leaves, server_leaves}
use Rattle.homa_plain.specs.SentNext.{leaves_from, first_leaves, pumped_once, pumps}
use Rattle.homa_plain.specs.Steps.{ended}
use Rattle.step_laws.proofs.Places.{all-append}
use Rattle.host_laws.specs.Bytes.{IsOwnEntry, IsOwnTold}

-- what a rule says is told of the host at its clock
abbrev IsOwnSay : Bool → HostId → ℕ → Say → Type 0
IsOwnSay full host now (Tells entry) = IsOwnEntry full host now entry
IsOwnSay full host now (Posts what) = Unit {0}

module _ (full : Bool) (host : HostId) (now : ℕ) where
  abbrev AreOwnSays : {R : Type 0} → Did R → Type 0
  AreOwnSays d = AllByRecursion (IsOwnSay full host now) d.says

  abbrev pub AreOwn : Work → Type 0
  AreOwn w = AllByRecursion (IsOwnTold full host now) w.told

  pub own-tells : (told : List Told) (w : Work) → AllByRecursion (IsOwnTold full host now) told → AreOwn w → AreOwn (tells told w)
  own-tells told w own so_far = all-append (IsOwnTold full host now) w.told told so_far own

  said-own : (s : Settings) (h : Host) (role : Role) (id : CallId) (server : HostId) (says : List Say) → AllByRecursion (IsOwnSay full host now) says
      → AllByRecursion (IsOwnTold full host now) (said s h role id server says)
  said-own s h role id server [] own = tt
  said-own s h role id server (Tells entry ∷ says) own = (own.0, said-own s h role id server says own.1)
  said-own s h role id server (Posts what ∷ says) own = (tt, said-own s h role id server says own.1)

  tuned-own : (s : Settings) (h : HostId) (t : Tuning) (n : ℕ) → h ≡ host → AllByRecursion (IsOwnTold full host now) (tuned s h t n).told
  unfolding tuned
  tuned-own s h t n same =
      cond_both (is_balance_due s (counted t n)) _ _ (λ (u : Tuned). AllByRecursion (IsOwnTold full host now) u.told) (λ _. (same, tt)) (λ _. tt)

  notes-own : (s : Settings) (o : Option ℕ) (w : Work) → w.host.id ≡ host → AreOwn w → AreOwn (notes s o w)
  notes-own s None w same own = own
  notes-own s (Some n) w same own =
      all-append (IsOwnTold full host now) w.told (tuned s w.host.id w.host.tuning n).told own (tuned-own s w.host.id w.host.tuning n same)

  cutoffs-own : (s : Settings) (role : Role) (id : CallId) (server : HostId) (o : Option ℕ) (w : Work) → AreOwn w → AreOwn (tells_cutoffs s role id server o w)
  cutoffs-own s role id server None w own = own
  cutoffs-own s role id server (Some version) w own =
      cond_both (version == w.host.tuning.own.version) _ _ AreOwn (λ _. own) (λ _. all-append (IsOwnTold full host now) w.told _ own (tt, tt))

  acknowledged-own : (s : Settings) (server : HostId) (calls : List (ℕ × ℕ)) (w : Work) → AreOwn w → AreOwn (acknowledged s server calls w)
  acknowledged-own s server [] w own = own
  acknowledged-own s server (call ∷ calls) w own =
      cond_both (nat_lt (length calls) 4) _ _ AreOwn (λ _. own) (λ _. all-append (IsOwnTold full host now) w.told _ own (tt, tt))

  finishes-own : (s : Settings) (id : CallId) (server : HostId) (done : Bool) (w : Work) → AreOwn w → AreOwn (finishes s id server done w)
  finishes-own s id server false w own = own
  finishes-own s id server true w own = acknowledged-own s server (finished_at w.host server ++ (id.inc, id.seq) ∷ []) w own

  pub asked-own : (s : Settings) (id : CallId) (server : HostId) (did : Did ClientRow) (w : Work) → w.host.id ≡ host → AreOwnSays did → AreOwn w
      → AreOwn (asked s id server did w)
  unfolding asked
  asked-own s id server did w same says own =
      let put : Work = record w { host = record w.host { order = did.order; clients = set_row w.host.clients id did.row } } in
      let noted : Work = notes s did.opened put in
      let reply : Work = tells_cutoffs s Client id server did.version noted in
      finishes-own s id server did.finished (tells (said s w.host Client id server did.says) reply)
      (all-append (IsOwnTold full host now) reply.told (said s w.host Client id server did.says)
      (cutoffs-own s Client id server did.version noted (notes-own s did.opened put same own)) (said-own s w.host Client id server did.says says))

  pub served-own : (s : Settings) (id : CallId) (did : Did ServerRow) (w : Work) → w.host.id ≡ host → AreOwnSays did → AreOwn w → AreOwn (served s id did w)
  unfolding served
  served-own s id did w same says own =
      let put : Work = record w { host = record w.host { order = did.order; servers = set_row w.host.servers id did.row } } in
      let noted : Work = notes s did.opened put in
      let reply : Work = tells_cutoffs s Server id w.host.id did.version noted in
      all-append (IsOwnTold full host now) reply.told (said s w.host Server id w.host.id did.says)
      (cutoffs-own s Server id w.host.id did.version noted (notes-own s did.opened put same own)) (said-own s w.host Server id w.host.id did.says says)

  -- ---- rules at the client

  busy-own : (answer : OutAnswer) → AllByRecursion (IsOwnSay full host now) (busy_for answer)
  busy-own Busy = (tt, tt)
  busy-own Queued = tt

  module _ (f : full ≡ true) (id : CallId) (of_host : id.client ≡ host) where
    piece-own : (r : ClientRow) (part : Incoming) (piece : Piece) (d : Did ClientRow) → AreOwnSays d → AreOwnSays (client.piece_comes id r part piece d)
    piece-own r part piece d own =
        cond_both (not (part.length == piece.size)) _ _ (AreOwnSays {R = ClientRow}) (λ _. own)
        (λ _. cond_both (leaves_too_many_gaps part piece.offset piece.payload) _ _ (AreOwnSays {R = ClientRow}) (λ _. (of_host, tt))
        (λ _. cond_both (is_whole (with_bytes part piece.offset piece.payload)) _ _ (AreOwnSays {R = ClientRow}) (λ _. (f, tt)) (λ _. own)))

    response-own : (s : Settings) (m : Moment) (r : ClientRow) (o : Option Incoming) (piece : Piece) → AreOwnSays (response_piece s m id r o piece)
    response-own s m r None piece =
        cond_both (nat_lt m.free (pages_for piece.size)) _ _ (AreOwnSays {R = ClientRow}) (λ _. (of_host, tt))
        (λ _. piece-own r (incoming.opened r.server piece.size m.order s.unsched) piece (opening piece.size (keeps m r)) tt)
    response-own s m r (Some part) piece = piece-own r part piece (keeps m r) tt

    answered-own : (s : Settings) (m : Moment) (what : Body) (payload : List ℕ) (r : ClientRow) → AreOwnSays (answered s m id what payload r)
    answered-own s m (body.Data size offset version service ack) payload r =
        response-own s m r r.part (record { size = size; offset = offset; version = version; service = service; payload = payload })
    answered-own s m (body.Grant offset prio) payload r = tt
    answered-own s m (body.Resend from to prio) payload r = busy-own (resend r.out from to prio).answer
    answered-own s m body.Busy payload r = tt
    answered-own s m (body.Cutoffs cutoffs) payload r = tt
    answered-own s m (body.Unknown reason) payload r = cond_both (reason == 0) _ _ (AreOwnSays {R = ClientRow}) (λ _. tt) (λ _. (tt, tt))
    answered-own s m body.NeedAck payload r = (tt, tt)
    answered-own s m (body.Ack more) payload r = tt

  unasked-own : (m : Moment) (what : Body) → AreOwnSays (unasked m what)
  unasked-own m (body.Data size offset version service ack) = tt
  unasked-own m (body.Grant offset prio) = tt
  unasked-own m (body.Resend from to prio) = tt
  unasked-own m body.Busy = tt
  unasked-own m (body.Cutoffs cutoffs) = tt
  unasked-own m (body.Unknown reason) = tt
  unasked-own m body.NeedAck = (tt, tt)
  unasked-own m (body.Ack more) = tt

  client_gets-own : full ≡ true → (s : Settings) (m : Moment) (p : Packet) (o : Option ClientRow) → p.id.client ≡ host → AreOwnSays (client_gets s m p o)
  unfolding client_gets
  client_gets-own f s m p None of_host = unasked-own m p.body
  client_gets-own f s m p (Some r) of_host =
      cond_both (not ((sender p).0 == r.server.0)) _ _ (AreOwnSays {R = ClientRow}) (λ _. tt)
      (λ _. cond_both (nat_lt p.inc r.seen) _ _ (AreOwnSays {R = ClientRow}) (λ _. tt)
      (λ _. answered-own f p.id of_host s m p.body p.payload (refreshed m.now p.body (renewed p.inc r))))

  resend-own : (o : Option Range) (s : Settings) → AllByRecursion (IsOwnSay full host now) (resend_of s o)
  resend-own None s = tt
  resend-own (Some r) s = (tt, tt)

  client_acts-own : (s : Settings) (m : Moment) (id : CallId) (r : ClientRow) → AreOwnSays (client_acts s m id r)
  client_acts-own s m id r = cond_both (nat_lt r.count s.tries) _ _ (AreOwnSays {R = ClientRow}) (λ _. resend-own (wanted s r.part) s) (λ _. (tt, tt))

  -- ---- rules at the server

  module _ (f : full ≡ true) (s : Settings) (m : Moment) (of_host : m.host ≡ host) (id : CallId) where
    runs-own : (service : ℕ) (request : List ℕ) (a : Answer) (row : ServerRow) (d : Did ServerRow) → AreOwnSays (runs s m id service request a row d)
    runs-own service request a row d = cond_both (a.hold == 0) _ _ (AreOwnSays {R = ServerRow}) (λ _. ((of_host, f), tt)) (λ _. ((of_host, f), tt))

    request-own : (service : ℕ) (part : Incoming) (row : ServerRow) (piece : Piece) (a : Answer) (d : Did ServerRow) → AreOwnSays d
        → AreOwnSays (piece_comes s m id service part row piece a d)
    request-own service part row piece a d own =
        cond_both (not (part.length == piece.size) || not (service == piece.service)) _ _ (AreOwnSays {R = ServerRow}) (λ _. own)
        (λ _. cond_both (leaves_too_many_gaps part piece.offset piece.payload) _ _ (AreOwnSays {R = ServerRow}) (λ _. (of_host, tt))
        (λ _. cond_both (is_whole (with_bytes part piece.offset piece.payload)) _ _ (AreOwnSays {R = ServerRow})
        (λ _. runs-own service (message (with_bytes part piece.offset piece.payload)) a row (record d { version = version_of piece })) (λ _. own)))

    opens-own : (piece : Piece) (a : Answer) → AreOwnSays (opens s m id piece a)
    opens-own piece a =
        let part : Incoming = incoming.opened id.client piece.size m.order s.unsched in
        cond_both (nat_le s.served m.rows) _ _ (AreOwnSays {R = ServerRow}) (λ _. (of_host, tt))
        (λ _. cond_both (nat_lt m.free (pages_for piece.size)) _ _ (AreOwnSays {R = ServerRow}) (λ _. (of_host, tt))
        (λ _. request-own piece.service part (record { order = m.order; state = Receiving piece.service part m.now 0 }) piece a
        (opening piece.size (leaves m None)) tt))

    unknown-own : (what : Body) (payload : List ℕ) (a : Answer) → AreOwnSays (unknown_gets s m id what payload a)
    unknown-own (body.Data size offset version service ack) payload a = opens-own (piece_of size offset version service payload) a
    unknown-own (body.Grant offset prio) payload a = tt
    unknown-own (body.Resend from to prio) payload a = (tt, tt)
    unknown-own body.Busy payload a = tt
    unknown-own (body.Cutoffs cutoffs) payload a = tt
    unknown-own (body.Unknown reason) payload a = tt
    unknown-own body.NeedAck payload a = tt
    unknown-own (body.Ack more) payload a = tt

    receiving-own : (what : Body) (payload : List ℕ) (a : Answer) (row : ServerRow) (service : ℕ) (part : Incoming) (base : ℕ)
        → AreOwnSays (receiving_gets s m id what payload a row service part base)
    receiving-own (body.Data size offset version service' ack) payload a row service part base =
        request-own service part row (piece_of size offset version service' payload) a (leaves m None) tt
    receiving-own (body.Grant offset prio) payload a row service part base = tt
    receiving-own (body.Resend from to prio) payload a row service part base = (tt, tt)
    receiving-own body.Busy payload a row service part base = tt
    receiving-own (body.Cutoffs cutoffs) payload a row service part base = tt
    receiving-own (body.Unknown reason) payload a row service part base = tt
    receiving-own body.NeedAck payload a row service part base = tt
    receiving-own (body.Ack more) payload a row service part base = tt

    held-own : (what : Body) (row : ServerRow) → AreOwnSays (held_gets m what row)
    held-own (body.Data size offset version service ack) row = tt
    held-own (body.Grant offset prio) row = tt
    held-own (body.Resend from to prio) row = (tt, tt)
    held-own body.Busy row = tt
    held-own (body.Cutoffs cutoffs) row = tt
    held-own (body.Unknown reason) row = tt
    held-own body.NeedAck row = tt
    held-own (body.Ack more) row = tt

    replying-own : (what : Body) (row : ServerRow) (response : List ℕ) (out : Outgoing) (order : ℕ) → AreOwnSays (replying_gets m what row response out order)
    replying-own (body.Data size offset version service ack) row response out order = tt
    replying-own (body.Grant offset prio) row response out order = tt
    replying-own (body.Resend from to prio) row response out order = busy-own (resend out from to prio).answer
    replying-own body.Busy row response out order = tt
    replying-own (body.Cutoffs cutoffs) row response out order = tt
    replying-own (body.Unknown reason) row response out order = tt
    replying-own body.NeedAck row response out order = tt
    replying-own (body.Ack more) row response out order = tt

    buried-own : (what : Body) (row : ServerRow) → AreOwnSays (buried_gets m what row)
    buried-own (body.Data size offset version service ack) row = (tt, tt)
    buried-own (body.Grant offset prio) row = tt
    buried-own (body.Resend from to prio) row = (tt, tt)
    buried-own body.Busy row = tt
    buried-own (body.Cutoffs cutoffs) row = tt
    buried-own (body.Unknown reason) row = tt
    buried-own body.NeedAck row = tt
    buried-own (body.Ack more) row = tt

    row-own : (what : Body) (payload : List ℕ) (a : Answer) (row : ServerRow) (state : State) → AreOwnSays (row_gets s m id what payload a row state)
    row-own what payload a row (Receiving service part base count) = receiving-own what payload a row service part base
    row-own what payload a row (Held response release) = held-own what row
    row-own what payload a row (Replying response out order base count) = replying-own what row response out order
    row-own what payload a row (Buried until) = buried-own what row

  module _ (s : Settings) (m : Moment) (of_host : m.host ≡ host) (id : CallId) where
    acked-own-says : (row : ServerRow) (state : State) → AreOwnSays (state_acked s m id row state)
    acked-own-says row (Receiving service part base count) = tt
    acked-own-says row (Held response release) = (of_host, tt)
    acked-own-says row (Replying response out order base count) = (of_host, tt)
    acked-own-says row (Buried until) = tt

    server_acked-own : (o : Option ServerRow) → AreOwnSays (server_acked s m id o)
    unfolding server_acked
    server_acked-own None = tt
    server_acked-own (Some row) = acked-own-says row row.state

    state_acts-own : (row : ServerRow) (state : State) → AreOwnSays (state_acts s m id row state)
    state_acts-own row (Receiving service part base count) =
        cond_both (nat_lt count s.tries) _ _ (AreOwnSays {R = ServerRow}) (λ _. resend-own (first_gap part) s) (λ _. (of_host, tt))
    state_acts-own row (Held response release) = tt
    state_acts-own row (Replying response out order base count) =
        cond_both (nat_lt count s.tries) _ _ (AreOwnSays {R = ServerRow}) (λ _. (tt, tt)) (λ _. (of_host, tt))
    state_acts-own row (Buried until) = (of_host, tt)

  server_gets-own : full ≡ true → (s : Settings) (m : Moment) (p : Packet) (a : Answer) (o : Option ServerRow) → m.host ≡ host
      → AreOwnSays (server_gets s m p a o)
  unfolding server_gets
  server_gets-own f s m p a None of_host = unknown-own f s m of_host p.id p.body p.payload a
  server_gets-own f s m p a (Some row) of_host = row-own f s m of_host p.id p.body p.payload a row row.state

  -- ---- moves

  module _ (s : Settings) where
    pub hears-own : (peer : HostId) (inc : ℕ) (what : Body) (w : Work) → AreOwn w → AreOwn (hears_cutoffs s peer inc what w)
    hears-own peer inc (body.Cutoffs cutoffs) w own = cond_both (is_newer inc cutoffs (peer_cutoffs s w.host peer)) _ _ AreOwn (λ _. own) (λ _. own)
    hears-own peer inc (body.Data size offset version service ack) w own = own
    hears-own peer inc (body.Grant offset prio) w own = own
    hears-own peer inc (body.Resend from to prio) w own = own
    hears-own peer inc body.Busy w own = own
    hears-own peer inc (body.Unknown reason) w own = own
    hears-own peer inc body.NeedAck w own = own
    hears-own peer inc (body.Ack more) w own = own

    pub to_client-own : full ≡ true → (p : Packet) (a : Answer) (w : Work) → w.host.id ≡ host → p.id.client ≡ host → AreOwn w
        → AreOwn (comes_to_row s p a Server w)
    to_client-own f p a w same of_host own = asked-own s p.id p.server (client_gets s (moment s p.id w) p (get w.host.clients p.id)) w same
        (client_gets-own f s (moment s p.id w) p (get w.host.clients p.id) of_host) own

    pub to_server-own : full ≡ true → (p : Packet) (a : Answer) (w : Work) → w.host.id ≡ host → AreOwn w → AreOwn (comes_to_row s p a Client w)
    to_server-own f p a w same own = served-own s p.id (server_gets s (moment s p.id w) p a (get w.host.servers p.id)) w same
        (server_gets-own f s (moment s p.id w) p a (get w.host.servers p.id) same) own

    pub acked_one-own : (id : CallId) (w : Work) → w.host.id ≡ host → AreOwn w
        → AreOwn (served s id (server_acked s (moment s id w) id (get w.host.servers id)) w)
    acked_one-own id w same own = served-own s id (server_acked s (moment s id w) id (get w.host.servers id)) w same
        (server_acked-own s (moment s id w) same id (get w.host.servers id)) own

    client_acted-own : (id : CallId) (o : Option ClientRow) (w : Work) → w.host.id ≡ host → AreOwn w → AreOwn (client_acted s id o w)
    client_acted-own id None w same own = own
    client_acted-own id (Some r) w same own = asked-own s id r.server (client_acts s (moment s id w) id r) w same (client_acts-own s (moment s id w) id r) own

    server_acted-own : (id : CallId) (o : Option ServerRow) (w : Work) → w.host.id ≡ host → AreOwn w → AreOwn (server_acted s id o w)
    server_acted-own id None w same own = own
    server_acted-own id (Some row) w same own =
        served-own s id (server_acts s (moment s id w) id row) w same (state_acts-own s (moment s id w) same id row row.state) own

    pub acts_at-own : (place : Place) (w : Work) → w.host.id ≡ host → AreOwn w → AreOwn (acts_at s place w)
    acts_at-own (OfClient id) w same own = client_acted-own id (get w.host.clients id) w same own
    acts_at-own (OfServer id) w same own = server_acted-own id (get w.host.servers id) w same own

-- ---- how a step ends: what holds of all packets holds of all that is told further

module _ (P : Told → Type 0) (sends : (p : Packet) → P (Sends p)) (s : Settings) where
  abbrev AllTold : Work → Type 0
  AllTold w = AllByRecursion P w.told

  client_granted-told : (id : CallId) (what : Body) (offset : ℕ) (o : Option ClientRow) (w : Work) → AllTold w
      → AllTold (client_is_granted s id what offset o w)
  client_granted-told id what offset None w own = own
  client_granted-told id what offset (Some r) w own = all-append P w.told _ own (sends _, tt)

  server_granted-told : (id : CallId) (what : Body) (offset : ℕ) (o : Option ServerRow) (w : Work) → AllTold w
      → AllTold (server_is_granted s id what offset o w)
  server_granted-told id what offset None w own = own
  server_granted-told id what offset (Some row) w own = all-append P w.told _ own (sends _, tt)

  grants_at-told : (place : Place) (offset prio : ℕ) (w : Work) → AllTold w → AllTold (grants_at s place offset prio w)
  grants_at-told (OfClient id) offset prio w own = client_granted-told id (body.Grant offset prio) offset (get w.host.clients id) w own
  grants_at-told (OfServer id) offset prio w own = server_granted-told id (body.Grant offset prio) offset (get w.host.servers id) w own

  all_granted-told : (gs : List (Granted Arriving)) (w : Work) → AllTold w → AllTold (all_granted s gs w)
  all_granted-told [] w own = own
  all_granted-told (g ∷ gs) w own = all_granted-told gs (grants_at s g.to.place g.offset g.prio w) (grants_at-told g.to.place g.offset g.prio w own)

  client_leaves-told : (id : CallId) (o : Option ClientRow) (w v : Work) → client_leaves s id o w ≡ Some v → AllTold w → AllTold v
  client_leaves-told id None w v e own = cc
  client_leaves-told id (Some r) w v e own =
      let l = left (next_range r.out s.seg) w v (λ range. request_leaves s id r range w) e in
      subst AllTold l.is (all-append P w.told _ own (sends _, tt))

  state_leaves-told : (id : CallId) (row : ServerRow) (state : State) (w v : Work) → state_leaves s id row state w ≡ Some v → AllTold w → AllTold v
  state_leaves-told id row (Receiving service part base count) w v e own = cc
  state_leaves-told id row (Held response release) w v e own = cc
  state_leaves-told id row (Replying response out order base count) w v e own =
      let l = left (next_range out s.seg) w v
      (λ range. response_leaves s id row (response_content s (peer_cutoffs s w.host id.client).cutoffs response out range) range w) e in
      subst AllTold l.is (all-append P w.told _ own (sends _, tt))
  state_leaves-told id row (Buried until) w v e own = cc

  server_leaves-told : (id : CallId) (o : Option ServerRow) (w v : Work) → server_leaves s id o w ≡ Some v → AllTold w → AllTold v
  server_leaves-told id None w v e own = cc
  server_leaves-told id (Some row) w v e own = state_leaves-told id row row.state w v e own

  leaves_from-told : (place : Place) (w v : Work) → leaves_from s place w ≡ Some v → AllTold w → AllTold v
  leaves_from-told (OfClient id) w v e own = client_leaves-told id (get w.host.clients id) w v e own
  leaves_from-told (OfServer id) w v e own = server_leaves-told id (get w.host.servers id) w v e own

  first_leaves-told : (o : Option Leaving) (w v : Work) → first_leaves s o w ≡ Some v → AllTold w → AllTold v
  first_leaves-told None w v e own = cc
  first_leaves-told (Some l) w v e own = leaves_from-told l.place w v e own

  once-told : (w v : Work) → pumped_once s w ≡ Some v → AllTold w → AllTold v
  unfolding pumped_once
  once-told w v e own = first_leaves-told (least leaving_key (departures s (now_of w) w.host)) w v e own

  pumps-told : (n : ℕ) (w : Work) → AllTold w → AllTold (pumps s n w)
  unfolding pumps
  pumps-told zero w own = own
  pumps-told (suc n) w own =
      elim (pumped_once s w) as (λ o. pumped_once s w ≡ o → AllTold (elim o [ None ↦ w | Some after ↦ pumps s n after ])) [
        | None ↦ λ e. own
        | Some v ↦ λ e. pumps-told n v (once-told w v e own)
      ] refl

  pub ended-told : (w : Work) → AllTold w → AllTold (ended s w)
  ended-told w own =
      let v : Work = gives_grants s w in
      pumps-told (64 - length (packets_in v.told)) v (all_granted-told (grants (λ (a : Arriving). a.message) s.overcommit s.window (arrivals w.host)) w own)
