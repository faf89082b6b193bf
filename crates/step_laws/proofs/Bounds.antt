-- How many packets a step sends at most, and how many order numbers it gives out.
use Rattle.std.proofs.Common.{◌≡◌, ℕ, ◌+◌, ◌-◌, ◌≤◌, not, Option, Some, None, List, [], ◌∷◌, ◌++◌, length, refl, ap, arith}
use Rattle.std.specs.Prelude.{◌==◌, ◌||◌, nat_lt, nat_le}
use Rattle.std.proofs.lemmas.Bool.{cond_both}
use Rattle.plain_sets.specs.Maps.{get}
use Rattle.plain_sets.specs.Ranges.{Range}
use Rattle.homa_plain.specs.declared.id.CallId.{CallId}
use Rattle.homa_plain.specs.declared.id.HostId.{HostId}
use Rattle.homa_plain.specs.declared.packet.Role.{Role}
use Rattle.homa_plain.specs.declared.packet.Role.TheVariants.{Client, Server}
use Rattle.homa_plain.specs.declared.packet.Body.{Body}
use Rattle.homa_plain.specs.declared.packet.Body.TheVariants as body
use Rattle.homa_plain.specs.declared.settings.Settings.{Settings}
use Rattle.homa_plain.specs.Timers.{due}
use Rattle.homa_plain.specs.Incoming.{Incoming, with_bytes, leaves_too_many_gaps, is_whole, message, first_gap}
use Rattle.homa_plain.specs.Incoming as incoming
use Rattle.homa_plain.specs.Outgoing.{Outgoing}
use Rattle.homa_plain.specs.Busy.{Answer as OutAnswer, Busy, Queued, resend}
use Rattle.homa_plain.specs.Entries.{PlainEntry, PlainJunk, PlainStale}
use Rattle.homa_plain.specs.Packets.{Packet, sender, acks}
use Rattle.homa_plain.specs.Rows.{ClientRow, ServerRow, State, Receiving, Held, Replying, Buried}
use Rattle.homa_plain.specs.Host.{Host, pages_for, Told, Says, packets_in}
use Rattle.homa_plain.specs.Rules.{Moment, Answer, Piece, Did, leaves, keeps, opening, version_of}
use Rattle.homa_plain.specs.Busy.{busy_for}
use Rattle.homa_plain.specs.AtClient.{unasked, client_gets}
use Rattle.homa_plain.specs.AtClient as client
use Rattle.homa_plain.specs.AtServer.{held_gets, replying_gets, runs, piece_comes, opens, piece_of, unknown_gets, receiving_gets}
use Rattle.homa_plain.specs.Unknown.{buried_gets}
use Rattle.homa_plain.specs.AtServer.{row_gets, server_gets}
use Rattle.homa_plain.specs.Timers.{Place, OfClient, OfServer, Timer, timer_key, timers, resend_of, wanted, client_acts, state_acts, server_acts}
use Rattle.homa_plain.specs.Work.{Work, begun, now_of, said, tells}
use Rattle.homa_plain.specs.Steps.{moment, asked, served, comes_to_row, acked, takes, comes, gives_grants}
use Rattle.homa_plain.specs.OldPackets.{is_stale}
use Rattle.homa_plain.specs.SentNext.{pump}
use Rattle.homa_plain.specs.Steps.{ended, arrival_step, client_acted, server_acted, acts_at, all_act, acts, turn_step}
use Rattle.homa_plain.specs.CutoffsPackets.{hears_cutoffs}
use Rattle.homa_plain.specs.Credit.{refilled}
use Rattle.homa_plain.specs.Steps.{starts, call_step}
use Rattle.step_laws.specs.StepLaws.{IsBounded}
use Rattle.homa_plain.proofs.ChoiceLaws.{few-due}
use Rattle.step_laws.proofs.ToldBy.{length-packets-append, Calm, one_if, one_if_some, post_count, said-posts, Carried, asked-carried, served-carried}
use Rattle.step_laws.proofs.ToldBy.{hears_cutoffs-calm}
use Rattle.step_laws.proofs.StepEnd.{gives_grants-calm, pump-calm}
use Rattle.step_laws.proofs.OneAnswer.{acked-calm}

-- ---- what a rule costs

-- at most so many packets and order numbers
pub record Costs {R : Type 0} (m : Moment) (packets orders : ℕ) (did : Did R) : Type 0 where
  pub up : m.order ≤ did.order
  pub order : did.order ≤ m.order + orders
  pub cost : post_count did.says + (one_if_some did.version + one_if did.finished) ≤ packets

busy_posts : (answer : OutAnswer) → post_count (busy_for answer) ≤ 1
busy_posts Busy = omega arith
busy_posts Queued = omega arith

version_one : (o : Option ℕ) → one_if_some o ≤ 1
version_one None = omega arith
version_one (Some n) = omega arith

module _ (s : Settings) (m : Moment) (id : CallId) where
  -- a message that may just have been opened
  client_piece_costs : (k : ℕ) (r : ClientRow) (part : Incoming) (piece : Piece) (d : Did ClientRow) → Costs m 0 k d
      → Costs m 2 k (client.piece_comes id r part piece d)
  client_piece_costs k r part piece d c =
      cond_both (not (part.length == piece.size)) _ _ (Costs m 2 k) (λ _. record { up = c.up; order = c.order; cost = omega (arith, c.cost) })
      (λ _. cond_both (leaves_too_many_gaps part piece.offset piece.payload) _ _ (Costs m 2 k)
      (λ _. record { up = c.up; order = c.order; cost = omega (arith, c.cost, version_one (version_of piece)) })
      (λ _. cond_both (is_whole (with_bytes part piece.offset piece.payload)) _ _ (Costs m 2 k)
      (λ _. record { up = c.up; order = c.order; cost = omega (arith, version_one (version_of piece)) })
      (λ _. record { up = c.up; order = c.order; cost = omega (arith, c.cost, version_one (version_of piece)) })))

  response_costs : (r : ClientRow) (o : Option Incoming) (piece : Piece) → Costs m 2 1 (client.response_piece s m id r o piece)
  response_costs r None piece =
      cond_both (nat_lt m.free (pages_for piece.size)) _ _ (Costs m 2 1) (λ _. record { up = omega arith; order = omega arith; cost = omega arith })
      (λ _. client_piece_costs 1 r (incoming.opened r.server piece.size m.order s.unsched) piece (opening piece.size (keeps m r))
      (record { up = omega arith; order = omega arith; cost = omega arith }))
  response_costs r (Some part) piece = client_piece_costs 1 r part piece (keeps m r) (record { up = omega arith; order = omega arith; cost = omega arith })

  answered_costs : (what : Body) (payload : List ℕ) (r : ClientRow) → Costs m 2 1 (client.answered s m id what payload r)
  answered_costs (body.Data size offset version service ack) payload r =
      response_costs r r.part (record { size = size; offset = offset; version = version; service = service; payload = payload })
  answered_costs (body.Grant offset prio) payload r = record { up = omega arith; order = omega arith; cost = omega arith }
  answered_costs (body.Resend from to prio) payload r =
      record { up = omega arith; order = omega arith; cost = omega (arith, busy_posts (resend r.out from to prio).answer) }
  answered_costs body.Busy payload r = record { up = omega arith; order = omega arith; cost = omega arith }
  answered_costs (body.Cutoffs cutoffs) payload r = record { up = omega arith; order = omega arith; cost = omega arith }
  answered_costs (body.Unknown reason) payload r =
      cond_both (reason == 0) _ _ (Costs m 2 1) (λ _. record { up = omega arith; order = omega arith; cost = omega arith })
      (λ _. record { up = omega arith; order = omega arith; cost = omega arith })
  answered_costs body.NeedAck payload r = record { up = omega arith; order = omega arith; cost = omega arith }
  answered_costs (body.Ack more) payload r = record { up = omega arith; order = omega arith; cost = omega arith }

unasked_costs : (m : Moment) (what : Body) → Costs m 2 1 (unasked m what)
unasked_costs m body.NeedAck = record { up = omega arith; order = omega arith; cost = omega arith }
unasked_costs m what = record { up = omega arith; order = omega arith; cost = omega arith }

client_costs : (s : Settings) (m : Moment) (p : Packet) (o : Option ClientRow) → Costs m 2 1 (client_gets s m p o)
unfolding client_gets
client_costs s m p None = unasked_costs m p.body
client_costs s m p (Some r) =
    cond_both (not ((sender p).0 == r.server.0)) _ _ (Costs m 2 1) (λ _. record { up = omega arith; order = omega arith; cost = omega arith })
    (λ _. cond_both (nat_lt p.inc r.seen) _ _ (Costs m 2 1) (λ _. record { up = omega arith; order = omega arith; cost = omega arith })
    (λ _. answered_costs s m p.id p.body p.payload (client.refreshed m.now p.body (client.renewed p.inc r))))

module _ (s : Settings) (m : Moment) (id : CallId) where
  runs_costs : (service : ℕ) (request : List ℕ) (a : Answer) (row : ServerRow) (d : Did ServerRow) → m.order ≤ d.order → d.order ≤ m.order + 1
      → one_if_some d.version + one_if d.finished ≤ 1
      → Costs m 1 2 (runs s m id service request a row d)
  runs_costs service request a row d up order cost =
      cond_both (a.hold == 0) _ _ (Costs m 1 2) (λ _. record { up = omega arith; order = omega arith; cost = omega arith })
      (λ _. record { up = omega arith; order = omega arith; cost = omega arith })

  server_piece_costs : (service : ℕ) (part : Incoming) (row : ServerRow) (piece : Piece) (a : Answer) (d : Did ServerRow) → Costs m 0 1 d
      → Costs m 1 2 (piece_comes s m id service part row piece a d)
  server_piece_costs service part row piece a d c =
      cond_both (not (part.length == piece.size) || not (service == piece.service)) _ _ (Costs m 1 2)
      (λ _. record { up = c.up; order = omega (arith, c.order); cost = omega (arith, c.cost) })
      (λ _. cond_both (leaves_too_many_gaps part piece.offset piece.payload) _ _ (Costs m 1 2)
      (λ _. record { up = c.up; order = omega (arith, c.order); cost = omega (arith, c.cost, version_one (version_of piece)) })
      (λ _. cond_both (is_whole (with_bytes part piece.offset piece.payload)) _ _ (Costs m 1 2)
      (λ _. runs_costs service (message (with_bytes part piece.offset piece.payload)) a row (record d { version = version_of piece }) c.up c.order
      (omega (arith, c.cost, version_one (version_of piece))))
      (λ _. record { up = c.up; order = omega (arith, c.order); cost = omega (arith, c.cost, version_one (version_of piece)) })))

  opens_costs : (piece : Piece) (a : Answer) → Costs m 1 2 (opens s m id piece a)
  opens_costs piece a =
      let part : Incoming = incoming.opened id.client piece.size m.order s.unsched in
      cond_both (nat_le s.served m.rows) _ _ (Costs m 1 2) (λ _. record { up = omega arith; order = omega arith; cost = omega arith })
      (λ _. cond_both (nat_lt m.free (pages_for piece.size)) _ _ (Costs m 1 2) (λ _. record { up = omega arith; order = omega arith; cost = omega arith })
      (λ _. server_piece_costs piece.service part (record { order = m.order; state = Receiving piece.service part m.now 0 }) piece a
      (opening piece.size (leaves m None))
      (record { up = omega arith; order = omega arith; cost = omega arith })))

  unknown_costs : (what : Body) (payload : List ℕ) (a : Answer) → Costs m 1 2 (unknown_gets s m id what payload a)
  unknown_costs (body.Data size offset version service ack) payload a = opens_costs (piece_of size offset version service payload) a
  unknown_costs (body.Resend from to prio) payload a = record { up = omega arith; order = omega arith; cost = omega arith }
  unknown_costs what payload a = record { up = omega arith; order = omega arith; cost = omega arith }

  receiving_costs : (what : Body) (payload : List ℕ) (a : Answer) (row : ServerRow) (service : ℕ) (part : Incoming) (base : ℕ)
      → Costs m 1 2 (receiving_gets s m id what payload a row service part base)
  receiving_costs (body.Data size offset version service' ack) payload a row service part base =
      server_piece_costs service part row (piece_of size offset version service' payload) a (leaves m None)
      (record { up = omega arith; order = omega arith; cost = omega arith })
  receiving_costs (body.Resend from to prio) payload a row service part base = record { up = omega arith; order = omega arith; cost = omega arith }
  receiving_costs body.Busy payload a row service part base = record { up = omega arith; order = omega arith; cost = omega arith }
  receiving_costs what payload a row service part base = record { up = omega arith; order = omega arith; cost = omega arith }

  held_costs : (what : Body) (row : ServerRow) → Costs m 1 2 (held_gets m what row)
  held_costs (body.Resend from to prio) row = record { up = omega arith; order = omega arith; cost = omega arith }
  held_costs what row = record { up = omega arith; order = omega arith; cost = omega arith }

  replying_costs : (what : Body) (row : ServerRow) (response : List ℕ) (out : Outgoing) (order : ℕ) → Costs m 1 2 (replying_gets m what row response out order)
  replying_costs (body.Grant offset prio) row response out order = record { up = omega arith; order = omega arith; cost = omega arith }
  replying_costs (body.Resend from to prio) row response out order =
      record { up = omega arith; order = omega arith; cost = omega (arith, busy_posts (resend out from to prio).answer) }
  replying_costs (body.Ack more) row response out order = record { up = omega arith; order = omega arith; cost = omega arith }
  replying_costs what row response out order = record { up = omega arith; order = omega arith; cost = omega arith }

  buried_costs : (what : Body) (row : ServerRow) → Costs m 1 2 (buried_gets m what row)
  buried_costs (body.Data size offset version service ack) row = record { up = omega arith; order = omega arith; cost = omega arith }
  buried_costs (body.Resend from to prio) row = record { up = omega arith; order = omega arith; cost = omega arith }
  buried_costs what row = record { up = omega arith; order = omega arith; cost = omega arith }

  row_costs : (what : Body) (payload : List ℕ) (a : Answer) (row : ServerRow) (state : State) → Costs m 1 2 (row_gets s m id what payload a row state)
  row_costs what payload a row (Receiving service part base count) = receiving_costs what payload a row service part base
  row_costs what payload a row (Held response release) = held_costs what row
  row_costs what payload a row (Replying response out order base count) = replying_costs what row response out order
  row_costs what payload a row (Buried until) = buried_costs what row

server_costs : (s : Settings) (m : Moment) (p : Packet) (a : Answer) (o : Option ServerRow) → Costs m 1 2 (server_gets s m p a o)
unfolding server_gets
server_costs s m p a None = unknown_costs s m p.id p.body p.payload a
server_costs s m p a (Some row) = row_costs s m p.id p.body p.payload a row row.state

module _ (s : Settings) where
  resend_posts : (o : Option Range) → post_count (resend_of s o) ≤ 1
  resend_posts None = omega arith
  resend_posts (Some r) = omega arith

  client_acts-costs : (m : Moment) (id : CallId) (r : ClientRow) → Costs m 1 1 (client_acts s m id r)
  client_acts-costs m id r =
      cond_both (nat_lt r.count s.tries) _ _ (Costs m 1 1)
      (λ _. record { up = omega arith; order = omega arith; cost = omega (arith, resend_posts (wanted s r.part)) })
      (λ _. record { up = omega arith; order = omega arith; cost = omega arith })

  state_acts-costs : (m : Moment) (id : CallId) (row : ServerRow) (state : State) → Costs m 1 1 (state_acts s m id row state)
  state_acts-costs m id row (Receiving service part base count) =
      cond_both (nat_lt count s.tries) _ _ (Costs m 1 1)
      (λ _. record { up = omega arith; order = omega arith; cost = omega (arith, resend_posts (first_gap part)) })
      (λ _. record { up = omega arith; order = omega arith; cost = omega arith })
  state_acts-costs m id row (Held response release) = record { up = omega arith; order = omega arith; cost = omega arith }
  state_acts-costs m id row (Replying response out order base count) =
      cond_both (nat_lt count s.tries) _ _ (Costs m 1 1)
      (λ _. record { up = omega arith; order = omega arith; cost = omega arith })
      (λ _. record { up = omega arith; order = omega arith; cost = omega arith })
  state_acts-costs m id row (Buried until) = record { up = omega arith; order = omega arith; cost = omega arith }

-- ---- moves

-- at most so many packets and order numbers more
pub record Bounded (packets orders : ℕ) (w v : Work) : Type 0 where
  pub few : length (packets_in v.told) ≤ length (packets_in w.told) + packets
  pub up : w.host.order ≤ v.host.order
  pub order : v.host.order ≤ w.host.order + orders

bounded_none : (w : Work) → Bounded 0 0 w w
bounded_none w = record { few = omega arith; up = omega arith; order = omega arith }

bounded_then : (m n j k : ℕ) (w v x : Work) → Bounded m j w v → Bounded n k v x → Bounded (m + n) (j + k) w x
bounded_then m n j k w v x a b = record { few = omega (arith, a.few, b.few); up = omega (arith, a.up, b.up); order = omega (arith, a.order, b.order) }

bounded_calm : (n : ℕ) (w v : Work) → Calm n w v → Bounded n 0 w v
bounded_calm n w v c =
    let e : length (packets_in v.told) ≡ length (packets_in (w.told ++ c.told)) = ap (λ t. length (packets_in t)) c.grown in
    record { few = omega (arith, e, length-packets-append w.told c.told, c.few); up = omega (arith, c.order); order = omega (arith, c.order) }

bounded_carried : (n end orders : ℕ) (says : List Told) (w v : Work) → Carried n end says w v → w.host.order ≤ end → end ≤ w.host.order + orders
    → Bounded (n + length (packets_in says)) orders w v
bounded_carried n end orders says w v c up order =
    let e : length (packets_in v.told) ≡ length (packets_in (w.told ++ (c.before ++ (says ++ c.after)))) = ap (λ t. length (packets_in t)) c.grown in
    record {
      few = omega (
        arith,
        e,
        length-packets-append w.told (c.before ++ (says ++ c.after)),
        length-packets-append c.before (says ++ c.after),
        length-packets-append says c.after,
        c.few,
      );
      up = omega (arith, up, c.order);
      order = omega (arith, order, c.order);
    }

module _ (s : Settings) where
  asked-bounded : (packets orders : ℕ) (id : CallId) (server : HostId) (did : Did ClientRow) (w : Work) → Costs (moment s id w) packets orders did
      → Bounded packets orders w (asked s id server did w)
  asked-bounded packets orders id server did w c =
      let b = bounded_carried (one_if_some did.version + one_if did.finished) did.order orders (said s w.host Client id server did.says) w
      (asked s id server did w) (asked-carried s id server did w) c.up c.order in
      record { few = omega (arith, b.few, c.cost, said-posts s w.host Client id server did.says); up = b.up; order = b.order }

  served-bounded : (packets orders : ℕ) (id : CallId) (did : Did ServerRow) (w : Work) → Costs (moment s id w) packets orders did
      → Bounded packets orders w (served s id did w)
  served-bounded packets orders id did w c =
      let b = bounded_carried (one_if_some did.version) did.order orders (said s w.host Server id w.host.id did.says) w (served s id did w)
      (served-carried s id did w) c.up c.order in
      record { few = omega (arith, b.few, c.cost, said-posts s w.host Server id w.host.id did.says); up = b.up; order = b.order }

  bounded_more : (m n j k : ℕ) (w v : Work) → m ≤ n → j ≤ k → Bounded m j w v → Bounded n k w v
  bounded_more m n j k w v h l a = record { few = omega (arith, h, a.few); up = a.up; order = omega (arith, l, a.order) }

  row-bounded : (p : Packet) (a : Answer) (role : Role) (w : Work) → Bounded 2 2 w (comes_to_row s p a role w)
  row-bounded p a Client w =
      let did : Did ServerRow = server_gets s (moment s p.id w) p a (get w.host.servers p.id) in
      bounded_more 1 2 2 2 w (served s p.id did w) (omega arith) (omega arith)
      (served-bounded 1 2 p.id did w (server_costs s (moment s p.id w) p a (get w.host.servers p.id)))
  row-bounded p a Server w =
      let did : Did ClientRow = client_gets s (moment s p.id w) p (get w.host.clients p.id) in
      bounded_more 2 2 1 2 w (asked s p.id p.server did w) (omega arith) (omega arith)
      (asked-bounded 2 1 p.id p.server did w (client_costs s (moment s p.id w) p (get w.host.clients p.id)))

  takes-bounded : (p : Packet) (a : Answer) (w : Work) → Bounded 2 2 w (takes s p a w)
  unfolding takes
  takes-bounded p a w =
      let heard : Work = hears_cutoffs s (sender p) p.inc p.body w in
      let come : Work = comes_to_row s p a p.role heard in
      let first = bounded_then 0 2 0 2 w heard come (bounded_calm 0 w heard (hears_cutoffs-calm s (sender p) p.inc p.body w)) (row-bounded p a p.role heard) in
      let all =
      bounded_then (0 + 2) 0 (0 + 2) 0 w come (acked s (acks p) come) first (bounded_calm 0 come (acked s (acks p) come) (acked-calm s (acks p) come)) in
      record { few = omega (arith, all.few); up = all.up; order = omega (arith, all.order) }

  says_one : (entry : PlainEntry) (w : Work) → Bounded 2 2 w (tells (Says entry ∷ []) w)
  says_one entry w = record { few = omega (arith, length-packets-append w.told (Says entry ∷ [])); up = omega arith; order = omega arith }

  comes-bounded : (o : Option Packet) (a : Answer) (w : Work) → Bounded 2 2 w (comes s o a w)
  comes-bounded None a w = says_one (PlainJunk w.host.id) w
  comes-bounded (Some p) a w =
      cond_both (is_stale s (now_of w) p) (tells (Says (PlainStale w.host.id p.at (now_of w)) ∷ []) w) (takes s p a w) (Bounded 2 2 w)
      (λ _. says_one (PlainStale w.host.id p.at (now_of w)) w) (λ _. takes-bounded p a w)

  client_acted-bounded : (id : CallId) (o : Option ClientRow) (w : Work) → Bounded 1 1 w (client_acted s id o w)
  client_acted-bounded id None w = bounded_more 0 1 0 1 w w (omega arith) (omega arith) (bounded_none w)
  client_acted-bounded id (Some r) w = asked-bounded 1 1 id r.server (client_acts s (moment s id w) id r) w (client_acts-costs s (moment s id w) id r)

  server_acted-bounded : (id : CallId) (o : Option ServerRow) (w : Work) → Bounded 1 1 w (server_acted s id o w)
  server_acted-bounded id None w = bounded_more 0 1 0 1 w w (omega arith) (omega arith) (bounded_none w)
  server_acted-bounded id (Some row) w = served-bounded 1 1 id (server_acts s (moment s id w) id row) w (state_acts-costs s (moment s id w) id row row.state)

  acts_at-bounded : (place : Place) (w : Work) → Bounded 1 1 w (acts_at s place w)
  acts_at-bounded (OfClient id) w = client_acted-bounded id (get w.host.clients id) w
  acts_at-bounded (OfServer id) w = server_acted-bounded id (get w.host.servers id) w

  all_act-bounded : (ts : List Timer) (w : Work) → Bounded (length ts) (length ts) w (all_act s ts w)
  all_act-bounded [] w = bounded_none w
  all_act-bounded (t ∷ ts) w =
      let v : Work = acts_at s t.place w in
      let b = bounded_then 1 (length ts) 1 (length ts) w v (all_act s ts v) (acts_at-bounded t.place w) (all_act-bounded ts v) in
      record { few = omega (arith, b.few); up = b.up; order = omega (arith, b.order) }

  acts-bounded : (w : Work) → Bounded 32 32 w (acts s w)
  acts-bounded w =
      let ts : List Timer = due timer_key (now_of w) (timers s w.host) in
      let l : length ts ≤ 32 = few-due timer_key (now_of w) (timers s w.host) in
      bounded_more (length ts) 32 (length ts) 32 w (acts s w) l l (all_act-bounded ts w)

  -- after at most 57 packets there is room for each grant, and the pump fills up to 64
  end-bounded : s.overcommit ≤ 7 → (w : Work) → length (packets_in w.told) ≤ 57
      → (length (packets_in (ended s w).told) ≤ 64) × ((ended s w).host.order ≡ w.host.order)
  end-bounded k w few =
      let v : Work = gives_grants s w in
      let a = bounded_calm s.overcommit w v (gives_grants-calm s w) in
      let b = bounded_calm (64 - length (packets_in v.told)) v (pump s v) (pump-calm s v) in
      (omega (arith, k, few, a.few, b.few), omega (arith, a.up, a.order, b.up, b.order))

  -- ---- the laws

  bounded-step : (n : ℕ) (h : Host) (w v : Work) → s.overcommit ≤ 7 → w.told ≡ [] → w.host.order ≡ h.order → Bounded 57 n w v → IsBounded n h (ended s v)
  bounded-step n h w v k none same b =
      let start : length (packets_in w.told) ≡ 0 = ap (λ t. length (packets_in t)) none in
      let end = end-bounded k v (omega (arith, start, b.few)) in
      record { packets = end.0; up = omega (arith, end.1, b.up, same); order = omega (arith, end.1, b.order, same) }

  pub call-bounded : s.overcommit ≤ 7 → (h : Host) (now : ℕ) (server : HostId) (service : ℕ) (request : List ℕ)
      → IsBounded 1 h (call_step s h now server service request)
  unfolding call_step
  call-bounded k h now server service request =
      bounded-step 1 h (begun h now) (starts s server service request (begun h now)) k refl refl
      (record { few = omega arith; up = omega arith; order = omega arith })

  pub arrival-bounded : s.overcommit ≤ 7 → (h : Host) (now : ℕ) (o : Option Packet) (a : Answer) → IsBounded 2 h (arrival_step s h now o a)
  unfolding arrival_step
  arrival-bounded k h now o a =
      bounded-step 2 h (begun h now) (comes s o a (begun h now)) k refl refl
      (bounded_more 2 57 2 2 (begun h now) (comes s o a (begun h now)) (omega arith) (omega arith) (comes-bounded o a (begun h now)))

  -- what is filled up is credit
  refilled-order : (h : Host) → (refilled s h).order ≡ h.order
  refilled-order h =
      cond_both (nat_lt h.refilled h.last) (record h { credit = s.rate; refilled = h.last }) h (λ (g : Host). g.order ≡ h.order) (λ _. refl) (λ _. refl)

  pub turn-bounded : s.overcommit ≤ 7 → (h : Host) (now : ℕ) → IsBounded 32 h (turn_step s h now)
  unfolding turn_step
  turn-bounded k h now =
      let w : Work = begun (refilled s (record h { last = now })) now in
      bounded-step 32 h w (acts s w) k refl (refilled-order (record h { last = now }))
      (bounded_more 32 57 32 32 w (acts s w) (omega arith) (omega arith) (acts-bounded w))
