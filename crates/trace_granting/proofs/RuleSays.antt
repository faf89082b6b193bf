-- What rules say: no GRANT; and what a timer says refuses no delivery.
use Rattle.std.proofs.Common.{◌≡◌, ℕ, Bool, true, false, ◌||◌, Option, Some, None, List, [], ◌∷◌, ◌++◌, length, refl, sym, subst}
use Rattle.std.specs.Prelude.{◌==◌, not, nat_lt, nat_le}
use Rattle.std.proofs.lemmas.Bool.{cond_both}
use Rattle.plain_sets.specs.Ranges.{Range}
use Rattle.homa_plain.specs.declared.id.CallId.{CallId}
use Rattle.homa_plain.specs.declared.id.HostId.{HostId}
use Rattle.homa_plain.specs.declared.packet.Role.{Role}
use Rattle.homa_plain.specs.declared.packet.Role.TheVariants.{Client, Server}
use Rattle.homa_plain.specs.declared.packet.Body.{Body}
use Rattle.homa_plain.specs.declared.packet.Body.TheVariants as body
use Rattle.homa_plain.specs.declared.settings.Settings.{Settings}
use Rattle.homa_plain.specs.Calls.{is_host}
use Rattle.homa_plain.specs.Incoming.{Incoming, with_bytes, is_whole, leaves_too_many_gaps, first_gap}
use Rattle.homa_plain.specs.Incoming as incoming
use Rattle.homa_plain.specs.Busy.{Answer as ResendAnswer, Busy, Queued, resend}
use Rattle.homa_plain.specs.Packets.{Packet, sender}
use Rattle.homa_plain.specs.Rows.{ClientRow, ServerRow, State, Receiving, Held, Replying, Buried}
use Rattle.homa_plain.specs.Host.{Host, pages_for, Told, Says, Sends, packets_in, Tuned, tuned, is_balance_due, counted, finished_at}
use Rattle.homa_plain.specs.Rules.{Moment, Answer, Piece, Say, Tells, Posts, Did, leaves, keeps, opening, version_of}
use Rattle.homa_plain.specs.Busy.{busy_for}
use Rattle.homa_plain.specs.AtClient.{response_piece, answered, unasked, client_gets, renewed, refreshed}
use Rattle.homa_plain.specs.AtClient as client
use Rattle.homa_plain.specs.AtServer.{runs, piece_comes, opens, piece_of, unknown_gets, row_gets, server_gets}
use Rattle.homa_plain.specs.Tombstones.{state_acked, server_acked}
use Rattle.homa_plain.specs.Timers.{resend_of, wanted, client_acts, state_acts, server_acts}
use Rattle.homa_plain.specs.Work.{Work, said}
use Rattle.step_laws.proofs.Places.{all-append}
use Rattle.step_moves.proofs.Moves.{notes_told, reply_told, acknowledged_told, finishes_told, served_put, served_noted, served_told, served_packets}
use Rattle.step_moves.proofs.AskedMove.{asked_put, asked_noted, asked_said, asked_told, asked_packets}
use Rattle.trace_steps.proofs.PartLines.{is_grant}
use Rattle.trace_granting.proofs.Window.{NoGrants, IsLate, AllLate}

-- no GRANT is said
abbrev pub AllOther : List Say → Type 0
AllOther [] = Unit {0}
AllOther (Tells entry ∷ says) = AllOther says
AllOther (Posts what ∷ says) = (is_grant what ≡ false) × AllOther says

abbrev IsOther : {R : Type 0} → Did R → Type 0
IsOther d = AllOther d.says

-- no refusal of a delivery
abbrev pub AllLateSays : List Say → Type 0
AllLateSays [] = Unit {0}
AllLateSays (Tells entry ∷ says) = IsLate entry × AllLateSays says
AllLateSays (Posts what ∷ says) = AllLateSays says

-- ---- at a server

module _ (s : Settings) (m : Moment) (id : CallId) where
  runs_other : (service : ℕ) (request : List ℕ) (answer : Answer) (row : ServerRow) (d : Did ServerRow) → IsOther (runs s m id service request answer row d)
  runs_other service request answer row d = cond_both (answer.hold == 0) _ _ (λ (x : Did ServerRow). IsOther x) (λ _. tt) (λ _. tt)

  comes_other : (service : ℕ) (part : Incoming) (row : ServerRow) (piece : Piece) (answer : Answer) (d : Did ServerRow) → IsOther d
      → IsOther (piece_comes s m id service part row piece answer d)
  comes_other service part row piece answer d before =
      cond_both (not (part.length == piece.size) || not (service == piece.service)) _ _ (λ (x : Did ServerRow). IsOther x) (λ _. before)
      (λ _. cond_both (leaves_too_many_gaps part piece.offset piece.payload) _ _ (λ (x : Did ServerRow). IsOther x) (λ _. tt)
      (λ _. cond_both (is_whole (with_bytes part piece.offset piece.payload)) _ _ (λ (x : Did ServerRow). IsOther x)
      (λ _. runs_other service (incoming.message (with_bytes part piece.offset piece.payload)) answer row (record d { version = version_of piece }))
      (λ _. before)))

  opens_other : (piece : Piece) (answer : Answer) → IsOther (opens s m id piece answer)
  opens_other piece answer =
      cond_both (nat_le s.served m.rows) _ _ (λ (x : Did ServerRow). IsOther x) (λ _. tt)
      (λ _. cond_both (nat_lt m.free (pages_for piece.size)) _ _ (λ (x : Did ServerRow). IsOther x) (λ _. tt)
      (λ _. comes_other piece.service (incoming.opened id.client piece.size m.order s.unsched) _ piece answer (opening piece.size (leaves m None)) tt))

  busy_other : (a : ResendAnswer) → AllOther (busy_for a)
  busy_other Busy = (refl, tt)
  busy_other Queued = tt

  row_other : (what : Body) (payload : List ℕ) (answer : Answer) (row : ServerRow) (state : State) → IsOther (row_gets s m id what payload answer row state)
  row_other (body.Data size offset version service ack) payload answer row (Receiving service' part base count) =
      comes_other service' part row (piece_of size offset version service payload) answer (leaves m None) tt
  row_other (body.Resend from to prio) payload answer row (Receiving service part base count) = (refl, tt)
  row_other what payload answer row (Receiving service part base count) = tt
  row_other (body.Resend from to prio) payload answer row (Held response release) = (refl, tt)
  row_other what payload answer row (Held response release) = tt
  row_other (body.Resend from to prio) payload answer row (Replying response out order base count) = busy_other (resend out from to prio).answer
  row_other what payload answer row (Replying response out order base count) = tt
  row_other (body.Data size offset version service ack) payload answer row (Buried until) = (refl, tt)
  row_other (body.Resend from to prio) payload answer row (Buried until) = (refl, tt)
  row_other what payload answer row (Buried until) = tt

  unknown_other : (what : Body) (payload : List ℕ) (answer : Answer) → IsOther (unknown_gets s m id what payload answer)
  unknown_other (body.Data size offset version service ack) payload answer = opens_other (piece_of size offset version service payload) answer
  unknown_other (body.Resend from to prio) payload answer = (refl, tt)
  unknown_other what payload answer = tt

  state_acked_other : (row : ServerRow) (state : State) → IsOther (state_acked s m id row state)
  state_acked_other row (Receiving service part base count) = tt
  state_acked_other row (Held response release) = tt
  state_acked_other row (Replying response out order base count) = tt
  state_acked_other row (Buried until) = tt

  pub acked_other : (o : Option ServerRow) → IsOther (server_acked s m id o)
  unfolding server_acked
  acked_other None = tt
  acked_other (Some row) = state_acked_other row row.state

  asking_other : (o : Option Range) → AllOther (resend_of s o) × AllLateSays (resend_of s o)
  asking_other None = (tt, tt)
  asking_other (Some r) = ((refl, tt), tt)

  state_acts_other : (row : ServerRow) (state : State) → IsOther (state_acts s m id row state) × AllLateSays (state_acts s m id row state).says
  state_acts_other row (Receiving service part base count) =
      cond_both (nat_lt count s.tries) _ _ (λ (d : Did ServerRow). IsOther d × AllLateSays d.says) (λ _. asking_other (first_gap part)) (λ _. (tt, (tt, tt)))
  state_acts_other row (Held response release) = (tt, tt)
  state_acts_other row (Replying response out order base count) =
      cond_both (nat_lt count s.tries) _ _ (λ (d : Did ServerRow). IsOther d × AllLateSays d.says) (λ _. ((refl, tt), tt)) (λ _. (tt, (tt, tt)))
  state_acts_other row (Buried until) = (tt, (tt, tt))

  pub server_acts_other : (row : ServerRow) → IsOther (server_acts s m id row) × AllLateSays (server_acts s m id row).says
  server_acts_other row = state_acts_other row row.state

  -- ---- at a client

  client_comes_other : (r : ClientRow) (part : Incoming) (piece : Piece) (d : Did ClientRow) → IsOther d → IsOther (client.piece_comes id r part piece d)
  client_comes_other r part piece d before =
      cond_both (not (part.length == piece.size)) _ _ (λ (x : Did ClientRow). IsOther x) (λ _. before)
      (λ _. cond_both (leaves_too_many_gaps part piece.offset piece.payload) _ _ (λ (x : Did ClientRow). IsOther x) (λ _. tt)
      (λ _. cond_both (is_whole (with_bytes part piece.offset piece.payload)) _ _ (λ (x : Did ClientRow). IsOther x) (λ _. tt) (λ _. before)))

  response_other : (r : ClientRow) (o : Option Incoming) (piece : Piece) → IsOther (response_piece s m id r o piece)
  response_other r None piece =
      cond_both (nat_lt m.free (pages_for piece.size)) _ _ (λ (x : Did ClientRow). IsOther x) (λ _. tt)
      (λ _. client_comes_other r (incoming.opened r.server piece.size m.order s.unsched) piece (opening piece.size (keeps m r)) tt)
  response_other r (Some part) piece = client_comes_other r part piece (keeps m r) tt

  answered_other : (what : Body) (payload : List ℕ) (r : ClientRow) → IsOther (answered s m id what payload r)
  answered_other (body.Data size offset version service ack) payload r =
      response_other r r.part (record { size = size; offset = offset; version = version; service = service; payload = payload })
  answered_other (body.Resend from to prio) payload r = busy_other (resend r.out from to prio).answer
  answered_other (body.Unknown reason) payload r = cond_both (reason == 0) _ _ (λ (x : Did ClientRow). IsOther x) (λ _. tt) (λ _. tt)
  answered_other body.NeedAck payload r = (refl, tt)
  answered_other what payload r = tt

  unasked_other : (what : Body) → IsOther (unasked m what)
  unasked_other body.NeedAck = (refl, tt)
  unasked_other what = tt

  pub client_acts_other : (r : ClientRow) → IsOther (client_acts s m id r) × AllLateSays (client_acts s m id r).says
  client_acts_other r =
      cond_both (nat_lt r.count s.tries) _ _ (λ (d : Did ClientRow). IsOther d × AllLateSays d.says) (λ _. asking_other (wanted s r.part)) (λ _. (tt, (tt, tt)))

pub server_gets_other : (s : Settings) (m : Moment) (p : Packet) (answer : Answer) (o : Option ServerRow) → IsOther (server_gets s m p answer o)
unfolding server_gets
server_gets_other s m p answer None = unknown_other s m p.id p.body p.payload answer
server_gets_other s m p answer (Some row) = row_other s m p.id p.body p.payload answer row row.state

pub client_gets_other : (s : Settings) (m : Moment) (p : Packet) (o : Option ClientRow) → IsOther (client_gets s m p o)
unfolding client_gets
client_gets_other s m p None = unasked_other s m p.id p.body
client_gets_other s m p (Some q) =
    cond_both (not (is_host (sender p) q.server)) _ _ (λ (x : Did ClientRow). IsOther x) (λ _. tt)
    (λ _. cond_both (nat_lt p.inc q.seen) _ _ (λ (x : Did ClientRow). IsOther x) (λ _. tt)
    (λ _. answered_other s m p.id p.body p.payload (refreshed m.now p.body (renewed p.inc q))))

-- ---- what is told

late-append : (a b : List Told) → AllLate a → AllLate b → AllLate (a ++ b)
late-append [] b x y = y
late-append (Says entry ∷ a) b x y = (x.0, late-append a b x.1 y)
late-append (Sends p ∷ a) b x y = late-append a b x y

module _ (s : Settings) where
  notes_late : (o : Option ℕ) (w : Work) → AllLate (notes_told s o w)
  unfolding tuned
  notes_late None w = tt
  notes_late (Some n) w = cond_both (is_balance_due s (counted w.host.tuning n)) _ _ (λ (t : Tuned). AllLate t.told) (λ _. (tt, tt)) (λ _. tt)

  reply_other : (role : Role) (id : CallId) (server : HostId) (o : Option ℕ) (w : Work) → NoGrants (packets_in (reply_told s role id server o w))
      × AllLate (reply_told s role id server o w)
  reply_other role id server None w = (tt, tt)
  reply_other role id server (Some version) w =
      cond_both (version == w.host.tuning.own.version) _ _ (λ (t : List Told). NoGrants (packets_in t) × AllLate t) (λ _. (tt, tt)) (λ _. ((refl, tt), tt))

  ack_other : (server : HostId) (calls : List (ℕ × ℕ)) (w : Work) → NoGrants (packets_in (acknowledged_told s server calls w))
      × AllLate (acknowledged_told s server calls w)
  ack_other server [] w = (tt, tt)
  ack_other server (call ∷ calls) w =
      cond_both (nat_lt (length calls) 4) _ _ (λ (t : List Told). NoGrants (packets_in t) × AllLate t) (λ _. (tt, tt)) (λ _. ((refl, tt), tt))

  finishes_other : (id : CallId) (server : HostId) (done : Bool) (w : Work) → NoGrants (packets_in (finishes_told s id server done w))
      × AllLate (finishes_told s id server done w)
  finishes_other id server false w = (tt, tt)
  finishes_other id server true w = ack_other server (finished_at w.host server ++ (id.inc, id.seq) ∷ []) w

  module _ (h : Host) (role : Role) (id : CallId) (server : HostId) where
    said_other : (says : List Say) → AllOther says → NoGrants (packets_in (said s h role id server says))
    said_other [] other = tt
    said_other (Tells entry ∷ says) other = said_other says other
    said_other (Posts what ∷ says) other = (other.0, said_other says other.1)

    said_late : (says : List Say) → AllLateSays says → AllLate (said s h role id server says)
    said_late [] late = tt
    said_late (Tells entry ∷ says) late = (late.0, said_late says late.1)
    said_late (Posts what ∷ says) late = said_late says late

  abbrev NotGrant : Packet → Type 0
  NotGrant p = is_grant p.body ≡ false

  pub served_other : (id : CallId) (did : Did ServerRow) (w : Work) → AllOther did.says → NoGrants (packets_in (served_told s id did w))
  served_other id did w other =
      subst NoGrants (sym (served_packets s id did w))
      (all-append NotGrant (packets_in (reply_told s Server id w.host.id did.version (served_noted s id did w)))
      (packets_in (said s w.host Server id w.host.id did.says)) (reply_other Server id w.host.id did.version (served_noted s id did w)).0
      (said_other w.host Server id w.host.id did.says other))

  pub served_late : (id : CallId) (did : Did ServerRow) (w : Work) → AllLateSays did.says → AllLate (served_told s id did w)
  served_late id did w late =
      late-append (notes_told s did.opened (served_put s id did w)) _ (notes_late did.opened (served_put s id did w))
      (late-append (reply_told s Server id w.host.id did.version (served_noted s id did w)) (said s w.host Server id w.host.id did.says)
      (reply_other Server id w.host.id did.version (served_noted s id did w)).1 (said_late w.host Server id w.host.id did.says late))

  pub asked_other : (id : CallId) (server : HostId) (did : Did ClientRow) (w : Work) → AllOther did.says → NoGrants (packets_in (asked_told s id server did w))
  asked_other id server did w other =
      let reply = reply_told s Client id server did.version (asked_noted s id server did w) in
      let says = said s w.host Client id server did.says in
      let ends = finishes_told s id server did.finished (asked_said s id server did w) in
      subst NoGrants (sym (asked_packets s id server did w))
      (all-append NotGrant (packets_in reply) (packets_in says ++ packets_in ends) (reply_other Client id server did.version (asked_noted s id server did w)).0
      (all-append NotGrant (packets_in says) (packets_in ends) (said_other w.host Client id server did.says other)
      (finishes_other id server did.finished (asked_said s id server did w)).0))

  pub asked_late : (id : CallId) (server : HostId) (did : Did ClientRow) (w : Work) → AllLateSays did.says → AllLate (asked_told s id server did w)
  asked_late id server did w late =
      let reply = reply_told s Client id server did.version (asked_noted s id server did w) in
      let says = said s w.host Client id server did.says in
      let ends = finishes_told s id server did.finished (asked_said s id server did w) in
      late-append (notes_told s did.opened (asked_put s id server did w)) (reply ++ (says ++ ends)) (notes_late did.opened (asked_put s id server did w))
      (late-append reply (says ++ ends) (reply_other Client id server did.version (asked_noted s id server did w)).1
      (late-append says ends (said_late w.host Client id server did.says late) (finishes_other id server did.finished (asked_said s id server did w)).1))
