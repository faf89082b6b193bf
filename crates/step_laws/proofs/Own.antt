-- What a rule says is of its own call at its own host.
use Rattle.std.proofs.Common.{◌≡◌, ℕ, Bool, true, false, ◌||◌, Option, Some, None, List, [], ◌∷◌, refl}
use Rattle.std.specs.Prelude.{◌==◌, not, nat_lt, nat_le}
use Rattle.std.proofs.lemmas.Bool.{cond_both}
use Rattle.plain_sets.specs.Ranges.{Range}
use Rattle.homa_plain.specs.declared.id.CallId.{CallId}
use Rattle.homa_plain.specs.declared.id.HostId.{HostId}
use Rattle.homa_plain.specs.declared.packet.Body.{Body}
use Rattle.homa_plain.specs.declared.packet.Body.TheVariants as body
use Rattle.homa_plain.specs.declared.settings.Settings.{Settings}
use Rattle.homa_plain.specs.Calls.{is_host}
use Rattle.homa_plain.specs.Entries.{PlainEntry, PlainRun, PlainDone, PlainFail, PlainDrop, PlainGaps, PlainBury, PlainFree, PlainFullRows, PlainFullPages}
use Rattle.homa_plain.specs.Incoming.{Incoming, with_bytes, is_whole, leaves_too_many_gaps, message, first_gap}
use Rattle.homa_plain.specs.Incoming as incoming
use Rattle.homa_plain.specs.Busy.{Answer as ResendAnswer, Busy, Queued, resend}
use Rattle.homa_plain.specs.Packets.{Packet, sender}
use Rattle.homa_plain.specs.Rows.{ClientRow, ServerRow, State, Receiving, Held, Replying, Buried}
use Rattle.homa_plain.specs.Host.{pages_for}
use Rattle.homa_plain.specs.Rules.{Moment, Answer, Piece, Say, Tells, Posts, Did, leaves, keeps, opening, version_of}
use Rattle.homa_plain.specs.Busy.{busy_for}
use Rattle.homa_plain.specs.AtClient.{response_piece, answered, unasked, client_gets, renewed, refreshed}
use Rattle.homa_plain.specs.AtClient as client
use Rattle.homa_plain.specs.AtServer.{runs, piece_comes, opens, piece_of, unknown_gets, row_gets, server_gets}
use Rattle.homa_plain.specs.Tombstones.{state_acked, server_acked}
use Rattle.homa_plain.specs.Timers.{resend_of, wanted, client_acts, state_acts, server_acts}

-- a line is of this call at this host
abbrev pub IsOwn : HostId → CallId → PlainEntry → Type 0
IsOwn h id (PlainRun host q service request response hold) = (host ≡ h) × (q ≡ id)
IsOwn h id (PlainDone q bytes) = q ≡ id
IsOwn h id (PlainFail q why) = q ≡ id
IsOwn h id (PlainDrop host q) = (host ≡ h) × (q ≡ id)
IsOwn h id (PlainGaps host q) = (host ≡ h) × (q ≡ id)
IsOwn h id (PlainBury host q until) = (host ≡ h) × (q ≡ id)
IsOwn h id (PlainFree host q) = (host ≡ h) × (q ≡ id)
IsOwn h id (PlainFullRows host q rows limit) = (host ≡ h) × (q ≡ id)
IsOwn h id (PlainFullPages host q need free) = (host ≡ h) × (q ≡ id)
IsOwn h id entry = ⊥

abbrev pub AllOwn : HostId → CallId → List Say → Type 0
AllOwn h id [] = Unit {0}
AllOwn h id (Tells entry ∷ says) = IsOwn h id entry × AllOwn h id says
AllOwn h id (Posts what ∷ says) = AllOwn h id says

-- whether a service is asked
abbrev pub runs_said : List Say → Bool
runs_said [] = false
runs_said (Tells (PlainRun host id service request response hold) ∷ says) = true
runs_said (x ∷ says) = runs_said says

-- ---- at a server, which tells of no end of a live call

abbrev pub IsServed : HostId → CallId → PlainEntry → Type 0
IsServed h id (PlainDone q bytes) = ⊥
IsServed h id (PlainFail q why) = ⊥
IsServed h id entry = IsOwn h id entry

abbrev pub AllServed : HostId → CallId → List Say → Type 0
AllServed h id [] = Unit {0}
AllServed h id (Tells entry ∷ says) = IsServed h id entry × AllServed h id says
AllServed h id (Posts what ∷ says) = AllServed h id says

pub served_own : (h : HostId) (id : CallId) (says : List Say) → AllServed h id says → AllOwn h id says
served_own h id [] all = tt
served_own h id (Tells entry ∷ says) all = (by_entry entry all.0, served_own h id says all.1) where
  by_entry : (entry : PlainEntry) → IsServed h id entry → IsOwn h id entry
  by_entry (PlainDone q bytes) own = absurd own
  by_entry (PlainFail q why) own = absurd own
  by_entry line own = own
served_own h id (Posts what ∷ says) all = served_own h id says all

abbrev IsServedRule : HostId → CallId → Did ServerRow → Type 0
IsServedRule h id d = AllServed h id d.says

module _ (s : Settings) (m : Moment) (id : CallId) where
  runs_served : (service : ℕ) (request : List ℕ) (answer : Answer) (row : ServerRow) (d : Did ServerRow)
      → IsServedRule m.host id (runs s m id service request answer row d)
  runs_served service request answer row d = cond_both (answer.hold == 0) _ _ (IsServedRule m.host id) (λ _. ((refl, refl), tt)) (λ _. ((refl, refl), tt))

  comes_served : (service : ℕ) (part : Incoming) (row : ServerRow) (piece : Piece) (answer : Answer) (d : Did ServerRow) → AllServed m.host id d.says
      → IsServedRule m.host id (piece_comes s m id service part row piece answer d)
  comes_served service part row piece answer d before =
      cond_both (not (part.length == piece.size) || not (service == piece.service)) _ _ (IsServedRule m.host id) (λ _. before)
      (λ _. cond_both (leaves_too_many_gaps part piece.offset piece.payload) _ _ (IsServedRule m.host id) (λ _. ((refl, refl), tt))
      (λ _. cond_both (is_whole (with_bytes part piece.offset piece.payload)) _ _ (IsServedRule m.host id)
      (λ _. runs_served service (message (with_bytes part piece.offset piece.payload)) answer row (record d { version = version_of piece })) (λ _. before)))

  opens_served : (piece : Piece) (answer : Answer) → IsServedRule m.host id (opens s m id piece answer)
  opens_served piece answer =
      cond_both (nat_le s.served m.rows) _ _ (IsServedRule m.host id) (λ _. ((refl, refl), tt))
      (λ _. cond_both (nat_lt m.free (pages_for piece.size)) _ _ (IsServedRule m.host id) (λ _. ((refl, refl), tt))
      (λ _. comes_served piece.service (incoming.opened id.client piece.size m.order s.unsched) _ piece answer (opening piece.size (leaves m None)) tt))

  busy_served : (h : HostId) (a : ResendAnswer) → AllServed h id (busy_for a)
  busy_served h Busy = tt
  busy_served h Queued = tt

  row_served : (what : Body) (payload : List ℕ) (answer : Answer) (row : ServerRow) (state : State)
      → IsServedRule m.host id (row_gets s m id what payload answer row state)
  row_served (body.Data size offset version service ack) payload answer row (Receiving service' part base count) =
      comes_served service' part row (piece_of size offset version service payload) answer (leaves m None) tt
  row_served what payload answer row (Receiving service part base count) = tt
  row_served (body.Resend from to prio) payload answer row (Held response release) = tt
  row_served what payload answer row (Held response release) = tt
  row_served (body.Resend from to prio) payload answer row (Replying response out order base count) = busy_served m.host (resend out from to prio).answer
  row_served what payload answer row (Replying response out order base count) = tt
  row_served (body.Data size offset version service ack) payload answer row (Buried until) = tt
  row_served (body.Resend from to prio) payload answer row (Buried until) = tt
  row_served what payload answer row (Buried until) = tt

  unknown_served : (what : Body) (payload : List ℕ) (answer : Answer) → IsServedRule m.host id (unknown_gets s m id what payload answer)
  unknown_served (body.Data size offset version service ack) payload answer = opens_served (piece_of size offset version service payload) answer
  unknown_served what payload answer = tt

  state_acked_served : (row : ServerRow) (state : State) → IsServedRule m.host id (state_acked s m id row state)
  state_acked_served row (Receiving service part base count) = tt
  state_acked_served row (Held response release) = ((refl, refl), tt)
  state_acked_served row (Replying response out order base count) = ((refl, refl), tt)
  state_acked_served row (Buried until) = tt

  pub acked_served : (o : Option ServerRow) → IsServedRule m.host id (server_acked s m id o)
  unfolding server_acked
  acked_served None = tt
  acked_served (Some row) = state_acked_served row row.state

  pub acked_own : (o : Option ServerRow) → AllOwn m.host id (server_acked s m id o).says
  acked_own o = served_own m.host id (server_acked s m id o).says (acked_served o)

  asking_served : (h : HostId) (o : Option Range) → AllServed h id (resend_of s o) × (runs_said (resend_of s o) ≡ false)
  asking_served h None = (tt, refl)
  asking_served h (Some r) = (tt, refl)

  state_acts_served : (row : ServerRow) (state : State) → IsServedRule m.host id (state_acts s m id row state)
  state_acts_served row (Receiving service part base count) =
      cond_both (nat_lt count s.tries) _ _ (IsServedRule m.host id) (λ _. (asking_served m.host (first_gap part)).0) (λ _. ((refl, refl), tt))
  state_acts_served row (Held response release) = tt
  state_acts_served row (Replying response out order base count) =
      cond_both (nat_lt count s.tries) _ _ (IsServedRule m.host id) (λ _. tt) (λ _. ((refl, refl), tt))
  state_acts_served row (Buried until) = ((refl, refl), tt)

  pub server_acts_served : (row : ServerRow) → IsServedRule m.host id (server_acts s m id row)
  server_acts_served row = state_acts_served row row.state

  pub server_acts_own : (row : ServerRow) → AllOwn m.host id (server_acts s m id row).says
  server_acts_own row = served_own m.host id (server_acts s m id row).says (server_acts_served row)

pub gets_served : (s : Settings) (m : Moment) (p : Packet) (answer : Answer) (o : Option ServerRow) → IsServedRule m.host p.id (server_gets s m p answer o)
unfolding server_gets
gets_served s m p answer None = unknown_served s m p.id p.body p.payload answer
gets_served s m p answer (Some row) = row_served s m p.id p.body p.payload answer row row.state

pub gets_own : (s : Settings) (m : Moment) (p : Packet) (answer : Answer) (o : Option ServerRow) → AllOwn m.host p.id (server_gets s m p answer o).says
gets_own s m p answer o = served_own m.host p.id (server_gets s m p answer o).says (gets_served s m p answer o)

-- ---- at a client, where no service is asked

abbrev pub IsQuiet : CallId → Did ClientRow → Type 0
IsQuiet id d = AllOwn id.client id d.says × (runs_said d.says ≡ false)

module _ (s : Settings) (m : Moment) (id : CallId) where
  comes_quiet : (r : ClientRow) (part : Incoming) (piece : Piece) (d : Did ClientRow) → IsQuiet id d → IsQuiet id (client.piece_comes id r part piece d)
  comes_quiet r part piece d q =
      cond_both (not (part.length == piece.size)) _ _ (IsQuiet id) (λ _. q)
      (λ _. cond_both (leaves_too_many_gaps part piece.offset piece.payload) _ _ (IsQuiet id) (λ _. (((refl, refl), tt), refl))
      (λ _. cond_both (is_whole (with_bytes part piece.offset piece.payload)) _ _ (IsQuiet id) (λ _. ((refl, tt), refl)) (λ _. q)))

  response_quiet : (r : ClientRow) (o : Option Incoming) (piece : Piece) → IsQuiet id (response_piece s m id r o piece)
  response_quiet r None piece =
      cond_both (nat_lt m.free (pages_for piece.size)) _ _ (IsQuiet id) (λ _. (((refl, refl), tt), refl))
      (λ _. comes_quiet r (incoming.opened r.server piece.size m.order s.unsched) piece (opening piece.size (keeps m r)) (tt, refl))
  response_quiet r (Some part) piece = comes_quiet r part piece (keeps m r) (tt, refl)

  busy_quiet : (a : ResendAnswer) → AllOwn id.client id (busy_for a) × (runs_said (busy_for a) ≡ false)
  busy_quiet Busy = (tt, refl)
  busy_quiet Queued = (tt, refl)

  answered_quiet : (what : Body) (payload : List ℕ) (r : ClientRow) → IsQuiet id (answered s m id what payload r)
  answered_quiet (body.Data size offset version service ack) payload r =
      response_quiet r r.part (record { size = size; offset = offset; version = version; service = service; payload = payload })
  answered_quiet (body.Resend from to prio) payload r = busy_quiet (resend r.out from to prio).answer
  answered_quiet (body.Unknown reason) payload r = cond_both (reason == 0) _ _ (IsQuiet id) (λ _. (tt, refl)) (λ _. ((refl, tt), refl))
  answered_quiet what payload r = (tt, refl)

  unasked_quiet : (what : Body) → IsQuiet id (unasked m what)
  unasked_quiet body.NeedAck = (tt, refl)
  unasked_quiet what = (tt, refl)

  pub client_acts_quiet : (r : ClientRow) → IsQuiet id (client_acts s m id r)
  client_acts_quiet r =
      cond_both (nat_lt r.count s.tries) _ _ (IsQuiet id)
      (λ _. let a = asking_served s m id id.client (wanted s r.part) in (served_own id.client id (resend_of s (wanted s r.part)) a.0, a.1))
      (λ _. ((refl, tt), refl))

pub gets_quiet : (s : Settings) (m : Moment) (p : Packet) (o : Option ClientRow) → IsQuiet p.id (client_gets s m p o)
unfolding client_gets
gets_quiet s m p None = unasked_quiet s m p.id p.body
gets_quiet s m p (Some q) =
    cond_both (not (is_host (sender p) q.server)) _ _ (IsQuiet p.id) (λ _. (tt, refl))
    (λ _. cond_both (nat_lt p.inc q.seen) _ _ (IsQuiet p.id) (λ _. (tt, refl))
    (λ _. answered_quiet s m p.id p.body p.payload (refreshed m.now p.body (renewed p.inc q))))
