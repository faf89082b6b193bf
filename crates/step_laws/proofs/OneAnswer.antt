-- A service is asked at most once a step, and where none is asked the step is the same for every answer.
use Rattle.std.proofs.Common.{◌≡◌, ℕ, suc, ◌+◌, ◌-◌, ◌≤◌, Bool, true, false, not, cond, Option, Some, None, List, [], ◌∷◌, ◌++◌, length, refl, sym}
use Rattle.std.proofs.Common.{ap, subst, ◌∙◌, arith, append_assoc, ◌⊎◌, ◌↔◌, inl, inr}
use Rattle.std.specs.Prelude.{◌==◌, ◌||◌, nat_lt, nat_le}
use Rattle.std.specs.List.{Contains}
use Rattle.std.proofs.lemmas.Bool.{cond_both}
use Rattle.std.proofs.lemmas.List.Elements.{Contains-append_cases}
use Rattle.plain_sets.specs.Maps.{get}
use Rattle.plain_sets.specs.Ranges.{Range}
use Rattle.plain_sets.proofs.OrderSame.{none_in, at_head}
use Rattle.homa_plain.specs.declared.id.CallId.{CallId}
use Rattle.homa_plain.specs.declared.id.HostId.{HostId}
use Rattle.homa_plain.specs.declared.packet.Role.{Role}
use Rattle.homa_plain.specs.declared.packet.Role.TheVariants.{Client, Server}
use Rattle.homa_plain.specs.declared.packet.Body.{Body}
use Rattle.homa_plain.specs.declared.packet.Body.TheVariants as body
use Rattle.homa_plain.specs.declared.settings.Settings.{Settings}
use Rattle.homa_plain.specs.Timers.{due}
use Rattle.homa_plain.specs.Incoming.{Incoming, with_bytes, leaves_too_many_gaps, is_whole, message, first_gap}
use Rattle.homa_plain.specs.Incoming as incoming
use Rattle.homa_plain.specs.Outgoing.{Outgoing}
use Rattle.homa_plain.specs.Busy.{Answer as OutAnswer, Busy, Queued, resend}
use Rattle.homa_plain.specs.Entries.{PlainRun, PlainJunk, PlainStale}
use Rattle.homa_plain.specs.Packets.{Packet, sender, acks}
use Rattle.homa_plain.specs.Rows.{ClientRow, ServerRow, State, Receiving, Held, Replying, Buried}
use Rattle.homa_plain.specs.Host.{Host, pages_for, Told, Says, packets_in}
use Rattle.homa_plain.specs.Rules.{Moment, Answer, Piece, Say, Tells, Did, leaves, keeps, opening, version_of}
use Rattle.homa_plain.specs.Busy.{busy_for}
use Rattle.homa_plain.specs.AtClient.{unasked, client_gets}
use Rattle.homa_plain.specs.AtClient as client
use Rattle.homa_plain.specs.AtServer.{held_gets, replying_gets, runs, piece_added, piece_comes, opens, piece_of, unknown_gets}
use Rattle.homa_plain.specs.Unknown.{buried_gets}
use Rattle.homa_plain.specs.AtServer.{receiving_gets, row_gets, server_gets}
use Rattle.homa_plain.specs.Tombstones.{server_acked}
use Rattle.homa_plain.specs.Work.{Work, begun, now_of, said, tells}
use Rattle.homa_plain.specs.Steps.{moment, asked, served, comes_to_row, acked, takes, comes, gives_grants}
use Rattle.homa_plain.specs.OldPackets.{is_stale}
use Rattle.homa_plain.specs.Steps.{ended, arrival_step, has_run, arrival_or_none, client_acted, server_acted, acts_at, all_act, acts}
use Rattle.homa_plain.specs.CutoffsPackets.{hears_cutoffs}
use Rattle.homa_plain.specs.Credit.{refilled}
use Rattle.homa_plain.specs.Steps.{turn_step, starts, call_step}
use Rattle.homa_plain.specs.Timers.{Place, OfClient, OfServer, Timer, timer_key, timers, resend_of, wanted, client_acts, state_acts, server_acts}
use Rattle.step_laws.specs.StepLaws.{run_count}
use Rattle.step_laws.proofs.ToldBy.{run_count-append, Calm, calm_none, calm_then, asks, said-runs, Carried, one_if_some, acked_one-calm}
use Rattle.step_laws.proofs.ToldBy.{asked-carried, served-carried, hears_cutoffs-calm}
use Rattle.step_laws.proofs.StepEnd.{ended-calm}

-- ---- two answers at a rule

-- a service answered: a rule says nothing but this
record Ran (a : Answer) (says : List Say) : Type 0 where
  pub host : HostId
  pub id : CallId
  pub service : ℕ
  pub request : List ℕ
  pub is : says ≡ Tells (PlainRun host id service request a.bytes a.hold) ∷ []

-- what a rule does with two answers: the same, and no service ran; or one ran, and answered
abbrev Outcome : Answer → Answer → Did ServerRow → Did ServerRow → Type 0
Outcome a b d e = ((d ≡ e) × (asks d.says ≡ 0)) ⊎ (Ran a d.says × Ran b e.says)

-- a choice that doesn't turn on the answer
outcome_if : (a b : Answer) (c : Bool) (d e d' e' : Did ServerRow) → Outcome a b d d' → Outcome a b e e' → Outcome a b (cond c d e) (cond c d' e')
outcome_if a b true d e d' e' on off = on
outcome_if a b false d e d' e' on off = off

-- what answers a RESEND runs no service
busy_quiet : (answer : OutAnswer) → asks (busy_for answer) ≡ 0
busy_quiet Busy = refl
busy_quiet Queued = refl

module _ (s : Settings) (m : Moment) (id : CallId) where
  ran : (service : ℕ) (request : List ℕ) (a : Answer) (row : ServerRow) (d : Did ServerRow) → Ran a (runs s m id service request a row d).says
  ran service request a row d =
      cond_both (a.hold == 0) _ _ (λ (e : Did ServerRow). Ran a e.says)
      (λ _. record { host = m.host; id = id; service = service; request = request; is = refl })
      (λ _. record { host = m.host; id = id; service = service; request = request; is = refl })

  added : (service : ℕ) (a b : Answer) (row : ServerRow) (part : Incoming) (d : Did ServerRow) → asks d.says ≡ 0
      → Outcome a b (piece_added s m id service a row part d) (piece_added s m id service b row part d)
  added service a b row part d none =
      outcome_if a b (is_whole part) (runs s m id service (message part) a row d) _ (runs s m id service (message part) b row d) _
      (inr (ran service (message part) a row d, ran service (message part) b row d)) (inl (refl, none))

  comes_piece : (service : ℕ) (part : Incoming) (row : ServerRow) (piece : Piece) (a b : Answer) (d : Did ServerRow) → asks d.says ≡ 0
      → Outcome a b (piece_comes s m id service part row piece a d) (piece_comes s m id service part row piece b d)
  comes_piece service part row piece a b d none =
      outcome_if a b (not (part.length == piece.size) || not (service == piece.service)) _ _ _ _ (inl (refl, none))
      (outcome_if a b (leaves_too_many_gaps part piece.offset piece.payload) _ _ _ _ (inl (refl, refl))
      (added service a b row (with_bytes part piece.offset piece.payload) (record d { version = version_of piece }) none))

  opened : (piece : Piece) (a b : Answer) → Outcome a b (opens s m id piece a) (opens s m id piece b)
  opened piece a b =
      let part : Incoming = incoming.opened id.client piece.size m.order s.unsched in
      outcome_if a b (nat_le s.served m.rows) _ _ _ _ (inl (refl, refl))
      (outcome_if a b (nat_lt m.free (pages_for piece.size)) _ _ _ _ (inl (refl, refl))
      (comes_piece piece.service part (record { order = m.order; state = Receiving piece.service part m.now 0 }) piece a b
      (opening piece.size (leaves m None)) refl))

  unknown : (what : Body) (payload : List ℕ) (a b : Answer) → Outcome a b (unknown_gets s m id what payload a) (unknown_gets s m id what payload b)
  unknown (body.Data size offset version service ack) payload a b = opened (piece_of size offset version service payload) a b
  unknown (body.Resend from to prio) payload a b = inl (refl, refl)
  unknown what payload a b = inl (refl, refl)

  receiving : (what : Body) (payload : List ℕ) (a b : Answer) (row : ServerRow) (service : ℕ) (part : Incoming) (base : ℕ)
      → Outcome a b (receiving_gets s m id what payload a row service part base) (receiving_gets s m id what payload b row service part base)
  receiving (body.Data size offset version service' ack) payload a b row service part base =
      comes_piece service part row (piece_of size offset version service' payload) a b (leaves m None) refl
  receiving (body.Resend from to prio) payload a b row service part base = inl (refl, refl)
  receiving body.Busy payload a b row service part base = inl (refl, refl)
  receiving what payload a b row service part base = inl (refl, refl)

  -- a row that isn't receiving doesn't ask its service
  held_quiet : (what : Body) (row : ServerRow) → asks (held_gets m what row).says ≡ 0
  held_quiet (body.Resend from to prio) row = refl
  held_quiet what row = refl

  replying_quiet : (what : Body) (row : ServerRow) (response : List ℕ) (out : Outgoing) (order : ℕ)
      → asks (replying_gets m what row response out order).says ≡ 0
  replying_quiet (body.Grant offset prio) row response out order = refl
  replying_quiet (body.Resend from to prio) row response out order = busy_quiet (resend out from to prio).answer
  replying_quiet (body.Ack more) row response out order = refl
  replying_quiet what row response out order = refl

  buried_quiet : (what : Body) (row : ServerRow) → asks (buried_gets m what row).says ≡ 0
  buried_quiet (body.Data size offset version service ack) row = refl
  buried_quiet (body.Resend from to prio) row = refl
  buried_quiet what row = refl

  row_outcome : (what : Body) (payload : List ℕ) (a b : Answer) (row : ServerRow) (state : State)
      → Outcome a b (row_gets s m id what payload a row state) (row_gets s m id what payload b row state)
  row_outcome what payload a b row (Receiving service part base count) = receiving what payload a b row service part base
  row_outcome what payload a b row (Held response release) = inl (refl, held_quiet what row)
  row_outcome what payload a b row (Replying response out order base count) = inl (refl, replying_quiet what row response out order)
  row_outcome what payload a b row (Buried until) = inl (refl, buried_quiet what row)

server_outcome : (s : Settings) (m : Moment) (p : Packet) (a b : Answer) (o : Option ServerRow) → Outcome a b (server_gets s m p a o) (server_gets s m p b o)
unfolding server_gets
server_outcome s m p a b None = unknown s m p.id p.body p.payload a b
server_outcome s m p a b (Some row) = row_outcome s m p.id p.body p.payload a b row row.state

-- nor does a client
unasked_quiet : (m : Moment) (what : Body) → asks (unasked m what).says ≡ 0
unasked_quiet m body.NeedAck = refl
unasked_quiet m what = refl

module _ (s : Settings) (m : Moment) (id : CallId) where
  client_piece_quiet : (r : ClientRow) (part : Incoming) (piece : Piece) (d : Did ClientRow) → asks d.says ≡ 0
      → asks (client.piece_comes id r part piece d).says ≡ 0
  client_piece_quiet r part piece d none =
      cond_both (not (part.length == piece.size)) _ _ (λ (e : Did ClientRow). asks e.says ≡ 0) (λ _. none)
      (λ _. cond_both (leaves_too_many_gaps part piece.offset piece.payload) _ _ (λ (e : Did ClientRow). asks e.says ≡ 0) (λ _. refl)
      (λ _. cond_both (is_whole (with_bytes part piece.offset piece.payload)) _ _ (λ (e : Did ClientRow). asks e.says ≡ 0) (λ _. refl) (λ _. none)))

  response_quiet : (r : ClientRow) (o : Option Incoming) (piece : Piece) → asks (client.response_piece s m id r o piece).says ≡ 0
  response_quiet r None piece =
      cond_both (nat_lt m.free (pages_for piece.size)) _ _ (λ (e : Did ClientRow). asks e.says ≡ 0) (λ _. refl)
      (λ _. client_piece_quiet r (incoming.opened r.server piece.size m.order s.unsched) piece (opening piece.size (keeps m r)) refl)
  response_quiet r (Some part) piece = client_piece_quiet r part piece (keeps m r) refl

  answered_quiet : (what : Body) (payload : List ℕ) (r : ClientRow) → asks (client.answered s m id what payload r).says ≡ 0
  answered_quiet (body.Data size offset version service ack) payload r =
      response_quiet r r.part (record { size = size; offset = offset; version = version; service = service; payload = payload })
  answered_quiet (body.Grant offset prio) payload r = refl
  answered_quiet (body.Resend from to prio) payload r = busy_quiet (resend r.out from to prio).answer
  answered_quiet body.Busy payload r = refl
  answered_quiet (body.Cutoffs cutoffs) payload r = refl
  answered_quiet (body.Unknown reason) payload r = cond_both (reason == 0) _ _ (λ (e : Did ClientRow). asks e.says ≡ 0) (λ _. refl) (λ _. refl)
  answered_quiet body.NeedAck payload r = refl
  answered_quiet (body.Ack more) payload r = refl

client_quiet : (s : Settings) (m : Moment) (p : Packet) (o : Option ClientRow) → asks (client_gets s m p o).says ≡ 0
unfolding client_gets
client_quiet s m p None = unasked_quiet m p.body
client_quiet s m p (Some r) =
    cond_both (not ((sender p).0 == r.server.0)) _ _ (λ (e : Did ClientRow). asks e.says ≡ 0) (λ _. refl)
    (λ _. cond_both (nat_lt p.inc r.seen) _ _ (λ (e : Did ClientRow). asks e.says ≡ 0) (λ _. refl)
    (λ _. answered_quiet s m p.id p.body p.payload (client.refreshed m.now p.body (client.renewed p.inc r))))

-- ---- two answers at a step

-- a service ran once, and answered
record RanOnce (a : Answer) (told : List Told) : Type 0 where
  pub before : List Told
  pub after : List Told
  pub host : HostId
  pub id : CallId
  pub service : ℕ
  pub request : List ℕ
  pub is : told ≡ before ++ (Says (PlainRun host id service request a.bytes a.hold) ∷ after)
  pub quiet_before : run_count before ≡ 0
  pub quiet_after : run_count after ≡ 0

-- what a step does with two answers: the same, and no service ran; or one ran once, and answered
abbrev StepsAlike : Answer → Answer → Work → Work → Type 0
StepsAlike a b w v = ((w ≡ v) × (run_count w.told ≡ 0)) ⊎ (RanOnce a w.told × RanOnce b v.told)

-- a move that runs no service
once_later : (a : Answer) (n : ℕ) (w v : Work) → Calm n w v → RanOnce a w.told → RanOnce a v.told
once_later a n w v calm once = record {
  before = once.before;
  after = once.after ++ calm.told;
  host = once.host;
  id = once.id;
  service = once.service;
  request = once.request;
  is = calm.grown ∙ ap (λ t. t ++ calm.told) once.is
      ∙ append_assoc once.before (Says (PlainRun once.host once.id once.service once.request a.bytes a.hold) ∷ once.after) calm.told;
  quiet_before = once.quiet_before;
  quiet_after = omega (arith, run_count-append once.after calm.told, once.quiet_after, calm.quiet);
}

calm_count : (n : ℕ) (w v : Work) → Calm n w v → run_count v.told ≡ run_count w.told
calm_count n w v calm =
    ap run_count calm.grown ∙ (let e : run_count (w.told ++ calm.told) ≡ run_count w.told = omega (arith, run_count-append w.told calm.told, calm.quiet) in e)

alike_later : (a b : Answer) (bound : Work → ℕ) (move : Work → Work) → ((w : Work) → Calm (bound w) w (move w)) → (w v : Work) → StepsAlike a b w v
    → StepsAlike a b (move w) (move v)
alike_later a b bound move calm w v (inl same) = inl (ap move same.0, calm_count (bound w) w (move w) (calm w) ∙ same.1)
alike_later a b bound move calm w v (inr ran) = inr (once_later a (bound w) w (move w) (calm w) ran.0, once_later b (bound v) v (move v) (calm v) ran.1)

-- what a rule says is told once
carried_quiet : (n end : ℕ) (says : List Told) (w v : Work) → Carried n end says w v → run_count says ≡ 0 → run_count v.told ≡ run_count w.told
carried_quiet n end says w v c none =
    ap run_count c.grown ∙ (let e : run_count (w.told ++ (c.before ++ (says ++ c.after))) ≡ run_count w.told =
    omega (
      arith,
      run_count-append w.told (c.before ++ (says ++ c.after)),
      run_count-append c.before (says ++ c.after),
      run_count-append says c.after,
      c.quiet_before,
      c.quiet_after,
      none,
    ) in e)

carried_once : (a : Answer) (n end : ℕ) (host : HostId) (id : CallId) (service : ℕ) (request : List ℕ) (w v : Work) → run_count w.told ≡ 0
    → Carried n end (Says (PlainRun host id service request a.bytes a.hold) ∷ []) w v → RanOnce a v.told
carried_once a n end host id service request w v none c = record {
  before = w.told ++ c.before;
  after = c.after;
  host = host;
  id = id;
  service = service;
  request = request;
  is = c.grown ∙ sym (append_assoc w.told c.before (Says (PlainRun host id service request a.bytes a.hold) ∷ c.after));
  quiet_before = omega (arith, run_count-append w.told c.before, none, c.quiet_before);
  quiet_after = c.quiet_after;
}

module _ (s : Settings) where
  -- the rule of a row that asks its service
  served_once : (a : Answer) (id : CallId) (did : Did ServerRow) (w : Work) → run_count w.told ≡ 0 → Ran a did.says → RanOnce a (served s id did w).told
  served_once a id did w none ran =
      carried_once a (one_if_some did.version) did.order ran.host ran.id ran.service ran.request w (served s id did w) none
      (subst (λ (says : List Say). Carried (one_if_some did.version) did.order (said s w.host Server id w.host.id says) w (served s id did w)) ran.is
      (served-carried s id did w))

  served_quiet : (id : CallId) (did : Did ServerRow) (w : Work) → asks did.says ≡ 0 → run_count (served s id did w).told ≡ run_count w.told
  served_quiet id did w none =
      carried_quiet _ did.order _ w (served s id did w) (served-carried s id did w) (said-runs s w.host Server id w.host.id did.says ∙ none)

  asked_quiet : (id : CallId) (server : HostId) (did : Did ClientRow) (w : Work) → asks did.says ≡ 0
      → run_count (asked s id server did w).told ≡ run_count w.told
  asked_quiet id server did w none =
      carried_quiet _ did.order _ w (asked s id server did w) (asked-carried s id server did w) (said-runs s w.host Client id server did.says ∙ none)

  served_alike : (a b : Answer) (id : CallId) (d e : Did ServerRow) (w : Work) → run_count w.told ≡ 0 → Outcome a b d e
      → StepsAlike a b (served s id d w) (served s id e w)
  served_alike a b id d e w none (inl same) = inl (ap (λ did. served s id did w) same.0, served_quiet id d w same.1 ∙ none)
  served_alike a b id d e w none (inr ran) = inr (served_once a id d w none ran.0, served_once b id e w none ran.1)

  row_alike : (p : Packet) (a b : Answer) (role : Role) (w : Work) → run_count w.told ≡ 0
      → StepsAlike a b (comes_to_row s p a role w) (comes_to_row s p b role w)
  row_alike p a b Client w none = served_alike a b p.id _ _ w none (server_outcome s (moment s p.id w) p a b (get w.host.servers p.id))
  row_alike p a b Server w none = inl (refl, asked_quiet p.id p.server _ w (client_quiet s (moment s p.id w) p (get w.host.clients p.id)) ∙ none)

  pub acked-calm : (ids : List CallId) (w : Work) → Calm 0 w (acked s ids w)
  acked-calm [] w = calm_none w
  acked-calm (id ∷ ids) w =
      let v : Work = served s id (server_acked s (moment s id w) id (get w.host.servers id)) w in
      calm_then 0 0 w v (acked s ids v) (acked_one-calm s id w) (acked-calm ids v)

  takes_alike : (p : Packet) (a b : Answer) (w : Work) → run_count w.told ≡ 0 → StepsAlike a b (takes s p a w) (takes s p b w)
  unfolding takes
  takes_alike p a b w none =
      let heard : Work = hears_cutoffs s (sender p) p.inc p.body w in
      let quiet : run_count heard.told ≡ 0 = calm_count 0 w heard (hears_cutoffs-calm s (sender p) p.inc p.body w) ∙ none in
      alike_later a b (λ _. 0) (acked s (acks p)) (acked-calm (acks p)) (comes_to_row s p a p.role heard) (comes_to_row s p b p.role heard)
      (row_alike p a b p.role heard quiet)

  comes_alike : (o : Option Packet) (a b : Answer) (w : Work) → w.told ≡ [] → StepsAlike a b (comes s o a w) (comes s o b w)
  comes_alike None a b w none = inl (refl, ap (λ t. run_count (t ++ Says (PlainJunk w.host.id) ∷ [])) none)
  comes_alike (Some p) a b w none =
      elim (is_stale s (now_of w) p) as (λ c. StepsAlike a b
      (cond c (tells (Says (PlainStale w.host.id p.at (now_of w)) ∷ []) w) (takes s p a w))
      (cond c (tells (Says (PlainStale w.host.id p.at (now_of w)) ∷ []) w) (takes s p b w))) [
        | true ↦ inl (refl, ap (λ t. run_count (t ++ Says (PlainStale w.host.id p.at (now_of w)) ∷ [])) none)
        | false ↦ takes_alike p a b w (ap run_count none)
      ]

  arrival_alike : (h : Host) (now : ℕ) (o : Option Packet) (a b : Answer) → StepsAlike a b (arrival_step s h now o a) (arrival_step s h now o b)
  unfolding arrival_step
  arrival_alike h now o a b =
      alike_later a b (λ w. s.overcommit + (64 - length (packets_in (gives_grants s w).told))) (ended s) (ended-calm s) (comes s o a (begun h now))
      (comes s o b (begun h now)) (comes_alike o a b (begun h now) refl)

-- ---- RUNs that are told

run_count-head : (t : Told) (told : List Told) → run_count told ≤ run_count (t ∷ told)
run_count-head (Says (PlainRun host id service request response hold)) told = omega arith
run_count-head t told = omega arith

-- where none ran, there is no RUN
no_run : (told : List Told) → has_run told ≡ false → run_count told ≡ 0
no_run [] e = refl
no_run (Says (PlainRun host id service request response hold) ∷ told) e = cc
no_run (t ∷ told) e = no_run told e

has_run-quiet : (told : List Told) → run_count told ≡ 0 → has_run told ≡ false
has_run-quiet [] e = refl
has_run-quiet (Says (PlainRun host id service request response hold) ∷ told) e = absurd (omega arith)
has_run-quiet (t ∷ told) e = has_run-quiet told e

-- where one ran, there is
has_run-count : (told : List Told) → 1 ≤ run_count told → has_run told ≡ true
has_run-count [] h = absurd (omega arith)
has_run-count (Says (PlainRun host id service request response hold) ∷ told) h = refl
has_run-count (t ∷ told) h = has_run-count told h

quiet_none : (told : List Told) (host : HostId) (id : CallId) (service : ℕ) (request response : List ℕ) (hold : ℕ)
    → run_count told ≡ 0 → Contains told (Says (PlainRun host id service request response hold)) → ⊥
quiet_none [] host id service request response hold none c = none_in _ c
quiet_none (t ∷ told) host id service request response hold none c =
    elim (at_head t _ told c) [
      | inl is ↦ let e : suc (run_count told) ≡ 0 = subst (λ u. run_count (u ∷ told) ≡ 0) is none in omega arith
      | inr rest ↦ quiet_none told host id service request response hold (omega (arith, run_count-head t told)) rest
    ]

once_count : (a : Answer) (told : List Told) → RanOnce a told → run_count told ≡ 1
once_count a told once =
    ap run_count once.is ∙ (let e : run_count (once.before ++ (Says (PlainRun once.host once.id once.service once.request a.bytes a.hold) ∷ once.after)) ≡ 1 =
    omega (
      arith,
      run_count-append once.before (Says (PlainRun once.host once.id once.service once.request a.bytes a.hold) ∷ once.after),
      once.quiet_before,
      once.quiet_after,
    ) in e)

ran_once : (a : Answer) (told : List Told) → RanOnce a told → has_run told ≡ true
ran_once a told once = has_run-count told (omega (arith, once_count a told once))

once_answer : (a : Answer) (told : List Told) → RanOnce a told → (host : HostId) (id : CallId) (service : ℕ) (request response : List ℕ) (hold : ℕ)
    → Contains told (Says (PlainRun host id service request response hold)) → (response ≡ a.bytes) × (hold ≡ a.hold)
once_answer a told once host id service request response hold c =
    let run : Told = Says (PlainRun once.host once.id once.service once.request a.bytes a.hold) in
    elim (Contains-append_cases once.before (run ∷ once.after) _ (subst (λ t. Contains t (Says (PlainRun host id service request response hold))) once.is c)) [
      | inl early ↦ absurd (quiet_none once.before host id service request response hold once.quiet_before early)
      | inr late ↦ elim (at_head run _ once.after late) [
        | inl is ↦ (cc, cc)
        | inr later ↦ absurd (quiet_none once.after host id service request response hold once.quiet_after later)
      ]
    ]

-- ---- the laws

module _ (s : Settings) (h : Host) (now : ℕ) (o : Option Packet) where
  pub asked_once : (a : Answer) → run_count (arrival_step s h now o a).told ≤ 1
  asked_once a = elim (arrival_alike s h now o a a) [ inl same ↦ omega (arith, same.1) | inr each ↦ omega (arith, once_count a _ each.0) ]

  pub same_unasked : (a b : Answer) → has_run (arrival_step s h now o a).told ≡ false → arrival_step s h now o b ≡ arrival_step s h now o a
  same_unasked a b none =
      elim (arrival_alike s h now o a b) [
        | inl same ↦ sym same.0
        | inr each ↦ let e : run_count (arrival_step s h now o a).told ≡ 0 =
            no_run (arrival_step s h now o a).told none in absurd (omega (arith, e, once_count a (arrival_step s h now o a).told each.0))
      ]

  pub answer_told : (a : Answer) (host : HostId) (id : CallId) (service : ℕ) (request response : List ℕ) (hold : ℕ)
      → Contains (arrival_step s h now o a).told (Says (PlainRun host id service request response hold)) → (response ≡ a.bytes) × (hold ≡ a.hold)
  answer_told a host id service request response hold c =
      elim (arrival_alike s h now o a a) [
        | inl same ↦ absurd (quiet_none _ host id service request response hold same.1 c)
        | inr each ↦ once_answer a _ each.0 host id service request response hold c
      ]

  pub asked_alike : (a b : Answer) → has_run (arrival_step s h now o a).told ≡ has_run (arrival_step s h now o b).told
  asked_alike a b =
      elim (arrival_alike s h now o a b) [
        | inl same ↦ ap (λ (w : Work). has_run w.told) same.0
        | inr each ↦ ran_once a (arrival_step s h now o a).told each.0 ∙ sym (ran_once b (arrival_step s h now o b).told each.1)
      ]

-- ---- steps that ask no service

module _ (s : Settings) where
  -- a gap is asked for by a packet
  resend_quiet : (o : Option Range) → asks (resend_of s o) ≡ 0
  resend_quiet None = refl
  resend_quiet (Some r) = refl

  client_acts-quiet : (m : Moment) (id : CallId) (r : ClientRow) → asks (client_acts s m id r).says ≡ 0
  client_acts-quiet m id r = cond_both (nat_lt r.count s.tries) _ _ (λ (e : Did ClientRow). asks e.says ≡ 0) (λ _. resend_quiet (wanted s r.part)) (λ _. refl)

  state_acts-quiet : (m : Moment) (id : CallId) (row : ServerRow) (state : State) → asks (state_acts s m id row state).says ≡ 0
  state_acts-quiet m id row (Receiving service part base count) =
      cond_both (nat_lt count s.tries) _ _ (λ (e : Did ServerRow). asks e.says ≡ 0) (λ _. resend_quiet (first_gap part)) (λ _. refl)
  state_acts-quiet m id row (Held response release) = refl
  state_acts-quiet m id row (Replying response out order base count) =
      cond_both (nat_lt count s.tries) _ _ (λ (e : Did ServerRow). asks e.says ≡ 0) (λ _. refl) (λ _. refl)
  state_acts-quiet m id row (Buried until) = refl

  client_acted-quiet : (id : CallId) (o : Option ClientRow) (w : Work) → run_count (client_acted s id o w).told ≡ run_count w.told
  client_acted-quiet id None w = refl
  client_acted-quiet id (Some r) w = asked_quiet s id r.server (client_acts s (moment s id w) id r) w (client_acts-quiet (moment s id w) id r)

  server_acted-quiet : (id : CallId) (o : Option ServerRow) (w : Work) → run_count (server_acted s id o w).told ≡ run_count w.told
  server_acted-quiet id None w = refl
  server_acted-quiet id (Some row) w = served_quiet s id (server_acts s (moment s id w) id row) w (state_acts-quiet (moment s id w) id row row.state)

  acts_at-quiet : (place : Place) (w : Work) → run_count (acts_at s place w).told ≡ run_count w.told
  acts_at-quiet (OfClient id) w = client_acted-quiet id (get w.host.clients id) w
  acts_at-quiet (OfServer id) w = server_acted-quiet id (get w.host.servers id) w

  all_act-quiet : (ts : List Timer) (w : Work) → run_count (all_act s ts w).told ≡ run_count w.told
  all_act-quiet [] w = refl
  all_act-quiet (t ∷ ts) w = all_act-quiet ts (acts_at s t.place w) ∙ acts_at-quiet t.place w

  ended-quiet : (w : Work) → run_count w.told ≡ 0 → has_run (ended s w).told ≡ false
  ended-quiet w none =
      has_run-quiet (ended s w).told (calm_count (s.overcommit + (64 - length (packets_in (gives_grants s w).told))) w (ended s w) (ended-calm s w) ∙ none)

  pub turn_unasked : (h : Host) (now : ℕ) → has_run (turn_step s h now).told ≡ false
  unfolding turn_step
  turn_unasked h now =
      let w : Work = begun (refilled s (record h { last = now })) now in
      ended-quiet (acts s w) (all_act-quiet (due timer_key (now_of w) (timers s w.host)) w)

  pub call_unasked : (h : Host) (now : ℕ) (server : HostId) (service : ℕ) (request : List ℕ) → has_run (call_step s h now server service request).told ≡ false
  unfolding call_step
  call_unasked h now server service request = ended-quiet (starts s server service request (begun h now)) refl

-- ---- without an answer

-- what is none by a test
none_if : {A : Type 0} (b : Bool) (x : A) → cond b None (Some x) ≡ None → b ≡ true
none_if true x e = refl
none_if false x e = cc

none_where : {A : Type 0} (b : Bool) (x : A) → b ≡ true → cond b None (Some x) ≡ None
none_where true x e = refl
none_where false x e = cc

-- the answer that is tried
abbrev no_answer : Answer
no_answer = record { bytes = []; hold = 0 }

module _ (s : Settings) (h : Host) (now : ℕ) (o : Option Packet) (a : Answer) where
  pub none_asked : (arrival_or_none s h now o None ≡ None) ↔ (has_run (arrival_step s h now o a).told ≡ true)
  none_asked = (
    λ e. asked_alike s h now o a no_answer ∙ none_if (has_run (arrival_step s h now o no_answer).told) (arrival_step s h now o no_answer) e,
    λ e. none_where (has_run (arrival_step s h now o no_answer).told) (arrival_step s h now o no_answer) (asked_alike s h now o no_answer a ∙ e),
  )

  pub some_unasked : has_run (arrival_step s h now o a).told ≡ false → arrival_or_none s h now o None ≡ Some (arrival_step s h now o a)
  some_unasked e =
      ap (λ b. cond b None (Some (arrival_step s h now o no_answer))) (asked_alike s h now o no_answer a ∙ e) ∙ ap Some (same_unasked s h now o a no_answer e)
