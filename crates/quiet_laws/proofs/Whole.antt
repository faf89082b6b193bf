-- The packet that makes the message whole: the request, and then the response is in progress; or the response, and the call is done.
use Rattle.std.proofs.Common.{◌≡◌, ℕ, zero, suc, ◌+◌, ◌≤◌, inl, inr, true, false, Option, Some, None, List, [], ◌∷◌, ◌++◌, length, refl, sym, ap}
use Rattle.std.proofs.Common.{subst, ◌∙◌, arith, append_assoc, cond}
use Rattle.std.specs.Prelude.{map, min, drop}
use Rattle.std.proofs.lemmas.Bool.{cases_lt}
use Rattle.homa_plain.specs.declared.packet.Role.{Role}
use Rattle.homa_plain.specs.declared.packet.Role.TheVariants.{Client, Server}
use Rattle.homa_plain.specs.declared.packet.Body.{Body}
use Rattle.homa_plain.specs.declared.packet.Body.TheVariants as body
use Rattle.homa_plain.specs.declared.settings.Settings.{Settings}
use Rattle.homa_plain.specs.declared.event.Event.TheVariants as event
use Rattle.homa_plain.specs.Entries.{PlainEntry, PlainDone, PlainRun, PlainBalance}
use Rattle.homa_plain.specs.Incoming.{Incoming, with_bytes, message}
use Rattle.homa_plain.specs.Incoming as incoming
use Rattle.homa_plain.specs.Outgoing.{Outgoing}
use Rattle.homa_plain.specs.Packets.{Packet}
use Rattle.homa_plain.specs.Host.{Host, Told, Says, Sends, packets_in, entries_from, pages_for}
use Rattle.homa_plain.specs.Rows.{ClientRow}
use Rattle.homa_plain.specs.Rules.{Answer, Did, Tells, version_of}
use Rattle.homa_plain.specs.AtServer.{piece_of}
use Rattle.homa_plain.specs.Script.{counting}
use Rattle.homa_plain.specs.Work.{Work, begun}
use Rattle.homa_plain.specs.Steps.{has_run, arrival_step, asked, ended, comes}
use Rattle.homa_plain.specs.OldPackets.{is_stale}
use Rattle.homa_plain.specs.World.{World, SentPacket, outcome, stamped, next_answer}
use Rattle.homa_plain.specs.Quiet.{has_done}
use Rattle.step_laws.proofs.ToldBy.{asked-carried}
use Rattle.step_laws.proofs.StepEnd.{ended-calm}
use Rattle.quiet_laws.specs.Ends.{IsCalm}
use Rattle.quiet_laws.specs.Flows.{ahead, flows}
use Rattle.quiet_laws.specs.Hosts.{the_call, server_id, client_host, asking, HasFront, AreAside, AreOurs, IsBalance, IsCutoffs}
use Rattle.quiet_laws.proofs.Outs.{out_at}
use Rattle.quiet_laws.proofs.Fronts.{front_opened}
use Rattle.quiet_laws.proofs.Flowing.{flows-append}
use Rattle.quiet_laws.proofs.Comes.{SeenSoFar, Once}
use Rattle.quiet_laws.proofs.ServerData.{request_piece}
use Rattle.quiet_laws.proofs.ClientData.{response_piece_of, to_part, to_none, last_comes}
use Rattle.quiet_laws.proofs.Stands.{Times, GetsResponse, Got, SenderEnded}
use Rattle.quiet_laws.proofs.Ended.{sender_ends}
use Rattle.quiet_laws.proofs.Arrivals.{touched}
use Rattle.quiet_laws.proofs.Switch.{left_behind, Ran, request_runs, done_is_told}
use Rattle.quiet_laws.proofs.Stamps.{packets_of-stamped, new_next, sends-quiet}
use Rattle.quiet_laws.proofs.FirstRound.{length-counting}
use Rattle.quiet_laws.proofs.Worlds.{world_by, to_receiver}
use Rattle.quiet_laws.proofs.Amid.{packets_of, answers_by, Amid}
use Rattle.quiet_laws.proofs.Facts.{aside_run}
use Rattle.quiet_laws.proofs.Delivered.{all_packets, moved, length-snoc, aside_ours, ours-append, new-append, packets_of-append}
use Rattle.quiet_laws.proofs.Goings.{IsDelivered, Limits, found, taken, is_fresh, up_to, grant_on, data_on, cutoffs_on}

-- ---- the request is whole

-- what is told beside the run is no piece of the response
aside_before : (s : Settings) (now n x y : ℕ) (told : List Told) → AreAside Server s now told → flows n Server x y (packets_in told) x y
aside_before s now n x y [] a = (refl, refl)
aside_before s now n x y (Says e ∷ told) a = aside_before s now n x y told a.1
aside_before s now n x y (Sends p ∷ told) a = by p.body a.2 (aside_before s now n x y told a.3) where
  by : (b : Body) → IsCutoffs b → flows n Server x y (packets_in told) x y → ahead n Server x y p b (λ u v. flows n Server u v (packets_in told) x y)
  by (body.Cutoffs cutoffs) i f = (inr refl, f)
  by (body.Data size offset version service ack) i f = absurd i
  by (body.Grant offset prio) i f = absurd i
  by (body.Resend from to prio) i f = absurd i
  by body.Busy i f = absurd i
  by (body.Unknown reason) i f = absurd i
  by body.NeedAck i f = absurd i
  by (body.Ack more) i f = absurd i

-- nobody is done where a request runs
run_quiet : (s : Settings) (now k : ℕ) (told : List Told) (request response : List ℕ) (ps : List Packet) → AreAside Server s now told
    → has_done (entries_from k (told ++ Says (PlainRun server_id the_call 0 request response 0) ∷ map Sends ps)) ≡ false
run_quiet s now k [] request response ps a = sends-quiet k ps
run_quiet s now k (Sends p ∷ told) request response ps a = run_quiet s now (suc k) told request response ps a.3
run_quiet s now k (Says e ∷ told) request response ps a = by e a.0 (run_quiet s now k told request response ps a.1) where
  by : (e : PlainEntry) → IsBalance e → has_done (entries_from k (told ++ Says (PlainRun server_id the_call 0 request response 0) ∷ map Sends ps)) ≡ false
      → has_done (e ∷ entries_from k (told ++ Says (PlainRun server_id the_call 0 request response 0) ∷ map Sends ps)) ≡ false
  by (PlainBalance host cutoffs) i r = r
  by e i r = absurd i

run_packets : (told : List Told) (entry : PlainEntry) (ps : List Packet) → packets_in (told ++ Says entry ∷ map Sends ps) ≡ packets_in told ++ ps
run_packets [] entry [] = refl
run_packets [] entry (p ∷ ps) = ap (λ x. p ∷ x) (run_packets [] entry ps)
run_packets (Says e ∷ told) entry ps = run_packets told entry ps
run_packets (Sends p ∷ told) entry ps = ap (λ x. p ∷ x) (run_packets told entry ps)

module _ (s : Settings) (n m clock d end told : ℕ) (x : SentPacket) (rest : List SentPacket) (w : World)
    (a : Amid Client s n m clock d end told (x ∷ rest) w) (l : Limits s) (calm : IsCalm s n m)
    (version : ℕ) (same : x.packet.body ≡ body.Data n a.here version 0 None) (r : x.packet.role ≡ Client) (whole : a.here + length x.packet.payload ≡ n)
    (goes_on : flows n Client (a.here + length x.packet.payload) a.may (packets_of rest) end told) where
  abbrev now : ℕ
  now = clock + s.skew

  abbrev response : List ℕ
  response = counting 0 m

  -- how many bytes are answered
  abbrev k : ℕ
  k = length response

  abbrev packets : List SentPacket
  packets = all_packets Client s n m clock d end told x rest w a

  abbrev the_answer : Answer
  the_answer = record { bytes = response; hold = 0 }

  ran : Ran s k now a.at_receiver
      (comes s (Some (request_piece x.packet.at x.packet.level n a.here version x.packet.payload)) the_answer (begun a.receiver now))
  ran = request_runs s n a.here a.given a.at_receiver now response x.packet.at x.packet.level version x.packet.payload whole calm.request.2 l.served
      (taken Client s n m clock d end told x rest w a l Client (body.Data n a.here version 0 None) r same) a.receiver a.gets

  abbrev v : Work
  v = arrival_step s a.receiver now (Some (request_piece x.packet.at x.packet.level n a.here version x.packet.payload)) the_answer

  abbrev may_send : ℕ
  may_send = min k s.unsched

  ends : SenderEnded Server s k 0 may_send (touched now a.at_receiver)
      (record { host = ran.host; told = ran.aside ++ Says (PlainRun server_id the_call 0 ran.request ran.response 0) ∷ [] }) v
  unfolding arrival_step
  ends = subst (λ w. SenderEnded Server s k 0 may_send (touched now a.at_receiver)
      (record { host = ran.host; told = ran.aside ++ Says (PlainRun server_id the_call 0 ran.request ran.response 0) ∷ [] }) (ended s w))
      {x = record { host = ran.host; told = ran.aside ++ Says (PlainRun server_id the_call 0 ran.request ran.response 0) ∷ [] }} (sym ran.is)
      (sender_ends s k 0 may_send (touched now a.at_receiver) l.seg (omega arith) (omega arith) Server
      (ran.aside ++ Says (PlainRun server_id the_call 0 ran.request ran.response 0) ∷ []) ran.host ran.stands)

  told_is : v.told ≡ ran.aside ++ Says (PlainRun server_id the_call 0 ran.request ran.response 0) ∷ map Sends ends.sent
  told_is = ends.told ∙ append_assoc ran.aside (Says (PlainRun server_id the_call 0 ran.request ran.response 0) ∷ []) (map Sends ends.sent)

  packets_is : packets_in v.told ≡ packets_in ran.aside ++ ends.sent
  packets_is = ap packets_in told_is ∙ run_packets ran.aside (PlainRun server_id the_call 0 ran.request ran.response 0) ends.sent

  some : 1 ≤ k
  some = omega (arith, length-counting 0 m, calm.response.0)

  -- all of the request was sent and granted
  all_sent : (end ≡ n) × (a.top ≡ n) × (a.may ≡ n) × (told ≡ n)
  all_sent =
      let u = up_to Client s n m clock d end told x rest w a l (a.here + length x.packet.payload) goes_on in (
        omega (arith, whole, u.0, u.1, u.2),
        omega (arith, whole, u.0, u.1, u.2),
        omega (arith, whole, u.0, u.1, a.sent, u.3, u.4),
        omega (arith, whole, u.0, u.1, a.sent, u.3, u.4),
      )

  waits : GetsResponse s k 0 may_send a.at_sender a.sender
  waits =
      let all : a.top ≡ length a.sends.request = all_sent.1 ∙ sym a.sends.size in
      let may : a.may ≡ length a.sends.request = all_sent.2 ∙ sym a.sends.size in
      record {
        bits = a.sends.bits;
        request = a.sends.request;
        order = a.sends.order;
        prio = a.sends.prio;
        heard = a.sends.heard;
        count = a.sends.count;
        seen = a.sends.seen;
        part = None;
        got = (refl, refl);
        known = a.sends.known;
        last = a.sends.last;
        refilled = a.sends.refilled;
        is = a.sends.is
            ∙ ap (λ i. client_host a.sends.bits a.at_sender.credit
            (asking a.sends.request a.sends.order (out_at i s.unsched a.top a.may a.sends.prio) a.sends.heard a.at_sender.base a.sends.count
            a.sends.seen None)) (sym a.sends.size)
            ∙ ap (λ i. client_host a.sends.bits a.at_sender.credit
            (asking a.sends.request a.sends.order (out_at (length a.sends.request) s.unsched i a.may a.sends.prio) a.sends.heard a.at_sender.base
            a.sends.count a.sends.seen None)) all
            ∙ ap (λ i. client_host a.sends.bits a.at_sender.credit
            (asking a.sends.request a.sends.order (out_at (length a.sends.request) s.unsched (length a.sends.request) i a.sends.prio) a.sends.heard
            a.at_sender.base a.sends.count a.sends.seen None)) may;
      }

  -- of the request nothing but CUTOFFS is left
  rest_flows : flows k Server 0 may_send (packets_of rest) 0 may_send
  rest_flows = left_behind n a.may told k 0 may_send (packets_of rest) (omega (arith, all_sent.2))
      (subst (λ i. flows n Client i a.may (packets_of rest) n told) whole
      (subst (λ i. flows n Client (a.here + length x.packet.payload) a.may (packets_of rest) i told) all_sent.0 goes_on))

  fresh_flows : flows k Server 0 may_send (packets_of a.fresh) 0 may_send
  fresh_flows = left_behind n told a.given k 0 may_send (packets_of a.fresh) (omega (arith, all_sent.3))
      (subst (λ i. flows n Client i told (packets_of a.fresh) n a.given) all_sent.0
      (subst (λ i. flows n Client end told (packets_of a.fresh) i a.given) all_sent.1 a.then_))

  new_flows : flows k Server 0 may_send (packets_of (a.fresh ++ stamped clock (packets_in v.told))) ends.end may_send
  new_flows = subst (λ ps. flows k Server 0 may_send ps ends.end may_send)
      (sym (packets_of-append a.fresh (stamped clock (packets_in v.told)) ∙ ap (λ ps. packets_of a.fresh ++ ps)
      (packets_of-stamped clock (packets_in v.told) ∙ packets_is)))
      (flows-append k Server (packets_of a.fresh) (packets_in ran.aside ++ ends.sent) 0 may_send 0 may_send ends.end may_send fresh_flows
      (flows-append k Server (packets_in ran.aside) ends.sent 0 may_send 0 may_send ends.end may_send
      (aside_before s now k 0 may_send ran.aside ran.few) (ends.flow may_send)))

  now_ours : AreOurs s now (packets_in v.told)
  now_ours = subst (AreOurs s now) (sym packets_is) (ours-append s now (packets_in ran.aside) ends.sent (aside_ours Server s now ran.aside ran.few) ends.ours)

  base_now : ends.times.base ≡ now
  base_now = elim ends.later [ inl e ↦ e | inr e ↦ e ]

  replies : Amid Server s k k clock (suc d) 0 may_send rest (world_by Client s clock a.spares a.sender v.host (packets ++ stamped clock (packets_in v.told)) [])
  replies = record {
    here = 0;
    top = ends.end;
    may = may_send;
    given = may_send;
    at_sender = ends.times;
    at_receiver = a.at_sender;
    sender = v.host;
    receiver = a.sender;
    old = a.old ++ x ∷ [];
    fresh = a.fresh ++ stamped clock (packets_in v.told);
    spares = a.spares;
    is = ap (λ ps. world_by Client s clock a.spares a.sender v.host ps []) (moved a.old x rest a.fresh (stamped clock (packets_in v.told)));
    so_many = length-snoc a.old x ∙ ap suc a.so_many;
    sends = ends.host;
    gets = waits;
    new = a.new.1;
    newer = new-append s (clock + 1) a.fresh (stamped clock (packets_in v.told)) a.newer (new_next s clock (packets_in v.told) now_ours);
    first = rest_flows;
    then_ = new_flows;
    sent = ends.within;
    granted = omega arith;
    missing = omega (arith, some);
    ahead = λ q. absurd (omega (arith, q));
    some = omega (arith, some, calm.valid.in_range.2.2.2.0);
    sender_ok = inl (omega (arith, base_now));
    receiver_ok = elim a.sender_ok [ inl o ↦ inl o | inr more ↦ absurd (omega (arith, more, all_sent.2, all_sent.3)) ];
    sender_anew = λ q. omega (arith, base_now);
    receiver_anew = λ q. absurd (omega (arith, q));
    sender_last = omega (arith, ends.refilled, a.receiver_last);
    receiver_last = a.sender_last;
  }

  pub request_on : IsDelivered Client s n m clock (suc d) end told rest (outcome s w (event.Deliver d) [])
  request_on =
      subst (IsDelivered Client s n m clock (suc d) end told rest)
      (sym (ap (λ v. outcome s v (event.Deliver d) []) a.is
      ∙ to_receiver s clock a.spares packets (answers_by Client m) d x.tick x.packet.at x.packet.level (body.Data n a.here version 0 None) x.packet.payload
      (is_fresh Client s n m clock d end told x rest w a l) Client a.sender a.receiver
      (found Client s n m clock d end told x rest w a l Client (body.Data n a.here version 0 None) r same)))
      (inr (inl (
        refl,
        ap (λ t. has_done (entries_from (length packets) t)) told_is ∙ run_quiet s now (length packets) ran.aside ran.request ran.response ends.sent ran.few,
        subst (λ left. Amid Server s m m clock (suc d) 0 (min m s.unsched) rest
            (world_by Client s clock a.spares a.sender v.host (packets ++ stamped clock (packets_in v.told)) left))
            (sym (ap (λ b. cond b (drop 1 (the_answer ∷ [])) (the_answer ∷ []))
            (ap has_run told_is ∙ aside_run Server s now ran.aside (map Sends ends.sent) server_id the_call 0 ran.request ran.response 0 ran.few)))
            (subst (λ i. Amid Server s i i clock (suc d) 0 (min i s.unsched) rest
            (world_by Client s clock a.spares a.sender v.host (packets ++ stamped clock (packets_in v.told)) [])) (length-counting 0 m) replies),
      )))

-- ---- the response is whole

-- a step in which the call is done tells so, whatever else it tells
done_step : (s : Settings) (k order : ℕ) (opened version : Option ℕ) (bytes : List ℕ) (w : Work) → w.told ≡ []
    → has_done (entries_from k
    (ended s (asked s the_call server_id
    (record { row = None; order = order; opened = opened; version = version; says = Tells (PlainDone the_call bytes) ∷ []; finished = true }) w)).told) ≡ true
done_step s k order opened version bytes w none =
    let did : Did ClientRow =
    record { row = None; order = order; opened = opened; version = version; says = Tells (PlainDone the_call bytes) ∷ []; finished = true } in
    let c = asked-carried s the_call server_id did w in
    let e = ended-calm s (asked s the_call server_id did w) in
    ap (λ t. has_done (entries_from k t))
    (e.grown ∙ ap (λ t. t ++ e.told) (c.grown ∙ ap (λ t. t ++ (c.before ++ (Says (PlainDone the_call bytes) ∷ c.after))) none)
    ∙ append_assoc c.before (Says (PlainDone the_call bytes) ∷ c.after) e.told)
    ∙ done_is_told k c.before (c.after ++ e.told) bytes

module _ (s : Settings) (n here given : ℕ) (t : Times) (now : ℕ) (answer : Answer) (at level version : ℕ) (payload : List ℕ)
    (whole : here + length payload ≡ n) (pages : pages_for n ≤ s.pages)
    (fresh : is_stale s now (response_piece_of at level n here version payload) ≡ false) where
  abbrev piece : Packet
  piece = response_piece_of at level n here version payload

  pub client_done : (k : ℕ) (h : Host) → GetsResponse s n here given t h → has_done (entries_from k (arrival_step s h now (Some piece) answer).told) ≡ true
  unfolding arrival_step
  client_done k h a = by a.part a.got a.known a.is where
    full : Outgoing
    full = out_at (length a.request) s.unsched (length a.request) (length a.request) a.prio

    by : (part : Option Incoming) → Got s n here given part → SeenSoFar a.seen part
        → h ≡ client_host a.bits t.credit (asking a.request a.order full a.heard t.base a.count a.seen part)
        → has_done (entries_from k (arrival_step s h now (Some piece) answer).told) ≡ true
    by (Some part) f known e = from_part a.seen known e where
      from_part : (seen : ℕ) → SeenSoFar seen (Some part)
          → h ≡ client_host a.bits t.credit (asking a.request a.order full a.heard t.base a.count seen (Some part))
          → has_done (entries_from k (arrival_step s h now (Some piece) answer).told) ≡ true
      from_part zero x e = elim x [ ]
      from_part (suc (suc _)) x e = elim x [ ]
      from_part (suc zero) Once e =
          let is = last_comes s a.bits t.credit now answer at level n here given version payload a.request a.order full a.heard t.base a.count fresh 1
          (Some part) part None a.bits.order f
          (to_part s a.bits t.credit now answer at level n here given version payload a.request a.order full a.heard t.base a.count fresh part f) whole in
          ap (λ x. has_done (entries_from k (ended s (comes s (Some piece) answer (begun x now))).told)) e
          ∙ ap (λ w. has_done (entries_from k (ended s w).told)) is
          ∙ done_step s k a.bits.order None (version_of (piece_of n here version 0 payload)) (message (with_bytes part here payload))
          (begun (client_host a.bits t.credit (asking a.request a.order full a.heard t.base a.count 1 (Some part))) now) refl
    by None g known e =
        let part : Incoming = incoming.opened server_id n a.bits.order s.unsched in
        let f : HasFront n here given part =
        subst (λ x. HasFront n x given part) (sym g.0) (subst (λ x. HasFront n 0 x part) (sym g.1) (front_opened server_id n a.bits.order s.unsched)) in
        let is = last_comes s a.bits t.credit now answer at level n here given version payload a.request a.order full a.heard t.base a.count fresh
        a.seen None part (Some n) (a.bits.order + 1) f
        (to_none s a.bits t.credit now answer at level n here given version payload a.request a.order full a.heard t.base a.count fresh a.seen known
        pages f) whole in
        ap (λ x. has_done (entries_from k (ended s (comes s (Some piece) answer (begun x now))).told)) e
        ∙ ap (λ w. has_done (entries_from k (ended s w).told)) is
        ∙ done_step s k (a.bits.order + 1) (Some n) (version_of (piece_of n here version 0 payload)) (message (with_bytes part here payload))
        (begun (client_host a.bits t.credit (asking a.request a.order full a.heard t.base a.count a.seen None)) now) refl

module _ (s : Settings) (n m clock d end told : ℕ) (x : SentPacket) (rest : List SentPacket) (w : World)
    (a : Amid Server s n m clock d end told (x ∷ rest) w) (l : Limits s) where
  pub response_on : (version : ℕ) → x.packet.body ≡ body.Data n a.here version 0 None → x.packet.role ≡ Server → a.here + length x.packet.payload ≡ n
      → pages_for n ≤ s.pages
      → IsDelivered Server s n m clock (suc d) end told rest (outcome s w (event.Deliver d) [])
  response_on version same r whole pages =
      let packets : List SentPacket = all_packets Server s n m clock d end told x rest w a in
      subst (IsDelivered Server s n m clock (suc d) end told rest)
      (sym (ap (λ v. outcome s v (event.Deliver d) []) a.is
      ∙ to_receiver s clock a.spares packets (answers_by Server m) d x.tick x.packet.at x.packet.level (body.Data n a.here version 0 None) x.packet.payload
      (is_fresh Server s n m clock d end told x rest w a l) Server a.sender a.receiver
      (found Server s n m clock d end told x rest w a l Server (body.Data n a.here version 0 None) r same)))
      (inr (inr (
        refl,
        client_done s n a.here a.given a.at_receiver (clock + s.skew) (next_answer (answers_by Server m)) x.packet.at x.packet.level version
            x.packet.payload whole pages
            (taken Server s n m clock d end told x rest w a l Server (body.Data n a.here version 0 None) r same) (length packets) a.receiver a.gets,
      )))

-- ---- one delivery

module _ (s : Settings) (n m clock d end told : ℕ) (x : SentPacket) (rest : List SentPacket) (w : World) (l : Limits s) (calm : IsCalm s n m) where
  whole_on : (role : Role) (a : Amid role s n m clock d end told (x ∷ rest) w) (version : ℕ) → x.packet.body ≡ body.Data n a.here version 0 None
      → x.packet.role ≡ role → a.here + length x.packet.payload ≡ n
      → flows n role (a.here + length x.packet.payload) a.may (packets_of rest) end told
      → IsDelivered role s n m clock (suc d) end told rest (outcome s w (event.Deliver d) [])
  whole_on Client a version same r whole goes_on = request_on s n m clock d end told x rest w a l calm version same r whole goes_on
  whole_on Server a version same r whole goes_on = response_on s n m clock d end told x rest w a l version same r whole calm.request.2

  -- the packet that comes next is delivered; n is the length of the message in progress
  pub deliver_on : (role : Role) → Amid role s n m clock d end told (x ∷ rest) w
      → IsDelivered role s n m clock (suc d) end told rest (outcome s w (event.Deliver d) [])
  deliver_on role a = by x.packet.body refl a.first where
    by : (b : Body) → x.packet.body ≡ b → ahead n role a.here a.may x.packet b (λ u v. flows n role u v (packets_of rest) end told)
        → IsDelivered role s n m clock (suc d) end told rest (outcome s w (event.Deliver d) [])
    by (body.Grant offset prio) e f = grant_on role s n m clock d end told x rest w a l offset prio e f.0 f.1 f.2 f.3
    by (body.Cutoffs cutoffs) e f = cutoffs_on s n m clock d end told x rest w l cutoffs e role a f.0 f.1
    by (body.Data size offset version service ack) e f =
        let same : x.packet.body ≡ body.Data n a.here version 0 None =
        e ∙ ap (λ i. body.Data i offset version service ack) f.1 ∙ ap (λ i. body.Data n i version service ack) f.2
        ∙ ap (λ i. body.Data n a.here version i ack) f.3 ∙ ap (λ i. body.Data n a.here version 0 i) f.4 in
        elim (cases_lt (a.here + length x.packet.payload) n) [
          | inl more ↦ data_on role s n m clock d end told x rest w a l version same f.0 more f.6 calm
          | inr all ↦ (let u = up_to role s n m clock d end told x rest w a l (a.here + length x.packet.payload) f.6 in
              whole_on role a version same f.0 (omega (arith, all, u.0, u.1, u.2)) f.6)
        ]
    by (body.Resend from to prio) e f = absurd f
    by body.Busy e f = absurd f
    by (body.Unknown reason) e f = absurd f
    by body.NeedAck e f = absurd f
    by (body.Ack more) e f = absurd f
