-- Each event keeps what is so of live calls and their RESENDs, and each timeout of a trace is of an unanswered call.
use Rattle.std.proofs.Common.{◌≡◌, ℕ, ◌+◌, ◌≤◌, ◌<◌, Bool, true, false, Option, Some, None, List, [], ◌∷◌, length, cond, refl, sym, ap, subst, ◌∙◌, arith}
use Rattle.std.specs.Prelude.{nat_lt, slice_get, unwrap_or}
use Rattle.std.specs.Option.{option_map_or}
use Rattle.std.specs.List.{list_any}
use Rattle.std.specs.Ordering.{nat_cmp}
use Rattle.std.proofs.lemmas.Bool.{cond_both, false≢true, false_from_ne_true}
use Rattle.plain_sets.specs.Maps.{Map, get, insert}
use Rattle.homa_plain.specs.declared.id.CallId.{CallId}
use Rattle.homa_plain.specs.declared.id.HostId.{HostId}
use Rattle.homa_plain.specs.declared.packet.Role.{Role}
use Rattle.homa_plain.specs.declared.packet.Role.TheVariants.{Client, Server}
use Rattle.homa_plain.specs.declared.settings.Settings.{Settings}
use Rattle.homa_plain.specs.Calls.{is_host, is_call, call_cmp}
use Rattle.homa_plain.specs.Entries.{PlainCall, PlainDeliver, PlainInject, PlainStale}
use Rattle.homa_plain.specs.Packets.{Packet, receiver, receiver_of}
use Rattle.homa_plain.specs.Rows.{ClientRow}
use Rattle.homa_plain.specs.Host.{Host, Says, entries_from}
use Rattle.homa_plain.specs.Rules.{Answer}
use Rattle.homa_plain.specs.Work.{Work, begun, tells}
use Rattle.homa_plain.specs.Steps.{starts, next_id, new_call, comes, takes, acts, ended, call_step}
use Rattle.homa_plain.specs.OldPackets.{is_stale}
use Rattle.homa_plain.specs.Credit.{refilled}
use Rattle.homa_plain.specs.Steps.{arrival_step, turn_step}
use Rattle.trace_rules.specs.View.{View, Called, Sent, Progress, own_tick, has_last, sent_last}
use Rattle.trace_rules.specs.Seen.{seen, seen_all}
use Rattle.trace_rules.specs.Laws.{Holds}
use Rattle.homa_plain.specs.World.{World, host_at, own_clock}
use Rattle.homa_plain.proofs.CallOrder.{calls_are}
use Rattle.homa_plain.proofs.OutgoingLaws.{sound-opened}
use Rattle.trace_steps.specs.Told.{IsTold, sent_of}
use Rattle.trace_steps.proofs.Lines.{SameSetting, told_same, said_packets}
use Rattle.trace_steps.proofs.Progress.{get-set, IsLevel, inject_level, call_level}
use Rattle.trace_steps.proofs.Deliveries.{deliver_level, stale_now, stale_level}
use Rattle.step_moves.proofs.Hosts.{within, some_is, apart}
use Rattle.trace_steps.proofs.ToldMoves.{each_set}
use Rattle.step_moves.proofs.Names.{own_set}
use Rattle.trace_steps.proofs.ToldSteps.{SameTold, call_same as call_told, deliver_same, inject_same, set_same}
use Rattle.step_moves.proofs.Timed.{resend_of, seg_of}
use Rattle.trace_steps.proofs.Events.{after_step}
use Rattle.trace_once.proofs.Restarted.{deliver_calls}
use Rattle.trace_fails.specs.Timeouts.{TimesOut, IsFairRow, IsLiveRow, HasFairRows}
use Rattle.trace_fails.proofs.FairAmid.{none_renewed, AreLiveAs}
use Rattle.trace_fails.proofs.FairMoves.{Fair, acts_fair, ended_fair}
use Rattle.trace_fails.proofs.FairSteps.{row_later, SameCall, row_view, heard_by, heard_row, delivered_aside, delivered_uncounted, client_uncounted}
use Rattle.trace_fails.proofs.FairSteps.{delivered_row, begun_fair, request_fair, response_fair, junk_fair}

-- ---- a call starts

-- its name is of no packet
abbrev pub IsUnsent : View → CallId → Type 0
IsUnsent v id = (n : ℕ) → list_any (λ (p : Sent). has_last id n p p.body) v.packets ≡ false

module _ (s : Settings) (w : World) (v : View) (host : HostId) (now : ℕ) (h : Host) (at : host_at w host ≡ Some h) (server : HostId) (service : ℕ)
    (request : List ℕ) where
  abbrev id : CallId
  id = next_id h

  abbrev called : View
  called = seen v (PlainCall id server service request)

  abbrev work : Work
  work = starts s server service request (begun h now)

  call_aside : (q : CallId) → is_call q id ≡ false → SameCall q v called
  unfolding seen
  call_aside q e = record {
    live = get-set v.now.live id 0 q ∙ ap (λ b. cond b (Some 0) (get v.now.live q)) e;
    resends = get-set v.now.resends id [] q ∙ ap (λ b. cond b (Some []) (get v.now.resends q)) e;
    called = get-set v.calls id (record { server = server; service = service; request = request }) q
        ∙ ap (λ b. cond b (Some (record { server = server; service = service; request = request })) (get v.calls q)) e;
    packets = refl;
  }

  new_row : 0 < length request → IsUnsent v id → IsLiveRow s called now id (new_call s now h.order server service request)
  unfolding seen
  new_row some unsent =
      let c : Called = record { server = server; service = service; request = request } in
      let itself : is_call id id ≡ true = (calls_are id id).1 refl in
      let line : get (insert v.calls id c) id ≡ Some c = get-set v.calls id c id ∙ ap (λ b. cond b (Some c) (get v.calls id)) itself in
      let ticks : unwrap_or (get (insert v.now.resends id []) id) [] ≡ [] =
      ap (λ (o : Option (List ℕ)). unwrap_or o []) (get-set v.now.resends id [] id ∙ ap (λ b. cond b (Some []) (get v.now.resends id)) itself) in
      let sent : sent_last called id ≡ false =
      ap (λ o. option_map_or (λ (x : Called). list_any (λ (p : Sent). has_last id (length x.request) p p.body) v.packets) o false) line
      ∙ unsent (length request) in
      record {
        live = get-set v.now.live id 0 id ∙ ap (λ b. cond b (Some 0) (get v.now.live id)) itself;
        called = line;
        size = refl;
        sound = sound-opened (length request) s.unsched;
        fair = subst (λ (ts : List ℕ). IsFairRow s now (new_call s now h.order server service request) ts (sent_last called id)) (sym ticks)
            (subst (IsFairRow s now (new_call s now h.order server service request) []) (sym sent)
            (record {
              sent = (λ e. absurd (false≢true e), λ e. absurd (omega (arith, e, some)));
              each = refl;
              most = omega arith;
              spaced = tt;
              after = λ t rest e. absurd (nil_cons t rest e);
              base = omega arith;
            }));
      } where
        nil_cons : (t : ℕ) (rest : List ℕ) → [] ≡ t ∷ rest → ⊥
        nil_cons t rest e = cc

  started_fair : 0 < length request → IsUnsent v id → h.id ≡ host → h.last ≤ now → v.settings ≡ s → own_tick v host ≡ now
      → ((q : CallId) (r : ClientRow) → get h.clients q ≡ Some r → q.client ≡ host) → HasFairRows s w v
      → Fair s w v host now (within w.hosts host.0 h at) work
  started_fair some unsent name le settings tick own k = record {
    level = call_level v id server service request;
    settings = (call_told v id server service request).settings ∙ settings;
    tick = tick_same;
    name = name;
    last = refl;
    own = own_set host h.clients id (Some (new_call s now h.order server service request)) name own;
    rows = each_set (λ n x. host_at w n ≡ Some x) (AreLiveAs none_renewed s called) w.hosts host h work.host (within w.hosts host.0 h at)
        (λ _ q r mine is. here q r is (is_call q id) refl)
        (λ n x e is q r mine row. row_view s v called x.last q r (call_aside q (other n e q mine)) (k.rows n x is q r mine row))
        (λ n x is. ap (λ (hs : List Host). slice_get hs n.0) (sym (set_same w.hosts host.0 h at)) ∙ is);
    holds = (tt, tt);
  } where
    tick_same : own_tick called host ≡ now
    tick_same =
        let e = call_told v id server service request in
        ap (λ (t : ℕ). t + unwrap_or (get called.leads host.0) called.settings.skew) e.tick
        ∙ ap (λ (l : Map nat_cmp ℕ). v.tick + unwrap_or (get l host.0) called.settings.skew) e.leads
        ∙ ap (λ (x : Settings). v.tick + unwrap_or (get v.leads host.0) x.skew) e.settings ∙ tick

    other : (n : HostId) → is_host n host ≡ false → (q : CallId) → q.client ≡ n → is_call q id ≡ false
    other n e q mine =
        false_from_ne_true (is_call q id)
        (λ t. apart n host e (ap (λ (x : HostId). x.0) (sym (sym mine ∙ ap (λ (x : CallId). x.client) ((calls_are q id).0 t) ∙ name))))

    here : (q : CallId) (r : ClientRow) → get (insert h.clients id (new_call s now h.order server service request)) q ≡ Some r → (b : Bool)
        → is_call q id ≡ b → IsLiveRow s called now q r
    here q r is true e =
        let new : new_call s now h.order server service request ≡ r =
        some_is (new_call s now h.order server service request) r
        (sym (get-set h.clients id (new_call s now h.order server service request) q
        ∙ ap (λ b. cond b (Some (new_call s now h.order server service request)) (get h.clients q)) e) ∙ is) in
        subst (λ (x : CallId). IsLiveRow s called now x r) (sym ((calls_are q id).0 e)) (subst (IsLiveRow s called now id) new (new_row some unsent))
    here q r is false e =
        let old : get h.clients q ≡ Some r =
        sym (get-set h.clients id (new_call s now h.order server service request) q
        ∙ ap (λ b. cond b (Some (new_call s now h.order server service request)) (get h.clients q)) e) ∙ is in
        row_view s v called now q r (call_aside q e) (row_later s v h.last now q r le (k.rows host h at q r (own q r old) old))

-- ---- steps

-- timeouts are of unanswered calls at the lines of a step, and all is so behind them
pub record StepFair (s : Settings) (w : World) (v : View) (host : HostId) (work : Work) : Type 0 where
  pub holds : Holds TimesOut v (entries_from (length w.packets) work.told)
  pub fair : HasFairRows s (after_step w host [] work).world (seen_all v (entries_from (length w.packets) work.told))

module _ (s : Settings) (w : World) (v : View) (host : HostId) (h : Host) (at : host_at w host ≡ Some h) (told : IsTold s w v) where
  step_fair : (u : View) (done : Work) → Fair s w u host (own_clock w host) (within w.hosts host.0 h at) done → StepFair s w u host done
  step_fair u done k = record { holds = k.holds; fair = record { level = k.level; rows = k.rows } }

  own_now : own_tick v host ≡ own_clock w host
  own_now =
      ap (λ (t : ℕ). t + unwrap_or (get v.leads host.0) v.settings.skew) told.tick
      ∙ ap (λ (x : Settings). w.clock + unwrap_or (get v.leads host.0) x.skew) told.settings
      ∙ ap (λ (n : ℕ). w.clock + n) (told.leads host (within w.hosts host.0 h at))

  -- the same by other lines
  own_then : (u : View) → SameTold v u → own_tick u host ≡ own_clock w host
  own_then u e =
      ap (λ (t : ℕ). t + unwrap_or (get u.leads host.0) u.settings.skew) e.tick
      ∙ ap (λ (l : Map nat_cmp ℕ). v.tick + unwrap_or (get l host.0) u.settings.skew) e.leads
      ∙ ap (λ (x : Settings). v.tick + unwrap_or (get v.leads host.0) x.skew) e.settings ∙ own_now

  pub call_fair : (server : HostId) (service : ℕ) (request : List ℕ) → HasFairRows s w v → 0 < length request → IsUnsent v (next_id h)
      → StepFair s w v host (call_step s h (own_clock w host) server service request)
  unfolding call_step
  call_fair server service request k some unsent =
      let n = told.names host h at in
      step_fair v (call_step s h (own_clock w host) server service request)
      (ended_fair s w v host (own_clock w host) (within w.hosts host.0 h at) (seg_of s told.valid)
      (starts s server service request (begun h (own_clock w host)))
      (started_fair s w v host (own_clock w host) h at server service request some unsent n.name (told.clocks.last host h at) told.settings own_now n.own k))

  pub turn_fair : HasFairRows s w v → StepFair s w v host (turn_step s h (own_clock w host))
  unfolding turn_step
  turn_fair k =
      let n = told.names host h at in
      let t : ℕ = own_clock w host in
      let filled : Host = refilled s (record h { last = t }) in
      let same = cond_both (nat_lt h.refilled t) (record h { last = t; credit = s.rate; refilled = t }) (record h { last = t })
      (λ (x : Host). (x.id ≡ h.id) × (x.clients ≡ h.clients)) (λ _. (refl, refl)) (λ _. (refl, refl)) in
      step_fair v (turn_step s h t)
      (ended_fair s w v host t (within w.hosts host.0 h at) (seg_of s told.valid) (acts s (begun filled t))
      (acts_fair s w v host t (within w.hosts host.0 h at) (resend_of s told.valid) (begun filled t)
      (begun_fair s w v host t h at none_renewed (record filled { last = t }) (same.0 ∙ n.name) same.1 refl k.level told.settings own_now n.own
      (λ id x e is. k.rows id x is)
      (λ q r is. row_later s v h.last t q r (told.clocks.last host h at) (k.rows host h at q r (n.own q r is) is)))))

  pub junk_step : (bytes : List ℕ) (answer : Answer) → HasFairRows s w v
      → StepFair s w (seen v (PlainInject host bytes)) host (arrival_step s h (own_clock w host) None answer)
  unfolding arrival_step seen
  junk_step bytes answer k =
      let n = told.names host h at in
      let u : View = seen v (PlainInject host bytes) in
      let e = inject_same v host bytes in
      let same = (λ (q : CallId). let z : SameCall q v u = record { live = refl; resends = refl; called = refl; packets = refl } in z) in
      step_fair u (ended s (comes s None answer (begun h (own_clock w host))))
      (ended_fair s w u host (own_clock w host) (within w.hosts host.0 h at) (seg_of s told.valid) (comes s None answer (begun h (own_clock w host)))
      (junk_fair s w u host (own_clock w host) h at answer (begun h (own_clock w host))
      (begun_fair s w u host (own_clock w host) h at none_renewed (record h { last = own_clock w host }) n.name refl refl (inject_level v host bytes)
      (e.settings ∙ told.settings) (own_then u e) n.own
      (λ id x f is q r mine row. row_view s v u x.last q r (same q) (k.rows id x is q r mine row))
      (λ q r is. row_view s v u (own_clock w host) q r (same q)
      (row_later s v h.last (own_clock w host) q r (told.clocks.last host h at) (k.rows host h at q r (n.own q r is) is))))))

  -- a packet comes
  pub packet_step : (n : ℕ) (p : Packet) (answer : Answer) → slice_get v.packets n ≡ Some (sent_of p) → receiver p ≡ host → HasFairRows s w v
      → StepFair s w (seen v (PlainDeliver n)) host (arrival_step s h (own_clock w host) (Some p) answer)
  unfolding arrival_step
  packet_step n p answer sent to k =
      step_fair u (ended s (comes s (Some p) answer first))
      (ended_fair s w u host t l (seg_of s told.valid) (comes s (Some p) answer first) (by_age (is_stale s t p))) where
        t : ℕ
        t = own_clock w host

        l : host.0 < length w.hosts
        l = within w.hosts host.0 h at

        u : View
        u = seen v (PlainDeliver n)

        first : Work
        first = begun h t

        name : h.id ≡ host
        name = (told.names host h at).name

        own : (q : CallId) (r : ClientRow) → get h.clients q ≡ Some r → q.client ≡ host
        own = (told.names host h at).own

        le : h.last ≤ t
        le = told.clocks.last host h at

        level : IsLevel u
        level = deliver_level v n (sent_of p) sent

        settings : u.settings ≡ s
        settings = (deliver_same v n).settings ∙ told.settings

        tick : own_tick u host ≡ t
        tick = own_then u (deliver_same v n)

        -- a packet that is too old is as if it hadn't come
        stale : View
        stale = seen u (PlainStale h.id p.at t)

        stale_same : (q : CallId) → SameCall q v stale
        stale_same q = record {
          live = ap (λ (m : Progress). get m.live q) (stale_now v n h.id p.at t);
          resends = ap (λ (m : Progress). get m.resends q) (stale_now v n h.id p.at t);
          called = ap (λ (m : Map call_cmp Called). get m q) (stale_setting.calls ∙ calls_same);
          packets = stale_packets ∙ (deliver_same v n).packets;
        } where
          stale_setting : SameSetting u stale
          stale_setting = told_same u 0 (Says (PlainStale h.id p.at t) ∷ []) (tt, tt)

          calls_same : u.calls ≡ v.calls
          calls_same = deliver_calls v n

          stale_packets : stale.packets ≡ u.packets
          stale_packets = said_packets u (PlainStale h.id p.at t) tt

        stale_fair : Fair s w u host t l (tells (Says (PlainStale h.id p.at t) ∷ []) first)
        stale_fair =
            let e = told_same u 0 (Says (PlainStale h.id p.at t) ∷ []) (tt, tt) in
            record {
              level = stale_level u h.id p.at t;
              settings = e.settings ∙ settings;
              tick = ap (λ (x : ℕ). x + unwrap_or (get stale.leads host.0) stale.settings.skew) e.tick
                  ∙ ap (λ (m : Map nat_cmp ℕ). u.tick + unwrap_or (get m host.0) stale.settings.skew) e.leads
                  ∙ ap (λ (x : Settings). u.tick + unwrap_or (get u.leads host.0) x.skew) e.settings ∙ tick;
              name = name;
              last = refl;
              own = own;
              rows = each_set (λ id x. host_at w id ≡ Some x) (AreLiveAs none_renewed s stale) w.hosts host h first.host l
                  (λ _ q r mine is. row_view s v stale t q r (stale_same q) (row_later s v h.last t q r le (k.rows host h at q r mine is)))
                  (λ id x f is q r mine row. row_view s v stale x.last q r (stale_same q) (k.rows id x is q r mine row))
                  (λ id x is. ap (λ (hs : List Host). slice_get hs id.0) (sym (set_same w.hosts host.0 h at)) ∙ is);
              holds = (tt, tt);
            }

        -- a packet of a client counts for no call
        client_fair : p.role ≡ Client → Fair s w u host t l (takes s p answer first)
        client_fair role =
            let same = delivered_uncounted s v n p sent (client_uncounted s v n p sent role) in
            request_fair s w u host t h at p answer first role
            (begun_fair s w u host t h at none_renewed first.host name refl refl level settings tick own
            (λ id x f is q r mine row. row_view s v u x.last q r (same q) (k.rows id x is q r mine row))
            (λ q r is. row_view s v u t q r (same q) (row_later s v h.last t q r le (k.rows host h at q r (own q r is) is))))

        -- one of a server counts for its call alone
        server_fair : p.role ≡ Server → Fair s w u host t l (takes s p answer first)
        server_fair role =
            let mine : p.id.client ≡ host = sym (ap (λ (x : Role). receiver_of x p.id p.server) role) ∙ to in
            response_fair s w u host t h at p answer first role mine
            (begun_fair s w u host t h at (heard_by t p) first.host name refl refl level settings tick own
            (λ id x f is q r from row. others mine id x f is q r from row) (λ q r is. here q r is (is_call q p.id) refl)) where
              aside : (q : CallId) (r : ClientRow) → is_call q p.id ≡ false → heard_by t p q r ≡ r
              aside q r e = ap (λ b. cond b (heard_row t p r) r) e

              others : p.id.client ≡ host → (id : HostId) (x : Host) → is_host id host ≡ false → host_at w id ≡ Some x → (q : CallId) (r : ClientRow)
                  → q.client ≡ id → get x.clients q ≡ Some r → IsLiveRow s u x.last q (heard_by t p q r)
              others mine id x f is q r from row =
                  let e : is_call q p.id ≡ false =
                  false_from_ne_true (is_call q p.id)
                  (λ z. apart id host f (ap (λ (y : HostId). y.0) (sym (sym from ∙ ap (λ (c : CallId). c.client) ((calls_are q p.id).0 z) ∙ mine)))) in
                  subst (IsLiveRow s u x.last q) (sym (aside q r e))
                  (row_view s v u x.last q r (delivered_aside s v n p sent q e) (k.rows id x is q r from row))

              here : (q : CallId) (r : ClientRow) → get h.clients q ≡ Some r → (b : Bool) → is_call q p.id ≡ b → IsLiveRow s u t q (heard_by t p q r)
              here q r is false e =
                  subst (IsLiveRow s u t q) (sym (aside q r e))
                  (row_view s v u t q r (delivered_aside s v n p sent q e) (row_later s v h.last t q r le (k.rows host h at q r (own q r is) is)))
              here q r is true e =
                  let same : q ≡ p.id = (calls_are q p.id).0 e in
                  let row : IsLiveRow s v h.last p.id r = subst (λ (c : CallId). IsLiveRow s v h.last c r) same (k.rows host h at q r (own q r is) is) in
                  subst (IsLiveRow s u t q) (sym (ap (λ b. cond b (heard_row t p r) r) e))
                  (subst (λ (c : CallId). IsLiveRow s u t c (heard_row t p r)) (sym same) (delivered_row s v n p sent h.last t r role le row))

        by_role : (role : Role) → p.role ≡ role → Fair s w u host t l (takes s p answer first)
        by_role Client role = client_fair role
        by_role Server role = server_fair role

        by_age : (b : Bool) → Fair s w u host t l (cond b (tells (Says (PlainStale h.id p.at t) ∷ []) first) (takes s p answer first))
        by_age true = stale_fair
        by_age false = by_role p.role refl
