-- Each event keeps what is so of live calls and their RESENDs; so each timeout of a trace is of an unanswered call.
use Rattle.std.proofs.Common.{◌≡◌, ℕ, zero, suc, ◌+◌, ◌<◌, true, false, not, ◌&&◌, ◌||◌, Some, None, List, [], ◌∷◌, length, map, cond, refl, sym, ap}
use Rattle.std.proofs.Common.{subst, ◌∙◌, arith}
use Rattle.std.specs.Prelude.{nat_lt, slice_get, slice_set}
use Rattle.std.specs.List.{AllByRecursion, list_any}
use Rattle.std.proofs.lemmas.Bool.{and_left, and_right, false≢true, false_from_ne_true}
use Rattle.plain_sets.specs.Maps.{get}
use Rattle.plain_sets.proofs.MapLaws.{get-retain, get-empty}
use Rattle.homa_plain.specs.declared.id.CallId.{CallId}
use Rattle.homa_plain.specs.declared.id.HostId.{HostId}
use Rattle.homa_plain.specs.declared.packet.Body.{Body}
use Rattle.homa_plain.specs.declared.packet.Body.TheVariants as body
use Rattle.homa_plain.specs.declared.settings.Settings.{Settings}
use Rattle.homa_plain.specs.declared.event.Event.{Event}
use Rattle.homa_plain.specs.declared.event.Event.TheVariants as event
use Rattle.homa_plain.specs.declared.entry.Why.TheVariants.{Timeout}
use Rattle.homa_plain.specs.Calls.{is_host, is_call, call_cmp}
use Rattle.homa_plain.specs.Entries.{PlainEntry, PlainSettings, PlainClock, PlainRestart, PlainShift, PlainFail}
use Rattle.trace_rules.specs.Lines.{is_last}
use Rattle.homa_plain.specs.Wire.{packet_in, is_client}
use Rattle.homa_plain.specs.Packets.{receiver}
use Rattle.homa_plain.specs.Host.{Host, new_host}
use Rattle.homa_plain.specs.Steps.{start_fault, next_id}
use Rattle.trace_rules.specs.View.{View, Sent, has_last, at_start}
use Rattle.trace_rules.specs.Seen.{seen, seen_all}
use Rattle.trace_rules.specs.Laws.{Holds}
use Rattle.homa_plain.specs.World.{World, SentPacket, After, Done, outcome, host_at, next_answer, new_world}
use Rattle.homa_plain.proofs.CallOrder.{call_total, call_same, calls_are}
use Rattle.trace_steps.specs.Told.{IsTold, sent_of}
use Rattle.trace_steps.proofs.Progress.{IsLevel}
use Rattle.trace_steps.specs.Always.{HoldsAlways, IsSoAtFirst, KeptByEvent}
use Rattle.trace_steps.specs.Stands.{is_old, stand}
use Rattle.step_moves.specs.Worlds.{at_host}
use Rattle.step_moves.proofs.Hosts.{within, some_is, none_some}
use Rattle.trace_steps.proofs.ToldMoves.{each_set}
use Rattle.trace_steps.proofs.ToldSteps.{set_same}
use Rattle.trace_steps.proofs.Events.{call_done, deliver_done, inject_done, turn_done, restart_done, shift_done, clock_done}
use Rattle.trace_steps.proofs.Always.{always, told_first}
use Rattle.step_moves.proofs.Names.{IsNew, hosts_new}
use Rattle.trace_once.specs.Kept.{PacketFits, IsKept}
use Rattle.trace_once.proofs.Called.{next_unused}
use Rattle.trace_once.proofs.Kept.{IsSoFar, event_once}
use Rattle.trace_once.proofs.Opened.{opened_kept}
use Rattle.trace_fails.specs.Timeouts.{TimesOut, AreLive, HasFairRows}
use Rattle.trace_fails.proofs.FairSteps.{SameCall, row_view}
use Rattle.trace_fails.proofs.FairEvents.{IsUnsent, call_fair, turn_fair, junk_step, packet_step}

-- ---- a new call's name is of no packet

unlast : (q : CallId) (n : ℕ) (p : Sent) (what : Body) → is_call p.id q ≡ false → has_last q n p what ≡ false
unlast q n p (body.Data size offset version service ack) e =
    and_left (is_client p.role && is_call p.id q && nat_lt offset n) _ (and_left (is_client p.role && is_call p.id q) _ (and_right (is_client p.role) _ e))
unlast q n p (body.Grant offset prio) e = refl
unlast q n p (body.Resend from to prio) e = refl
unlast q n p body.Busy e = refl
unlast q n p (body.Cutoffs cutoffs) e = refl
unlast q n p (body.Unknown reason) e = refl
unlast q n p body.NeedAck e = refl
unlast q n p (body.Ack more) e = refl

unsent_next : (s : Settings) (w : World) (v : View) (host : HostId) (h : Host) → host_at w host ≡ Some h → IsTold s w v → IsKept s w v → IsUnsent v (next_id h)
unsent_next s w v host h at told kept n = ap (list_any (λ (p : Sent). has_last (next_id h) n p p.body)) told.packets ∙ by_packets w.packets kept.packets where
  -- the packet's call was made, so its name is old
  one : (p : SentPacket) → PacketFits s (stand w v) p → is_call p.packet.id (next_id h) ≡ false
  one p f = false_from_ne_true (is_call p.packet.id (next_id h)) (λ e.
      let same : p.packet.id ≡ next_id h = (calls_are p.packet.id (next_id h)).0 e in
      let old : at_host false (is_old p.packet.id) (host_at w p.packet.id.client) ≡ true =
      (kept.calls p.packet.id p.packet.server).named _ f.fits.made.called in
      let place : host_at w (next_id h).client ≡ Some h = ap (λ (x : HostId). slice_get w.hosts x.0) (told.names host h at).name ∙ at in
      let next : is_old (next_id h) h ≡ true =
      sym (ap (at_host false (is_old (next_id h))) place) ∙ ap (λ (q : CallId). at_host false (is_old q) (host_at w q.client)) (sym same) ∙ old in
      false≢true (sym (next_unused h) ∙ next))

  by_packets : (ps : List SentPacket) → AllByRecursion (PacketFits s (stand w v)) ps
      → list_any (λ (p : Sent). has_last (next_id h) n p p.body) (map (λ (p : SentPacket). sent_of p.packet) ps) ≡ false
  by_packets [] all = refl
  by_packets (p ∷ ps) all =
      ap (λ b. b || list_any (λ (x : Sent). has_last (next_id h) n x x.body) (map (λ (x : SentPacket). sent_of x.packet) ps))
      (unlast (next_id h) n (sent_of p.packet) p.packet.body (one p all.0)) ∙ by_packets ps all.1

-- a request is a message
request_some : (s : Settings) (h : Host) (server : HostId) (request : List ℕ) → start_fault s h server request ≡ None → 0 < length request
unfolding start_fault
request_some s h server [] e = absurd (none_some _ (sym e))
request_some s h server (x ∷ request) e = omega arith

-- ---- the other events

-- lines that say the same of each call
all_same : (s : Settings) (w u : World) (v x : View) → u.hosts ≡ w.hosts → IsLevel x → ((q : CallId) → SameCall q v x) → HasFairRows s w v → HasFairRows s u x
all_same s w u v x hosts level same k = record {
  level = level;
  rows = λ id h is q r mine row. row_view s v x h.last q r (same q) (k.rows id h (ap (λ (hs : List Host). slice_get hs id.0) (sym hosts) ∙ is) q r mine row);
}

pub ticked_fair : (s : Settings) (w : World) (v : View) (tick : ℕ) → HasFairRows s w v → HasFairRows s (record w { clock = tick }) (seen v (PlainClock tick))
unfolding seen
ticked_fair s w v tick k =
    all_same s w (record w { clock = tick }) v (seen v (PlainClock tick)) refl
    (record { came = refl; live = λ q. refl; resends = λ q. refl; requests = λ q o. refl; responses = λ q o. refl })
    (λ q. record { live = refl; resends = refl; called = refl; packets = refl }) k

shifted_fair : (s : Settings) (w : World) (v : View) (id : HostId) (n : ℕ) → HasFairRows s w v
    → HasFairRows s (record w { leads = slice_set w.leads id.0 n }) (seen v (PlainShift id n))
unfolding seen
shifted_fair s w v id n k =
    all_same s w (record w { leads = slice_set w.leads id.0 n }) v (seen v (PlainShift id n)) refl
    (record { came = refl; live = λ q. refl; resends = λ q. refl; requests = λ q o. refl; responses = λ q o. refl })
    (λ q. record { live = refl; resends = refl; called = refl; packets = refl }) k

-- a host restarts: its calls are gone, and those of the others are as they were
restarted_fair : (s : Settings) (w : World) (v : View) (id : HostId) (h : Host) (spares : ℕ) → host_at w id ≡ Some h → HasFairRows s w v
    → HasFairRows s (record w { hosts = slice_set w.hosts id.0 (new_host s id (h.inc + 1) h.last); spares = spares }) (seen v (PlainRestart id (h.inc + 1)))
unfolding seen
restarted_fair s w v id h spares at k = record {
  level = record { came = refl; live = λ q. refl; resends = λ q. refl; requests = λ q o. refl; responses = λ q o. refl };
  rows = each_set (λ n x. host_at w n ≡ Some x) (AreLive s after) w.hosts id h new (within w.hosts id.0 h at)
      (λ _ q r mine is. absurd (none_some r (sym (get-empty call_cmp q) ∙ is)))
      (λ n x e is q r mine row. row_view s v after x.last q r (same q (other n e q mine)) (k.rows n x is q r mine row))
      (λ n x is. ap (λ (hs : List Host). slice_get hs n.0) (sym (set_same w.hosts id.0 h at)) ∙ is);
} where
  new : Host
  new = new_host s id (h.inc + 1) h.last

  after : View
  after = seen v (PlainRestart id (h.inc + 1))

  other : (n : HostId) → is_host n id ≡ false → (q : CallId) → q.client ≡ n → is_host q.client id ≡ false
  other n e q mine = ap (λ (x : HostId). is_host x id) mine ∙ e

  same : (q : CallId) → is_host q.client id ≡ false → SameCall q v after
  same q e = record {
    live = get-retain call_total v.now.live (λ (x : CallId). not (is_host x.client id)) q
        (λ x same_call. ap (λ (y : CallId). not (is_host y.client id)) (sym (call_same q x same_call))) ∙ ap (λ b. cond (not b) (get v.now.live q) None) e;
    resends = refl;
    called = refl;
    packets = refl;
  }

-- ---- every event

-- what is so of a world and of the lines up to it
abbrev pub IsFairSoFar : Settings → World → View → Type 0
IsFairSoFar s w v = IsSoFar s w v × HasFairRows s w v

pub record EventFair (s : Settings) (v : View) (after : After) : Type 0 where
  pub holds : Holds TimesOut v after.told
  pub fair : HasFairRows s after.world (seen_all v after.told)

packet_line : (w : World) (v : View) (n : ℕ) (sent : SentPacket) → v.packets ≡ map (λ (p : SentPacket). sent_of p.packet) w.packets
    → slice_get w.packets n ≡ Some sent → slice_get v.packets n ≡ Some (sent_of sent.packet)
packet_line w v n sent same at = ap (λ (ps : List Sent). slice_get ps n) same ∙ mapped w.packets n at where
  mapped : (ps : List SentPacket) (n : ℕ) → slice_get ps n ≡ Some sent
      → slice_get (map (λ (p : SentPacket). sent_of p.packet) ps) n ≡ Some (sent_of sent.packet)
  mapped [] n e = absurd (none_some sent e)
  mapped (p ∷ ps) zero e = ap (λ (x : SentPacket). Some (sent_of x.packet)) (some_is p sent e)
  mapped (p ∷ ps) (suc n) e = mapped ps n e

pub event_fair : (s : Settings) (w : World) (v : View) (e : Event) (bytes : List ℕ) (after : After) → IsTold s w v → IsKept s w v → HasFairRows s w v
    → outcome s w e bytes ≡ Done after → EventFair s v after
unfolding outcome
event_fair s w v (event.Call client server number) bytes after told kept k e =
    let c = call_done s w after client server number bytes e in
    let r = call_fair s w v client c.host c.stands told server number bytes k (request_some s c.host server bytes c.may)
    (unsent_next s w v client c.host c.stands told kept) in
    subst (EventFair s v) (sym c.is) (record { holds = r.holds; fair = record { level = r.fair.level; rows = r.fair.rows } })
event_fair s w v (event.Deliver n) bytes after told kept k e =
    let c = deliver_done s w after n e in
    let r = packet_step s w v (receiver c.sent.packet) c.host c.stands told n c.sent.packet (next_answer w.answers)
    (packet_line w v n c.sent told.packets c.at) refl k in
    subst (EventFair s v) (sym c.is) (record { holds = (tt, r.holds); fair = record { level = r.fair.level; rows = r.fair.rows } })
event_fair s w v event.Clock bytes after told kept k e =
    subst (EventFair s v) (sym (clock_done s w after e).is) (record { holds = (tt, tt); fair = ticked_fair s w v (w.clock + 1) k })
event_fair s w v (event.Turn host) bytes after told kept k e =
    let c = turn_done s w after host (host_at w host) refl e in
    let r = turn_fair s w v host c.host c.stands told k in
    subst (EventFair s v) (sym c.is) (record { holds = r.holds; fair = record { level = r.fair.level; rows = r.fair.rows } })
event_fair s w v (event.Restart host) bytes after told kept k e =
    let c = restart_done s w after host (host_at w host) w.spares refl refl e in
    subst (EventFair s v) (sym c.is) (record { holds = (tt, tt); fair = restarted_fair s w v host c.host c.spares c.stands k })
event_fair s w v (event.Inject host) bytes after told kept k e =
    let c = inject_done s w after host bytes (host_at w host) (packet_in s.wire bytes) refl refl e in
    let r = junk_step s w v host c.host c.stands told bytes (next_answer w.answers) k in
    subst (EventFair s v) (sym c.is) (record { holds = (tt, r.holds); fair = record { level = r.fair.level; rows = r.fair.rows } })
event_fair s w v (event.Shift host n) bytes after told kept k e =
    subst (EventFair s v) (sym (shift_done s w after host n (host_at w host) refl e).is) (record { holds = (tt, tt); fair = shifted_fair s w v host n k })

-- ---- the law

pub first_fair : IsSoAtFirst HasFairRows
unfolding new_world seen
first_fair s incs clock boxes answers opening =
    record {
      level = record { came = refl; live = λ q. refl; resends = λ q. refl; requests = λ q o. refl; responses = λ q o. refl };
      rows = λ id h is. rowless id h (hosts_new s 0 incs id.0 h is);
    } where
      rowless : (id : HostId) (h : Host) → IsNew s (0 + id.0) h → AreLive s (seen (at_start clock) (PlainSettings s)) id h
      rowless id h n q r mine is = absurd (none_some r (sym (ap (λ (x : Host). get x.clients q) n.is ∙ get-empty call_cmp q) ∙ is))

pub event_times_out : KeptByEvent IsFairSoFar TimesOut
event_times_out s w v e after so done =
    let f = event_fair s w v e.event e.bytes after so.0.0 so.0.1 so.1 done in
    (f.holds, ((event_once s w v e after so.0 done).1, f.fair))

last_times_out : (v : View) (line : PlainEntry) → is_last line ≡ true → TimesOut v line
last_times_out v (PlainFail id Timeout) e = absurd (false≢true e)
last_times_out v line e = tt

pub timeouts_always : HoldsAlways TimesOut
timeouts_always =
    always IsFairSoFar TimesOut (λ s incs clock boxes opening. tt)
    (λ s incs clock boxes answers opening. (
      (told_first s incs clock boxes answers opening, opened_kept s incs clock boxes answers),
      first_fair s incs clock boxes answers opening,
    )) event_times_out (λ s w v line so e. last_times_out v line e)
