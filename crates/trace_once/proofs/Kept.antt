-- Each event keeps the lifetime invariant, and once holds at each of its lines.
use Rattle.std.proofs.Common.{◌≡◌, ℕ, zero, suc, true, false, ◌<◌, Some, None, List, [], ◌∷◌, length, refl, sym, ap, subst, ◌∙◌}
use Rattle.std.specs.Prelude.{slice_get}
use Rattle.std.specs.List.{AllByRecursion}
use Rattle.std.proofs.lemmas.List.{append-nil}
use Rattle.plain_sets.specs.Maps.{get}
use Rattle.std.proofs.lemmas.Bool.{false≢true}
use Rattle.homa_plain.specs.declared.id.HostId.{HostId}
use Rattle.homa_plain.specs.declared.event.Event.{Event}
use Rattle.homa_plain.specs.declared.event.Event.TheVariants as event
use Rattle.homa_plain.specs.declared.settings.Settings.{Settings}
use Rattle.homa_plain.specs.Entries.{PlainEntry, PlainRun, PlainDeliver, PlainInject}
use Rattle.trace_rules.specs.Lines.{is_last}
use Rattle.homa_plain.specs.Rows.{ClientRow, RowsOf}
use Rattle.homa_plain.specs.Packets.{receiver}
use Rattle.homa_plain.specs.Host.{Host, entries_from}
use Rattle.homa_plain.specs.Rules.{Answer}
use Rattle.homa_plain.specs.Work.{Work, begun}
use Rattle.homa_plain.specs.Steps.{starts, call_step, arrival_step, turn_step, acts, comes, ended}
use Rattle.homa_plain.specs.Credit.{refilled}
use Rattle.homa_plain.specs.Wire.{packet_in}
use Rattle.homa_plain.specs.World.{World, SentPacket, After, Done, outcome, host_at, own_clock, next_answer, is_late}
use Rattle.trace_rules.specs.View.{View}
use Rattle.trace_rules.specs.Seen.{seen, seen_all}
use Rattle.trace_rules.specs.Laws.{Holds, Once}
use Rattle.trace_steps.specs.Told.{IsTold}
use Rattle.step_moves.specs.Worlds.{IsTimed, IsDated}
use Rattle.step_moves.proofs.Hosts.{some_is, none_some, within}
use Rattle.step_moves.proofs.Timed.{seg_of, resend_of, timed, fresh}
use Rattle.trace_steps.proofs.Events.{after_step, call_done, deliver_done, inject_done, turn_done, restart_done, shift_done, clock_done}
use Rattle.trace_steps.proofs.ToldEvents.{told_event}
use Rattle.trace_steps.proofs.Always.{always, told_first}
use Rattle.trace_steps.specs.Always.{KeptByEvent, HoldsAlways}
use Rattle.trace_steps.specs.Stands.{amid}
use Rattle.trace_once.specs.Kept.{PacketFits, IsKept}
use Rattle.trace_once.proofs.Amid.{IsAmid}
use Rattle.trace_once.proofs.Begun.{Begins, begins_filled, begun_amid}
use Rattle.trace_once.proofs.Called.{started_amid}
use Rattle.trace_once.proofs.Taken.{junk_came, packet_came}
use Rattle.trace_once.proofs.Acting.{turn_came, ended_came}
use Rattle.trace_once.proofs.Opened.{opened_kept}
use Rattle.trace_once.proofs.Restarted.{deliver_line, inject_line, shift_kept, tick_kept, restart_kept}

-- what is so of a world and of the lines up to it, by which once is proved
abbrev pub IsSoFar : Settings → World → View → Type 0
IsSoFar s w v = IsTold s w v × IsKept s w v

pub all_get : {A : Type 0} (P : A → Type 0) (xs : List A) (n : ℕ) (x : A) → AllByRecursion P xs → slice_get xs n ≡ Some x → P x
all_get P [] n x all e = absurd (none_some x e)
all_get P (y ∷ xs) zero x all e = subst P (some_is y x e) all.0
all_get P (y ∷ xs) (suc n) x all e = all_get P xs n x all.1 e

-- a step of a host that is at an end: once holds at its lines, and the invariant is kept
pub record StepKeeps (s : Settings) (w : World) (v : View) (host : HostId) (work : Work) : Type 0 where
  pub once : Holds Once v (entries_from (length w.packets) work.told)
  pub kept : IsKept s (after_step w host [] work).world (seen_all v (entries_from (length w.packets) work.told))

step_keeps : (s : Settings) (w : World) (v : View) (host : HostId) (now : ℕ) (work : Work) → IsAmid s w v host now work → StepKeeps s w v host work
step_keeps s w v host now work k = record { once = k.once; kept = record { calls = k.kept.calls; packets = k.kept.packets; finished = k.kept.finished } }

-- ---- a host's steps

module _ (s : Settings) (w : World) (v : View) (host : HostId) (h : Host) (stands : host_at w host ≡ Some h) (told : IsTold s w v) (u : View)
    (k : IsKept s w u) where
  time : IsTimed s w host h (own_clock w host)
  time = timed s w host h told.clocks stands

  room : host.0 < length w.hosts
  room = within w.hosts host.0 h stands

  -- it begins
  begins : (x : Host) → Begins h x (own_clock w host) → IsAmid s w u host (own_clock w host) (record { host = x; told = [] })
  begins x b =
      let name = told.names host h stands in
      begun_amid s w u host (own_clock w host) h x stands b time.last time.within (b.id ∙ name.name)
      (λ q r is. name.own q r (ap (λ (rows : RowsOf ClientRow). get rows q) (sym b.clients) ∙ is)) k

  begun_now : IsAmid s w u host (own_clock w host) (begun h (own_clock w host))
  begun_now =
      begins (record h { last = own_clock w host }) (record { id = refl; inc = refl; seq = refl; clients = refl; servers = refl; finished = refl; last = refl })

  -- it ends
  ends : (work : Work) → IsAmid s w u host (own_clock w host) work → StepKeeps s w u host (ended s work)
  ends work a =
      step_keeps s w u host (own_clock w host) (ended s work) (ended_came s w u host (own_clock w host) room time.from time.within (seg_of s told.valid) work a)

  call_keeps : (server : HostId) (number : ℕ) (request : List ℕ) → StepKeeps s w u host (call_step s h (own_clock w host) server number request)
  unfolding call_step
  call_keeps server number request = ends (starts s server number request (begun h (own_clock w host)))
      (started_amid s w u host (own_clock w host) h room time.within server number request begun_now)

  turn_keeps : StepKeeps s w u host (turn_step s h (own_clock w host))
  unfolding turn_step
  turn_keeps =
      let filled : Host = refilled s (record h { last = own_clock w host }) in
      ends (acts s (begun filled (own_clock w host)))
      (turn_came s w u host (own_clock w host) room time.from time.within (resend_of s told.valid) (begun filled (own_clock w host))
      (begins (record filled { last = own_clock w host }) (begins_filled s h (own_clock w host))))

  junk_keeps : (answer : Answer) → StepKeeps s w u host (arrival_step s h (own_clock w host) None answer)
  unfolding arrival_step
  junk_keeps answer =
      ends (comes s None answer (begun h (own_clock w host))) (junk_came s w u host (own_clock w host) room answer (begun h (own_clock w host)) begun_now)

  -- a packet that was sent, and isn't late
  packet_keeps : (n : ℕ) (sent : SentPacket) (answer : Answer) → slice_get w.packets n ≡ Some sent → receiver sent.packet ≡ host
      → is_late s w sent.tick ≡ false → StepKeeps s w u host (arrival_step s h (own_clock w host) (Some sent.packet) answer)
  unfolding arrival_step
  packet_keeps n sent answer at to early =
      let fits = all_get (PacketFits s (amid w u host (begun h (own_clock w host)))) w.packets n sent
      (subst (AllByRecursion (PacketFits s (amid w u host (begun h (own_clock w host))))) (append-nil w.packets) begun_now.kept.packets) at in
      ends (comes s (Some sent.packet) answer (begun h (own_clock w host)))
      (packet_came s w u host (own_clock w host) room sent.packet sent.tick answer (begun h (own_clock w host)) begun_now time.from time.within
      (λ stale. fresh s w sent (own_clock w host) told.valid (all_get (IsDated s) w.packets n sent told.dated at) time.from early stale) to fits)

-- ---- every event

-- once holds at the lines of an event, and the invariant behind them
pub record EventKeeps (s : Settings) (v : View) (after : After) : Type 0 where
  pub once : Holds Once v after.told
  pub kept : IsKept s after.world (seen_all v after.told)

pub event_keeps : (s : Settings) (w : World) (v : View) (e : Event) (bytes : List ℕ) (after : After) → IsTold s w v → IsKept s w v
    → outcome s w e bytes ≡ Done after → EventKeeps s v after
unfolding outcome
event_keeps s w v (event.Call client server number) bytes after told k e =
    let c = call_done s w after client server number bytes e in
    let r = call_keeps s w v client c.host c.stands told v k server number bytes in
    subst (EventKeeps s v) (sym c.is) (record { once = r.once; kept = r.kept })
event_keeps s w v (event.Deliver n) bytes after told k e =
    let c = deliver_done s w after n e in
    let u : View = seen v (PlainDeliver n) in
    let r = packet_keeps s w v (receiver c.sent.packet) c.host c.stands told u (deliver_line s w v n k) n c.sent (next_answer w.answers) c.at refl c.early in
    subst (EventKeeps s v) (sym c.is)
    (record { once = (tt, r.once); kept = record { calls = r.kept.calls; packets = r.kept.packets; finished = r.kept.finished } })
event_keeps s w v event.Clock bytes after told k e =
    subst (EventKeeps s v) (sym (clock_done s w after e).is) (record { once = (tt, tt); kept = tick_kept s w v k })
event_keeps s w v (event.Turn host) bytes after told k e =
    let c = turn_done s w after host (host_at w host) refl e in
    let r = turn_keeps s w v host c.host c.stands told v k in
    subst (EventKeeps s v) (sym c.is) (record { once = r.once; kept = r.kept })
event_keeps s w v (event.Restart host) bytes after told k e =
    let c = restart_done s w after host (host_at w host) w.spares refl refl e in
    subst (EventKeeps s v) (sym c.is) (record { once = (tt, tt); kept = restart_kept s w v host c.host c.spares c.stands told.lived k })
event_keeps s w v (event.Inject host) bytes after told k e =
    let c = inject_done s w after host bytes (host_at w host) (packet_in s.wire bytes) refl refl e in
    let r = junk_keeps s w v host c.host c.stands told (seen v (PlainInject host bytes)) (inject_line s w v host bytes k) (next_answer w.answers) in
    subst (EventKeeps s v) (sym c.is)
    (record { once = (tt, r.once); kept = record { calls = r.kept.calls; packets = r.kept.packets; finished = r.kept.finished } })
event_keeps s w v (event.Shift host n) bytes after told k e =
    subst (EventKeeps s v) (sym (shift_done s w after host n (host_at w host) refl e).is) (record { once = (tt, tt); kept = shift_kept s w v host n k })

-- ---- the law

pub event_once : KeptByEvent IsSoFar Once
event_once s w v e after so done =
    let k = event_keeps s w v e.event e.bytes after so.0 so.1 done in (k.once, (told_event s w v e.event e.bytes after so.0 done, k.kept))

last_once : (v : View) (line : PlainEntry) → is_last line ≡ true → Once v line
last_once v (PlainRun host id service request response hold) e = absurd (false≢true e)
last_once v line e = tt

pub once_always : HoldsAlways Once
once_always = always IsSoFar Once (λ s incs clock boxes opening. tt)
    (λ s incs clock boxes answers opening. (told_first s incs clock boxes answers opening, opened_kept s incs clock boxes answers)) event_once
    (λ s w v line so e. last_once v line e)
