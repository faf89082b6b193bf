-- Each event keeps what the lines say of messages true; so returned and handed up hold of every trace, and calls are forgotten as they should be.
use Rattle.std.proofs.Common.{◌≡◌, ℕ, ◌+◌, ◌<◌, true, false, Option, Some, None, List, [], ◌∷◌, ◌++◌, length, refl, sym, ap, subst, ◌∙◌}
use Rattle.std.specs.Prelude.{slice_get}
use Rattle.std.specs.Option.{is_some, option_map}
use Rattle.std.proofs.lemmas.Option.{slice_get-map}
use Rattle.std.specs.List.{AllByRecursion}
use Rattle.std.proofs.lemmas.Bool.{false≢true}
use Rattle.std.proofs.lemmas.List.{append-nil}
use Rattle.plain_sets.specs.Maps.{get}
use Rattle.homa_plain.specs.declared.id.HostId.{HostId}
use Rattle.homa_plain.specs.declared.event.Event.{Event}
use Rattle.homa_plain.specs.declared.event.Event.TheVariants as event
use Rattle.homa_plain.specs.declared.settings.Settings.{Settings}
use Rattle.homa_plain.specs.Entries.{PlainEntry, PlainSettings, PlainDone, PlainDeliver, PlainClock, PlainRestart, PlainInject, PlainShift}
use Rattle.trace_rules.specs.Lines.{is_last}
use Rattle.homa_plain.specs.Packets.{receiver}
use Rattle.homa_plain.specs.Host.{Host, new_host, entries_from}
use Rattle.homa_plain.specs.Rules.{Answer}
use Rattle.homa_plain.specs.Work.{Work, begun}
use Rattle.homa_plain.specs.Steps.{starts, comes, acts, ended, call_step, arrival_step, turn_step}
use Rattle.homa_plain.specs.Credit.{refilled}
use Rattle.homa_plain.specs.Wire.{packet_in}
use Rattle.trace_rules.specs.View.{View, Sent, at_start}
use Rattle.trace_rules.specs.Seen.{seen, seen_all}
use Rattle.trace_rules.specs.Laws.{Holds, Returned, HandedUp}
use Rattle.homa_plain.specs.World.{World, SentPacket, After, Done, outcome, host_at, own_clock, next_answer, is_late, new_world}
use Rattle.trace_steps.specs.Told.{IsTold, sent_of}
use Rattle.step_moves.specs.Worlds.{IsTimed, IsDated}
use Rattle.trace_steps.specs.Stands.{Stand, stand, amid}
use Rattle.trace_steps.specs.Always.{IsOpening, trace, KeptByEvent, HoldsAlways}
use Rattle.trace_steps.proofs.Always.{always, told_first}
use Rattle.step_moves.proofs.Hosts.{within, length-set}
use Rattle.step_moves.proofs.Timed.{seg_of, resend_of, timed, fresh}
use Rattle.trace_steps.proofs.Events.{after_step, call_done, deliver_done, inject_done, turn_done, restart_done, shift_done, clock_done}
use Rattle.trace_steps.proofs.ToldEvents.{told_event}
use Rattle.trace_steps.proofs.ToldSteps.{told_view, inject_same}
use Rattle.trace_once.specs.Kept.{PacketFits, IsKept}
use Rattle.trace_once.proofs.Later.{at}
use Rattle.trace_once.proofs.Begun.{Begins, begins_filled}
use Rattle.trace_once.proofs.Kept.{all_get, event_keeps}
use Rattle.trace_once.proofs.Opened.{opened_kept}
use Rattle.trace_once.proofs.Restarted.{inject_calls, shift_calls, clock_calls, restart_calls, still_stand, inject_line}
use Rattle.trace_returned.specs.Tales.{IsTruthful, IsTrue}
use Rattle.trace_returned.specs.Closing.{Forgotten, Closed}
use Rattle.trace_returned.proofs.Saying.{IsSaying}
use Rattle.trace_returned.proofs.Stepping.{junk_saying, turn_saying, ended_saying, packet_saying}
use Rattle.trace_returned.proofs.Beginning.{AreServed, closed_line, inject_fresh, shift_fresh, clock_fresh, line_true, begun_saying, begun_before}
use Rattle.trace_returned.proofs.Beginning.{started_saying, opened_true, opened_served}
use Rattle.trace_returned.proofs.Restart.{restarted_true}

-- what is so of a world and of the lines up to it
abbrev pub IsSoFar : Settings → World → View → Type 0
IsSoFar s w v = IsTold s w v × IsKept s w v × IsTrue s w v × AreServed w v

-- ---- a host's step

-- the laws hold at a step's lines, and all is true behind them
record StepSays (s : Settings) (w : World) (v : View) (host : HostId) (work : Work) : Type 0 where
  pub returned : Holds Returned v (entries_from (length w.packets) work.told)
  pub closed : Holds Closed v (entries_from (length w.packets) work.told)
  pub same : IsTrue s (after_step w host [] work).world (seen_all v (entries_from (length w.packets) work.told))
  pub served : AreServed (after_step w host [] work).world (seen_all v (entries_from (length w.packets) work.told))

step_says : (s : Settings) (w : World) (v : View) (host : HostId) (now : ℕ) (stands : host.0 < length w.hosts) (work : Work)
    → IsSaying s w v host now stands work → StepSays s w v host work
step_says s w v host now stands work k = record {
  returned = k.returned.0;
  closed = k.returned.2;
  same = record { same = k.same.same; packets = k.same.packets; level = k.same.level; closed = k.same.closed };
  served = λ q c e. subst (λ (n : ℕ). c.server.0 < n) (sym (length-set w.hosts host.0 work.host)) (k.returned.1 q c e);
}

module _ (s : Settings) (w : World) (v : View) (host : HostId) (h : Host) (stands : host_at w host ≡ Some h) (told : IsTold s w v) (k : IsKept s w v)
    (t : IsTrue s w v) (served : AreServed w v) where
  time : IsTimed s w host h (own_clock w host)
  time = timed s w host h told.clocks stands

  abbrev room : host.0 < length w.hosts
  room = within w.hosts host.0 h stands

  same_begins : Begins h (record h { last = own_clock w host }) (own_clock w host)
  same_begins = record { id = refl; inc = refl; seq = refl; clients = refl; servers = refl; finished = refl; last = refl }

  -- it ends
  ends : (work : Work) → IsSaying s w v host (own_clock w host) room work → StepSays s w v host (ended s work)
  ends work a = step_says s w v host (own_clock w host) room (ended s work)
      (ended_saying s w v host (own_clock w host) room time.from time.within (seg_of s told.valid) work a)

  begun_now : IsSaying s w v host (own_clock w host) (within w.hosts host.0 h stands) (begun h (own_clock w host))
  begun_now = begun_saying s w v host h (record h { last = own_clock w host }) stands told same_begins time.last time.within k t served

  call_says : (server : HostId) (number : ℕ) (request : List ℕ) → server.0 < length w.hosts
      → StepSays s w v host (call_step s h (own_clock w host) server number request)
  unfolding call_step
  call_says server number request there = ends (starts s server number request (begun h (own_clock w host)))
      (started_saying s w v host h stands told time.within server number request begun_now there)

  turn_says : StepSays s w v host (turn_step s h (own_clock w host))
  unfolding turn_step
  turn_says =
      let filled : Host = refilled s (record h { last = own_clock w host }) in
      let first = begun_saying s w v host h (record filled { last = own_clock w host }) stands told (begins_filled s h (own_clock w host)) time.last
      time.within k t served in
      ends (acts s (begun filled (own_clock w host)))
      (turn_saying s w v host (own_clock w host) room time.from time.within (resend_of s told.valid) (begun filled (own_clock w host)) first)

  junk_says : (answer : Answer) → StepSays s w v host (arrival_step s h (own_clock w host) None answer)
  unfolding arrival_step
  junk_says answer =
      ends (comes s None answer (begun h (own_clock w host))) (junk_saying s w v host (own_clock w host) room (begun h (own_clock w host)) begun_now)

-- a packet that was sent, and isn't late
module _ (s : Settings) (w : World) (v : View) (n : ℕ) (host : HostId) (h : Host) (stands : host_at w host ≡ Some h) (told : IsTold s w v)
    (k : IsKept s w v) (t : IsTrue s w v) (served : AreServed w v) where
  packet_says : (sent : SentPacket) (answer : Answer) → slice_get w.packets n ≡ Some sent → receiver sent.packet ≡ host
      → is_late s w sent.tick ≡ false → StepSays s w (seen v (PlainDeliver n)) host (arrival_step s h (own_clock w host) (Some sent.packet) answer)
  unfolding arrival_step
  packet_says sent answer at to early =
      let now : ℕ = own_clock w host in
      let time = timed s w host h told.clocks stands in
      let room = within w.hosts host.0 h stands in
      let line : View = seen v (PlainDeliver n) in
      let first : Work = begun h now in
      let b = begun_before s w v n host h (record h { last = now }) stands told
      (record { id = refl; inc = refl; seq = refl; clients = refl; servers = refl; finished = refl; last = refl }) time.last time.within k t served in
      let fits = all_get (PacketFits s (amid w line host first)) w.packets n sent
      (subst (AllByRecursion (PacketFits s (amid w line host first))) (append-nil w.packets) b.amid.kept.packets) at in
      let carries = all_get (IsTruthful line) w.packets n sent (subst (AllByRecursion (IsTruthful line)) (append-nil w.packets) b.packets) at in
      let came : slice_get v.packets n ≡ Some (sent_of sent.packet) = ap (λ (ps : List Sent). slice_get ps n) told.packets
      ∙ (slice_get-map (λ (p : SentPacket). sent_of p.packet) w.packets n ∙ ap (option_map (λ (p : SentPacket). sent_of p.packet)) at) in
      step_says s w line host now room (ended s (comes s (Some sent.packet) answer first))
      (ended_saying s w line host now room time.from time.within (seg_of s told.valid) (comes s (Some sent.packet) answer first)
      (packet_saying s w v n host now room sent.packet sent.tick answer first came told.settings served b time.from time.within
      (λ stale. fresh s w sent now told.valid (all_get (IsDated s) w.packets n sent told.dated at) time.from early stale) to fits carries))

-- ---- every event

pub some_within : (hs : List Host) (i : ℕ) → is_some (slice_get hs i) ≡ true → i < length hs
some_within hs i f = by_get (slice_get hs i) refl f where
  by_get : (o : Option Host) → slice_get hs i ≡ o → is_some o ≡ true → i < length hs
  by_get None g f = absurd (false≢true f)
  by_get (Some x) g f = within hs i x g

pub record EventSays (s : Settings) (v : View) (after : After) : Type 0 where
  pub returned : Holds Returned v after.told
  pub closed : Holds Closed v after.told
  pub same : IsTrue s after.world (seen_all v after.told)
  pub served : AreServed after.world (seen_all v after.told)

pub event_says : (s : Settings) (w : World) (v : View) (e : Event) (bytes : List ℕ) (after : After) → IsTold s w v → IsKept s w v → IsTrue s w v
    → AreServed w v → outcome s w e bytes ≡ Done after → EventSays s v after
unfolding outcome
event_says s w v (event.Call client server number) bytes after told k t served e =
    let c = call_done s w after client server number bytes e in
    let r = call_says s w v client c.host c.stands told k t served server number bytes (some_within w.hosts server.0 c.other) in
    subst (EventSays s v) (sym c.is) (record { returned = r.returned; closed = r.closed; same = r.same; served = r.served })
event_says s w v (event.Deliver n) bytes after told k t served e =
    let c = deliver_done s w after n e in
    let r = packet_says s w v n (receiver c.sent.packet) c.host c.stands told k t served c.sent (next_answer w.answers) c.at refl c.early in
    subst (EventSays s v) (sym c.is) (record {
      returned = (tt, r.returned);
      closed = (closed_line v (PlainDeliver n) t.closed, r.closed);
      same = record { same = r.same.same; packets = r.same.packets; level = r.same.level; closed = r.same.closed };
      served = r.served;
    })
event_says s w v event.Clock bytes after told k t served e =
    let line : PlainEntry = PlainClock (w.clock + 1) in
    subst (EventSays s v) (sym (clock_done s w after e).is) (record {
      returned = (tt, tt);
      closed = (closed_line v line t.closed, tt);
      same = line_true s w (record w { clock = w.clock + 1 }) v line tt tt (clock_fresh v (w.clock + 1)) refl
          (λ q m. (
            w.clock + 1,
            (stand w v q m).last,
            (stand w v q m).old,
            ap (λ (x : Stand). at x (w.clock + 1) x.last x.old) (still_stand w v line tt (clock_calls v (w.clock + 1)) q m),
          )) t;
      served = λ q c f. served q c (ap (λ m. get m q) (sym (clock_calls v (w.clock + 1))) ∙ f);
    })
event_says s w v (event.Turn host) bytes after told k t served e =
    let c = turn_done s w after host (host_at w host) refl e in
    let r = turn_says s w v host c.host c.stands told k t served in
    subst (EventSays s v) (sym c.is) (record { returned = r.returned; closed = r.closed; same = r.same; served = r.served })
event_says s w v (event.Restart host) bytes after told k t served e =
    let c = restart_done s w after host (host_at w host) w.spares refl refl e in
    let line : PlainEntry = PlainRestart host (c.host.inc + 1) in
    subst (EventSays s v) (sym c.is) (record {
      returned = (tt, tt);
      closed = (closed_line v line t.closed, tt);
      same = restarted_true s w v host c.host c.spares c.stands told.lived k t;
      served = λ q x f. subst (λ (n : ℕ). x.server.0 < n) (sym (length-set w.hosts host.0 (new_host s host (c.host.inc + 1) c.host.last)))
          (served q x (ap (λ m. get m q) (sym (restart_calls v host (c.host.inc + 1))) ∙ f));
    })
event_says s w v (event.Inject host) bytes after told k t served e =
    let c = inject_done s w after host bytes (host_at w host) (packet_in s.wire bytes) refl refl e in
    let line : PlainEntry = PlainInject host bytes in
    let told_line = told_view s w v (seen v line) (inject_same v host bytes) told in
    let true_line = line_true s w w v line tt tt (inject_fresh v host bytes) refl
    (λ q m. (w.clock, (stand w v q m).last, (stand w v q m).old, still_stand w v line tt (inject_calls v host bytes) q m)) t in
    let r = junk_says s w (seen v line) host c.host c.stands told_line (inject_line s w v host bytes k) true_line
    (λ q x f. served q x (ap (λ m. get m q) (sym (inject_calls v host bytes)) ∙ f)) (next_answer w.answers) in
    subst (EventSays s v) (sym c.is) (record {
      returned = (tt, r.returned);
      closed = (closed_line v line t.closed, r.closed);
      same = record { same = r.same.same; packets = r.same.packets; level = r.same.level; closed = r.same.closed };
      served = r.served;
    })
event_says s w v (event.Shift host n) bytes after told k t served e =
    let line : PlainEntry = PlainShift host n in
    let same = line_true s w w v line tt tt (shift_fresh v host n) refl
    (λ q m. (w.clock, (stand w v q m).last, (stand w v q m).old, still_stand w v line tt (shift_calls v host n) q m)) t in
    subst (EventSays s v) (sym (shift_done s w after host n (host_at w host) refl e).is) (record {
      returned = (tt, tt);
      closed = (closed_line v line t.closed, tt);
      same = record { same = same.same; packets = same.packets; level = same.level; closed = same.closed };
      served = λ q c f. served q c (ap (λ m. get m q) (sym (shift_calls v host n)) ∙ f);
    })

-- ---- the laws

pub so_later : (s : Settings) (w : World) (v : View) (e : Event) (bytes : List ℕ) (after : After) → IsSoFar s w v → outcome s w e bytes ≡ Done after
    → EventSays s v after → IsSoFar s after.world (seen_all v after.told)
so_later s w v e bytes after so done says =
    (told_event s w v e bytes after so.0 done, (event_keeps s w v e bytes after so.0 so.1 done).kept, says.same, says.served)

event_returned : KeptByEvent IsSoFar Returned
event_returned s w v e after so done =
    let k = event_says s w v e.event e.bytes after so.0 so.1 so.2 so.3 done in (k.returned, so_later s w v e.event e.bytes after so done k)

event_closed : KeptByEvent IsSoFar Closed
event_closed s w v e after so done =
    let k = event_says s w v e.event e.bytes after so.0 so.1 so.2 so.3 done in (k.closed, so_later s w v e.event e.bytes after so done k)

pub opened_so : (s : Settings) (incs : List ℕ) (clock boxes : ℕ) (answers : List Answer) → IsOpening s incs clock boxes
    → IsSoFar s (new_world s incs clock boxes answers) (seen (at_start clock) (PlainSettings s))
opened_so s incs clock boxes answers opening = (
  told_first s incs clock boxes answers opening,
  opened_kept s incs clock boxes answers,
  opened_true s incs clock boxes answers,
  opened_served s incs clock boxes answers,
)

last_returned : (v : View) (line : PlainEntry) → is_last line ≡ true → Returned v line
last_returned v (PlainDone id bytes) e = absurd (false≢true e)
last_returned v line e = tt

pub returned_always : HoldsAlways Returned
returned_always = always IsSoFar Returned (λ s incs clock boxes opening. tt) opened_so event_returned (λ s w v line so e. last_returned v line e)

pub closed_always : HoldsAlways Closed
closed_always =
    always IsSoFar Closed (λ s incs clock boxes opening e. absurd (false≢true e)) opened_so event_closed (λ s w v line so e. closed_line v line so.2.closed)

-- what follows at each line
pub holds_map : (a b : View → PlainEntry → Type 0) → ((v : View) (line : PlainEntry) → a v line → b v line) → (v : View) (lines : List PlainEntry)
    → Holds a v lines → Holds b v lines
holds_map a b follows v [] h = tt
holds_map a b follows v (line ∷ lines) h = (follows v line h.0, holds_map a b follows (seen v line) lines h.1)

follows_always : (a b : View → PlainEntry → Type 0) → ((v : View) (line : PlainEntry) → a v line → b v line) → HoldsAlways a → HoldsAlways b
follows_always a b follows k s incs clock boxes answers events opening =
    let told : List PlainEntry = trace s incs clock boxes answers events in
    let holds = k s incs clock boxes answers events opening in
    (holds_map a b follows (at_start clock) told holds.0, λ line last. holds_map a b follows (at_start clock) (told ++ line ∷ []) (holds.1 line last))

pub handed_up_always : HoldsAlways HandedUp
handed_up_always = follows_always Closed HandedUp (λ v line c e. let x = c e in (x.0, x.1)) closed_always

pub forgotten_always : HoldsAlways Forgotten
forgotten_always = follows_always Closed Forgotten (λ v line c e. (c e).2) closed_always
