-- Each event tells lines that have the shape; so every trace has it.
use Rattle.std.proofs.Common.{◌≡◌, ℕ, ◌+◌, ◌<◌, true, false, ◌||◌, Option, Some, None, List, [], ◌∷◌, ◌++◌, length, refl, sym, ap, subst, ◌∙◌, arith}
use Rattle.std.specs.Prelude.{slice_get, is_some}
use Rattle.std.specs.List.{AllByRecursion}
use Rattle.std.proofs.lemmas.Bool.{false≢true, true≢false}
use Rattle.std.proofs.lemmas.List.{append-nil}
use Rattle.plain_sets.specs.Maps.{get}
use Rattle.homa_plain.specs.declared.id.HostId.{HostId}
use Rattle.homa_plain.specs.declared.event.Event.{Event}
use Rattle.homa_plain.specs.declared.event.Event.TheVariants as event
use Rattle.homa_plain.specs.declared.settings.Settings.{Settings}
use Rattle.homa_plain.specs.Entries.{PlainEntry, PlainSettings, PlainCall, PlainDeliver, PlainClock, PlainRestart, PlainInject, PlainShift}
use Rattle.homa_plain.specs.Entries.{PlainFinished, PlainRefused, PlainStalled}
use Rattle.trace_rules.specs.Lines.{is_last}
use Rattle.homa_plain.specs.Packets.{receiver}
use Rattle.homa_plain.specs.Host.{Host, new_host, entries_from}
use Rattle.homa_plain.specs.Rules.{Answer}
use Rattle.homa_plain.specs.Work.{Work, begun}
use Rattle.homa_plain.specs.Steps.{starts, next_id, start_fault, comes, acts, ended, call_step, arrival_step, turn_step}
use Rattle.homa_plain.specs.Credit.{refilled}
use Rattle.homa_plain.specs.Wire.{packet_in}
use Rattle.trace_rules.specs.View.{View, Called, at_start}
use Rattle.trace_rules.specs.Seen.{seen, seen_all}
use Rattle.trace_rules.specs.Shape.{IsBehind, IsNewCall, Shape}
use Rattle.trace_rules.specs.Laws.{Holds}
use Rattle.homa_plain.specs.World.{World, SentPacket, After, Done, outcome, host_at, own_clock, next_answer, is_late, new_world}
use Rattle.trace_steps.specs.Told.{IsTold}
use Rattle.step_moves.specs.Worlds.{IsTimed, IsDated}
use Rattle.trace_steps.specs.Stands.{amid}
use Rattle.trace_steps.specs.Always.{trace, KeptByEvent, HoldsAlways}
use Rattle.trace_steps.proofs.Always.{always, told_first}
use Rattle.step_moves.proofs.Names.{length-new}
use Rattle.step_moves.proofs.Hosts.{within, length-set, apart}
use Rattle.step_moves.proofs.Timed.{seg_of, resend_of, timed, fresh}
use Rattle.trace_steps.proofs.Events.{after_step, call_done, deliver_done, inject_done, turn_done, restart_done, shift_done, clock_done}
use Rattle.trace_steps.proofs.ToldEvents as told_events
use Rattle.trace_steps.proofs.ToldSteps.{told_view, inject_same, deliver_same}
use Rattle.trace_once.specs.Kept.{PacketFits, IsKept}
use Rattle.trace_once.proofs.Begun.{Begins, begins_filled, begun_amid}
use Rattle.trace_once.proofs.Called.{unused, started_amid}
use Rattle.trace_once.proofs.Kept.{all_get, event_keeps}
use Rattle.trace_once.proofs.OnceLines.{or_first, or_second}
use Rattle.trace_once.proofs.Opened.{opened_kept}
use Rattle.trace_once.proofs.Restarted.{deliver_line, inject_line}
use Rattle.trace_returned.proofs.Laws.{some_within}
use Rattle.trace_laws.specs.Shaped.{HasCause, HoldsWithCause}
use Rattle.trace_laws.proofs.ShapedLines.{line_behind, may_start}
use Rattle.trace_laws.proofs.ShapedSteps.{length_told, IsShaped, turn_shaped, ended_shaped, packet_shaped, junk_shaped}

-- what is so of a world and of the lines up to it
abbrev pub IsSoFar : Settings → World → View → Type 0
IsSoFar s w v = IsTold s w v × IsKept s w v × (length w.hosts ≡ s.hosts) × IsBehind v

-- ---- a host's step

record StepShaped (s : Settings) (w : World) (v : View) (host : HostId) (work : Work) : Type 0 where
  shape : Holds Shape v (entries_from (length w.packets) work.told)
  behind : IsBehind (seen_all v (entries_from (length w.packets) work.told))
  hosts : length (after_step w host [] work).world.hosts ≡ s.hosts

-- behind the event's line, if it has one
module _ (s : Settings) (w : World) (v : View) (host : HostId) (h : Host) (stands : host_at w host ≡ Some h) (told : IsTold s w v) (k : IsKept s w v)
    (many : length w.hosts ≡ s.hosts) (b : IsBehind v) where
  abbrev now : ℕ
  now = own_clock w host

  time : IsTimed s w host h (own_clock w host)
  time = timed s w host h told.clocks stands

  abbrev room : host.0 < length w.hosts
  room = within w.hosts host.0 h stands

  begins : (x : Host) → Begins h x (own_clock w host) → IsShaped s w v host (own_clock w host) room (record { host = x; told = [] })
  begins x e =
      let name = told.names host h stands in
      record {
        kept = begun_amid s w v host now h x stands e time.last time.within (e.id ∙ name.name)
            (λ q r is. name.own q r (ap (λ rows. get rows q) (sym e.clients) ∙ is)) k;
        told = told_events.begun_amid s w v host h stands told x e.id e.inc e.clients e.last;
        shaped = (tt, b);
      }

  begun_now : IsShaped s w v host (own_clock w host) room (begun h (own_clock w host))
  begun_now =
      begins (record h { last = own_clock w host }) (record { id = refl; inc = refl; seq = refl; clients = refl; servers = refl; finished = refl; last = refl })

  ends : (work : Work) → IsShaped s w v host (own_clock w host) room work → StepShaped s w v host (ended s work)
  ends work a =
      let after = ended_shaped s w v host now room time.from time.within (seg_of s told.valid) work a in
      record { shape = after.shaped.0; behind = after.shaped.1; hosts = length-set w.hosts host.0 (ended s work).host ∙ many }

  -- a call starts
  new_call : (server : HostId) (number : ℕ) (request : List ℕ) → server.0 < length w.hosts → start_fault s h server request ≡ None
      → IsNewCall v (next_id h) server request
  new_call server number request there may =
      let m = may_start s h server request may in
      let name : h.id ≡ host = (told.names host h stands).name in
      let as_many : v.settings.hosts ≡ length w.hosts = ap (λ (x : Settings). x.hosts) told.settings ∙ sym many in
      record {
        new_id = ap is_some (none_called (get v.calls (next_id h)) refl);
        message = (m.0, m.1);
        from_host = subst (λ (i : ℕ). (next_id h).client.0 < i) (sym as_many) (subst (λ (x : HostId). x.0 < length w.hosts) (sym name) room);
        to_host = subst (λ (i : ℕ). server.0 < i) (sym as_many) there;
        differ = apart server h.id m.2;
      } where
        none_called : (o : Option Called) → get v.calls (next_id h) ≡ o → o ≡ None
        none_called None e = refl
        none_called (Some c) e =
            absurd (false≢true
            (sym (unused s w v host (own_clock w host) h room time.within server number request begun_now.kept host)
            ∙ (begun_now.kept.kept.calls (next_id h) host).named c e))

  started : (server : HostId) (number : ℕ) (request : List ℕ) → server.0 < length w.hosts → start_fault s h server request ≡ None
      → IsShaped s w v host (own_clock w host) room (starts s server number request (begun h (own_clock w host)))
  started server number request there may = record {
    kept = started_amid s w v host now h room time.within server number request begun_now.kept;
    told = told_events.started_amid s w v host h stands told now server number request refl;
    shaped = (((b, new_call server number request there may), tt), line_behind v (PlainCall (next_id h) server number request) refl b);
  }

  call_shaped : (server : HostId) (number : ℕ) (request : List ℕ) → server.0 < length w.hosts → start_fault s h server request ≡ None
      → StepShaped s w v host (call_step s h (own_clock w host) server number request)
  unfolding call_step
  call_shaped server number request there may = ends (starts s server number request (begun h (own_clock w host))) (started server number request there may)

  turn_step_shaped : StepShaped s w v host (turn_step s h (own_clock w host))
  unfolding turn_step
  turn_step_shaped =
      let filled : Host = refilled s (record h { last = own_clock w host }) in
      ends (acts s (begun filled (own_clock w host)))
      (turn_shaped s w v host now room time.from time.within (resend_of s told.valid) (begun filled (own_clock w host))
      (begins (record filled { last = own_clock w host }) (begins_filled s h (own_clock w host))))

  junk_step_shaped : (answer : Answer) → StepShaped s w v host (arrival_step s h (own_clock w host) None answer)
  unfolding arrival_step
  junk_step_shaped answer =
      ends (comes s None answer (begun h (own_clock w host)))
      (junk_shaped s w v host now room time.from time.within answer (begun h (own_clock w host)) begun_now)

  packet_step_shaped : (n : ℕ) (sent : SentPacket) (answer : Answer) → slice_get w.packets n ≡ Some sent → receiver sent.packet ≡ host
      → is_late s w sent.tick ≡ false → StepShaped s w v host (arrival_step s h (own_clock w host) (Some sent.packet) answer)
  unfolding arrival_step
  packet_step_shaped n sent answer at to early =
      let fits = all_get (PacketFits s (amid w v host (begun h (own_clock w host)))) w.packets n sent
      (subst (AllByRecursion (PacketFits s (amid w v host (begun h (own_clock w host))))) (append-nil w.packets) begun_now.kept.kept.packets) at in
      ends (comes s (Some sent.packet) answer (begun h (own_clock w host)))
      (packet_shaped s w v host now room time.from time.within sent.packet sent.tick answer (begun h (own_clock w host)) begun_now
      (λ stale. fresh s w sent (own_clock w host) told.valid (all_get (IsDated s) w.packets n sent told.dated at) time.from early stale) to fits)

-- ---- every event

record EventShaped (s : Settings) (v : View) (after : After) : Type 0 where
  shape : Holds Shape v after.told
  behind : IsBehind (seen_all v after.told)
  hosts : length after.world.hosts ≡ s.hosts

event_shaped : (s : Settings) (w : World) (v : View) (e : Event) (bytes : List ℕ) (after : After) → IsTold s w v → IsKept s w v
    → length w.hosts ≡ s.hosts → IsBehind v → outcome s w e bytes ≡ Done after → EventShaped s v after
unfolding outcome
event_shaped s w v (event.Call client server number) bytes after told k many b e =
    let c = call_done s w after client server number bytes e in
    let r = call_shaped s w v client c.host c.stands told k many b server number bytes (some_within w.hosts server.0 c.other) c.may in
    subst (EventShaped s v) (sym c.is) (record { shape = r.shape; behind = r.behind; hosts = r.hosts })
event_shaped s w v (event.Deliver n) bytes after told k many b e =
    let c = deliver_done s w after n e in
    let line : PlainEntry = PlainDeliver n in
    let sent : n < length v.packets = subst (λ (i : ℕ). n < i) (sym (ap length told.packets ∙ length_told w.packets)) (within w.packets n c.sent c.at) in
    let r = packet_step_shaped s w (seen v line) (receiver c.sent.packet) c.host c.stands (told_view s w v (seen v line) (deliver_same v n) told)
    (deliver_line s w v n k) many (line_behind v line refl b) n c.sent (next_answer w.answers) c.at refl c.early in
    subst (EventShaped s v) (sym c.is) (record { shape = ((b, sent), r.shape); behind = r.behind; hosts = r.hosts })
event_shaped s w v event.Clock bytes after told k many b e =
    subst (EventShaped s v) (sym (clock_done s w after e).is)
    (record { shape = ((b, tt), tt); behind = line_behind v (PlainClock (w.clock + 1)) refl b; hosts = many })
event_shaped s w v (event.Turn host) bytes after told k many b e =
    let c = turn_done s w after host (host_at w host) refl e in
    let r = turn_step_shaped s w v host c.host c.stands told k many b in
    subst (EventShaped s v) (sym c.is) (record { shape = r.shape; behind = r.behind; hosts = r.hosts })
event_shaped s w v (event.Restart host) bytes after told k many b e =
    let c = restart_done s w after host (host_at w host) w.spares refl refl e in
    subst (EventShaped s v) (sym c.is) (record {
      shape = ((b, tt), tt);
      behind = line_behind v (PlainRestart host (c.host.inc + 1)) refl b;
      hosts = length-set w.hosts host.0 (new_host s host (c.host.inc + 1) c.host.last) ∙ many;
    })
event_shaped s w v (event.Inject host) bytes after told k many b e =
    let c = inject_done s w after host bytes (host_at w host) (packet_in s.wire bytes) refl refl e in
    let line : PlainEntry = PlainInject host bytes in
    let r = junk_step_shaped s w (seen v line) host c.host c.stands (told_view s w v (seen v line) (inject_same v host bytes) told)
    (inject_line s w v host bytes k) many (line_behind v line refl b) (next_answer w.answers) in
    subst (EventShaped s v) (sym c.is) (record { shape = ((b, tt), r.shape); behind = r.behind; hosts = r.hosts })
event_shaped s w v (event.Shift host n) bytes after told k many b e =
    subst (EventShaped s v) (sym (shift_done s w after host n (host_at w host) refl e).is)
    (record { shape = ((b, tt), tt); behind = line_behind v (PlainShift host n) refl b; hosts = many })

-- ---- every trace

-- a line has the shape, where it has a cause if it refuses one
abbrev pub IsShapedLine : View → PlainEntry → Type 0
IsShapedLine v line = HasCause line → Shape v line

as_lines : (v : View) (lines : List PlainEntry) → Holds Shape v lines → Holds IsShapedLine v lines
as_lines v [] h = tt
as_lines v (line ∷ lines) h = ((λ _. h.0), as_lines (seen v line) lines h.1)

pub last_shaped : (v : View) (line : PlainEntry) → is_last line ≡ true → IsBehind v → IsShapedLine v line
last_shaped v (PlainFinished n) e b = λ cause. (b, tt)
last_shaped v (PlainRefused line fault) e b = λ cause. (b, cause)
last_shaped v (PlainStalled turns tick) e b = λ cause. (b, tt)
last_shaped v line e b = absurd (false≢true e)

pub opened_behind : (s : Settings) (clock : ℕ) → IsBehind (seen (at_start clock) (PlainSettings s))
unfolding seen
opened_behind s clock = record { first = omega arith; last = refl }

pub opened_hosts : (s : Settings) (incs : List ℕ) (clock boxes : ℕ) (answers : List Answer) → length (new_world s incs clock boxes answers).hosts ≡ length incs
unfolding new_world
opened_hosts s incs clock boxes answers = length-new s 0 incs

pub event_lines : KeptByEvent IsSoFar IsShapedLine
event_lines s w v e after so done =
    let k = event_shaped s w v e.event e.bytes after so.0 so.1 so.2 so.3 done in (
      as_lines v after.told k.shape,
      (told_events.told_event s w v e.event e.bytes after so.0 done, (event_keeps s w v e.event e.bytes after so.0 so.1 done).kept, k.hosts, k.behind),
    )

lines_always : HoldsAlways IsShapedLine
lines_always = always IsSoFar IsShapedLine (λ s incs clock boxes opening cause. (refl, opening.valid))
    (λ s incs clock boxes answers opening. (
      told_first s incs clock boxes answers opening,
      opened_kept s incs clock boxes answers,
      opened_hosts s incs clock boxes answers ∙ opening.hosts,
      opened_behind s clock,
    ))
    event_lines (λ s w v line so e. last_shaped v line e so.3)

-- lines behind which another one may stand are no last ones
abbrev AllOpen : List PlainEntry → Type 0
AllOpen lines = AllByRecursion (λ (line : PlainEntry). is_last line ≡ false) lines

open_cause : (line : PlainEntry) → is_last line ≡ false → HasCause line
open_cause (PlainRefused line fault) e = absurd (true≢false e)
open_cause line e = tt

ended_line : (v : View) (line : PlainEntry) → (seen v line).ended ≡ (v.ended || is_last line)
unfolding seen
ended_line v line = refl

opens : (v : View) (lines : List PlainEntry) (n : ℕ) → Holds IsShapedLine v (lines ++ PlainFinished n ∷ []) → AllOpen lines × (v.ended ≡ false)
opens v [] n h = (tt, (h.0 tt).0.last)
opens v (line ∷ lines) n h =
    let rest = opens (seen v line) lines n h.1 in
    let both : (v.ended || is_last line) ≡ false = sym (ended_line v line) ∙ rest.1 in
    ((or_second v.ended (is_last line) both, rest.0), or_first v.ended (is_last line) both)

shaped_lines : (v : View) (lines more : List PlainEntry) → AllOpen lines → Holds IsShapedLine v (lines ++ more)
    → ((u : View) → Holds IsShapedLine u more → Holds Shape u more) → Holds Shape v (lines ++ more)
shaped_lines v [] more all h last = last v h
shaped_lines v (line ∷ lines) more all h last = (h.0 (open_cause line all.0), shaped_lines (seen v line) lines more all.1 h.1 last)

pub shaped_always : HoldsWithCause Shape
shaped_always s incs clock boxes answers events opening =
    let told : List PlainEntry = trace s incs clock boxes answers events in
    let k = lines_always s incs clock boxes answers events opening in
    let all = (opens (at_start clock) told 0 (k.1 (PlainFinished 0) refl)).0 in (
      subst (Holds Shape (at_start clock)) (append-nil told)
          (shaped_lines (at_start clock) told [] all (subst (Holds IsShapedLine (at_start clock)) (sym (append-nil told)) k.0) (λ u h. tt)),
      λ line last cause. shaped_lines (at_start clock) told (line ∷ []) all (k.1 line last) (λ u h. (h.0 cause, tt)),
    )
