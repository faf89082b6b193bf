-- Each line of a node's run tells what fits its types, as long as the net is honest.
use Rattle.std.proofs.Common.{◌≡◌, ◌≤◌, ◌<◌, ◌^◌, ℕ, suc, true, Option, None, Some, List, [], ◌∷◌, ◌++◌, length, map, refl, sym, subst, arith}
use Rattle.std.specs.List.{AllByRecursion}
use Rattle.homa_plain.specs.declared.id.HostId.{HostId}
use Rattle.homa_plain.specs.declared.settings.Settings.{Settings}
use Rattle.homa_plain.specs.declared.event.Event.TheVariants as event
use Rattle.homa_plain.specs.Settings.{IsValid}
use Rattle.homa_plain.specs.Entries.{PlainEntry, PlainSettings, PlainCall, PlainClock, PlainRecv}
use Rattle.homa_plain.specs.Packets.{Packet, send_line}
use Rattle.homa_plain.specs.Host.{Host, Told, Says, Sends, packets_in, entries_from}
use Rattle.trace_rules.specs.Laws.{Holds}
use Rattle.homa_plain.specs.Rules.{Answer}
use Rattle.homa_plain.specs.Script.{most_bytes}
use Rattle.homa_plain.specs.Steps.{next_id, call_step, arrival_step, turn_step}
use Rattle.trace_rules.specs.View.{View, nothing_seen}
use Rattle.trace_rules.specs.Seen.{seen, seen_all}
use Rattle.homa_plain.specs.Wire.{packet_in}
use Rattle.homa_plain.specs.World.{World, After, Done, outcome, host_at, own_clock, next_answer, arrives_at, stamped}
use Rattle.homa_plain.specs.Replay.{bare}
use Rattle.trace_steps.proofs.Lines.{told_same}
use Rattle.step_moves.proofs.Inner.{AllInner, IsSaid}
use Rattle.trace_steps.proofs.Events.{after_step, IsCalled, IsTurned, call_done, turn_done}
use Rattle.step_moves.proofs.Hosts.{within}
use Rattle.trace_steps.specs.Stands.{stand}
use Rattle.trace_once.specs.Kept.{PacketFits}
use Rattle.node_runs.specs.Script.{Setup, TimedCall, Calls, Opened, opening}
use Rattle.node_runs.specs.Course.{AreTicks, Report, Tells, Turning, Arrival, Receive, packet_from, arrival_outcome, new_node, node_run}
use Rattle.node_runs.specs.Recorder.{Notes, no_notes}
use Rattle.node_runs.specs.Texts.{entries}
use Rattle.node_runs.specs.Replayed.{IsAnswer}
use Rattle.node_laws.proofs.Opening.{IsCallGiven}
use Rattle.node_laws.proofs.Courses.{AreSuch, IsKeptInCourse, turns_all}
use Rattle.node_laws.proofs.Good.{IsSentNow}
use Rattle.node_laws.proofs.GoodSteps.{can_start, call_good, arrival_good, turn_good}
use Rattle.node_laws.proofs.Inner.{AllAt, call_inside, arrival_inside, turn_inside}
use Rattle.node_laws.proofs.Behind.{all_second, next_is_answer, receiver_is}
use Rattle.node_laws.proofs.Loops.{run_is}
use Rattle.node_laws.proofs.Told.{AllTold}
use Rattle.node_trace_laws.specs.Honest.{noted, is_honest, AreHonest}
use Rattle.node_trace_laws.proofs.Lawful.{IsLawful, event_obeyed}
use Rattle.node_trace_laws.proofs.Sent.{noted_all}
use Rattle.node_trace_laws.proofs.Stepped.{refused_done, same_done}
use Rattle.node_trace_laws.proofs.NodeLaw.{HoldsWhile, while_holds, while-append, IsSoOf, IsSoToo, order_in_course, names, comes_formed, recv_adds}
use Rattle.node_trace_laws.proofs.NodeLaw.{entries_grown, opened, beginning, begins_at, begins_so}
use Rattle.check_node_laws.specs.Checked.{IsHandedUp}
use Rattle.check_node_laws.proofs.Said.{IsMade, IsTrue, made_on, inner_true}

-- lines within a step tell of no datagram that comes
inner_honest : (n : Notes) (k : ℕ) (told : List Told) → AllInner told → AreHonest n (entries_from k told)
inner_honest n k [] inner = tt
inner_honest n k (Says e ∷ told) inner = (said_honest e inner.0, inner_honest (noted n e) k told inner.1) where
  said_honest : (e : PlainEntry) → IsSaid e → is_honest n e ≡ true
  said_honest (PlainRecv host from bytes) said = absurd said
  said_honest e said = refl
inner_honest n k (Sends p ∷ told) inner = (refl, inner_honest (noted n (send_line k p)) (suc k) told inner)

-- what an event did
turn_is : (s : Settings) (w : World) (after : After) (id : HostId) → outcome s w (event.Turn id) [] ≡ Done after → IsTurned s w after id
unfolding outcome
turn_is s w after id e = turn_done s w after id (host_at w id) refl e

call_is : (s : Settings) (w : World) (after : After) (client server : HostId) (service : ℕ) (request : List ℕ)
    → outcome s w (event.Call client server service) request ≡ Done after
    → IsCalled s w after client server service request
unfolding outcome
call_is s w after client server service request e = call_done s w after client server service request e

module _ (s : Settings) (valid : IsValid s) where
  -- packets behind a step: each is well formed, and its call was made to its server
  made_all : (w : World) (u : View) (clock now : ℕ) (soon : now ≤ 1000000002000) (ps : List Packet)
      → AllByRecursion (PacketFits s (stand w u)) (stamped clock ps)
      → AllByRecursion (IsSentNow s valid now soon) ps → AllByRecursion (IsMade s u) ps
  made_all w u clock now soon [] fit sent = tt
  made_all w u clock now soon (p ∷ ps) fit sent =
      let made = fit.0.fits.made in (
        record { sent = sent.0.formed; call = _; called = made.called; server = refl },
        made_all w u clock now soon ps fit.1 sent.1,
      )

  module _ (w : World) (n : Notes) (v : View) (k : IsSoOf s valid w n v) where
    few_at : (id : HostId) (h : Host) → host_at w id ≡ Some h → id.0 < 2 ^ 16
    few_at id h at = omega (arith, within w.hosts id.0 h at, k.lawful.many, valid.in_range.1)

    -- the lines of a step behind those that said u, in a world x
    module _ (u : View) (id : HostId) (few : id.0 < 2 ^ 16) (now : ℕ) (soon : now ≤ 1000000002000) (x : World) where
      abbrev Facts : List Told → Type 0
      Facts told =
          AllTold told → AllByRecursion (IsSentNow s valid now soon) (packets_in told) → x.packets ≡ w.packets ++ stamped w.clock (packets_in told)
          → IsLawful s x (seen_all u (entries_from (length w.packets) told)) → Holds IsTrue u (entries_from (length w.packets) told)

      behind_true : (told : List Told) → AllInner told → AllAt id told → Facts told
      behind_true told inner at fits sent packets lawful =
          let y : View = seen_all u (entries_from (length w.packets) told) in
          let kept : AllByRecursion (PacketFits s (stand x y)) (stamped w.clock (packets_in told)) =
          all_second (PacketFits s (stand x y)) w.packets (stamped w.clock (packets_in told))
          (subst (AllByRecursion (PacketFits s (stand x y))) packets lawful.so.1.packets) in
          let calls : y.calls ≡ u.calls = (told_same u (length w.packets) told inner).calls in
          inner_true s u id few (length w.packets) told inner at fits
          (made_on s y u (packets_in told) (sym calls) (made_all x y w.clock now soon (packets_in told) kept sent))

    in_time : (id : HostId) (h : Host) → host_at w id ≡ Some h → own_clock w id ≤ 1000000002000
    in_time id h at = let skew = valid.in_range.2.2.2.2.2.2.2.2.2.2.2.2.2.1 in omega (arith, k.good.leads id h at, k.good.clock, skew)

    turn_true : (id : HostId) (after : After) → outcome s w (event.Turn id) [] ≡ Done after → HoldsWhile IsTrue n v after.told
    turn_true id after done = by_turn (turn_is s w after id done) (event_obeyed s w v (bare (event.Turn id)) after k.lawful done).1 where
      by_turn : IsTurned s w after id → IsLawful s after.world (seen_all v after.told) → HoldsWhile IsTrue n v after.told
      by_turn c lawful =
          let now = own_clock w id in
          let soon = in_time id c.host c.stands in
          let step = turn_step s c.host now in
          let inside = turn_inside s id valid.in_range.2.2.2.2.2.2.0 c.host now (names s valid w n v k id c.host c.stands) in
          let g = turn_good s valid now soon c.host (k.good.hosts id c.host c.stands) in
          subst (λ (x : After). IsLawful s x.world (seen_all v x.told) → HoldsWhile IsTrue n v x.told) (sym c.is)
          (λ l.
          let x = after_step w id [] step in
          while_holds IsTrue n v x.told
          (subst (Facts v id (few_at id c.host c.stands) now soon x.world) (sym inside.told)
          (behind_true v id (few_at id c.host c.stands) now soon x.world inside.rest inside.inner inside.at) g.told g.sent refl l))
          lawful

    call_true : (c : TimedCall) (after : After) → IsCallGiven c → outcome s w (event.Call c.client c.server c.service) c.bytes ≡ Done after
        → HoldsWhile IsTrue n v after.told
    call_true c after given done =
        by_call (call_is s w after c.client c.server c.service c.bytes done)
        (event_obeyed s w v (record { event = event.Call c.client c.server c.service; bytes = c.bytes }) after k.lawful done).1 where
          by_call : IsCalled s w after c.client c.server c.service c.bytes → IsLawful s after.world (seen_all v after.told) → HoldsWhile IsTrue n v after.told
          by_call d lawful =
              let now = own_clock w c.client in
              let soon = in_time c.client d.host d.stands in
              let few = few_at c.client d.host d.stands in
              let step = call_step s d.host now c.server c.service c.bytes in
              let inside = call_inside s c.client d.host now c.server c.service c.bytes (names s valid w n v k c.client d.host d.stands) in
              let good = k.good.hosts c.client d.host d.stands in
              let g = call_good s valid now soon d.host c.server c.service c.bytes good d.may given.0 given.1 in
              let can = can_start s valid now soon d.host c.server c.bytes d.may in
              let line : PlainEntry = PlainCall (next_id d.host) c.server c.service c.bytes in
              let said : IsTrue v line = (((good.inc, good.inc_fits, omega (arith, can.seq)), given.1, given.0), tt) in
              subst (λ (x : After). IsLawful s x.world (seen_all v x.told) → HoldsWhile IsTrue n v x.told) (sym d.is)
              (λ l.
              let x = after_step w c.client [] step in
              while_holds IsTrue n v x.told
              (subst (Facts v c.client few now soon x.world) (sym inside.told)
              (λ fits sent packets lawful.
              (said, behind_true (seen v line) c.client few now soon x.world inside.rest inside.inner inside.at fits.1 sent packets lawful)) g.told
              g.sent refl l))
              lawful

    -- a datagram that comes, where the net is honest
    recv_true : (id : HostId) (a : Arrival) (after : After) → IsHandedUp a → arrival_outcome s w id a ≡ Done after → HoldsWhile IsTrue n v after.told
    recv_true id a after up done = by_host (host_at w id) refl done (recv_adds s valid w n v k id a after done).so where
      by_host : (o : Option Host) → host_at w id ≡ o
          → arrives_at s w id (PlainRecv id a.from a.bytes ∷ []) (packet_from a.from id (packet_in s.wire a.bytes)) o ≡ Done after
          → (AreHonest n after.told → IsSoOf s valid after.world (noted_all n after.told) (seen_all v after.told)) → HoldsWhile IsTrue n v after.told
      by_host None at e so = absurd (refused_done e)
      by_host (Some h) at e so =
          let now = own_clock w id in
          let soon = in_time id h at in
          let few = few_at id h at in
          let packet = packet_from a.from id (packet_in s.wire a.bytes) in
          let step = arrival_step s h now packet (next_answer w.answers) in
          let line : PlainEntry = PlainRecv id a.from a.bytes in
          let x = after_step w id (line ∷ []) step in
          let is : after ≡ x = same_done x after e in
          let inside = arrival_inside s id h now packet (next_answer w.answers) (names s valid w n v k id h at)
          (receiver_is a.from id (packet_in s.wire a.bytes)) in
          let said : IsTrue v line = ((few, up.host, up.is.bytes, up.is.few), tt) in
          subst (λ (y : After). HoldsWhile IsTrue n v y.told) (sym is)
          (λ honest.
          let rest = inner_honest (noted n line) (length w.packets) step.told (subst AllInner (sym inside.told) inside.inner) in
          let stands = subst (λ (y : After). AreHonest n y.told → IsSoOf s valid y.world (noted_all n y.told) (seen_all v y.told)) is so (honest, rest) in
          let g = arrival_good s valid now soon h packet (next_answer w.answers) (k.good.hosts id h at) (comes_formed s valid w n v k id a honest)
          (next_is_answer w.answers k.good.answers) in (
            said,
            while_holds IsTrue (noted n line) (seen v line) (entries_from (length w.packets) step.told)
                (subst (Facts (seen v line) id few now soon x.world) (sym inside.told)
                (behind_true (seen v line) id few now soon x.world inside.rest inside.inner inside.at) g.told g.sent refl stands.lawful),
          ))

  -- ---- the course of a run

  record IsTrueToo (w : World) (rs : List Report) : Type 0 where
    so : IsSoToo s valid w rs
    told : HoldsWhile IsTrue no_notes nothing_seen (entries rs)

  grown_true : (w x : World) (rs first : List Report) (told : List PlainEntry) → entries first ≡ [] → IsTrueToo w rs
      → (IsSoOf s valid w (noted_all no_notes (entries rs)) (seen_all nothing_seen (entries rs))
      → HoldsWhile IsTrue (noted_all no_notes (entries rs)) (seen_all nothing_seen (entries rs)) told)
      → HoldsWhile IsTrue no_notes nothing_seen (entries (rs ++ (first ++ map Tells told)))
  grown_true w x rs first told none k one =
      subst (HoldsWhile IsTrue no_notes nothing_seen) (sym (entries_grown s valid rs first told none))
      (while-append IsTrue no_notes nothing_seen (entries rs) told k.told (λ honest. one (k.so.so.so honest)))

  true_in_course : IsKeptInCourse s IsHandedUp IsTrueToo
  true_in_course =
      let so = order_in_course s valid IsHandedUp in
      record {
        call = λ w rs c after given k done.
            let next = so.call w rs c after given k.so done in
            (record { so = next.0; told = grown_true w after.world rs [] after.told refl k (λ o. call_true w _ _ o c after given done) }, next.1);
        recv = λ w rs id a after up k done.
            let next = so.recv w rs id a after up k.so done in
            (record { so = next.0; told = grown_true w after.world rs [] after.told refl k (λ o. recv_true w _ _ o id a after up done) }, next.1);
        turn = λ w rs id after k done.
            let next = so.turn w rs id after k.so done in
            (record { so = next.0; told = grown_true w after.world rs (Turning id ∷ []) after.told refl k (λ o. turn_true w _ _ o id after done) }, next.1);
        clock = λ w rs now k onward most. record {
          so = so.clock w rs now k.so onward most;
          told = grown_true w (record w { clock = now }) rs [] (PlainClock now ∷ []) refl k
              (λ o. while_holds IsTrue (noted_all no_notes (entries rs)) (seen_all nothing_seen (entries rs)) (PlainClock now ∷ []) ((most, tt), tt));
        };
      }

-- ---- whole runs

-- each line of a run whose datagrams are such, as long as the net is honest
pub run_true : (bytes : List ℕ) (setup : Setup) (calls : Calls) (answers : List Answer) (ticks : List ℕ) (receives : List Receive)
    → opening most_bytes bytes ≡ Opened setup calls → AllByRecursion IsAnswer answers → AreTicks 0 ticks
    → AreSuch IsHandedUp receives → HoldsWhile IsTrue no_notes nothing_seen (entries (node_run bytes answers ticks receives).reports)
run_true bytes setup calls answers ticks receives e fair rises up =
    let o = opened bytes setup calls answers ticks receives e fair rises in
    let s = setup.settings in
    let first : IsTrueToo s o.is.valid (beginning bytes setup calls answers ticks receives e fair rises) (Tells (PlainSettings s) ∷ []) =
    record { so = begins_so bytes setup calls answers ticks receives e fair rises; told = λ honest. ((o.is.valid, tt), tt) } in
    subst (λ (rs : List Report). HoldsWhile IsTrue no_notes nothing_seen (entries rs)) (sym (run_is bytes setup calls answers ticks receives e))
    (turns_all s IsHandedUp (IsTrueToo s o.is.valid) (true_in_course s o.is.valid) setup refl 1 0 ticks (new_node setup calls answers receives) rises
    (begins_at bytes setup calls answers ticks receives e fair rises, first, o.given, up)).told
