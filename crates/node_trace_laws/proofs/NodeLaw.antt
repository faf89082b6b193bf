-- Each line of a node's trace has the shape and obeys all five laws, where its net is honest.
use Rattle.std.proofs.Common.{◌≡◌, ◌⊎◌, inl, inr, ℕ, suc, zero, ◌+◌, ◌-◌, ◌≤◌, ◌<◌, true, false, ◌||◌, Option, None, Some, List, [], ◌∷◌, ◌++◌, length, map}
use Rattle.std.proofs.Common.{take, refl, sym, ap, ◌∙◌, subst, arith}
use Rattle.std.specs.Prelude.{slice_get}
use Rattle.std.specs.List.{AllByRecursion}
use Rattle.std.specs.Option.{IfSome}
use Rattle.std.proofs.lemmas.Bool.{true≢false}
use Rattle.std.proofs.lemmas.List.{length-append}
use Rattle.homa_plain.specs.declared.id.HostId.{HostId}
use Rattle.homa_plain.specs.declared.packet.Packet.{Packet as WirePacket}
use Rattle.homa_plain.specs.declared.settings.Settings.{Settings}
use Rattle.homa_plain.specs.declared.event.Event.TheVariants as event
use Rattle.homa_plain.specs.Settings.{IsValid}
use Rattle.homa_plain.specs.Entries.{PlainEntry, PlainSettings, PlainClock, PlainRecv, PlainRefused}
use Rattle.trace_rules.specs.Lines.{is_last}
use Rattle.homa_plain.specs.Host.{Host, new_host}
use Rattle.homa_plain.specs.Packets.{Packet}
use Rattle.homa_plain.specs.Rules.{Answer}
use Rattle.homa_plain.specs.Script.{most_bytes}
use Rattle.homa_plain.specs.Steps.{arrival_step}
use Rattle.trace_rules.specs.View.{View, nothing_seen}
use Rattle.trace_rules.specs.Seen.{seen, seen_all}
use Rattle.trace_rules.specs.Laws.{Holds}
use Rattle.trace_rules.specs.Judge.{Obeys}
use Rattle.trace_rules.proofs.LawsJudged.{none_found}
use Rattle.homa_plain.specs.Wire.{packet_in}
use Rattle.homa_plain.specs.World.{World, After, Done, outcome, host_at, own_clock, next_answer, arrives_at, new_world, new_hosts, last_tick}
use Rattle.homa_plain.specs.Replay.{bare}
use Rattle.step_moves.specs.Worlds.{HasOwnName}
use Rattle.trace_steps.proofs.Lines.{seen_all-append}
use Rattle.world_laws.specs.Sound.{IsSent}
use Rattle.trace_steps.specs.Always.{IsOpening}
use Rattle.trace_steps.proofs.Events.{after_step}
use Rattle.step_moves.proofs.Hosts.{within, some_is}
use Rattle.trace_laws.specs.Shaped.{HasCause}
use Rattle.node_runs.specs.Script.{Place, Local, Remote, Setup, TimedCall, Calls, Opening, Opened, opening}
use Rattle.node_runs.specs.Course.{Run, Report, Tells, Turning, Arrival, Receive, End, Ended, RefusedAt, StalledAt, Node, Course, GoesOn, Stops, loop_turns}
use Rattle.node_runs.specs.Course.{AreTicks, packet_from, arrival_outcome, first_inc, new_node, run_of, run_opened, node_run}
use Rattle.node_runs.specs.Recorder.{Notes, no_notes}
use Rattle.node_runs.specs.Texts.{entries, end_entry}
use Rattle.node_runs.specs.Replayed.{NoneStrange, IsAnswer}
use Rattle.node_laws.proofs.Noted.{usual-append}
use Rattle.node_laws.proofs.OfNode.{IsOfNode, node_of}
use Rattle.node_laws.proofs.Opening.{IsCallGiven, IsScript, opening_is}
use Rattle.node_laws.proofs.Places.{IsPlace}
use Rattle.node_laws.proofs.Good.{IsGoodHost}
use Rattle.node_laws.proofs.GoodSteps.{new_good}
use Rattle.node_laws.proofs.Behind.{IsGoodWorld}
use Rattle.node_laws.proofs.Repeated.{entries-append, entries-told}
use Rattle.node_laws.proofs.Loops.{call_steady, turn_steady, recv_steady, hosts_length, lead_at, run_is}
use Rattle.node_trace_laws.specs.Honest.{noted, is_honest, AreHonest, last_line, lines, OfEveryRun, NodeTracesObey, NoneIsBroken, UsualIsHonest}
use Rattle.node_trace_laws.proofs.Lawful.{IsLawful, IsObeyed, obeys, event_obeyed, first_lawful, first_obeyed, last_obeyed}
use Rattle.node_trace_laws.proofs.Risen.{risen_lawful, risen_obeyed}
use Rattle.node_trace_laws.proofs.Datagrams.{all_get, IsPacket, IsJunk}
use Rattle.node_trace_laws.proofs.Arrived.{Obeyed, packet_comes, junk_comes}
use Rattle.node_trace_laws.proofs.Sent.{noted_all, noted-append, honest-append, AreNoted, clock_noted, comes_from}
use Rattle.node_trace_laws.proofs.Usual.{AreInOrder, none_matched, usual_honest, order-append}
use Rattle.node_trace_laws.proofs.Stepped.{refused_done, same_done, IsGoodAfter, turn_after, call_after, recv_in_order, recv_after}
use Rattle.trace_once.proofs.OnceLines.{or_first, or_second}
use Rattle.node_laws.proofs.Courses.{AnyComes, any_comes, IsKeptInCourse, turns_all}
use Rattle.node_trace_laws.proofs.Ends.{IsEnd, turns_end, may_end, end_cause}

-- ---- while the net is honest

-- a line obeys, and is no last one
abbrev pub IsFine : View → PlainEntry → Type 0
IsFine v line = IsObeyed v line × (is_last line ≡ false)

ended_line : (v : View) (line : PlainEntry) → (seen v line).ended ≡ (v.ended || is_last line)
unfolding seen
ended_line v line = refl

-- lines behind which none has ended are no last ones
fine : (v : View) (lines : List PlainEntry) → Holds IsObeyed v lines → (seen_all v lines).ended ≡ false → Holds IsFine v lines × (v.ended ≡ false)
fine v [] h e = (tt, e)
fine v (line ∷ lines) h e =
    let rest = fine (seen v line) lines h.1 e in
    let both : (v.ended || is_last line) ≡ false = sym (ended_line v line) ∙ rest.1 in
    (((h.0, or_second v.ended (is_last line) both), rest.0), or_first v.ended (is_last line) both)

open_cause : (line : PlainEntry) → is_last line ≡ false → HasCause line
open_cause (PlainRefused line fault) e = absurd (true≢false e)
open_cause line e = tt

-- a law holds at each line, up to the first of a datagram that the net made up
abbrev pub HoldsWhile : (View → PlainEntry → Type 0) → Notes → View → List PlainEntry → Type 0
HoldsWhile law n v [] = Unit {0}
HoldsWhile law n v (e ∷ es) = is_honest n e ≡ true → law v e × HoldsWhile law (noted n e) (seen v e) es

module _ (law : View → PlainEntry → Type 0) where
  pub while_holds : (n : Notes) (v : View) (es : List PlainEntry) → Holds law v es → HoldsWhile law n v es
  while_holds n v [] h = tt
  while_holds n v (e ∷ es) h = λ honest. (h.0, while_holds (noted n e) (seen v e) es h.1)

  while_first : (n : Notes) (v : View) (e : PlainEntry) (es : List PlainEntry) → (is_honest n e ≡ true → Holds law v (e ∷ es)) → HoldsWhile law n v (e ∷ es)
  while_first n v e es h = λ honest. let all = h honest in (all.0, while_holds (noted n e) (seen v e) es all.1)

  pub while-append : (n : Notes) (v : View) (a b : List PlainEntry) → HoldsWhile law n v a
      → (AreHonest n a → HoldsWhile law (noted_all n a) (seen_all v a) b) → HoldsWhile law n v (a ++ b)
  while-append n v [] b h next = next tt
  while-append n v (e ∷ a) b h next = λ honest. let one = h honest in (one.0, while-append (noted n e) (seen v e) a b one.1 (λ rest. next (honest, rest)))

  first_hold : (n : Notes) (v : View) (es : List PlainEntry) (m : ℕ) → HoldsWhile law n v es → AreHonest n (take m es) → Holds law v (take m es)
  first_hold n v es zero h honest = tt
  first_hold n v [] (suc m) h honest = tt
  first_hold n v (e ∷ es) (suc m) h honest = let one = h honest.0 in (one.0, first_hold (noted n e) (seen v e) es m one.1 honest.1)

  pub all_hold : (n : Notes) (v : View) (es : List PlainEntry) → HoldsWhile law n v es → AreHonest n es → Holds law v es
  all_hold n v [] h honest = tt
  all_hold n v (e ∷ es) h honest = let one = h honest.0 in (one.0, all_hold (noted n e) (seen v e) es one.1 honest.1)

obeys_while : (n : Notes) (v : View) (es : List PlainEntry) → HoldsWhile IsFine n v es → HoldsWhile Obeys n v es
obeys_while n v [] h = tt
obeys_while n v (e ∷ es) h = λ honest. let one = h honest in (obeys v e (open_cause e one.0.1) one.0.0, obeys_while (noted n e) (seen v e) es one.1)

-- ---- what is so of a node

module _ (s : Settings) (valid : IsValid s) where
  pub record IsSoOf (w : World) (n : Notes) (v : View) : Type 0 where
    pub lawful : IsLawful s w v
    pub good : IsGoodWorld s w
    pub noted : AreNoted s n w.clock w.packets

  pub record IsSo (w : World) (es : List PlainEntry) : Type 0 where
    pub holds : HoldsWhile IsFine no_notes nothing_seen es
    pub so : AreHonest no_notes es → IsSoOf w (noted_all no_notes es) (seen_all nothing_seen es)

  -- what an event adds
  pub record Adds (w : World) (n : Notes) (v : View) (told : List PlainEntry) : Type 0 where
    pub holds : HoldsWhile IsFine n v told
    pub so : AreHonest n told → IsSoOf w (noted_all n told) (seen_all v told)
    pub in_order : AreInOrder n told

  added : (w x : World) (es told : List PlainEntry) → IsSo w es
      → (IsSoOf w (noted_all no_notes es) (seen_all nothing_seen es) → Adds x (noted_all no_notes es) (seen_all nothing_seen es) told) → IsSo x (es ++ told)
  added w x es told k one = record {
    holds = while-append IsFine no_notes nothing_seen es told k.holds (λ honest. (one (k.so honest)).holds);
    so = λ honest.
        let parts = honest-append no_notes es told honest in
        let a = (one (k.so parts.0)).so parts.1 in
        subst (λ (n : Notes). IsSoOf x n (seen_all nothing_seen (es ++ told))) (sym (noted-append no_notes es told))
        (subst (IsSoOf x (noted_all (noted_all no_notes es) told)) (sym (seen_all-append nothing_seen es told)) a);
  }

  module _ (w : World) (n : Notes) (v : View) (k : IsSoOf w n v) where
    pub names : (id : HostId) (h : Host) → host_at w id ≡ Some h → HasOwnName id h
    names id h at = (k.lawful.so.0).names id h at

    -- a step that the net has no part in
    own_step : (after : After) → Obeyed s v after → IsGoodAfter s valid w k.good names n after → Adds after.world n v after.told
    own_step after o g = record {
      holds = while_holds IsFine n v after.told (fine v after.told o.0 o.1.behind.last).0;
      so = λ honest. record { lawful = o.1; good = g.sound; noted = g.noted };
      in_order = g.in_order;
    }

    call_adds : (c : TimedCall) (after : After) → IsCallGiven c → outcome s w (event.Call c.client c.server c.service) c.bytes ≡ Done after
        → Adds after.world n v after.told
    call_adds c after given done =
        let g = call_after s valid w k.good names n c.client c.server c.service c.bytes after given.0 given.1 k.noted done in
        own_step after (event_obeyed s w v (record { event = event.Call c.client c.server c.service; bytes = c.bytes }) after k.lawful done) g

    turn_adds : (id : HostId) (after : After) → outcome s w (event.Turn id) [] ≡ Done after → Adds after.world n v after.told
    turn_adds id after done =
        let g = turn_after s valid w k.good names n id after k.noted done in
        own_step after (event_obeyed s w v (bare (event.Turn id)) after k.lawful done) g

    clock_adds : (now : ℕ) → w.clock ≤ now → now ≤ last_tick → Adds (record w { clock = now }) n v (PlainClock now ∷ [])
    clock_adds now onward most = record {
      holds = while_holds IsFine n v (PlainClock now ∷ []) ((risen_obeyed s w v now onward k.lawful, refl), tt);
      so = λ honest. record {
        lawful = risen_lawful s w v now onward k.lawful;
        good = record { hosts = k.good.hosts; leads = k.good.leads; packets = k.good.packets; answers = k.good.answers; clock = most };
        noted = clock_noted s n w.clock now w.packets k.noted;
      };
      in_order = (omega (arith, k.noted.tick, onward), tt);
    }

    -- ---- a datagram

    abbrev packet : HostId → Arrival → Option Packet
    packet id a = packet_from a.from id (packet_in s.wire a.bytes)

    abbrev after_recv : HostId → Arrival → Host → After
    after_recv id a h = after_step w id (PlainRecv id a.from a.bytes ∷ [])
        (arrival_step s h (own_clock w id) (packet_from a.from id (packet_in s.wire a.bytes)) (next_answer w.answers))

    formed : (id : HostId) (a : Arrival) → IsPacket s w id a ⊎ IsJunk s a → IfSome (packet_from a.from id (packet_in s.wire a.bytes)) (IsSent s)
    formed id a (inl p) =
        subst (λ (o : Option Packet). IfSome o (IsSent s)) (sym p.is) (all_get (IsOfNode s) w.packets p.number p.sent k.good.packets p.at).formed
    formed id a (inr e) = subst (λ (o : Option (WirePacket × List ℕ)). IfSome (packet_from a.from id o) (IsSent s)) (sym e) tt

    -- a packet that comes from an honest net is well formed
    pub comes_formed : (id : HostId) (a : Arrival) → is_honest n (PlainRecv id a.from a.bytes) ≡ true
        → IfSome (packet_from a.from id (packet_in s.wire a.bytes)) (IsSent s)
    comes_formed id a honest = formed id a (comes_from s n w id a k.noted k.good.packets honest)

    pub recv_adds : (id : HostId) (a : Arrival) (after : After) → arrival_outcome s w id a ≡ Done after → Adds after.world n v after.told
    recv_adds id a after done = by_host (host_at w id) refl done where
      here : (h : Host) → host_at w id ≡ Some h → Adds (after_recv id a h).world n v (after_recv id a h).told
      here h at = record {
        holds = while_first IsFine n v (PlainRecv id a.from a.bytes) _ (λ honest. let b = both h at honest in
            (fine v (after_recv id a h).told b.0.0 b.0.1.behind.last).0);
        so = λ honest. let b = both h at honest.0 in record { lawful = b.0.1; good = b.1.sound; noted = b.1.noted };
        in_order = recv_in_order s valid w k.good names n id a h at;
      } where
        obeyed : (h : Host) → host_at w id ≡ Some h → IsPacket s w id a ⊎ IsJunk s a → Obeyed s v (after_recv id a h)
        obeyed h at (inl p) = packet_comes s w v id a k.lawful h at p
        obeyed h at (inr e) = junk_comes s w v id a k.lawful h at e

        both : (h : Host) → host_at w id ≡ Some h → is_honest n (PlainRecv id a.from a.bytes) ≡ true
            → Obeyed s v (after_recv id a h) × IsGoodAfter s valid w k.good names n (after_recv id a h)
        both h at honest =
            let kind = comes_from s n w id a k.noted k.good.packets honest in
            (obeyed h at kind, recv_after s valid w k.good names n id a h at (formed id a kind) k.noted)

      by_host : (o : Option Host) → host_at w id ≡ o
          → arrives_at s w id (PlainRecv id a.from a.bytes ∷ []) (packet_from a.from id (packet_in s.wire a.bytes)) o ≡ Done after
          → Adds after.world n v after.told
      by_host None at e = absurd (refused_done e)
      by_host (Some h) at e = subst (λ (x : After). Adds x.world n v x.told) (sym (same_done (after_recv id a h) after e)) (here h at)

  -- ---- the course of a run

  abbrev pub So : World → List Report → Type 0
  So w rs = IsSo w (entries rs)

  pub entries_grown : (rs first : List Report) (told : List PlainEntry) → entries first ≡ [] → entries (rs ++ (first ++ map Tells told)) ≡ entries rs ++ told
  entries_grown rs first told none =
      entries-append rs (first ++ map Tells told)
      ∙ ap (λ (l : List PlainEntry). entries rs ++ l) (entries-append first (map Tells told)
      ∙ (ap (λ (l : List PlainEntry). l ++ entries (map Tells told)) none ∙ entries-told told))

  -- the reports of an event
  grown : (w x : World) (rs : List Report) (first : List Report) (told : List PlainEntry) → entries first ≡ [] → So w rs
      → (IsSoOf w (noted_all no_notes (entries rs)) (seen_all nothing_seen (entries rs))
      → Adds x (noted_all no_notes (entries rs)) (seen_all nothing_seen (entries rs)) told)
      → So x (rs ++ (first ++ map Tells told))
  grown w x rs first told none k one = subst (IsSo x) (sym (entries_grown rs first told none)) (added w x (entries rs) told k one)

  kept_in_course : (such : Arrival → Type 0) → IsKeptInCourse s such So
  kept_in_course such = record {
    call = λ w rs c after given k done. (
      grown w after.world rs [] after.told refl k
          (λ so. call_adds w _ _ so c after given done),
      call_steady s w c.client c.server c.service c.bytes after done,
    );
    recv = λ w rs id a after any k done.
        (grown w after.world rs [] after.told refl k (λ so. recv_adds w _ _ so id a after done), (recv_steady s w id a after done).0);
    turn = λ w rs id after k done.
        (grown w after.world rs (Turning id ∷ []) after.told refl k (λ so. turn_adds w _ _ so id after done), turn_steady s w id after done);
    clock = λ w rs now k onward most. grown w (record w { clock = now }) rs [] (PlainClock now ∷ []) refl k (λ so. clock_adds w _ _ so now onward most);
  }

  -- ---- what is usual to a recorder

  -- the lines are in order, where nothing so far is strange
  pub record IsSoToo (w : World) (rs : List Report) : Type 0 where
    pub so : So w rs
    pub in_order : NoneStrange no_notes rs → AreInOrder no_notes (entries rs)

  grown_order : (w x : World) (rs first : List Report) (told : List PlainEntry) → entries first ≡ [] → IsSoToo w rs
      → (IsSoOf w (noted_all no_notes (entries rs)) (seen_all nothing_seen (entries rs))
      → Adds x (noted_all no_notes (entries rs)) (seen_all nothing_seen (entries rs)) told)
      → NoneStrange no_notes (rs ++ (first ++ map Tells told)) → AreInOrder no_notes (entries (rs ++ (first ++ map Tells told)))
  grown_order w x rs first told none k one usual =
      let before = (usual-append no_notes rs (first ++ map Tells told) usual).0 in
      let order = k.in_order before in
      let a = one (k.so.so (usual_honest no_notes no_notes rs none_matched order before)) in
      subst (AreInOrder no_notes) (sym (entries_grown rs first told none)) (order-append no_notes (entries rs) told order a.in_order)

  pub order_in_course : (such : Arrival → Type 0) → IsKeptInCourse s such IsSoToo
  order_in_course such = record {
    call = λ w rs c after given k done.
        let next = (kept_in_course such).call w rs c after given k.so done in
        (record { so = next.0; in_order = grown_order w after.world rs [] after.told refl k (λ so. call_adds w _ _ so c after given done) }, next.1);
    recv = λ w rs id a after any k done.
        let next = (kept_in_course such).recv w rs id a after any k.so done in
        (record { so = next.0; in_order = grown_order w after.world rs [] after.told refl k (λ so. recv_adds w _ _ so id a after done) }, next.1);
    turn = λ w rs id after k done.
        let next = (kept_in_course such).turn w rs id after k.so done in
        (record { so = next.0; in_order = grown_order w after.world rs (Turning id ∷ []) after.told refl k (λ so. turn_adds w _ _ so id after done) }, next.1);
    clock = λ w rs now k onward most. record {
      so = (kept_in_course such).clock w rs now k.so onward most;
      in_order = grown_order w (record w { clock = now }) rs [] (PlainClock now ∷ []) refl k (λ so. clock_adds w _ _ so now onward most);
    };
  }

-- ---- whole runs

-- the first incarnations
pub may_begin : (places : List Place) → AllByRecursion IsPlace places → AllByRecursion (λ (inc : ℕ). (1 ≤ inc) × (inc ≤ 4294967295)) (map first_inc places)
may_begin [] all = tt
may_begin (Local inc port ∷ places) all = (all.0, may_begin places all.1)
may_begin (Remote port ∷ places) all = ((omega arith, omega arith), may_begin places all.1)

all_from : {X : Type 0} (P Q : X → Type 0) → ((x : X) → P x → Q x) → (xs : List X) → AllByRecursion P xs → AllByRecursion Q xs
all_from P Q f [] all = tt
all_from P Q f (x ∷ xs) all = (f x all.0, all_from P Q f xs all.1)

pub length-firsts : (places : List Place) → length (map first_inc places) ≡ length places
length-firsts [] = refl
length-firsts (p ∷ places) = ap suc (length-firsts places)

abbrev IsFirst : ℕ → Type 0
IsFirst inc = (1 ≤ inc) × (inc ≤ 4294967295)

may_open : (s : Settings) (incs : List ℕ) → IsValid s → length incs ≡ s.hosts → AllByRecursion IsFirst incs → IsOpening s incs 0 0
may_open s incs valid each all = record {
  valid = valid;
  hosts = each;
  from_one = all_from IsFirst (λ (inc : ℕ). 1 ≤ inc) (λ inc k. k.0) incs all;
  up_to_last = all_from IsFirst (λ (inc : ℕ). inc + (0 - length incs) ≤ 4294967295) (λ inc k. omega (arith, k.1)) incs all;
  tick = omega arith;
}

good_hosts : (s : Settings) (n : ℕ) (incs : List ℕ) → AllByRecursion IsFirst incs → (i : ℕ) (h : Host) → slice_get (new_hosts s n incs) i ≡ Some h
    → IsGoodHost h
good_hosts s n [] all i h at = absurd (let z : None ≡ Some h = at in cc)
good_hosts s n (inc ∷ incs) all zero h at =
    subst IsGoodHost (some_is (new_host s (record { 0 = n }) inc 0) h at) (new_good s (record { 0 = n }) inc 0 all.0.0 (omega (arith, all.0.1)))
good_hosts s n (inc ∷ incs) all (suc i) h at = good_hosts s (suc n) incs all.1 i h at

module _ (s : Settings) (valid : IsValid s) (incs : List ℕ) (each : length incs ≡ s.hosts) (all : AllByRecursion IsFirst incs) (answers : List Answer)
    (fair : AllByRecursion IsAnswer answers) where
  good_first : IsGoodWorld s (new_world s incs 0 0 answers)
  unfolding new_world
  good_first = record {
    hosts = λ id h at. good_hosts s 0 incs all id.0 h at;
    leads = λ id h at. lead_at (length incs) id.0 s.skew (omega (arith, within (new_hosts s 0 incs) id.0 h at, hosts_length s 0 incs));
    packets = tt;
    answers = fair;
    clock = omega arith;
  }

  noted_first : AreNoted s (noted no_notes (PlainSettings s)) (new_world s incs 0 0 answers).clock (new_world s incs 0 0 answers).packets
  unfolding new_world noted
  noted_first = record { tick = refl; settings = refl; kept = tt }

  pub clock_first : (new_world s incs 0 0 answers).clock ≡ 0
  unfolding new_world
  clock_first = refl

  pub so_first : IsSo s valid (new_world s incs 0 0 answers) (PlainSettings s ∷ [])
  so_first =
      let opening = may_open s incs valid each all in
      record {
        holds = λ honest. ((first_obeyed s incs 0 0 opening, refl), tt);
        so = λ honest. record { lawful = first_lawful s incs 0 0 answers opening; good = good_first; noted = noted_first };
      }

-- the end of a run is that of its course
end_of : (s : Settings) (course : Course) → (run_of s course).end ≡ (elim course as (λ _. Option End) [ GoesOn node ↦ None | Stops node e ↦ e ])
end_of s (GoesOn node) = refl
end_of s (Stops node end) = refl

pub end_is : (bytes : List ℕ) (setup : Setup) (calls : Calls) (answers : List Answer) (ticks : List ℕ) (receives : List Receive) (end : End)
    → opening most_bytes bytes ≡ Opened setup calls → AreTicks 0 ticks
    → (node_run bytes answers ticks receives).end ≡ Some end → IsEnd end
unfolding node_run
end_is bytes setup calls answers ticks receives end e rises is =
    let course = loop_turns setup 1 ticks (new_node setup calls answers receives) in
    let opened = opening_is most_bytes bytes setup calls e in
    may_end course (turns_end setup 1 0 ticks (new_node setup calls answers receives) rises (opened.refused, opened.numbered)) end
    (sym (ap (λ (o : Opening). (run_opened o answers ticks receives).end) e ∙ end_of setup.settings course) ∙ is)

last_entry : (end : End) → is_last (end_entry end) ≡ true
last_entry (Ended turns) = refl
last_entry (RefusedAt line fault) = refl
last_entry (StalledAt turns now) = refl

module _ (bytes : List ℕ) (setup : Setup) (calls : Calls) (answers : List Answer) (ticks : List ℕ) (receives : List Receive)
    (e : opening most_bytes bytes ≡ Opened setup calls) (fair : AllByRecursion IsAnswer answers) (rises : AreTicks 0 ticks) where
  abbrev run : Run
  run = node_run bytes answers ticks receives

  pub opened : IsScript most_bytes setup calls
  opened = opening_is most_bytes bytes setup calls e

  -- the node at the end of its run
  abbrev pub node : Node
  node = node_of (loop_turns setup 1 ticks (new_node setup calls answers receives))

  -- the world at its beginning
  abbrev pub beginning : World
  beginning = new_world setup.settings (map first_inc setup.places) 0 0 answers

  firsts : AllByRecursion IsFirst (map first_inc setup.places)
  firsts = may_begin setup.places opened.is.places

  each : length (map first_inc setup.places) ≡ setup.settings.hosts
  each = length-firsts setup.places ∙ opened.is.each

  pub begins_at : beginning.clock ≡ 0
  begins_at = clock_first setup.settings opened.is.valid (map first_inc setup.places) each firsts answers fair

  pub begins_so : IsSoToo setup.settings opened.is.valid beginning (Tells (PlainSettings setup.settings) ∷ [])
  begins_so = record { so = so_first setup.settings opened.is.valid (map first_inc setup.places) each firsts answers fair; in_order = λ usual. (refl, tt) }

  -- what is so of it at its end
  pub stands : IsSoToo setup.settings opened.is.valid node.world run.reports
  stands =
      let s = setup.settings in
      let valid = opened.is.valid in
      subst (IsSoToo s valid node.world) (sym (run_is bytes setup calls answers ticks receives e))
      (turns_all s AnyComes (IsSoToo s valid) (order_in_course s valid AnyComes) setup refl 1 0 ticks (new_node setup calls answers receives) rises
      (begins_at, begins_so, opened.given, any_comes receives))

  run_obeys : HoldsWhile Obeys no_notes nothing_seen (entries run.reports ++ last_line run.end)
  run_obeys =
      let s = setup.settings in
      let k = stands.so in
      let told : List PlainEntry = entries run.reports in
      while-append Obeys no_notes nothing_seen told (last_line run.end) (obeys_while no_notes nothing_seen told k.holds)
      (λ honest. by_end s node.world (noted_all no_notes told) (seen_all nothing_seen told) (k.so honest).lawful run.end refl) where
        by_end : (s : Settings) (w : World) (n : Notes) (v : View) → IsLawful s w v → (o : Option End) → run.end ≡ o → HoldsWhile Obeys n v (last_line o)
        by_end s w n v k None is = tt
        by_end s w n v k (Some end) is =
            λ honest. (
              obeys v (end_entry end) (end_cause end (end_is bytes setup calls answers ticks receives end e rises is))
                  (last_obeyed s w v (end_entry end) k (last_entry end)),
              tt,
            )

pub traces_obey : NodeTracesObey
traces_obey bytes setup calls answers ticks receives e fair rises n honest =
    first_hold Obeys no_notes nothing_seen (lines (node_run bytes answers ticks receives)) n
    (run_obeys bytes setup calls answers ticks receives e fair rises) honest

-- all lines, where the net is honest in all
pub all_obey : OfEveryRun (λ run. AreHonest no_notes (lines run) → Holds Obeys nothing_seen (lines run))
all_obey bytes setup calls answers ticks receives e fair rises honest =
    all_hold Obeys no_notes nothing_seen (lines (node_run bytes answers ticks receives))
    (run_obeys bytes setup calls answers ticks receives e fair rises) honest

pub none_broken : NoneIsBroken
none_broken bytes setup calls answers ticks receives e fair rises honest =
    (none_found (lines (node_run bytes answers ticks receives))).1 (all_obey bytes setup calls answers ticks receives e fair rises honest)

-- there is one at least, that of the settings
some_line : (es : List PlainEntry) → 0 < (seen_all nothing_seen es).place → 0 < length es
some_line [] l = l
some_line (e ∷ es) l = omega arith

pub some_lines : OfEveryRun (λ run. AreHonest no_notes (lines run) → 0 < length (lines run))
some_lines bytes setup calls answers ticks receives e fair rises honest =
    let run : Run = node_run bytes answers ticks receives in
    let told : List PlainEntry = entries run.reports in
    let front = (honest-append no_notes told (last_line run.end) honest).0 in
    let some : 0 < length told = some_line told ((stands bytes setup calls answers ticks receives e fair rises).so.so front).lawful.behind.first in
    let sum : length (told ++ last_line run.end) ≡ length told + length (last_line run.end) = length-append told (last_line run.end) in
    omega (arith, some, sum)

-- ---- what is usual to a recorder

last_honest : (n : Notes) (o : Option End) → AreHonest n (last_line o)
last_honest n None = tt
last_honest n (Some (Ended turns)) = (refl, tt)
last_honest n (Some (RefusedAt line fault)) = (refl, tt)
last_honest n (Some (StalledAt turns now)) = (refl, tt)

honest_both : (n : Notes) (a b : List PlainEntry) → AreHonest n a → AreHonest (noted_all n a) b → AreHonest n (a ++ b)
honest_both n [] b first second = second
honest_both n (line ∷ a) b first second = (first.0, honest_both (noted n line) a b first.1 second)

pub usual_is_honest : UsualIsHonest
usual_is_honest bytes setup calls answers ticks receives e fair rises usual =
    let run : Run = node_run bytes answers ticks receives in
    let order = (stands bytes setup calls answers ticks receives e fair rises).in_order usual in
    honest_both no_notes (entries run.reports) (last_line run.end) (usual_honest no_notes no_notes run.reports none_matched order usual)
    (last_honest (noted_all no_notes (entries run.reports)) run.end)
