-- Every part of a node's run keeps that the replay of its recording repeats it.
use Rattle.std.proofs.Common.{◌≡◌, ℕ, suc, zero, ◌+◌, ◌-◌, ◌≤◌, Bool, true, false, Option, None, Some, List, [], ◌∷◌, ◌++◌, length, map, replicate, refl, sym}
use Rattle.std.proofs.Common.{ap, ◌∙◌, subst, arith, ◌<◌, ◌*◌}
use Rattle.std.specs.Prelude.{is_some, if◌then◌else◌, slice_index_or, slice_get}
use Rattle.std.specs.List.{AllByRecursion}
use Rattle.std.proofs.lemmas.List.{append-nil, length-map}
use Rattle.homa_plain.specs.declared.id.HostId.{HostId}
use Rattle.homa_plain.specs.declared.settings.Settings.{Settings}
use Rattle.homa_plain.specs.declared.event.Event.TheVariants as event
use Rattle.homa_plain.specs.declared.fault.StartFault.{StartFault}
use Rattle.homa_plain.specs.declared.fault.WorldFault.TheVariants.{NoSuchHost, Start}
use Rattle.homa_plain.specs.Settings.{IsValid}
use Rattle.homa_plain.specs.Wire.{packet_in}
use Rattle.homa_plain.specs.Entries.{PlainEntry, PlainSettings, PlainClock, PlainRecv}
use Rattle.homa_plain.specs.Packets.{Packet}
use Rattle.homa_plain.specs.Host.{Host, new_host, entries_from}
use Rattle.homa_plain.specs.Rules.{Answer}
use Rattle.homa_plain.specs.Work.{Work}
use Rattle.homa_plain.specs.Steps.{start_fault, call_step, arrival_step, turn_step}
use Rattle.homa_plain.specs.World.{World, After, Refused, Done, outcome, host_at, own_clock, next_answer, stepped, started, calls_from, turns, arrives_at}
use Rattle.homa_plain.specs.World.{new_world, last_tick, new_hosts}
use Rattle.homa_plain.specs.Replay.{Happening, carried}
use Rattle.step_moves.specs.Worlds.{HasOwnName}
use Rattle.step_moves.proofs.Names.{hosts_new}
use Rattle.node_laws.proofs.Inner.{new_named}
use Rattle.node_runs.specs.Script.{Place, Local, Remote, Setup, Calls, Opening, Opened, opening}
use Rattle.node_runs.specs.Course.{AreTicks, Report, Tells, Turning, Arrival, Receive, IsReceived, Node, Course, GoesOn, Stops, packet_from, arrival_outcome}
use Rattle.node_runs.specs.Course.{loop_turns, first_inc, new_node, run_of, run_opened, node_run}
use Rattle.node_runs.specs.Recorder.{Notes, no_notes, clocks, kept}
use Rattle.node_runs.specs.Texts.{entries}
use Rattle.node_runs.specs.Replayed.{recorded_events, NoneStrange, of_hosts, IsHere, IsAnswer, RepeatsBy, RecordingsRepeat, BeginsWith, SettingsFirst}
use Rattle.node_runs.specs.Replayed.{AreRecorded, EventsFit}
use Rattle.node_laws.proofs.OfNode.{node_of}
use Rattle.node_laws.proofs.Opening.{IsCallGiven, opening_is}
use Rattle.node_laws.proofs.Courses.{AreSuch, AnyComes, any_comes, IsKeptInCourse, turns_all}
use Rattle.node_laws.proofs.Good.{IsGoodHost}
use Rattle.node_laws.proofs.GoodSteps.{new_good}
use Rattle.step_moves.proofs.Hosts.{within, some_is}
use Rattle.homa_plain.specs.Script.{most_bytes}
use Rattle.node_laws.proofs.Carried.{respared, IsRun, run_none, run_clocks, clock_lines}
use Rattle.node_laws.proofs.Noted.{kept_all, usual-append, events_first, events_none, usual_first, AreNotes, clock_notes}
use Rattle.node_laws.proofs.Behind.{done_is, IsGoodWorld}
use Rattle.node_laws.proofs.Repeated.{all_later, IsRepeated, IsAdded, goes_on, turn_added, call_added, recv_added}

-- ---- no step moves the clock

abbrev pub IsSteady : World → After → Type 0
IsSteady w after = after.world.clock ≡ w.clock

module _ (s : Settings) (w : World) where
  stepped_steady : (id : HostId) (first : List PlainEntry) (step : Work) (after : After) → stepped w id first step ≡ Done after → IsSteady w after
  stepped_steady id first step after is = subst (IsSteady w) (done_is _ after is) refl

  pub call_steady : (client server : HostId) (service : ℕ) (request : List ℕ) (after : After)
      → outcome s w (event.Call client server service) request ≡ Done after → IsSteady w after
  unfolding outcome
  call_steady client server service request after is = by_server (is_some (host_at w server)) is where
    by_fault : (h : Host) (o : Option StartFault) → started s w client server service request h o ≡ Done after → IsSteady w after
    by_fault h (Some fault) e = absurd (let z : Refused (Start fault) ≡ Done after = e in cc)
    by_fault h None e = stepped_steady client [] (call_step s h (own_clock w client) server service request) after e

    by_client : (o : Option Host) → calls_from s w client server service request o ≡ Done after → IsSteady w after
    by_client None e = absurd (let z : Refused NoSuchHost ≡ Done after = e in cc)
    by_client (Some h) e = by_fault h (start_fault s h server request) e

    by_server : (t : Bool) → (if t then calls_from s w client server service request (host_at w client) else Refused NoSuchHost) ≡ Done after → IsSteady w after
    by_server true e = by_client (host_at w client) e
    by_server false e = absurd (let z : Refused NoSuchHost ≡ Done after = e in cc)

  pub turn_steady : (id : HostId) (after : After) → outcome s w (event.Turn id) [] ≡ Done after → IsSteady w after
  unfolding outcome
  turn_steady id after is = by_host (host_at w id) is where
    by_host : (o : Option Host) → turns s w id o ≡ Done after → IsSteady w after
    by_host None e = absurd (let z : Refused NoSuchHost ≡ Done after = e in cc)
    by_host (Some h) e = stepped_steady id [] (turn_step s h (own_clock w id)) after e

  -- an arrival's first line too
  pub recv_steady : (id : HostId) (a : Arrival) (after : After) → arrival_outcome s w id a ≡ Done after
      → IsSteady w after × ((es : List PlainEntry) × (after.told ≡ PlainRecv id a.from a.bytes ∷ es))
  recv_steady id a after is = by_host (host_at w id) is where
    packet : Option Packet
    packet = packet_from a.from id (packet_in s.wire a.bytes)

    by_host : (o : Option Host) → arrives_at s w id (PlainRecv id a.from a.bytes ∷ []) packet o ≡ Done after
        → IsSteady w after × ((es : List PlainEntry) × (after.told ≡ PlainRecv id a.from a.bytes ∷ es))
    by_host None e = absurd (let z : Refused NoSuchHost ≡ Done after = e in cc)
    by_host (Some h) e =
        let step = arrival_step s h (own_clock w id) packet (next_answer w.answers) in (
          stepped_steady id (PlainRecv id a.from a.bytes ∷ []) step after e,
          subst
              (λ (x : After). (es : List PlainEntry) × (x.told ≡ PlainRecv id a.from a.bytes ∷ es)) (done_is _ after e)
              (entries_from (length w.packets) step.told, refl),
        )

-- ---- the course of a run

module _ (s : Settings) (valid : IsValid s) (k : ℕ) (v : World) (such : Arrival → Type 0) where
  -- where nothing is strange, the replay repeats it
  abbrev pub Repeats : World → List Report → Type 0
  Repeats w reports = NoneStrange no_notes reports → IsRepeated s k v such w reports

  -- an event
  went : (w : World) (reports first : List Report) (after : After) → Repeats w reports
      → (IsRepeated s k v such w reports → NoneStrange (kept_all no_notes reports) (first ++ map Tells after.told)
      → IsAdded s k v such (kept_all no_notes reports) w after.world (first ++ map Tells after.told))
      → Repeats after.world (reports ++ (first ++ map Tells after.told))
  went w reports first after h one usual =
      let parts = usual-append no_notes reports (first ++ map Tells after.told) usual in
      let j = h parts.0 in
      goes_on s k v such w after.world reports (first ++ map Tells after.told) j (one j parts.1)

  -- ---- the clock

  clock_aside : (from n : ℕ) → of_hosts (clock_lines s from n) ≡ []
  clock_aside from zero = refl
  clock_aside from (suc n) = clock_aside (from + 1) n

  clocks_fit : (packets n : ℕ) → AreRecorded packets (clocks n)
  clocks_fit packets zero = tt
  clocks_fit packets (suc n) = (refl, clocks_fit packets n)

  clock_added : (n : Notes) (w : World) (now : ℕ) → ((id : HostId) (h : Host) → host_at w id ≡ Some h → HasOwnName id h) → IsGoodWorld s w
      → AreNotes s n w.clock w.packets → w.clock ≤ now → now ≤ last_tick → IsAdded s k v such n w (record w { clock = now }) (Tells (PlainClock now) ∷ [])
  clock_added n w now names good notes onward most =
      let behind : now - n.tick ≡ now - w.clock = ap (λ (t : ℕ). now - t) notes.tick in
      let there : w.clock + (now - w.clock) ≡ now = omega (arith, onward) in
      let is : recorded_events n (Tells (PlainClock now) ∷ []) ≡ clocks (now - w.clock) =
      events_first n (Tells (PlainClock now)) [] ∙ ap (λ (es : List Happening). clocks (now - n.tick) ++ es) (events_none (kept n (Tells (PlainClock now))))
      ∙ append-nil (clocks (now - n.tick)) ∙ ap clocks behind in
      record {
        names = names;
        good = record { hosts = good.hosts; leads = good.leads; packets = good.packets; answers = good.answers; clock = most };
        lines = clock_lines s w.clock (now - w.clock);
        run = subst (λ (es : List Happening). IsRun s (respared k w) es (respared k (record w { clock = now })) (clock_lines s w.clock (now - w.clock)))
            (sym is)
            (subst (λ (c : ℕ). IsRun s (respared k w) (clocks (now - w.clock)) (respared k (record w { clock = c })) (clock_lines s w.clock (now - w.clock)))
            there
            (run_clocks s (now - w.clock) (respared k w) (omega (arith, there, most))));
        told = clock_aside w.clock (now - w.clock);
        notes = clock_notes s n w.clock now w.packets onward notes;
        only = (refl, tt);
        count = refl;
        onward = omega arith;
        few = omega arith;
        fit = λ fits. subst (AreRecorded (length w.packets)) (sym is) (clocks_fit (length w.packets) (now - w.clock));
      }

  pub repeats_in_course : IsKeptInCourse s such Repeats
  repeats_in_course = record {
    call = λ w reports c after given h done. (
      went w reports [] after h
          (λ j usual. call_added s k v such
          (kept_all no_notes reports) w j.names j.notes valid j.good j.count c.client c.server c.service c.bytes after given.0 given.1 done),
      call_steady s w c.client c.server c.service c.bytes after done,
    );
    recv = λ w reports id a after it_is h done.
        let g = recv_steady s w id a after done in (
          went w reports [] after h (λ j usual.
              recv_added s k v such (kept_all no_notes reports) w j.names j.notes valid j.good j.count id a after it_is
              (usual_first (kept_all no_notes reports) (Tells (PlainRecv id a.from a.bytes)) (map Tells g.1.0)
              (subst (λ (es : List PlainEntry). NoneStrange (kept_all no_notes reports) (map Tells es)) g.1.1 usual)) done),
          g.0,
        );
    turn = λ w reports id after h done. (
      went w reports (Turning id ∷ []) after h
          (λ j usual. turn_added s k v such (kept_all no_notes reports) w j.names j.notes valid j.good j.count id after done),
      turn_steady s w id after done,
    );
    clock = λ w reports now h onward most usual.
        let parts = usual-append no_notes reports (Tells (PlainClock now) ∷ []) usual in
        let j = h parts.0 in
        goes_on s k v such w (record w { clock = now }) reports (Tells (PlainClock now) ∷ []) j
        (clock_added (kept_all no_notes reports) w now j.names j.good j.notes onward most);
  }

-- ---- whole runs

first_incs : (places : List Place) → AllByRecursion IsHere places → map first_inc places ≡ replicate (length places) 1
first_incs [] here = refl
first_incs (Local inc port ∷ places) here = (λ i. here.0 i ∷ first_incs places here.1 i)
first_incs (Remote port ∷ places) here = absurd here.0

pub record IsHereAll (setup : Setup) : Type 0 where
  pub valid : IsValid setup.settings
  pub each : length setup.places ≡ setup.settings.hosts
  pub here : AllByRecursion IsHere setup.places

-- a world just opened, at tick 0
good_hosts : (s : Settings) (n : ℕ) (incs : List ℕ) → AllByRecursion (λ (inc : ℕ). inc ≡ 1) incs → (i : ℕ) (h : Host)
    → slice_get (new_hosts s n incs) i ≡ Some h → IsGoodHost h
good_hosts s n [] ones i h at = absurd (let z : None ≡ Some h = at in cc)
good_hosts s n (inc ∷ incs) ones zero h at =
    subst IsGoodHost (some_is (new_host s (record { 0 = n }) inc 0) h at)
    (new_good s (record { 0 = n }) inc 0 (omega (arith, ones.0)) (omega (arith, ones.0)))
good_hosts s n (inc ∷ incs) ones (suc i) h at = good_hosts s (suc n) incs ones.1 i h at

pub hosts_length : (s : Settings) (n : ℕ) (incs : List ℕ) → length (new_hosts s n incs) ≡ length incs
hosts_length s n [] = refl
hosts_length s n (inc ∷ incs) = ap suc (hosts_length s (suc n) incs)

pub lead_at : (n i x : ℕ) → i < n → slice_index_or (replicate n x) i 0 ≡ x
lead_at zero i x l = absurd (omega (arith, l))
lead_at (suc n) zero x l = refl
lead_at (suc n) (suc i) x l = lead_at n i x (omega (arith, l))

module _ (s : Settings) (incs : List ℕ) (boxes : ℕ) (answers : List Answer) where
  names_first : (id : HostId) (h : Host) → host_at (new_world s incs 0 0 answers) id ≡ Some h → HasOwnName id h
  unfolding new_world
  names_first id h at =
      let n = hosts_new s 0 incs id.0 h at in
      let number : 0 + id.0 ≡ id.0 = omega arith in
      let it : h ≡ new_host s id n.inc 0 = n.is ∙ ap (λ (m : ℕ). let i : HostId = record { 0 = m } in new_host s i n.inc 0) number in
      subst (HasOwnName id) (sym it) (new_named s id n.inc 0)

  good_first : AllByRecursion (λ (inc : ℕ). inc ≡ 1) incs → AllByRecursion IsAnswer answers → IsGoodWorld s (new_world s incs 0 0 answers)
  unfolding new_world
  good_first ones fair = record {
    hosts = λ id h at. good_hosts s 0 incs ones id.0 h at;
    leads = λ id h at. lead_at (length incs) id.0 s.skew (omega (arith, within (new_hosts s 0 incs) id.0 h at, hosts_length s 0 incs));
    packets = tt;
    answers = fair;
    clock = omega arith;
  }

  run_first : IsRun s (new_world s incs 0 boxes answers) [] (respared (boxes - length incs) (new_world s incs 0 0 answers)) []
  unfolding new_world
  run_first = run_none s (new_world s incs 0 boxes answers)

  notes_first : AreNotes s (kept no_notes (Tells (PlainSettings s))) (new_world s incs 0 0 answers).clock (new_world s incs 0 0 answers).packets
  unfolding new_world kept
  notes_first = record { tick = refl; settings = refl; kept = tt }

  few_first : length incs ≤ 32 → length (new_world s incs 0 0 answers).hosts ≤ 32
  unfolding new_world
  few_first few = omega (arith, few, hosts_length s 0 incs)

  none_sent : (new_world s incs 0 0 answers).packets ≡ []
  unfolding new_world
  none_sent = refl

  none_told : recorded_events no_notes (Tells (PlainSettings s) ∷ []) ≡ []
  none_told = events_first no_notes (Tells (PlainSettings s)) [] ∙ events_none (kept no_notes (Tells (PlainSettings s)))

  first_repeats : (such : Arrival → Type 0) → AllByRecursion (λ (inc : ℕ). inc ≡ 1) incs → length incs ≤ 32 → AllByRecursion IsAnswer answers
      → IsRepeated s (boxes - length incs) (new_world s incs 0 boxes answers) such (new_world s incs 0 0 answers) (Tells (PlainSettings s) ∷ [])
  first_repeats such ones few fair = record {
    names = names_first;
    good = good_first ones fair;
    lines = [];
    run = subst (λ (es : List Happening). IsRun s (new_world s incs 0 boxes answers) es (respared (boxes - length incs) (new_world s incs 0 0 answers)) [])
        (sym none_told) run_first;
    told = refl;
    notes = notes_first;
    begins = record { later = []; first = refl; only = tt };
    count = few_first few;
    few = omega (arith, ap length none_sent);
    fit = λ fits. subst (AreRecorded (length (new_world s incs 0 0 answers).packets)) (sym none_told) tt;
  }

  clock_first : (new_world s incs 0 0 answers).clock ≡ 0
  unfolding new_world
  clock_first = refl

all_one : (places : List Place) → AllByRecursion IsHere places → AllByRecursion (λ (inc : ℕ). inc ≡ 1) (map first_inc places)
all_one [] here = tt
all_one (Local inc port ∷ places) here = (here.0, all_one places here.1)
all_one (Remote port ∷ places) here = absurd here.0

-- what is so at the end of a run whose datagrams are such
module _ (such : Arrival → Type 0) (setup : Setup) (calls : Calls) (answers : List Answer) (ticks : List ℕ) (receives : List Receive) (boxes : ℕ) where
  abbrev s : Settings
  s = setup.settings

  abbrev incs : List ℕ
  incs = map first_inc setup.places

  abbrev pub last_node : Node
  last_node = node_of (loop_turns setup 1 ticks (new_node setup calls answers receives))

  run_stands : IsHereAll setup → AllByRecursion IsCallGiven calls.calls → AllByRecursion IsAnswer answers → AreTicks 0 ticks → AreSuch such receives
      → NoneStrange no_notes last_node.reports
      → IsRepeated s (boxes - length incs) (new_world s incs 0 boxes answers) such last_node.world last_node.reports
  run_stands here given fair rises fits usual =
      let few : length incs ≤ 32 = omega (arith, length-map setup.places first_inc, here.each, here.valid.in_range.1) in
      let first = first_repeats s incs boxes answers such (all_one setup.places here.here) few fair in
      let world : World = new_world s incs 0 boxes answers in
      turns_all s such (Repeats s here.valid (boxes - length incs) world such)
      (repeats_in_course s here.valid (boxes - length incs) world such) setup refl 1 0 ticks (new_node setup calls answers receives) rises
      (clock_first s incs boxes answers, (λ u. first), given, fits) usual

-- the replay of what a recorder tells of a run
pub run_repeats : (setup : Setup) (calls : Calls) (answers : List Answer) (ticks : List ℕ) (receives : List Receive) (boxes : ℕ) → IsHereAll setup
    → AllByRecursion IsCallGiven calls.calls → AllByRecursion IsAnswer answers → AreTicks 0 ticks
    → let s = setup.settings in
    let node = node_of (loop_turns setup 1 ticks (new_node setup calls answers receives)) in
    NoneStrange no_notes node.reports → RepeatsBy (carried s (new_world s (replicate s.hosts 1) 0 boxes answers) (recorded_events no_notes node.reports)) s
    (entries node.reports)
run_repeats setup calls answers ticks receives boxes here given fair rises usual =
    let s = setup.settings in
    let node = node_of (loop_turns setup 1 ticks (new_node setup calls answers receives)) in
    let same : map first_inc setup.places ≡ replicate s.hosts 1 = first_incs setup.places here.here ∙ ap (λ (n : ℕ). replicate n 1) here.each in
    let j = run_stands AnyComes setup calls answers ticks receives boxes here given fair rises (any_comes receives) usual in
    subst (λ (l : List ℕ). RepeatsBy (carried s (new_world s l 0 boxes answers) (recorded_events no_notes node.reports)) s (entries node.reports)) same
    (j.run.fault, ap (λ (l : List PlainEntry). of_hosts (PlainSettings s ∷ l)) j.run.told ∙ j.told)

-- the reports of a run are those of its node
pub reports_of : (s : Settings) (course : Course) → (run_of s course).reports ≡ (node_of course).reports
reports_of s (GoesOn node) = refl
reports_of s (Stops node end) = refl

pub run_is : (bytes : List ℕ) (setup : Setup) (calls : Calls) (answers : List Answer) (ticks : List ℕ) (receives : List Receive)
    → opening most_bytes bytes ≡ Opened setup calls
    → (node_run bytes answers ticks receives).reports ≡ (node_of (loop_turns setup 1 ticks (new_node setup calls answers receives))).reports
unfolding node_run
run_is bytes setup calls answers ticks receives e =
    ap (λ (o : Opening). (run_opened o answers ticks receives).reports) e
    ∙ reports_of setup.settings (loop_turns setup 1 ticks (new_node setup calls answers receives))

pub recordings_repeat : RecordingsRepeat
recordings_repeat bytes setup calls answers ticks receives boxes e here fair rises usual =
    let s = setup.settings in
    let is = run_is bytes setup calls answers ticks receives e in
    let opened = opening_is most_bytes bytes setup calls e in
    subst (λ (rs : List Report). RepeatsBy (carried s (new_world s (replicate s.hosts 1) 0 boxes answers) (recorded_events no_notes rs)) s (entries rs))
    (sym is)
    (run_repeats setup calls answers ticks receives boxes (record { valid = opened.is.valid; each = opened.is.each; here = here }) opened.given fair rises
    (subst (NoneStrange no_notes) is usual))

pub settings_first : SettingsFirst
settings_first bytes setup calls answers ticks receives e here fair rises usual =
    let is = run_is bytes setup calls answers ticks receives e in
    let opened = opening_is most_bytes bytes setup calls e in
    let all : IsHereAll setup = record { valid = opened.is.valid; each = opened.is.each; here = here } in
    subst (BeginsWith setup.settings) (sym is)
    (run_stands AnyComes setup calls answers ticks receives 0 all opened.given fair rises (any_comes receives) (subst (NoneStrange no_notes) is usual)).begins

pub events_fit : EventsFit
events_fit bytes setup calls answers ticks receives e here fair rises fits usual =
    let is = run_is bytes setup calls answers ticks receives e in
    let opened = opening_is most_bytes bytes setup calls e in
    let all : IsHereAll setup = record { valid = opened.is.valid; each = opened.is.each; here = here } in
    let node = last_node IsReceived setup calls answers ticks receives 0 in
    let j = run_stands IsReceived setup calls answers ticks receives 0 all opened.given fair rises fits (subst (NoneStrange no_notes) is usual) in
    subst (λ (rs : List Report). AreRecorded (64 * length (recorded_events no_notes rs)) (recorded_events no_notes rs)) (sym is)
    (all_later (length node.world.packets) (64 * length (recorded_events no_notes node.reports)) (recorded_events no_notes node.reports) j.few
    (j.fit (λ a k. k)))
