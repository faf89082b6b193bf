-- What a part of a node's run adds to what the replay of its recording has carried out.
use Rattle.std.proofs.Common.{◌≡◌, ℕ, suc, zero, ◌+◌, ◌≤◌, Bool, true, false, Option, None, Some, List, [], ◌∷◌, ◌++◌, length, map, refl, sym, ap, ◌∙◌, subst}
use Rattle.std.proofs.Common.{arith, ◌<◌, ◌*◌, length-append}
use Rattle.std.specs.Prelude.{is_some, if◌then◌else◌, slice_get, slice_set, ◌==◌, ◌&&◌, nat_lt}
use Rattle.std.specs.List.{AllByRecursion}
use Rattle.std.specs.Option.{IfSome}
use Rattle.std.proofs.lemmas.List.{length-set, length-map}
use Rattle.std.proofs.lemmas.Bool.{ltb-true, true≢false}
use Rattle.homa_plain.specs.declared.id.CallId.{CallId}
use Rattle.homa_plain.specs.declared.id.HostId.{HostId}
use Rattle.homa_plain.specs.declared.packet.Packet.{Packet as WirePacket}
use Rattle.homa_plain.specs.declared.settings.Settings.{Settings}
use Rattle.homa_plain.specs.declared.event.Event.{Event}
use Rattle.homa_plain.specs.declared.event.Event.TheVariants as event
use Rattle.homa_plain.specs.declared.fault.StartFault.{StartFault}
use Rattle.homa_plain.specs.declared.fault.WorldFault.TheVariants.{NoSuchHost, Start}
use Rattle.homa_plain.specs.Wire.{packet_in}
use Rattle.homa_plain.specs.Entries.{PlainEntry, PlainSettings, PlainCall, PlainRecv, PlainDeliver, PlainInject}
use Rattle.homa_plain.specs.Packets.{Packet, sender, wire_packet, packet_between}
use Rattle.homa_plain.specs.Host.{Host, Told, Says, Sends, packets_in, entries_from}
use Rattle.homa_plain.specs.Work.{Work}
use Rattle.homa_plain.specs.Steps.{start_fault, next_id, call_step, arrival_step, turn_step}
use Rattle.homa_plain.specs.World.{World, SentPacket, After, Refused, Done, outcome, host_at, own_clock, next_answer, answers_left, stamped, started}
use Rattle.homa_plain.specs.World.{calls_from, turns, arrives_at}
use Rattle.homa_plain.specs.Replay.{Happening, bare}
use Rattle.step_moves.proofs.Hosts.{there, within, some_is}
use Rattle.homa_plain.specs.Bytes.{IsBytes}
use Rattle.homa_plain.specs.Settings.{IsValid}
use Rattle.step_laws.proofs.Places.{all-append}
use Rattle.world_laws.specs.Sound.{IsSent}
use Rattle.node_laws.proofs.GoodSteps.{can_start, call_good, arrival_good, turn_good}
use Rattle.step_laws.proofs.Bounds.{call-bounded, arrival-bounded, turn-bounded}
use Rattle.step_moves.specs.Worlds.{HasOwnName}
use Rattle.step_moves.proofs.Inner.{AllInner, IsSaid}
use Rattle.world_laws.proofs.Sent.{read, between}
use Rattle.node_runs.specs.Course.{Report, Tells, Turning, Arrival, IsReceived, packet_from, arrival_outcome}
use Rattle.node_runs.specs.Recorder.{Notes, no_notes, Kind, Sent, Junk, Strange, kind_of, kind_in, kind_events, is_strange, strange, events, kept}
use Rattle.node_runs.specs.Texts.{entries}
use Rattle.node_runs.specs.Replayed.{recorded_events, is_of_host, of_hosts, is_settings, NoSettings, BeginsWith, IsRecorded, AreRecorded}
use Rattle.node_laws.proofs.OfNode.{IsOfNode}
use Rattle.node_laws.proofs.Behind.{all_second, done_is, IsGoodWorld, next_is_answer, receiver_is, behind, stepped_behind, each_behind, in_time, good_behind}
use Rattle.node_laws.proofs.Inner.{call_inside, arrival_inside, turn_inside}
use Rattle.node_laws.proofs.Carried.{respared, respare, call_respared, turn_respared, deliver_is, inject_is, IsRun, run_one, run_more}
use Rattle.node_laws.proofs.Noted.{kept_all, kept-append, events-append, events_first, inner_no_event, AreNotes, inner_notes, found_sent, found_junk}
use Rattle.node_laws.proofs.Noted.{found_some}

-- ---- lists of entries

pub entries-append : (a b : List Report) → entries (a ++ b) ≡ entries a ++ entries b
entries-append [] b = refl
entries-append (Tells e ∷ a) b = ap (λ (es : List PlainEntry). e ∷ es) (entries-append a b)
entries-append (Turning host ∷ a) b = entries-append a b

pub entries-told : (es : List PlainEntry) → entries (map Tells es) ≡ es
entries-told [] = refl
entries-told (e ∷ es) = ap (λ (l : List PlainEntry). e ∷ l) (entries-told es)

pub hosts-append : (a b : List PlainEntry) → of_hosts (a ++ b) ≡ of_hosts a ++ of_hosts b
hosts-append [] b = refl
hosts-append (e ∷ a) b = by_test (is_of_host e) (hosts-append a b) where
  by_test : (t : Bool) → of_hosts (a ++ b) ≡ of_hosts a ++ of_hosts b
      → (if t then e ∷ of_hosts (a ++ b) else of_hosts (a ++ b)) ≡ (if t then e ∷ of_hosts a else of_hosts a) ++ of_hosts b
  by_test true h = ap (λ (l : List PlainEntry). e ∷ l) h
  by_test false h = h

-- ---- where settings are told

only-append : (a b : List Report) → NoSettings a → NoSettings b → NoSettings (a ++ b)
only-append [] b x y = y
only-append (r ∷ a) b x y = (x.0, only-append a b x.1 y)

begins_more : (s : Settings) (reports added : List Report) → BeginsWith s reports → NoSettings added → BeginsWith s (reports ++ added)
begins_more s reports added k only = record {
  later = k.later ++ added;
  first = ap (λ (rs : List Report). rs ++ added) k.first;
  only = only-append k.later added k.only only;
}

said_not : (e : PlainEntry) → IsSaid e → is_settings (Tells e) ≡ false
said_not (PlainSettings settings) said = absurd said
said_not e said = refl

-- not within a step
only_inner : (k : ℕ) (told : List Told) → AllInner told → NoSettings (map Tells (entries_from k told))
only_inner k [] inner = tt
only_inner k (Says e ∷ told) inner = (said_not e inner.0, only_inner k told inner.1)
only_inner k (Sends p ∷ told) inner = (refl, only_inner (suc k) told inner)

-- ---- numbers of events

-- such datagrams are ones that a net may hand up
abbrev pub AreFit : (Arrival → Type 0) → Type 0
AreFit such = (a : Arrival) → such a → IsReceived a

fit_later : (m n : ℕ) (e : Event) (bytes : List ℕ) → m ≤ n → IsRecorded m e bytes → IsRecorded n e bytes
fit_later m n (event.Call client server service) bytes l k = k
fit_later m n (event.Deliver number) bytes l k = (omega (arith, k.0, l), k.1)
fit_later m n event.Clock bytes l k = k
fit_later m n (event.Turn host) bytes l k = k
fit_later m n (event.Inject host) bytes l k = k
fit_later m n (event.Restart host) bytes l k = k
fit_later m n (event.Shift host lead) bytes l k = k

pub all_later : (m n : ℕ) (es : List Happening) → m ≤ n → AreRecorded m es → AreRecorded n es
all_later m n [] l k = tt
all_later m n (e ∷ es) l k = (fit_later m n e.event e.bytes l k.0, all_later m n es l k.1)

there_by : {A : Type 0} (xs : List A) (i : ℕ) → is_some (slice_get xs i) ≡ true → i < length xs
there_by [] i e = absurd (true≢false (sym e))
there_by (x ∷ xs) zero e = omega arith
there_by (x ∷ xs) (suc i) e = omega (arith, there_by xs i e)

-- ---- what is so between two parts

module _ (s : Settings) (k : ℕ) (v : World) (such : Arrival → Type 0) where
  -- the replay of what these reports recorded has come to this world, with other spare boxes, and told the same of its hosts
  pub record IsRepeated (w : World) (reports : List Report) : Type 0 where
    pub names : (id : HostId) (h : Host) → host_at w id ≡ Some h → HasOwnName id h
    pub good : IsGoodWorld s w
    pub lines : List PlainEntry
    pub run : IsRun s v (recorded_events no_notes reports) (respared k w) lines
    pub told : of_hosts (PlainSettings s ∷ lines) ≡ of_hosts (entries reports)
    pub notes : AreNotes s (kept_all no_notes reports) w.clock w.packets
    pub begins : BeginsWith s reports
    pub count : length w.hosts ≤ 32
    pub few : length w.packets ≤ 64 * length (recorded_events no_notes reports)
    pub fit : AreFit such → AreRecorded (length w.packets) (recorded_events no_notes reports)

  -- what some reports add, from a world to another one
  pub record IsAdded (n : Notes) (w x : World) (added : List Report) : Type 0 where
    pub names : (id : HostId) (h : Host) → host_at x id ≡ Some h → HasOwnName id h
    pub good : IsGoodWorld s x
    pub lines : List PlainEntry
    pub run : IsRun s (respared k w) (recorded_events n added) (respared k x) lines
    pub told : of_hosts lines ≡ of_hosts (entries added)
    pub notes : AreNotes s (kept_all n added) x.clock x.packets
    pub only : NoSettings added
    pub count : length x.hosts ≡ length w.hosts
    pub onward : length w.packets ≤ length x.packets
    pub few : length x.packets ≤ length w.packets + 64 * length (recorded_events n added)
    pub fit : AreFit such → AreRecorded (length x.packets) (recorded_events n added)

  pub goes_on : (w x : World) (reports added : List Report) → IsRepeated w reports → IsAdded (kept_all no_notes reports) w x added
      → IsRepeated x (reports ++ added)
  goes_on w x reports added j a = record {
    names = a.names;
    good = a.good;
    lines = j.lines ++ a.lines;
    run = subst (λ (es : List Happening). IsRun s v es (respared k x) (j.lines ++ a.lines)) (sym (events-append no_notes reports added))
        (run_more s v (respared k w) (respared k x) (recorded_events no_notes reports)
        (recorded_events (kept_all no_notes reports) added) j.lines a.lines j.run a.run);
    told = hosts-append (PlainSettings s ∷ j.lines) a.lines
        ∙ ap (λ (l : List PlainEntry). l ++ of_hosts a.lines) j.told ∙ ap (λ (l : List PlainEntry). of_hosts (entries reports) ++ l) a.told
        ∙ sym (hosts-append (entries reports) (entries added)) ∙ ap of_hosts (sym (entries-append reports added));
    notes = subst (λ (m : Notes). AreNotes s m x.clock x.packets) (sym (kept-append no_notes reports added)) a.notes;
    begins = begins_more s reports added j.begins a.only;
    count = omega (arith, j.count, a.count);
    few =
        let both : length (recorded_events no_notes (reports ++ added))
        ≡ length (recorded_events no_notes reports) + length (recorded_events (kept_all no_notes reports) added) =
        ap length (events-append no_notes reports added)
        ∙ length-append (recorded_events no_notes reports) (recorded_events (kept_all no_notes reports) added) in
        omega (arith, both, j.few, a.few);
    fit = λ fits. subst (AreRecorded (length x.packets)) (sym (events-append no_notes reports added))
        (all-append (λ (e : Happening). IsRecorded (length x.packets) e.event e.bytes) (recorded_events no_notes reports)
        (recorded_events (kept_all no_notes reports) added)
        (all_later (length w.packets) (length x.packets) (recorded_events no_notes reports) a.onward (j.fit fits)) (a.fit fits));
  }

  -- ---- the steps of hosts

  module _ (n : Notes) (w : World) (names : (id : HostId) (h : Host) → host_at w id ≡ Some h → HasOwnName id h) (notes : AreNotes s n w.clock w.packets)
      (valid : IsValid s) (good : IsGoodWorld s w) (count : length w.hosts ≤ 32) where
    names_behind : (id : HostId) (step : Work) (after : After) (h : Host) → host_at w id ≡ Some h → HasOwnName id step.host → behind w id step after
        → (q : HostId) (g : Host) → host_at after.world q ≡ Some g → HasOwnName q g
    names_behind id step after h at name b = each_behind w HasOwnName names id step after h at name b

    -- its packets and its lines
    notes_behind : (id : HostId) (step : Work) (after : After) (m : Notes) (told : List Told) → packets_in step.told ≡ packets_in told → AllInner told
        → behind w id step after → AllByRecursion (IsOfNode s) after.world.packets → AreNotes s m w.clock w.packets
        → AreNotes s (kept_all m (map Tells (entries_from (length w.packets) told))) after.world.clock after.world.packets
    notes_behind id step after m told same inner b all a =
        let packets : after.world.packets ≡ w.packets ++ stamped w.clock (packets_in told) =
        b.1 ∙ ap (λ (ps : List Packet). w.packets ++ stamped w.clock ps) same in
        subst (λ (c : ℕ). AreNotes s (kept_all m (map Tells (entries_from (length w.packets) told))) c after.world.packets) (sym b.2)
        (subst (AreNotes s (kept_all m (map Tells (entries_from (length w.packets) told))) w.clock) (sym packets)
        (inner_notes s m w.clock w.packets (length w.packets) told refl inner
        (all_second (IsOfNode s) w.packets (stamped w.clock (packets_in told)) (subst (AllByRecursion (IsOfNode s)) packets all)) a))

    -- what stays of the notes
    turning_keeps : (id : HostId) → kept n (Turning id) ≡ n
    unfolding kept
    turning_keeps id = refl

    call_keeps : (q : CallId) (server : HostId) (service : ℕ) (bytes : List ℕ) → kept n (Tells (PlainCall q server service bytes)) ≡ n
    unfolding kept
    call_keeps q server service bytes = refl

    recv_keeps : (id from : HostId) (bytes : List ℕ) → kept n (Tells (PlainRecv id from bytes)) ≡ n
    unfolding kept
    recv_keeps id from bytes = refl

    -- one report that stands for an event, and lines within a step behind it
    abbrev numbered : List Told → List Report
    numbered told = map Tells (entries_from (length w.packets) told)

    one_event : (r : Report) (e : Happening) (told : List Told) → AllInner told → events n r ≡ e ∷ [] → recorded_events n (r ∷ numbered told) ≡ e ∷ []
    one_event r e told inner is =
        events_first n r (numbered told) ∙ ap (λ (es : List Happening). es ++ recorded_events (kept n r) (numbered told)) is
        ∙ ap (λ (es : List Happening). e ∷ es) (inner_no_event (kept n r) (length w.packets) told inner)

    -- such reports are added, where the replay carries the event out
    added : (id : HostId) (h : Host) (step : Work) (after : After) (r : Report) (e : Happening) (first : List PlainEntry) (told : List Told)
        → host_at w id ≡ Some h → HasOwnName id step.host → behind w id step after → packets_in step.told ≡ packets_in told
        → AllInner told → IsGoodWorld s after.world → events n r ≡ e ∷ [] → kept n r ≡ n → of_hosts first ≡ of_hosts (entries (r ∷ [])) → is_settings r ≡ false
        → length (packets_in step.told) ≤ 64 → (AreFit such → IsRecorded (length w.packets) e.event e.bytes)
        → outcome s (respared k w) e.event e.bytes ≡ Done (record { world = respared k after.world; told = first ++ entries_from (length w.packets) told })
        → IsAdded n w after.world (r ∷ numbered told)
    added id h step after r e first told at name b packets inner sound is keeps same other most fit done = record {
      names = names_behind id step after h at name b;
      good = sound;
      lines = first ++ entries_from (length w.packets) told;
      run = subst (λ (es : List Happening). IsRun s (respared k w) es (respared k after.world) (first ++ entries_from (length w.packets) told))
          (sym (one_event r e told inner is)) (run_one s (respared k w) e _ done);
      told = hosts-append first (entries_from (length w.packets) told) ∙ ap (λ (l : List PlainEntry). l ++ of_hosts (entries_from (length w.packets) told)) same
          ∙ ap (λ (l : List PlainEntry). of_hosts (entries (r ∷ [])) ++ of_hosts l) (sym (entries-told (entries_from (length w.packets) told)))
          ∙ sym (hosts-append (entries (r ∷ [])) (entries (numbered told))) ∙ ap of_hosts (sym (entries-append (r ∷ []) (numbered told)));
      notes = subst (λ (m : Notes). AreNotes s (kept_all m (numbered told)) after.world.clock after.world.packets) (sym keeps)
          (notes_behind id step after n told packets inner b sound.packets notes);
      only = (other, only_inner (length w.packets) told inner);
      count = ap length b.0 ∙ length-set w.hosts id.0 step.host;
      onward = omega (arith, sent);
      few = omega (arith, sent, most, ap length (one_event r e told inner is));
      fit = λ fits. subst (AreRecorded (length after.world.packets)) (sym (one_event r e told inner is))
          (fit_later (length w.packets) (length after.world.packets) e.event e.bytes (omega (arith, sent)) (fit fits), tt);
    } where
      sent : length after.world.packets ≡ length w.packets + length (packets_in step.told)
      sent = ap length b.1
          ∙ (length-append w.packets (stamped w.clock (packets_in step.told)) ∙ ap (λ (m : ℕ). length w.packets + m) (length-map (packets_in step.told) _))

    -- the settings let a step send at most 64 packets
    chosen : s.overcommit ≤ 7
    chosen = valid.in_range.2.2.2.2.1

    -- a host that is there has a small number
    small_id : (id : HostId) (h : Host) → host_at w id ≡ Some h → id.0 < 32
    small_id id h at = omega (arith, count, within w.hosts id.0 h at)

    -- ---- a turn

    pub turn_added : (id : HostId) (after : After) → outcome s w (event.Turn id) [] ≡ Done after → IsAdded n w after.world (Turning id ∷ map Tells after.told)
    unfolding outcome
    turn_added id after is = by_host (host_at w id) refl is where
      by_host : (o : Option Host) → host_at w id ≡ o → turns s w id o ≡ Done after → IsAdded n w after.world (Turning id ∷ map Tells after.told)
      by_host None at e = absurd (let z : Refused NoSuchHost ≡ Done after = e in cc)
      by_host (Some h) at e =
          let step = turn_step s h (own_clock w id) in
          let inside = turn_inside s id valid.in_range.2.2.2.2.2.2.0 h (own_clock w id) (names id h at) in
          let b = stepped_behind s w id [] step after e in
          let sound = good_behind s w valid good id h at step after
          (turn_good s valid (own_clock w id) (in_time s w valid good id h at) h (good.hosts id h at)) b.0 in
          let told : after.told ≡ entries_from (length w.packets) inside.rest = b.1 ∙ ap (entries_from (length w.packets)) inside.told in
          subst (λ (es : List PlainEntry). IsAdded n w after.world (Turning id ∷ map Tells es)) (sym told)
          (added id h step after (Turning id) (bare (event.Turn id)) [] inside.rest at inside.name b.0 (ap packets_in inside.told) inside.inner sound refl
          (turning_keeps id) refl refl (turn-bounded s chosen h (own_clock w id)).packets (λ fits. (small_id id h at, refl))
          (turn_respared s k w id ∙ ap (respare k) is ∙ ap (λ (es : List PlainEntry). Done (record { world = respared k after.world; told = es })) told))

    -- ---- a call

    pub call_added : (client server : HostId) (service : ℕ) (request : List ℕ) (after : After) → IsBytes request → service < 256
        → outcome s w (event.Call client server service) request ≡ Done after → IsAdded n w after.world (map Tells after.told)
    unfolding outcome
    call_added client server service request after bytes small is = by_server (is_some (host_at w server)) refl is where
      by_fault : server.0 < length w.hosts → (h : Host) → host_at w client ≡ Some h → (o : Option StartFault) → start_fault s h server request ≡ o
          → started s w client server service request h o ≡ Done after → IsAdded n w after.world (map Tells after.told)
      by_fault there h at (Some fault) free e = absurd (let z : Refused (Start fault) ≡ Done after = e in cc)
      by_fault there h at None free e =
          let step = call_step s h (own_clock w client) server service request in
          let inside = call_inside s client h (own_clock w client) server service request (names client h at) in
          let b = stepped_behind s w client [] step after e in
          let sound = good_behind s w valid good client h at step after
          (call_good s valid (own_clock w client) (in_time s w valid good client h at) h server service request
          (good.hosts client h at) free bytes small) b.0 in
          let q = next_id h in
          let told : after.told ≡ PlainCall q server service request ∷ entries_from (length w.packets) inside.rest =
          b.1 ∙ ap (entries_from (length w.packets)) inside.told in
          let caller : HostId → List Happening = λ (c : HostId). record { event = event.Call c server service; bytes = request } ∷ [] in
          subst (λ (es : List PlainEntry). IsAdded n w after.world (map Tells es)) (sym told)
          (added client h step after (Tells (PlainCall q server service request)) (record { event = event.Call client server service; bytes = request })
          (PlainCall q server service request ∷ []) inside.rest at inside.name b.0 (ap packets_in inside.told) inside.inner sound
          (ap caller (names client h at).name) (call_keeps q server service request) refl refl
          (call-bounded s chosen h (own_clock w client) server service request).packets
          (λ fits. (
            small_id client h at,
            omega (arith, count, there),
            small,
            bytes,
            (can_start s valid (own_clock w client) (in_time s w valid good client h at) h server request free).most,
          ))
          (call_respared s k w client server service request ∙ ap (respare k) is
          ∙ ap (λ (es : List PlainEntry). Done (record { world = respared k after.world; told = es })) told))

      by_client : server.0 < length w.hosts → (o : Option Host) → host_at w client ≡ o → calls_from s w client server service request o ≡ Done after
          → IsAdded n w after.world (map Tells after.told)
      by_client there None at e = absurd (let z : Refused NoSuchHost ≡ Done after = e in cc)
      by_client there (Some h) at e = by_fault there h at (start_fault s h server request) refl e

      by_server : (t : Bool) → is_some (host_at w server) ≡ t
          → (if t then calls_from s w client server service request (host_at w client) else Refused NoSuchHost) ≡ Done after
          → IsAdded n w after.world (map Tells after.told)
      by_server true is_there e = by_client (there_by w.hosts server.0 is_there) (host_at w client) refl e
      by_server false is_there e = absurd (let z : Refused NoSuchHost ≡ Done after = e in cc)

    -- ---- a datagram

    of_packets : (packets : List SentPacket) (i : ℕ) (sent : SentPacket) → slice_get packets i ≡ Some sent → AllByRecursion (IsOfNode s) packets
        → IsOfNode s sent
    of_packets [] i sent at all = absurd (let z : None ≡ Some sent = at in cc)
    of_packets (p ∷ packets) zero sent at all = subst (IsOfNode s) (some_is p sent at) all.0
    of_packets (p ∷ packets) (suc i) sent at all = of_packets packets i sent at all.1

    timely : (tick clock : ℕ) → clock ≤ tick + s.life → (s.wire == 1 && nat_lt (tick + s.life) clock) ≡ false
    timely tick clock soon = by_test (s.wire == 1) (nat_lt (tick + s.life) clock) refl where
      by_test : (a b : Bool) → nat_lt (tick + s.life) clock ≡ b → (a && b) ≡ false
      by_test true true e = absurd (omega (arith, soon, ltb-true (tick + s.life) clock e))
      by_test true false e = refl
      by_test false b e = refl

    pub recv_added : (id : HostId) (a : Arrival) (after : After) → such a → strange n (Tells (PlainRecv id a.from a.bytes)) ≡ false
        → arrival_outcome s w id a ≡ Done after → IsAdded n w after.world (map Tells after.told)
    recv_added id a after it_is usual is = by_host (host_at w id) refl is where
      packet : Option Packet
      packet = packet_from a.from id (packet_in s.wire a.bytes)

      -- the replay's event, with the entry that it tells first
      with_event : (h : Host) → host_at w id ≡ Some h → arrives_at s w id (PlainRecv id a.from a.bytes ∷ []) packet (Some h) ≡ Done after
          → (e : Happening) (first : PlainEntry) → IfSome packet (IsSent s) → events n (Tells (PlainRecv id a.from a.bytes)) ≡ e ∷ []
          → of_hosts (first ∷ []) ≡ []
          → (AreFit such → IsRecorded (length w.packets) e.event e.bytes)
          → outcome s (respared k w) e.event e.bytes ≡ arrives_at s (respared k w) id (first ∷ []) packet (Some h)
          → IsAdded n w after.world (map Tells after.told)
      with_event h at done e first formed is_event aside fit is_arrival =
          let step = arrival_step s h (own_clock w id) packet (next_answer w.answers) in
          let inside = arrival_inside s id h (own_clock w id) packet (next_answer w.answers) (names id h at)
          (receiver_is a.from id (packet_in s.wire a.bytes)) in
          let recv : List PlainEntry = PlainRecv id a.from a.bytes ∷ [] in
          let b = stepped_behind s w id recv step after done in
          let sound = good_behind s w valid good id h at step after
          (arrival_good s valid (own_clock w id) (in_time s w valid good id h at) h packet (next_answer w.answers) (good.hosts id h at) formed
          (next_is_answer w.answers good.answers)) b.0 in
          let same : entries_from (length w.packets) step.told ≡ entries_from (length w.packets) inside.rest =
          ap (entries_from (length w.packets)) inside.told in
          let told : after.told ≡ PlainRecv id a.from a.bytes ∷ entries_from (length w.packets) inside.rest =
          b.1 ∙ ap (λ (es : List PlainEntry). PlainRecv id a.from a.bytes ∷ es) same in
          subst (λ (es : List PlainEntry). IsAdded n w after.world (map Tells es)) (sym told)
          (added id h step after (Tells (PlainRecv id a.from a.bytes)) e (first ∷ []) inside.rest at inside.name b.0
          (ap packets_in inside.told) inside.inner sound is_event (recv_keeps id a.from a.bytes) aside refl
          (arrival-bounded s chosen h (own_clock w id) packet (next_answer w.answers)).packets fit
          (is_arrival ∙ subst (λ (x : After). arrives_at s (respared k w) id (first ∷ []) packet (Some h)
          ≡ Done (record { world = respared k x.world; told = first ∷ entries_from (length w.packets) inside.rest })) (done_is _ after done)
          (ap (λ (es : List PlainEntry). Done
          (record {
            world = respared k
                (record w {
                  hosts = slice_set w.hosts id.0 step.host;
                  packets = w.packets ++ stamped w.clock (packets_in step.told);
                  answers =
                      answers_left step.told w.answers;
                });
            told = first ∷ es;
          })) same)))

      by_kind : (h : Host) → host_at w id ≡ Some h → arrives_at s w id (PlainRecv id a.from a.bytes ∷ []) packet (Some h) ≡ Done after → (kind : Kind)
          → kind_in n id a.from a.bytes ≡ Some kind → IsAdded n w after.world (map Tells after.told)
      by_kind h at done (Sent number) e =
          let f = found_sent s w.clock w.packets id a.from a.bytes n number notes e in
          let sent = f.sent in
          let formed = (of_packets w.packets number sent f.stands good.packets).formed in
          let reads : packet_in s.wire a.bytes ≡ Some (wire_packet sent.packet, sent.packet.payload) =
          ap (packet_in s.wire) f.spelled ∙ read s sent.packet formed in
          let it : packet ≡ Some sent.packet =
          ap (packet_from a.from id) reads ∙ ap (λ (x : HostId). Some (packet_between x id (wire_packet sent.packet) sent.packet.payload)) f.is_from
          ∙ ap (λ (x : HostId). Some (packet_between (sender sent.packet) x (wire_packet sent.packet) sent.packet.payload)) f.is_to
          ∙ ap Some (between sent.packet) in
          with_event h at done (bare (event.Deliver number)) (PlainDeliver number) (subst (λ (o : Option Packet). IfSome o (IsSent s)) (sym it) formed)
          (ap (kind_events id a.bytes) e) refl
          (λ fits. (within w.packets number sent f.stands, refl))
          (deliver_is s (respared k w) number sent id f.stands (timely sent.tick w.clock f.life) (sym f.is_to)
          ∙ ap (λ (o : Option Packet). arrives_at s (respared k w) id (PlainDeliver number ∷ []) o (host_at w id)) (sym it)
          ∙ ap (arrives_at s (respared k w) id (PlainDeliver number ∷ []) packet) at)
      by_kind h at done Junk e =
          let none : packet_in s.wire a.bytes ≡ None = found_junk s w.clock w.packets id a.from a.bytes n notes e in
          with_event h at done (record { event = event.Inject id; bytes = a.bytes }) (PlainInject id a.bytes)
          (subst (λ (o : Option (WirePacket × List ℕ)). IfSome (packet_from a.from id o) (IsSent s)) (sym none) tt) (ap (kind_events id a.bytes) e) refl
          (λ fits. (small_id id h at, (fits a it_is).bytes, (fits a it_is).few))
          (inject_is s (respared k w) id a.bytes h none at
          ∙ ap (λ (o : Option (WirePacket × List ℕ)). arrives_at s (respared k w) id (PlainInject id a.bytes ∷ []) (packet_from a.from id o) (Some h))
          (sym none))
      by_kind h at done Strange e = absurd (true≢false (sym (ap is_strange e) ∙ usual))

      by_host : (o : Option Host) → host_at w id ≡ o → arrives_at s w id (PlainRecv id a.from a.bytes ∷ []) packet o ≡ Done after
          → IsAdded n w after.world (map Tells after.told)
      by_host None at e = absurd (let z : Refused NoSuchHost ≡ Done after = e in cc)
      by_host (Some h) at e =
          by_kind h at e (kind_of s n.datagrams id a.from a.bytes)
          (found_some s w.clock w.packets id a.from a.bytes n notes (kind_of s n.datagrams id a.from a.bytes) refl)
