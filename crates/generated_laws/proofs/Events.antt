-- Events that are carried out in a world between so many hosts.
use Rattle.std.proofs.Common.{◌≡◌, ℕ, zero, suc, ◌+◌, ◌*◌, ◌<◌, ◌≤◌, Bool, false, Option, Some, None, List, [], ◌∷◌, ◌++◌, length, refl, sym, ap, ◌∙◌}
use Rattle.std.proofs.Common.{subst, arith, append_assoc, length-append}
use Rattle.std.specs.Prelude.{slice_get, ◌==◌, nat_lt, nat_le, is_some, if◌then◌else◌}
use Rattle.std.proofs.lemmas.List.{append-nil}
use Rattle.std.proofs.lemmas.Bool.{ne_eqb}
use Rattle.std.proofs.lemmas.Bool.Decides.{nat_tests}
use Rattle.plain_sets.specs.Maps.{len}
use Rattle.homa_plain.specs.declared.id.HostId.{HostId}
use Rattle.homa_plain.specs.declared.settings.Settings.{Settings}
use Rattle.homa_plain.specs.declared.event.Event.TheVariants as event
use Rattle.homa_plain.specs.declared.fault.WorldFault.TheVariants.{NoSuchHost, Late, ClockEnd}
use Rattle.homa_plain.specs.Entries.{PlainEntry, PlainDeliver, PlainClock}
use Rattle.homa_plain.specs.Packets.{Packet, receiver}
use Rattle.homa_plain.specs.Host.{Host, packets_in, entries_from}
use Rattle.homa_plain.specs.Work.{Work}
use Rattle.homa_plain.specs.SentNext.{most_packets}
use Rattle.homa_plain.specs.Steps.{start_fault, call_step, arrival_step, turn_step}
use Rattle.homa_plain.specs.World.{World, SentPacket, After, Refused, Done, host_at, own_clock, next_answer, stamped, stepped, started, calls_from}
use Rattle.homa_plain.specs.World.{arrives_at, is_late, delivered, last_tick, turns, outcome}
use Rattle.homa_plain.specs.Replay.{Happening, Run, bare, turns_of, ticks, carried}
use Rattle.generated_runs.proofs.Carried.{by_outcome, first_event, no_event}
use Rattle.step_laws.specs.StepLaws.{IsBounded}
use Rattle.step_laws.proofs.Bounds.{call-bounded, arrival-bounded, turn-bounded}
use Rattle.event_laws.specs.Among.{IsAmongStep, IsBelow}
use Rattle.event_laws.specs.Named.{IsOwnStep}
use Rattle.event_laws.proofs.Among.{call_among, arrival_among, turn_among}
use Rattle.event_laws.proofs.Names.{call_named, arrival_named, turn_named}
use Rattle.generated_laws.proofs.Listed.{there_is, all_get}
use Rattle.generated_laws.proofs.Peopled.{IsPost, IsPeopled, behind, behind_peopled}

-- an event is carried out: the packets that it sends, at most 64, stand behind the others, and the clock is this one
pub record Happens (n calls clock : ℕ) (s : Settings) (w : World) (e : Happening) : Type 0 where
  pub after : After
  pub done : outcome s w e.event e.bytes ≡ Done after
  pub world : IsPeopled n calls after.world
  pub more : List SentPacket
  pub grown : after.world.packets ≡ w.packets ++ more
  pub few : length more ≤ most_packets
  pub at : after.world.clock ≡ clock

-- and so are these, one after the other, which send so many packets at most
pub record HasRun (n calls clock most : ℕ) (w : World) (run : Run) : Type 0 where
  pub none : run.fault ≡ None
  pub world : IsPeopled n calls run.world
  pub more : List SentPacket
  pub grown : run.world.packets ≡ w.packets ++ more
  pub few : length more ≤ most
  pub at : run.world.clock ≡ clock

-- a packet that may be delivered
pub record IsDeliverable (s : Settings) (w : World) (number : ℕ) : Type 0 where
  pub sent : SentPacket
  pub at : slice_get w.packets number ≡ Some sent
  pub fresh : is_late s w sent.tick ≡ false

-- ---- one event

many_stamped : (tick : ℕ) (ps : List Packet) → length (stamped tick ps) ≡ length ps
many_stamped tick [] = refl
many_stamped tick (p ∷ ps) = ap suc (many_stamped tick ps)

module _ (s : Settings) (n : ℕ) (w : World) (over : s.overcommit ≤ 7) where
  -- a step of a host
  by_step : (old new seq : ℕ) (k : IsPeopled n old w) (id : HostId) (h : Host) (at : host_at w id ≡ Some h) (first : List PlainEntry) (step : Work)
      (e : Happening) (orders : ℕ) → IsBounded orders h step → IsOwnStep id step → IsAmongStep (IsBelow n) seq step → old ≤ new → seq ≤ new
      → outcome s w e.event e.bytes ≡ stepped w id first step → Happens n new w.clock s w e
  by_step old new seq k id h at first step e orders bounded own among grows calls is = record {
    after = record { world = behind s n old new seq w k id h at step own among grows calls; told = first ++ entries_from (length w.packets) step.told };
    done = is;
    world = behind_peopled s n old new seq w k id h at step own among grows calls;
    more = stamped w.clock (packets_in step.told);
    grown = refl;
    few = omega (arith, bounded.packets, many_stamped w.clock (packets_in step.told));
    at = refl;
  }

  pub turn_happens : (calls : ℕ) → 1 ≤ s.resend → IsPeopled n calls w → (id : HostId) → id.0 < n → Happens n calls w.clock s w (bare (event.Turn id))
  unfolding outcome
  turn_happens calls resend k id l =
      let there = there_is w.hosts id.0 (omega (arith, l, k.many)) in
      let h = there.0 in
      let who = k.hosts id h there.1 in
      by_step calls calls h.seq k id h there.1 [] (turn_step s h (own_clock w id)) (bare (event.Turn id)) 32 (turn-bounded s over h (own_clock w id))
      (turn_named s id resend h (own_clock w id) who.name) (turn_among s id (IsBelow n) resend h (own_clock w id) who.name who.among)
      (omega arith) who.seq (ap (turns s w id) there.1)

  pub delivery_happens : (calls : ℕ) → IsPeopled n calls w → (number : ℕ) → IsDeliverable s w number
      → Happens n calls w.clock s w (record { event = event.Deliver number; bytes = [] })
  unfolding outcome
  delivery_happens calls k number d =
      let p = d.sent.packet in
      let id = receiver p in
      let post = all_get (IsPost n) w.packets number d.sent k.packets d.at in
      let there = there_is w.hosts id.0 (omega (arith, post.to, k.many)) in
      let h = there.0 in
      let who = k.hosts id h there.1 in
      let step = arrival_step s h (own_clock w id) (Some p) (next_answer w.answers) in
      let late : (if is_late s w d.sent.tick then Refused (Late d.sent.tick w.clock)
      else arrives_at s w id (PlainDeliver number ∷ []) (Some p) (host_at w id)) ≡ arrives_at s w id (PlainDeliver number ∷ []) (Some p) (host_at w id) =
      ap (λ (t : Bool). if t then Refused (Late d.sent.tick w.clock) else arrives_at s w id (PlainDeliver number ∷ []) (Some p) (host_at w id)) d.fresh in
      by_step calls calls h.seq k id h there.1 (PlainDeliver number ∷ []) step (record { event = event.Deliver number; bytes = [] }) 2
      (arrival-bounded s over h (own_clock w id) (Some p) (next_answer w.answers))
      (arrival_named s id h (own_clock w id) (Some p) (next_answer w.answers) who.name refl)
      (arrival_among s id (IsBelow n) h (own_clock w id) (Some p) (next_answer w.answers) who.name who.among (refl, post.from))
      (omega arith) who.seq (ap (delivered s w number) d.at ∙ (late ∙ ap (arrives_at s w id (PlainDeliver number ∷ []) (Some p)) there.1))

  pub clock_happens : (calls : ℕ) → IsPeopled n calls w → w.clock < last_tick → Happens n calls (w.clock + 1) s w (bare event.Clock)
  unfolding outcome
  clock_happens calls k l = record {
    after = record { world = record w { clock = w.clock + 1 }; told = PlainClock (w.clock + 1) ∷ [] };
    done = ap (λ (t : Bool). if t then Refused ClockEnd
        else Done (record { world = record w { clock = w.clock + 1 }; told = PlainClock (w.clock + 1) ∷ [] }))
        (ne_eqb w.clock last_tick (λ e. omega (arith, e, l)));
    world = record { many = k.many; hosts = λ id h at. k.hosts id h at; packets = k.packets };
    more = [];
    grown = sym (append-nil w.packets);
    few = omega arith;
    at = refl;
  }

  -- a call may start
  may_start : (h : Host) (server : HostId) (request : List ℕ) → 0 < length request → length request ≤ 1000000 → (server.0 ≡ h.id.0 → ⊥)
      → nat_le s.calls (len h.clients) ≡ false → h.seq < 4294967295 → start_fault s h server request ≡ None
  unfolding start_fault
  may_start h server request some long other free seq =
      let a : (length request == 0) ≡ false = ne_eqb (length request) 0 (λ e. omega (arith, e, some)) in
      let b : nat_lt 1000000 (length request) ≡ false = grind (arith, nat_tests) in
      let c : (server.0 == h.id.0) ≡ false = ne_eqb server.0 h.id.0 other in
      let d : nat_le 4294967295 h.seq ≡ false = grind (arith, nat_tests) in
      rw (a, b, c, free, d) refl

  pub call_happens : (calls : ℕ) → IsPeopled n calls w → calls < 4294967295 → (client server : HostId) (service : ℕ) (request : List ℕ)
      → server.0 < n → (server.0 ≡ client.0 → ⊥) → 0 < length request → length request ≤ 1000000
      → (h : Host) → host_at w client ≡ Some h → nat_le s.calls (len h.clients) ≡ false
      → Happens n (calls + 1) w.clock s w (record { event = event.Call client server service; bytes = request })
  unfolding outcome
  call_happens calls k few client server service request to other some long h at free =
      let who = k.hosts client h at in
      let there = there_is w.hosts server.0 (omega (arith, to, k.many)) in
      let name : h.id.0 ≡ client.0 = ap (λ (x : HostId). x.0) who.name.name in
      let start = may_start h server request some long (λ e. other (e ∙ name)) free (omega (arith, who.seq, few)) in
      by_step calls (calls + 1) (h.seq + 1) k client h at [] (call_step s h (own_clock w client) server service request)
      (record { event = event.Call client server service; bytes = request }) 1
      (call-bounded s over h (own_clock w client) server service request)
      (call_named s client h (own_clock w client) server service request who.name)
      (call_among s client (IsBelow n) h (own_clock w client) server service request who.name who.among to)
      (omega arith) (omega (arith, who.seq))
      (ap (λ (o : Option Host). if is_some o then calls_from s w client server service request (host_at w client) else Refused NoSuchHost) there.1
      ∙ (ap (calls_from s w client server service request) at ∙ ap (started s w client server service request h) start))

-- ---- events one after the other

none_run : (s : Settings) (n calls : ℕ) (w : World) → IsPeopled n calls w → HasRun n calls w.clock 0 w (carried s w [])
none_run s n calls w k =
    rw (no_event s w) (record { none = refl; world = k; more = []; grown = sym (append-nil w.packets); few = omega arith; at = refl })

first_by : (s : Settings) (n calls clock most : ℕ) (w : World) (es : List Happening) (after : After) (more : List SentPacket)
    → after.world.packets ≡ w.packets ++ more → length more ≤ most_packets → HasRun n calls clock most after.world (carried s after.world es)
    → HasRun n calls clock (most + 64) w (by_outcome s w es (Done after))
first_by s n calls clock most w es after more grown few run = record {
  none = run.none;
  world = run.world;
  more = more ++ run.more;
  grown = run.grown ∙ (ap (λ (l : List SentPacket). l ++ run.more) grown ∙ append_assoc w.packets more run.more);
  few = omega (arith, few, run.few, length-append more run.more);
  at = run.at;
}

first_run : (s : Settings) (n a b here clock most : ℕ) (w : World) (e : Happening) (es : List Happening) (h : Happens n a here s w e)
    → HasRun n b clock most h.after.world (carried s h.after.world es) → HasRun n b clock (most + 64) w (carried s w (e ∷ es))
first_run s n a b here clock most w e es h run =
    rw (first_event s w e es, h.done) (first_by s n b clock most w es h.after h.more h.grown h.few run)

pub one_run : (s : Settings) (n calls clock : ℕ) (w : World) (e : Happening) → Happens n calls clock s w e
    → HasRun n calls clock 64 w (carried s w (e ∷ []))
one_run s n calls clock w e h =
    first_run s n calls calls clock clock 0 w e [] h
    (subst (λ (t : ℕ). HasRun n calls t 0 h.after.world (carried s h.after.world [])) h.at (none_run s n calls h.after.world h.world))

-- so many packets at most in turns of so many hosts
abbrev pub most_turns : ℕ → ℕ
most_turns zero = 0
most_turns (suc k) = most_turns k + 64

-- a turn of each host from number m on
turns_run : (s : Settings) (n calls : ℕ) → s.overcommit ≤ 7 → 1 ≤ s.resend → (k m : ℕ) (w : World) → m + k ≤ n → IsPeopled n calls w
    → HasRun n calls w.clock (most_turns k) w (carried s w (turns_of m k))
turns_run s n calls over resend zero m w l p = none_run s n calls w p
turns_run s n calls over resend (suc k) m w l p =
    let h = turn_happens s n w over calls resend p (record { 0 = m }) (omega (arith, l)) in
    first_run s n calls calls w.clock w.clock (most_turns k) w (bare (event.Turn (record { 0 = m }))) (turns_of (suc m) k) h
    (subst (λ (t : ℕ). HasRun n calls t (most_turns k) h.after.world (carried s h.after.world (turns_of (suc m) k))) h.at
    (turns_run s n calls over resend k (suc m) h.after.world (omega (arith, l)) h.world))

-- one tick
pub tick_run : (s : Settings) (n calls : ℕ) → s.overcommit ≤ 7 → 1 ≤ s.resend → (w : World) → w.clock < last_tick → IsPeopled n calls w
    → HasRun n calls (w.clock + 1) (most_turns n + 64) w (carried s w (ticks n 1))
tick_run s n calls over resend w l p =
    let h = clock_happens s n w over calls p l in
    first_run s n calls calls (w.clock + 1) (w.clock + 1) (most_turns n) w (bare event.Clock) (turns_of 0 n ++ []) h
    (subst (λ (t : ℕ). HasRun n calls t (most_turns n) h.after.world (carried s h.after.world (turns_of 0 n ++ []))) h.at
    (subst (λ (es : List Happening). HasRun n calls h.after.world.clock (most_turns n) h.after.world (carried s h.after.world es))
    (sym (append-nil (turns_of 0 n))) (turns_run s n calls over resend n 0 h.after.world (omega arith) h.world)))

pub turns_within : (k : ℕ) → k ≤ 32 → most_turns k ≤ 64 * k
turns_within zero l = omega arith
turns_within (suc k) l = omega (arith, turns_within k (omega (arith, l)))
