-- Events by their hosts' steps.
use Rattle.std.proofs.Common.{◌≡◌, ◌≢◌, ◌<◌, ◌≤◌, ℕ, suc, ◌+◌, Bool, true, false, Option, Some, None, List, [], ◌∷◌, ◌++◌, refl, ap, ◌∙◌, cond}
use Rattle.std.specs.Prelude.{nat_lt, is_some, drop, slice_get}
use Rattle.std.proofs.lemmas.Bool.{eq-eqb, ne_eqb, lt-ltb, le-ltb}
use Rattle.homa_plain.specs.declared.id.HostId.{HostId}
use Rattle.homa_plain.specs.declared.packet.Packet.{Packet as WirePacket}
use Rattle.homa_plain.specs.declared.settings.Settings.{Settings}
use Rattle.homa_plain.specs.declared.event.Event.TheVariants as event
use Rattle.homa_plain.specs.declared.fault.StartFault.{StartFault}
use Rattle.homa_plain.specs.declared.fault.WorldFault.TheVariants as fault
use Rattle.homa_plain.specs.Settings.{band}
use Rattle.homa_plain.specs.Wire.{packet_in}
use Rattle.homa_plain.specs.Entries.{PlainEntry, PlainClock, PlainRestart, PlainShift, PlainDeliver, PlainInject}
use Rattle.homa_plain.specs.Packets.{Packet, receiver}
use Rattle.homa_plain.specs.Host.{Host, Told}
use Rattle.homa_plain.specs.Rules.{Answer}
use Rattle.homa_plain.specs.Work.{Work}
use Rattle.homa_plain.specs.Steps.{has_run, call_step, arrival_step, turn_step, start_fault}
use Rattle.homa_plain.specs.World.{World, SentPacket, Outcome, Done, Refused, outcome, host_at, own_clock, is_late, last_tick, next_answer}
use Rattle.homa_plain.specs.World.{answers_left, stepped, started, calls_from, arrives_at, delivered, turns, restarts, injected, shifted}
use Rattle.step_laws.proofs.OneAnswer as one
use Rattle.homa_plain.specs.Answers.{answering}
use Rattle.event_laws.specs.Stepping.{stepped_world, step_told, IsStep, IsStepWith, IsChange, IsRefusal, ticked_world, restarted_world, shifted_world}

-- the step of a host in a world whose services will answer so, where that leaves these
step_of : (w : World) (id : HostId) (first : List PlainEntry) (step : Work) (given later : List Answer) → answers_left step.told given ≡ later
    → stepped (answering given w) id first step ≡ Done (record { world = answering later (stepped_world w id step); told = step_told w first step })
step_of w id first step given later e = ap (λ left. Done (record { world = answering left (stepped_world w id step); told = step_told w first step })) e

unasked_leaves : (told : List Told) (later : List Answer) → has_run told ≡ false → answers_left told later ≡ later
unasked_leaves told later e = ap (λ b. cond b (drop 1 later) later) e

asked_leaves : (told : List Told) (a : Answer) (later : List Answer) → has_run told ≡ true → answers_left told (a ∷ later) ≡ later
asked_leaves told a later e = ap (λ b. cond b later (a ∷ later)) e

module _ (s : Settings) (w : World) where
  pub call_done : (client server : HostId) (number : ℕ) (request : List ℕ) (h : Host)
      → is_some (host_at w server) ≡ true → host_at w client ≡ Some h → start_fault s h server request ≡ None
      → IsStep s w client (event.Call client server number) request [] (call_step s h (own_clock w client) server number request)
  unfolding outcome
  call_done client server number request h there here fine later =
      ap (λ b. cond b (calls_from s (answering later w) client server number request (host_at w client)) (Refused fault.NoSuchHost)) there
      ∙ ap (λ o. calls_from s (answering later w) client server number request o) here
      ∙ ap (λ o. started s (answering later w) client server number request h o) fine
      ∙ step_of w client [] (call_step s h (own_clock w client) server number request) later later
      (unasked_leaves (call_step s h (own_clock w client) server number request).told later (one.call_unasked s h (own_clock w client) server number request))

  pub turn_done : (id : HostId) (h : Host) → host_at w id ≡ Some h → IsStep s w id (event.Turn id) [] [] (turn_step s h (own_clock w id))
  unfolding outcome
  turn_done id h here later =
      ap (λ o. turns s (answering later w) id o) here
      ∙ step_of w id [] (turn_step s h (own_clock w id)) later later
      (unasked_leaves (turn_step s h (own_clock w id)).told later (one.turn_unasked s h (own_clock w id)))

  -- an arrival, whose service answers this if it is asked
  arrives : (id : HostId) (first : List PlainEntry) (packet : Option Packet) (h : Host) (a : Answer) (later : List Answer) (b : Bool)
      → has_run (arrival_step s h (own_clock w id) packet a).told ≡ b
      → arrives_at s (answering (cond b (a ∷ []) [] ++ later) w) id first packet (Some h)
      ≡ Done (record {
        world = answering later (stepped_world w id (arrival_step s h (own_clock w id) packet a));
        told = step_told w first (arrival_step s h (own_clock w id) packet a);
      })
  arrives id first packet h a later true e = step_of w id first (arrival_step s h (own_clock w id) packet a) (a ∷ later) later
      (asked_leaves (arrival_step s h (own_clock w id) packet a).told a later e)
  arrives id first packet h a later false e =
      ap (λ step. stepped (answering later w) id first step) (one.same_unasked s h (own_clock w id) packet a (next_answer later) e)
      ∙ step_of w id first (arrival_step s h (own_clock w id) packet a) later later (unasked_leaves (arrival_step s h (own_clock w id) packet a).told later e)

  pub deliver_done : (n : ℕ) (sent : SentPacket) (h : Host) (a : Answer) → slice_get w.packets n ≡ Some sent → is_late s w sent.tick ≡ false
      → host_at w (receiver sent.packet) ≡ Some h
      → IsStepWith a s w (receiver sent.packet) (event.Deliver n) [] (PlainDeliver n ∷ [])
      (arrival_step s h (own_clock w (receiver sent.packet)) (Some sent.packet) a)
  unfolding outcome
  deliver_done n sent h a found fresh here later =
      let id : HostId = receiver sent.packet in
      let b : Bool = has_run (arrival_step s h (own_clock w id) (Some sent.packet) a).told in
      let v : World = answering (cond b (a ∷ []) [] ++ later) w in
      ap (λ o. delivered s v n o) found
      ∙ ap (λ t. cond t (Refused (fault.Late sent.tick w.clock)) (arrives_at s v id (PlainDeliver n ∷ []) (Some sent.packet) (host_at w id))) fresh
      ∙ ap (λ o. arrives_at s v id (PlainDeliver n ∷ []) (Some sent.packet) o) here
      ∙ arrives id (PlainDeliver n ∷ []) (Some sent.packet) h a later b refl

  pub inject_done : (id : HostId) (bytes : List ℕ) (h : Host) (a : Answer) → host_at w id ≡ Some h → packet_in s.wire bytes ≡ None
      → IsStepWith a s w id (event.Inject id) bytes (PlainInject id bytes ∷ []) (arrival_step s h (own_clock w id) None a)
  unfolding outcome
  inject_done id bytes h a here none later =
      let b : Bool = has_run (arrival_step s h (own_clock w id) None a).told in
      let v : World = answering (cond b (a ∷ []) [] ++ later) w in
      ap (λ o. injected s v id bytes o (packet_in s.wire bytes)) here
      ∙ ap (λ r. injected s v id bytes (Some h) r) none
      ∙ arrives id (PlainInject id bytes ∷ []) None h a later b refl

  pub clock_done : w.clock ≢ last_tick → IsChange s w event.Clock (ticked_world w) (PlainClock (w.clock + 1) ∷ [])
  unfolding outcome
  clock_done before later =
      ap (λ b. cond b (Refused fault.ClockEnd) (Done (record { world = answering later (ticked_world w); told = PlainClock (w.clock + 1) ∷ [] })))
      (ne_eqb w.clock last_tick before)

  pub restart_done : (id : HostId) (h : Host) (spares : ℕ) → host_at w id ≡ Some h → w.spares ≡ suc spares
      → IsChange s w (event.Restart id) (restarted_world s w id h spares) (PlainRestart id (h.inc + 1) ∷ [])
  unfolding outcome
  restart_done id h spares here some later =
      ap (λ o. restarts s (answering later w) id o w.spares) here ∙ ap (λ n. restarts s (answering later w) id (Some h) n) some

  pub shift_done : (id : HostId) (n : ℕ) (h : Host) → host_at w id ≡ Some h → n ≤ band s → h.last ≤ w.clock + n
      → IsChange s w (event.Shift id n) (shifted_world w id n) (PlainShift id n ∷ [])
  unfolding outcome
  shift_done id n h here within later_on later =
      let done : Outcome = Done (record { world = answering later (shifted_world w id n); told = PlainShift id n ∷ [] }) in
      ap (λ o. shifted s (answering later w) id n o) here
      ∙ ap (λ b. cond b (Refused (fault.OutOfBand n (band s))) (cond (nat_lt (w.clock + n) h.last) (Refused (fault.Back h.last (w.clock + n))) done))
      (le-ltb (band s) n within)
      ∙ ap (λ b. cond b (Refused (fault.Back h.last (w.clock + n))) done) (le-ltb (w.clock + n) h.last later_on)

  -- ---- refusals

  none_there : (id : HostId) → host_at w id ≡ None → is_some (host_at w id) ≡ false
  none_there id e = ap is_some e

  pub no_server : (client server : HostId) (number : ℕ) (request : List ℕ) → host_at w server ≡ None
      → IsRefusal s w (event.Call client server number) request fault.NoSuchHost
  unfolding outcome
  no_server client server number request none later =
      ap (λ b. cond b (calls_from s (answering later w) client server number request (host_at w client)) (Refused fault.NoSuchHost)) (none_there server none)

  pub no_client : (client server : HostId) (number : ℕ) (request : List ℕ) → host_at w client ≡ None
      → IsRefusal s w (event.Call client server number) request fault.NoSuchHost
  unfolding outcome
  no_client client server number request none later =
      ap (λ o. cond (is_some (host_at w server)) (calls_from s (answering later w) client server number request o) (Refused fault.NoSuchHost)) none
      ∙ either (is_some (host_at w server)) where
        either : (b : Bool) → cond b (Refused fault.NoSuchHost) (Refused fault.NoSuchHost) ≡ Refused fault.NoSuchHost
        either true = refl
        either false = refl

  pub start_refused : (client server : HostId) (number : ℕ) (request : List ℕ) (h : Host) (why : StartFault)
      → is_some (host_at w server) ≡ true → host_at w client ≡ Some h → start_fault s h server request ≡ Some why
      → IsRefusal s w (event.Call client server number) request (fault.Start why)
  unfolding outcome
  start_refused client server number request h why there here faulty later =
      ap (λ b. cond b (calls_from s (answering later w) client server number request (host_at w client)) (Refused fault.NoSuchHost)) there
      ∙ ap (λ o. calls_from s (answering later w) client server number request o) here
      ∙ ap (λ o. started s (answering later w) client server number request h o) faulty

  pub no_packet : (n : ℕ) → slice_get w.packets n ≡ None → IsRefusal s w (event.Deliver n) [] fault.NoSuchPacket
  unfolding outcome
  no_packet n none later = ap (λ o. delivered s (answering later w) n o) none

  pub late_refused : (n : ℕ) (sent : SentPacket) → slice_get w.packets n ≡ Some sent → is_late s w sent.tick ≡ true
      → IsRefusal s w (event.Deliver n) [] (fault.Late sent.tick w.clock)
  unfolding outcome
  late_refused n sent found late later =
      ap (λ o. delivered s (answering later w) n o) found
      ∙ ap (λ t. cond t (Refused (fault.Late sent.tick w.clock))
      (arrives_at s (answering later w) (receiver sent.packet) (PlainDeliver n ∷ []) (Some sent.packet) (host_at w (receiver sent.packet)))) late

  pub clock_refused : w.clock ≡ last_tick → IsRefusal s w event.Clock [] fault.ClockEnd
  unfolding outcome
  clock_refused last later =
      ap (λ b. cond b (Refused fault.ClockEnd) (Done (record { world = answering later (ticked_world w); told = PlainClock (w.clock + 1) ∷ [] })))
      (eq-eqb w.clock last_tick last)

  pub turn_refused : (id : HostId) → host_at w id ≡ None → IsRefusal s w (event.Turn id) [] fault.NoSuchHost
  unfolding outcome
  turn_refused id none later = ap (λ o. turns s (answering later w) id o) none

  pub restart_refused : (id : HostId) → host_at w id ≡ None → IsRefusal s w (event.Restart id) [] fault.NoSuchHost
  unfolding outcome
  restart_refused id none later = ap (λ o. restarts s (answering later w) id o w.spares) none

  pub no_spare : (id : HostId) (h : Host) → host_at w id ≡ Some h → w.spares ≡ 0 → IsRefusal s w (event.Restart id) [] fault.NoSpare
  unfolding outcome
  no_spare id h here none later = ap (λ o. restarts s (answering later w) id o w.spares) here ∙ ap (λ n. restarts s (answering later w) id (Some h) n) none

  pub inject_refused : (id : HostId) (bytes : List ℕ) → host_at w id ≡ None → IsRefusal s w (event.Inject id) bytes fault.NoSuchHost
  unfolding outcome
  inject_refused id bytes none later = ap (λ o. injected s (answering later w) id bytes o (packet_in s.wire bytes)) none

  pub decodes : (id : HostId) (bytes : List ℕ) (h : Host) → host_at w id ≡ Some h → is_some (packet_in s.wire bytes) ≡ true
      → IsRefusal s w (event.Inject id) bytes fault.Decodes
  unfolding outcome
  decodes id bytes h here some later =
      ap (λ o. injected s (answering later w) id bytes o (packet_in s.wire bytes)) here ∙ by (packet_in s.wire bytes) some where
        by : (r : Option (WirePacket × List ℕ)) → is_some r ≡ true → injected s (answering later w) id bytes (Some h) r ≡ Refused fault.Decodes
        by (Some r) e = refl
        by None e = cc

  pub shift_refused : (id : HostId) (n : ℕ) → host_at w id ≡ None → IsRefusal s w (event.Shift id n) [] fault.NoSuchHost
  unfolding outcome
  shift_refused id n none later = ap (λ o. shifted s (answering later w) id n o) none

  pub out_of_band : (id : HostId) (n : ℕ) (h : Host) → host_at w id ≡ Some h → band s < n → IsRefusal s w (event.Shift id n) [] (fault.OutOfBand n (band s))
  unfolding outcome
  out_of_band id n h here beyond later =
      ap (λ o. shifted s (answering later w) id n o) here
      ∙ ap (λ b. cond b (Refused (fault.OutOfBand n (band s)))
      (cond (nat_lt (w.clock + n) h.last) (Refused (fault.Back h.last (w.clock + n)))
      (Done (record { world = answering later (shifted_world w id n); told = PlainShift id n ∷ [] })))) (lt-ltb (band s) n beyond)

  pub goes_back : (id : HostId) (n : ℕ) (h : Host) → host_at w id ≡ Some h → n ≤ band s → w.clock + n < h.last
      → IsRefusal s w (event.Shift id n) [] (fault.Back h.last (w.clock + n))
  unfolding outcome
  goes_back id n h here within back later =
      let done : Outcome = Done (record { world = answering later (shifted_world w id n); told = PlainShift id n ∷ [] }) in
      ap (λ o. shifted s (answering later w) id n o) here
      ∙ ap (λ b. cond b (Refused (fault.OutOfBand n (band s))) (cond (nat_lt (w.clock + n) h.last) (Refused (fault.Back h.last (w.clock + n))) done))
      (le-ltb (band s) n within)
      ∙ ap (λ b. cond b (Refused (fault.Back h.last (w.clock + n))) done) (lt-ltb (w.clock + n) h.last back)
