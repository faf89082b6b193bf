-- Events that are carried out one after the other, and worlds that differ in their spare boxes.
use Rattle.std.proofs.Common.{◌≡◌, ℕ, suc, zero, ◌+◌, ◌≤◌, ◌<◌, Bool, true, false, Option, None, Some, List, [], ◌∷◌, ◌++◌, refl, sym, ap, ◌∙◌, subst}
use Rattle.std.proofs.Common.{append_assoc, arith}
use Rattle.std.specs.Prelude.{is_some, if◌then◌else◌, slice_get, ◌==◌}
use Rattle.std.proofs.lemmas.List.{append-nil}
use Rattle.std.proofs.lemmas.Bool.{eqb-true}
use Rattle.homa_plain.specs.declared.id.HostId.{HostId}
use Rattle.homa_plain.specs.declared.settings.Settings.{Settings}
use Rattle.homa_plain.specs.declared.event.Event.TheVariants as event
use Rattle.homa_plain.specs.declared.fault.StartFault.{StartFault}
use Rattle.homa_plain.specs.declared.fault.WorldFault.TheVariants.{NoSuchHost, ClockEnd, Late}
use Rattle.homa_plain.specs.declared.fault.LineFault.TheVariants.{World as ByWorld}
use Rattle.homa_plain.specs.Wire.{packet_in}
use Rattle.homa_plain.specs.Entries.{PlainEntry, PlainClock, PlainDeliver, PlainInject}
use Rattle.homa_plain.specs.Packets.{Packet, receiver}
use Rattle.homa_plain.specs.Host.{Host}
use Rattle.homa_plain.specs.Steps.{start_fault}
use Rattle.homa_plain.specs.World.{World, SentPacket, After, Outcome, Refused, Done, outcome, host_at, started, calls_from, turns, arrives_at, is_late}
use Rattle.homa_plain.specs.World.{delivered, injected, last_tick}
use Rattle.homa_plain.specs.Replay.{Happening, bare, Run, after_event, carried}
use Rattle.node_runs.specs.Recorder.{clocks}

-- ---- other spare boxes

abbrev pub respared : ℕ → World → World
respared k w = record w { spares = k }

abbrev pub respare : ℕ → Outcome → Outcome
respare k (Refused fault) = Refused fault
respare k (Done after) = Done (record { world = respared k after.world; told = after.told })

module _ (s : Settings) (k : ℕ) (w : World) where
  pub call_respared : (client server : HostId) (number : ℕ) (request : List ℕ)
      → outcome s (respared k w) (event.Call client server number) request ≡ respare k (outcome s w (event.Call client server number) request)
  unfolding outcome
  call_respared client server number request = by_server (is_some (host_at w server)) where
    by_fault : (h : Host) (o : Option StartFault)
        → started s (respared k w) client server number request h o ≡ respare k (started s w client server number request h o)
    by_fault h None = refl
    by_fault h (Some fault) = refl

    by_client : (o : Option Host) → calls_from s (respared k w) client server number request o ≡ respare k (calls_from s w client server number request o)
    by_client None = refl
    by_client (Some h) = by_fault h (start_fault s h server request)

    by_server : (b : Bool) → (if b then calls_from s (respared k w) client server number request (host_at w client) else Refused NoSuchHost)
        ≡ respare k (if b then calls_from s w client server number request (host_at w client) else Refused NoSuchHost)
    by_server true = by_client (host_at w client)
    by_server false = refl

  pub turn_respared : (id : HostId) → outcome s (respared k w) (event.Turn id) [] ≡ respare k (outcome s w (event.Turn id) [])
  unfolding outcome
  turn_respared id = by_host (host_at w id) where
    by_host : (o : Option Host) → turns s (respared k w) id o ≡ respare k (turns s w id o)
    by_host None = refl
    by_host (Some h) = refl

  pub arrival_respared : (id : HostId) (first : List PlainEntry) (packet : Option Packet) (o : Option Host)
      → arrives_at s (respared k w) id first packet o ≡ respare k (arrives_at s w id first packet o)
  arrival_respared id first packet None = refl
  arrival_respared id first packet (Some h) = refl

-- ---- datagrams

-- a packet that is delivered in its life
pub deliver_is : (s : Settings) (w : World) (n : ℕ) (sent : SentPacket) (id : HostId) → slice_get w.packets n ≡ Some sent → is_late s w sent.tick ≡ false
    → receiver sent.packet ≡ id
    → outcome s w (event.Deliver n) [] ≡ arrives_at s w id (PlainDeliver n ∷ []) (Some sent.packet) (host_at w id)
unfolding outcome
deliver_is s w n sent id stands timely to =
    ap (delivered s w n) stands
    ∙ ap (λ b. if b then Refused
    (Late sent.tick w.clock) else (arrives_at s w (receiver sent.packet) (PlainDeliver n ∷ []) (Some sent.packet) (host_at w (receiver sent.packet))))
    timely
    ∙ ap (λ x. arrives_at s w x (PlainDeliver n ∷ []) (Some sent.packet) (host_at w x)) to

-- bytes that are no packet
pub inject_is : (s : Settings) (w : World) (id : HostId) (bytes : List ℕ) (h : Host) → packet_in s.wire bytes ≡ None → host_at w id ≡ Some h
    → outcome s w (event.Inject id) bytes ≡ arrives_at s w id (PlainInject id bytes ∷ []) None (Some h)
unfolding outcome
inject_is s w id bytes h none at = ap (λ o. injected s w id bytes o (packet_in s.wire bytes)) at ∙ ap (injected s w id bytes (Some h)) none

-- ---- events one after the other

-- these events are carried out, and come from a world to another one
pub record IsRun (s : Settings) (v : World) (es : List Happening) (w : World) (lines : List PlainEntry) : Type 0 where
  pub fault : (carried s v es).fault ≡ None
  pub world : (carried s v es).world ≡ w
  pub told : (carried s v es).told ≡ lines

abbrev by_outcome : Settings → World → List Happening → Outcome → Run
by_outcome s w es (Refused fault) = record { world = w; told = []; count = 0; fault = Some (ByWorld fault) }
by_outcome s w es (Done after) = after_event after.told (carried s after.world es)

module _ (s : Settings) where
  first_event : (w : World) (e : Happening) (es : List Happening) → carried s w (e ∷ es) ≡ by_outcome s w es (outcome s w e.event e.bytes)
  unfolding carried
  first_event w e es = refl

  no_event : (w : World) → carried s w [] ≡ record { world = w; told = []; count = 0; fault = None }
  unfolding carried
  no_event w = refl

  pub run_none : (w : World) → IsRun s w [] w []
  run_none w = record {
    fault = ap (λ (r : Run). r.fault) (no_event w);
    world = ap (λ (r : Run). r.world) (no_event w);
    told =
        ap (λ (r : Run). r.told) (no_event w);
  }

  pub run_then : (v w : World) (e : Happening) (es : List Happening) (after : After) (told : List PlainEntry) → outcome s v e.event e.bytes ≡ Done after
      → IsRun s after.world es w told → IsRun s v (e ∷ es) w (after.told ++ told)
  run_then v w e es after told is rest =
      let e' = first_event v e es ∙ ap (by_outcome s v es) is in
      record {
        fault = ap (λ (r : Run). r.fault) e' ∙ rest.fault;
        world = ap (λ (r : Run). r.world) e' ∙ rest.world;
        told = ap (λ (r : Run). r.told) e' ∙ ap (λ (t : List PlainEntry). after.told ++ t) rest.told;
      }

  pub run_one : (v : World) (e : Happening) (after : After) → outcome s v e.event e.bytes ≡ Done after → IsRun s v (e ∷ []) after.world after.told
  run_one v e after is = subst (IsRun s v (e ∷ []) after.world) (append-nil after.told) (run_then v after.world e [] after [] is (run_none after.world))

  joined_first : (v w x : World) (e : Happening) (a b : List Happening) (t u : List PlainEntry) (o : Outcome) → outcome s v e.event e.bytes ≡ o
      → IsRun s v (e ∷ a) w t
      → ((y : World) (t' : List PlainEntry) → IsRun s y a w t' → IsRun s y (a ++ b) x (t' ++ u)) → IsRun s v (e ∷ (a ++ b)) x (t ++ u)
  joined_first v w x e a b t u (Refused fault) is first next =
      absurd (let bad : Some (ByWorld fault) ≡ None = sym (ap (λ (r : Run). r.fault) (first_event v e a ∙ ap (by_outcome s v a) is)) ∙ first.fault in cc)
  joined_first v w x e a b t u (Done after) is first next =
      let e' = first_event v e a ∙ ap (by_outcome s v a) is in
      let t' = (carried s after.world a).told in
      let rest : IsRun s after.world a w t' =
      record { fault = sym (ap (λ (r : Run). r.fault) e') ∙ first.fault; world = sym (ap (λ (r : Run). r.world) e') ∙ first.world; told = refl } in
      let split : after.told ++ t' ≡ t = sym (ap (λ (r : Run). r.told) e') ∙ first.told in
      subst (IsRun s v (e ∷ (a ++ b)) x) (sym (append_assoc after.told t' u) ∙ ap (λ (l : List PlainEntry). l ++ u) split)
      (run_then v x e (a ++ b) after (t' ++ u) is (next after.world t' rest))

  -- two parts
  pub run_more : (v w x : World) (a b : List Happening) (t u : List PlainEntry) → IsRun s v a w t → IsRun s w b x u → IsRun s v (a ++ b) x (t ++ u)
  run_more v w x [] b t u first second =
      let world : v ≡ w = sym (ap (λ (r : Run). r.world) (no_event v)) ∙ first.world in
      let told : [] ≡ t = sym (ap (λ (r : Run). r.told) (no_event v)) ∙ first.told in
      subst (λ (t : List PlainEntry). IsRun s v b x (t ++ u)) told (subst (λ (z : World). IsRun s z b x u) (sym world) second)
  run_more v w x (e ∷ a) b t u first second =
      joined_first v w x e a b t u (outcome s v e.event e.bytes) refl first (λ y t' rest. run_more y w x a b t' u rest second)

  -- ---- the clock

  abbrev pub clocked : ℕ → World → World
  clocked now w = record w { clock = now }

  -- the clock's lines
  abbrev pub clock_lines : ℕ → ℕ → List PlainEntry
  clock_lines from zero = []
  clock_lines from (suc n) = PlainClock (from + 1) ∷ clock_lines (from + 1) n

  clock_done : (w : World) → w.clock < last_tick
      → outcome s w event.Clock [] ≡ Done (record { world = clocked (w.clock + 1) w; told = PlainClock (w.clock + 1) ∷ [] })
  unfolding outcome
  clock_done w below = by_test (w.clock == last_tick) refl where
    by_test : (b : Bool) → w.clock == last_tick ≡ b
        → (if b then Refused ClockEnd else Done (record { world = clocked (w.clock + 1) w; told = PlainClock (w.clock + 1) ∷ [] }))
        ≡ Done (record { world = clocked (w.clock + 1) w; told = PlainClock (w.clock + 1) ∷ [] })
    by_test true e = absurd (omega (arith, below, eqb-true w.clock last_tick e))
    by_test false e = refl

  pub run_clocks : (n : ℕ) (w : World) → w.clock + n ≤ last_tick → IsRun s w (clocks n) (clocked (w.clock + n) w) (clock_lines w.clock n)
  run_clocks zero w most = let same : w.clock ≡ w.clock + 0 = omega arith in subst (λ (c : ℕ). IsRun s w [] (clocked c w) []) same (run_none w)
  run_clocks (suc n) w most =
      let next : w.clock + 1 + n ≡ w.clock + suc n = omega arith in
      subst (λ (c : ℕ). IsRun s w (clocks (suc n)) (clocked c w) (clock_lines w.clock (suc n))) next
      (run_then w (clocked (w.clock + 1 + n) w) (bare event.Clock) (clocks n)
      (record { world = clocked (w.clock + 1) w; told = PlainClock (w.clock + 1) ∷ [] }) (clock_lines (w.clock + 1) n)
      (clock_done w (omega (arith, most))) (run_clocks n (clocked (w.clock + 1) w) (omega (arith, most))))
