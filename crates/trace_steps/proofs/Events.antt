-- What an event did that the world carried out.
use Rattle.std.proofs.Common.{◌≡◌, ℕ, zero, suc, ◌+◌, ◌≤◌, Bool, true, false, cond, Option, Some, None, List, [], ◌∷◌, ◌++◌, length, refl}
use Rattle.std.specs.Prelude.{◌==◌, nat_lt, is_some, slice_get, slice_set}
use Rattle.std.proofs.lemmas.Bool.{ltb-false}
use Rattle.homa_plain.specs.declared.id.HostId.{HostId}
use Rattle.homa_plain.specs.declared.packet.Packet.{Packet as WirePacket}
use Rattle.homa_plain.specs.declared.settings.Settings.{Settings}
use Rattle.homa_plain.specs.declared.fault.StartFault.{StartFault}
use Rattle.homa_plain.specs.declared.fault.WorldFault.TheVariants.{NoSuchHost, Late, ClockEnd, OutOfBand, Back}
use Rattle.homa_plain.specs.Settings.{band}
use Rattle.homa_plain.specs.Wire.{packet_in}
use Rattle.homa_plain.specs.Entries.{PlainEntry, PlainDeliver, PlainClock, PlainRestart, PlainInject, PlainShift}
use Rattle.homa_plain.specs.Packets.{receiver}
use Rattle.homa_plain.specs.Host.{Host, new_host, packets_in, entries_from}
use Rattle.homa_plain.specs.Work.{Work}
use Rattle.homa_plain.specs.Steps.{start_fault, call_step, arrival_step, turn_step}
use Rattle.homa_plain.specs.World.{World, SentPacket, After, Refused, Done, host_at, own_clock, next_answer, answers_left, stamped, started}
use Rattle.homa_plain.specs.World.{calls_from, call_outcome, arrives_at, is_late, delivered, last_tick, clock_outcome, turns, restarts, injected}
use Rattle.homa_plain.specs.World.{shifted}

-- what a host's step leaves of the world, and what is told of it
abbrev pub after_step : World → HostId → List PlainEntry → Work → After
after_step w id first work = record {
  world = record w {
    hosts = slice_set w.hosts id.0 work.host;
    packets = w.packets ++ stamped w.clock (packets_in work.told);
    answers = answers_left work.told w.answers;
  };
  told = first ++ entries_from (length w.packets) work.told;
}

refused_done : {fault : _} {after : After} → Refused fault ≡ Done after → ⊥
refused_done e = cc

same_done : (a b : After) → Done a ≡ Done b → b ≡ a
same_done a b e = cc

module _ (s : Settings) (w : World) (after : After) where
  -- a call is made
  pub record IsCalled (client server : HostId) (number : ℕ) (request : List ℕ) : Type 0 where
    pub host : Host
    pub stands : host_at w client ≡ Some host
    pub other : is_some (host_at w server) ≡ true
    pub may : start_fault s host server request ≡ None
    pub is : after ≡ after_step w client [] (call_step s host (own_clock w client) server number request)

  -- a packet is delivered
  pub record IsDelivered (n : ℕ) : Type 0 where
    pub sent : SentPacket
    pub at : slice_get w.packets n ≡ Some sent
    pub early : is_late s w sent.tick ≡ false
    pub host : Host
    pub stands : host_at w (receiver sent.packet) ≡ Some host
    pub is : after ≡ after_step w (receiver sent.packet) (PlainDeliver n ∷ [])
        (arrival_step s host (own_clock w (receiver sent.packet)) (Some sent.packet) (next_answer w.answers))

  -- bytes that are no packet come
  pub record IsInjected (id : HostId) (bytes : List ℕ) : Type 0 where
    pub host : Host
    pub stands : host_at w id ≡ Some host
    pub none : packet_in s.wire bytes ≡ None
    pub is : after ≡ after_step w id (PlainInject id bytes ∷ []) (arrival_step s host (own_clock w id) None (next_answer w.answers))

  -- a host has a turn
  pub record IsTurned (id : HostId) : Type 0 where
    pub host : Host
    pub stands : host_at w id ≡ Some host
    pub is : after ≡ after_step w id [] (turn_step s host (own_clock w id))

  -- a host restarts
  pub record IsRestarted (id : HostId) : Type 0 where
    pub host : Host
    pub stands : host_at w id ≡ Some host
    pub spares : ℕ
    pub left : w.spares ≡ suc spares
    pub is : after ≡ record {
      world = record w { hosts = slice_set w.hosts id.0 (new_host s id (host.inc + 1) host.last); spares = spares };
      told = PlainRestart id (host.inc + 1) ∷ [];
    }

  -- a host's own clock is set anew
  pub record IsShifted (id : HostId) (n : ℕ) : Type 0 where
    pub host : Host
    pub stands : host_at w id ≡ Some host
    pub most : n ≤ band s
    pub forth : host.last ≤ w.clock + n
    pub is : after ≡ record { world = record w { leads = slice_set w.leads id.0 n }; told = PlainShift id n ∷ [] }

  -- the clock goes on
  pub record IsTicked : Type 0 where
    pub before : (w.clock == last_tick) ≡ false
    pub is : after ≡ record { world = record w { clock = w.clock + 1 }; told = PlainClock (w.clock + 1) ∷ [] }

  -- ---- calls

  started_is : (client server : HostId) (number : ℕ) (request : List ℕ) (h : Host) (o : Option StartFault) → start_fault s h server request ≡ o
      → host_at w client ≡ Some h → is_some (host_at w server) ≡ true
      → started s w client server number request h o ≡ Done after → IsCalled client server number request
  started_is client server number request h (Some fault) may stands other e = absurd (refused_done e)
  started_is client server number request h None may stands other e = record { host = h; stands = stands; other = other; may = may; is = same_done _ after e }

  called_is : (client server : HostId) (number : ℕ) (request : List ℕ) (o : Option Host) → host_at w client ≡ o → is_some (host_at w server) ≡ true
      → calls_from s w client server number request o ≡ Done after → IsCalled client server number request
  called_is client server number request None stands other e = absurd (refused_done e)
  called_is client server number request (Some h) stands other e =
      started_is client server number request h (start_fault s h server request) refl stands other e

  pub call_done : (client server : HostId) (number : ℕ) (request : List ℕ) → call_outcome s w client server number request ≡ Done after
      → IsCalled client server number request
  call_done client server number request e = by_test (is_some (host_at w server)) refl e where
    by_test : (b : Bool) → is_some (host_at w server) ≡ b
        → cond b (calls_from s w client server number request (host_at w client)) (Refused NoSuchHost) ≡ Done after → IsCalled client server number request
    by_test false other e = absurd (refused_done e)
    by_test true other e = called_is client server number request (host_at w client) refl other e

  -- ---- deliveries

  arrived_is : (n : ℕ) (sent : SentPacket) (o : Option Host) → slice_get w.packets n ≡ Some sent → is_late s w sent.tick ≡ false
      → host_at w (receiver sent.packet) ≡ o
      → arrives_at s w (receiver sent.packet) (PlainDeliver n ∷ []) (Some sent.packet) o ≡ Done after → IsDelivered n
  arrived_is n sent None at early stands e = absurd (refused_done e)
  arrived_is n sent (Some h) at early stands e = record { sent = sent; at = at; early = early; host = h; stands = stands; is = same_done _ after e }

  packet_is : (n : ℕ) (o : Option SentPacket) → slice_get w.packets n ≡ o → delivered s w n o ≡ Done after → IsDelivered n
  packet_is n None at e = absurd (refused_done e)
  packet_is n (Some sent) at e = by_test (is_late s w sent.tick) refl e where
    by_test : (b : Bool) → is_late s w sent.tick ≡ b
        → cond b (Refused (Late sent.tick w.clock))
        (arrives_at s w (receiver sent.packet) (PlainDeliver n ∷ []) (Some sent.packet) (host_at w (receiver sent.packet))) ≡ Done after → IsDelivered n
    by_test true early e = absurd (refused_done e)
    by_test false early e = arrived_is n sent (host_at w (receiver sent.packet)) at early refl e

  pub deliver_done : (n : ℕ) → delivered s w n (slice_get w.packets n) ≡ Done after → IsDelivered n
  deliver_done n e = packet_is n (slice_get w.packets n) refl e

  -- ---- the others

  pub inject_done : (id : HostId) (bytes : List ℕ) (o : Option Host) (read : Option (WirePacket × List ℕ)) → host_at w id ≡ o
      → packet_in s.wire bytes ≡ read → injected s w id bytes o read ≡ Done after → IsInjected id bytes
  inject_done id bytes None read stands none e = absurd (refused_done e)
  inject_done id bytes (Some h) (Some packet) stands none e = absurd (refused_done e)
  inject_done id bytes (Some h) None stands none e = record { host = h; stands = stands; none = none; is = same_done _ after e }

  pub turn_done : (id : HostId) (o : Option Host) → host_at w id ≡ o → turns s w id o ≡ Done after → IsTurned id
  turn_done id None stands e = absurd (refused_done e)
  turn_done id (Some h) stands e = record { host = h; stands = stands; is = same_done _ after e }

  pub restart_done : (id : HostId) (o : Option Host) (spares : ℕ) → host_at w id ≡ o → w.spares ≡ spares → restarts s w id o spares ≡ Done after
      → IsRestarted id
  restart_done id None spares stands left e = absurd (refused_done e)
  restart_done id (Some h) zero stands left e = absurd (refused_done e)
  restart_done id (Some h) (suc spares) stands left e = record { host = h; stands = stands; spares = spares; left = left; is = same_done _ after e }

  pub shift_done : (id : HostId) (n : ℕ) (o : Option Host) → host_at w id ≡ o → shifted s w id n o ≡ Done after → IsShifted id n
  shift_done id n None stands e = absurd (refused_done e)
  shift_done id n (Some h) stands e = by_band (nat_lt (band s) n) refl (nat_lt (w.clock + n) h.last) refl e where
    by_band : (b : Bool) → nat_lt (band s) n ≡ b → (c : Bool) → nat_lt (w.clock + n) h.last ≡ c
        → cond b (Refused (OutOfBand n (band s)))
        (cond c (Refused (Back h.last (w.clock + n)))
        (Done (record { world = record w { leads = slice_set w.leads id.0 n }; told = PlainShift id n ∷ [] }))) ≡ Done after → IsShifted id n
    by_band true f c g e = absurd (refused_done e)
    by_band false f true g e = absurd (refused_done e)
    by_band false f false g e =
        record { host = h; stands = stands; most = ltb-false (band s) n f; forth = ltb-false (w.clock + n) h.last g; is = same_done _ after e }

  pub clock_done : clock_outcome w ≡ Done after → IsTicked
  clock_done e = by_test (w.clock == last_tick) refl e where
    by_test : (b : Bool) → (w.clock == last_tick) ≡ b
        → cond b (Refused ClockEnd) (Done (record { world = record w { clock = w.clock + 1 }; told = PlainClock (w.clock + 1) ∷ [] })) ≡ Done after → IsTicked
    by_test true f e = absurd (refused_done e)
    by_test false f e = record { before = f; is = same_done _ after e }
