-- For what a line of a schedule is refused: never for want of memory.
use Rattle.std.proofs.Common.{◌≡◌, ℕ, zero, suc, ◌+◌, Bool, true, false, Option, Some, None, List, [], ◌∷◌, refl}
use Rattle.std.specs.Prelude.{nat_lt, is_some, if◌then◌else◌, slice_get, ◌==◌}
use Rattle.std.specs.Option.{IfSome}
use Rattle.homa_plain.specs.declared.id.HostId.{HostId}
use Rattle.homa_plain.specs.declared.packet.Packet.{Packet as WirePacket}
use Rattle.homa_plain.specs.declared.settings.Settings.{Settings}
use Rattle.homa_plain.specs.declared.event.Event.{Event}
use Rattle.homa_plain.specs.declared.event.Event.TheVariants as event
use Rattle.homa_plain.specs.declared.fault.StartFault.{StartFault}
use Rattle.homa_plain.specs.declared.fault.LineFault.{LineFault}
use Rattle.homa_plain.specs.declared.fault.LineFault.TheVariants.{World as ByWorld}
use Rattle.homa_plain.specs.Settings.{band}
use Rattle.homa_plain.specs.Wire.{packet_in}
use Rattle.homa_plain.specs.Entries.{PlainEntry, PlainDeliver, IsCause}
use Rattle.homa_plain.specs.Packets.{Packet, receiver}
use Rattle.homa_plain.specs.Host.{Host}
use Rattle.trace_rules.specs.Lines.{is_last}
use Rattle.homa_plain.specs.Script.{Step, Refusal, Opening, Opened, Unopened, opening, most_bytes}
use Rattle.homa_plain.specs.Rules.{Answer}
use Rattle.homa_plain.specs.Steps.{start_fault}
use Rattle.homa_plain.specs.World.{World, SentPacket, Outcome, Refused, Done, outcome, host_at, calls_from, started, arrives_at, is_late, delivered}
use Rattle.homa_plain.specs.World.{last_tick, turns, restarts, injected, shifted}
use Rattle.homa_plain.specs.Replay.{Happening, Run, Replay, End, Finished, RefusedAt, after_event, with_told, end_after, events_of, carried, replayed}
use Rattle.homa_plain.specs.Replay.{replay_opened, replay, last_entry}
use Rattle.trace_laws.specs.Shaped.{HasCause}

-- ---- an event

-- an event is done, or refused for a cause that may refuse a line
abbrev MayCome : Outcome → Type 0
MayCome (Refused fault) = IsCause (ByWorld fault)
MayCome (Done after) = Unit {0}

by_test : (b : Bool) (x y : Outcome) → MayCome x → MayCome y → MayCome (if b then x else y)
by_test true x y p q = p
by_test false x y p q = q

starts : (s : Settings) (w : World) (client server : HostId) (number : ℕ) (request : List ℕ) (h : Host) (fault : Option StartFault)
    → MayCome (started s w client server number request h fault)
starts s w client server number request h (Some fault) = tt
starts s w client server number request h None = tt

calls : (s : Settings) (w : World) (client server : HostId) (number : ℕ) (request : List ℕ) (o : Option Host)
    → MayCome (calls_from s w client server number request o)
calls s w client server number request None = tt
calls s w client server number request (Some h) = starts s w client server number request h (start_fault s h server request)

arrives : (s : Settings) (w : World) (id : HostId) (first : List PlainEntry) (packet : Option Packet) (o : Option Host)
    → MayCome (arrives_at s w id first packet o)
arrives s w id first packet None = tt
arrives s w id first packet (Some h) = tt

comes : (s : Settings) (w : World) (n : ℕ) (o : Option SentPacket) → MayCome (delivered s w n o)
comes s w n None = tt
comes s w n (Some sent) =
    let id = receiver sent.packet in
    by_test (is_late s w sent.tick) _ (arrives_at s w id (PlainDeliver n ∷ []) (Some sent.packet) (host_at w id)) tt
    (arrives s w id (PlainDeliver n ∷ []) (Some sent.packet) (host_at w id))

has_turn : (s : Settings) (w : World) (id : HostId) (o : Option Host) → MayCome (turns s w id o)
has_turn s w id None = tt
has_turn s w id (Some h) = tt

begins_anew : (s : Settings) (w : World) (id : HostId) (o : Option Host) (spares : ℕ) → MayCome (restarts s w id o spares)
begins_anew s w id None spares = tt
begins_anew s w id (Some h) zero = tt
begins_anew s w id (Some h) (suc spares) = tt

comes_from_outside : (s : Settings) (w : World) (id : HostId) (bytes : List ℕ) (o : Option Host) (read : Option (WirePacket × List ℕ))
    → MayCome (injected s w id bytes o read)
comes_from_outside s w id bytes None read = tt
comes_from_outside s w id bytes (Some h) (Some read) = tt
comes_from_outside s w id bytes (Some h) None = tt

is_shifted : (s : Settings) (w : World) (id : HostId) (n : ℕ) (o : Option Host) → MayCome (shifted s w id n o)
is_shifted s w id n None = tt
is_shifted s w id n (Some h) = by_test (nat_lt (band s) n) _ _ tt (by_test (nat_lt (w.clock + n) h.last) _ _ tt tt)

event_cause : (s : Settings) (w : World) (e : Event) (bytes : List ℕ) → MayCome (outcome s w e bytes)
unfolding outcome
event_cause s w (event.Call client server number) bytes = by_test (is_some (host_at w server)) _ _ (calls s w client server number bytes (host_at w client)) tt
event_cause s w (event.Deliver n) bytes = comes s w n (slice_get w.packets n)
event_cause s w event.Clock bytes = by_test (w.clock == last_tick) _ _ tt tt
event_cause s w (event.Turn host) bytes = has_turn s w host (host_at w host)
event_cause s w (event.Restart host) bytes = begins_anew s w host (host_at w host) w.spares
event_cause s w (event.Inject host) bytes = comes_from_outside s w host bytes (host_at w host) (packet_in s.wire bytes)
event_cause s w (event.Shift host n) bytes = is_shifted s w host n (host_at w host)

-- ---- events and lines

run_cause : (s : Settings) (w : World) (es : List Happening) → IfSome (carried s w es).fault IsCause
unfolding carried
run_cause s w [] = tt
run_cause s w (e ∷ es) = by_outcome (outcome s w e.event e.bytes) (event_cause s w e.event e.bytes) (λ v. run_cause s v es) where
  by_outcome : (o : Outcome) → MayCome o → ((v : World) → IfSome (carried s v es).fault IsCause)
      → IfSome (elim o as (λ _. Run) [
        | Refused fault ↦ record { world = w; told = []; count = 0; fault = Some (ByWorld fault) }
        | Done after ↦
            after_event after.told (carried s after.world es)
      ]).fault IsCause
  by_outcome (Refused fault) may later = may
  by_outcome (Done after) may later = later after.world

end_cause : (events : ℕ) (refused : Option Refusal) → HasCause (last_entry (end_after events refused))
end_cause events None = tt
end_cause events (Some refusal) = tt

lines_cause : (s : Settings) (w : World) (events : ℕ) (steps : List Step) (refused : Option Refusal)
    → HasCause (last_entry (replayed s w events steps refused).end)
unfolding replayed
lines_cause s w events [] refused = end_cause events refused
lines_cause s w events (step ∷ steps) refused =
    let run = carried s w (events_of s.hosts step.given) in
    by_fault run run.fault (run_cause s w (events_of s.hosts step.given)) (λ v n. lines_cause s v n steps refused) where
      by_fault : (run : Run) (o : Option LineFault) → IfSome o IsCause → ((v : World) (n : ℕ) → HasCause (last_entry (replayed s v n steps refused).end))
          → HasCause (last_entry (elim o as (λ _. Replay) [
            | Some fault ↦ record { told = run.told; end = RefusedAt step.line fault }
            | None ↦ with_told run.told (replayed s run.world (events + run.count) steps refused)
          ]).end)
      by_fault run None may later = later run.world (events + run.count)
      by_fault run (Some fault) may later = may

-- ---- a replay

by_opening : (o : Opening) (answers : List Answer) (boxes : ℕ) → HasCause (last_entry (replay_opened o answers boxes).end)
by_opening (Unopened refusal) answers boxes = tt
by_opening (Opened s steps) answers boxes = lines_cause s _ 0 steps.steps steps.refused

pub replay_cause : (bytes : List ℕ) (answers : List Answer) (boxes : ℕ) → HasCause (last_entry (replay bytes answers boxes).end)
unfolding replay
replay_cause bytes answers boxes = by_opening (opening most_bytes bytes) answers boxes

pub last_is_last : (end : End) → is_last (last_entry end) ≡ true
last_is_last (Finished events) = refl
last_is_last (RefusedAt line fault) = refl
