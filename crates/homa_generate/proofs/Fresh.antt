-- The packets that a line of a generated schedule sends have the tick that the clock shows after it.
use Rattle.std.proofs.Common.{Bool, true, false, ◌≡◌, ℕ, zero, suc, ◌+◌, ◌≤◌, ◌==◌, if◌then◌else◌, Option, None, Some, List, [], ◌∷◌, ◌++◌, length}
use Rattle.std.proofs.Common.{refl, sym, ap, ◌∙◌, subst, append_assoc, arith}
use Rattle.std.proofs.lemmas.List.{append-nil}
use Rattle.std.specs.List.{slice_get, AllByRecursion}
use Rattle.std.specs.Option.{is_some}
use Rattle.homa_plain.specs.declared.id.HostId.{HostId}
use Rattle.homa_plain.specs.declared.settings.Settings.{Settings}
use Rattle.homa_plain.specs.declared.event.Event.{Event}
use Rattle.homa_plain.specs.declared.event.Event.TheVariants as event
use Rattle.homa_plain.specs.declared.fault.StartFault.{StartFault}
use Rattle.homa_plain.specs.declared.fault.WorldFault.TheVariants.{ClockEnd}
use Rattle.homa_plain.specs.Entries.{PlainEntry, PlainClock, PlainDeliver}
use Rattle.homa_plain.specs.Packets.{Packet, receiver}
use Rattle.homa_plain.specs.Host.{Host, packets_in}
use Rattle.homa_plain.specs.Script.{Given, GivenEvent, GivenTicks}
use Rattle.homa_plain.specs.Work.{Work}
use Rattle.homa_plain.specs.Steps.{start_fault, call_step, arrival_step, turn_step}
use Rattle.homa_plain.specs.World.{World, SentPacket, Outcome, Refused, Done, outcome, stamped, stepped, started, calls_from, arrives_at, is_late}
use Rattle.homa_plain.specs.World.{delivered, last_tick, turns, host_at, own_clock, next_answer}
use Rattle.homa_plain.specs.Replay.{Happening, bare, turns_of, ticks, events_of, carried}
use Rattle.generated_runs.proofs.Carried.{by_outcome, first_event, no_event}
use Rattle.homa_generate.proofs.LineLaws.{one_tick}

-- packets were sent at the clock's tick, and the clock stands
pub record Grew (v w : World) : Type 0 where
  pub clock : w.clock ≡ v.clock
  pub more : List SentPacket
  pub packets : w.packets ≡ v.packets ++ more
  pub now : AllByRecursion (λ (x : SentPacket). x.tick ≡ v.clock) more

grew_none : (v : World) → Grew v v
grew_none v = record { clock = refl; more = []; packets = sym (append-nil v.packets); now = tt }

all_both : {X : Type 0} (P : X → Type 0) (xs ys : List X) → AllByRecursion P xs → AllByRecursion P ys → AllByRecursion P (xs ++ ys)
all_both P [] ys a b = b
all_both P (x ∷ xs) ys a b = (a.0, all_both P xs ys a.1 b)

grew_then : (u v w : World) → Grew u v → Grew v w → Grew u w
grew_then u v w a b = record {
  clock = b.clock ∙ a.clock;
  more = a.more ++ b.more;
  packets = b.packets ∙ (ap (λ (ps : List SentPacket). ps ++ b.more) a.packets ∙ append_assoc u.packets a.more b.more);
  now = all_both (λ (x : SentPacket). x.tick ≡ u.clock) a.more b.more a.now
      (subst (λ (n : ℕ). AllByRecursion (λ (x : SentPacket). x.tick ≡ n) b.more) a.clock b.now);
}

-- ---- an event

abbrev pub GrewBy : World → Outcome → Type 0
GrewBy w (Refused fault) = Unit {0}
GrewBy w (Done after) = Grew w after.world

stamped_now : (n : ℕ) (ps : List Packet) → AllByRecursion (λ (x : SentPacket). x.tick ≡ n) (stamped n ps)
stamped_now n [] = tt
stamped_now n (p ∷ ps) = (refl, stamped_now n ps)

step_grew : (w : World) (id : HostId) (first : List PlainEntry) (step : Work) → GrewBy w (stepped w id first step)
step_grew w id first step =
    record { clock = refl; more = stamped w.clock (packets_in step.told); packets = refl; now = stamped_now w.clock (packets_in step.told) }

either_grew : (w : World) (b : Bool) (x y : Outcome) → GrewBy w x → GrewBy w y → GrewBy w (if b then x else y)
either_grew w true x y p q = p
either_grew w false x y p q = q

module _ (s : Settings) (w : World) where
  start_grew : (client server : HostId) (number : ℕ) (request : List ℕ) (h : Host) (fault : Option StartFault)
      → GrewBy w (started s w client server number request h fault)
  start_grew client server number request h (Some fault) = tt
  start_grew client server number request h None = step_grew w client [] (call_step s h (own_clock w client) server number request)

  from_grew : (client server : HostId) (number : ℕ) (request : List ℕ) (o : Option Host) → GrewBy w (calls_from s w client server number request o)
  from_grew client server number request None = tt
  from_grew client server number request (Some h) = start_grew client server number request h (start_fault s h server request)

  arrive_grew : (id : HostId) (first : List PlainEntry) (packet : Option Packet) (o : Option Host) → GrewBy w (arrives_at s w id first packet o)
  arrive_grew id first packet None = tt
  arrive_grew id first packet (Some h) = step_grew w id first (arrival_step s h (own_clock w id) packet (next_answer w.answers))

  deliver_grew : (n : ℕ) (o : Option SentPacket) → GrewBy w (delivered s w n o)
  deliver_grew n None = tt
  deliver_grew n (Some sent) =
      either_grew w (is_late s w sent.tick) _ _ tt
      (arrive_grew (receiver sent.packet) (PlainDeliver n ∷ []) (Some sent.packet) (host_at w (receiver sent.packet)))

  turn_grew : (id : HostId) (o : Option Host) → GrewBy w (turns s w id o)
  turn_grew id None = tt
  turn_grew id (Some h) = step_grew w id [] (turn_step s h (own_clock w id))

-- the events of a generated schedule, but for the clock's
abbrev pub IsMade : Event → Type 0
IsMade (event.Call client server number) = Unit {0}
IsMade (event.Deliver packet) = Unit {0}
IsMade (event.Turn host) = Unit {0}
IsMade e = ⊥

event_grew : (s : Settings) (w : World) (e : Event) (bytes : List ℕ) → IsMade e → GrewBy w (outcome s w e bytes)
unfolding outcome
event_grew s w (event.Call client server number) bytes made =
    either_grew w (is_some (host_at w server)) _ _ (from_grew s w client server number bytes (host_at w client)) tt
event_grew s w (event.Deliver packet) bytes made = deliver_grew s w packet (slice_get w.packets packet)
event_grew s w event.Clock bytes made = absurd made
event_grew s w (event.Turn host) bytes made = turn_grew s w host (host_at w host)
event_grew s w (event.Restart host) bytes made = absurd made
event_grew s w (event.Inject host) bytes made = absurd made
event_grew s w (event.Shift host n) bytes made = absurd made

-- ---- events

first_grew : (s : Settings) (w : World) (es : List Happening) (o : Outcome) → GrewBy w o → ((v : World) → Grew v (carried s v es).world)
    → Grew w (by_outcome s w es o).world
first_grew s w es (Refused fault) one rest = grew_none w
first_grew s w es (Done after) one rest = grew_then w after.world (carried s after.world es).world one (rest after.world)

events_grew : (s : Settings) (w : World) (es : List Happening) → AllByRecursion (λ (e : Happening). IsMade e.event) es → Grew w (carried s w es).world
events_grew s w [] made = rw (no_event s w) (grew_none w)
events_grew s w (e ∷ es) made =
    rw (first_event s w e es) (first_grew s w es (outcome s w e.event e.bytes) (event_grew s w e.event e.bytes made.0) (λ v. events_grew s v es made.1))

turns_made : (n hosts : ℕ) → AllByRecursion (λ (e : Happening). IsMade e.event) (turns_of n hosts)
turns_made n zero = tt
turns_made n (suc hosts) = (tt, turns_made (suc n) hosts)

-- ---- a line

-- the packets that are new in the second world have its clock's tick
abbrev pub IsSentNow : World → World → Type 0
IsSentNow v w = (n : ℕ) (sent : SentPacket) → length v.packets ≤ n → slice_get w.packets n ≡ Some sent → sent.tick ≡ w.clock

behind : (P : SentPacket → Type 0) (xs more : List SentPacket) (n : ℕ) (x : SentPacket) → length xs ≤ n → slice_get (xs ++ more) n ≡ Some x
    → AllByRecursion P more → P x
behind P [] [] n x l is all = cc
behind P [] (y ∷ ys) zero x l is all = subst P (some y x is) all.0 where
  some : (a b : SentPacket) → Some a ≡ Some b → a ≡ b
  some a b e = cc
behind P [] (y ∷ ys) (suc n) x l is all = behind P [] ys n x (omega arith) is all.1
behind P (y ∷ ys) more zero x l is all = absurd (omega (arith, l))
behind P (y ∷ ys) more (suc n) x l is all = behind P ys more n x (omega (arith, l)) is all

grew_now : (v w : World) → Grew v w → IsSentNow v w
grew_now v w g n sent l is = behind (λ (x : SentPacket). x.tick ≡ v.clock) v.packets g.more n sent l (rw (sym g.packets) is) g.now ∙ sym g.clock

-- the lines of a generated schedule
abbrev pub IsMadeLine : Given → Type 0
IsMadeLine (GivenEvent e bytes) = IsMade e
IsMadeLine (GivenTicks n) = n ≡ 1

tick_now : (s : Settings) (w : World) (es : List Happening) → AllByRecursion (λ (e : Happening). IsMade e.event) es → (last : Bool)
    → IsSentNow w
    (by_outcome s w es
    (if last then Refused ClockEnd else Done (record { world = record w { clock = w.clock + 1 }; told = PlainClock (w.clock + 1) ∷ [] }))).world
tick_now s w es made true = grew_now w w (grew_none w)
tick_now s w es made false = grew_now _ _ (events_grew s (record w { clock = w.clock + 1 }) es made)

ticked_now : (s : Settings) (w : World) (es : List Happening) → AllByRecursion (λ (e : Happening). IsMade e.event) es
    → IsSentNow w (by_outcome s w es (outcome s w event.Clock [])).world
unfolding outcome
ticked_now s w es made = tick_now s w es made (w.clock == last_tick)

pub line_now : (s : Settings) (w : World) (line : Given) → IsMadeLine line → IsSentNow w (carried s w (events_of s.hosts line)).world
line_now s w (GivenEvent e bytes) made = grew_now _ _ (events_grew s w (record { event = e; bytes = bytes } ∷ []) (made, tt))
line_now s w (GivenTicks n) one =
    subst (λ (k : ℕ). IsSentNow w (carried s w (ticks s.hosts k)).world) (sym one)
    (rw (one_tick s.hosts) (rw (first_event s w (bare event.Clock) (turns_of 0 s.hosts)) (ticked_now s w (turns_of 0 s.hosts) (turns_made 0 s.hosts))))
