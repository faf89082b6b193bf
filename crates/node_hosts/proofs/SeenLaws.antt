-- The entries of a step may be told to any observer.
use Rattle.std.proofs.Common.{◌≡◌, refl, ap, ℕ, suc, Option, None, Some, List, [], ◌∷◌, arith}
use Rattle.std.specs.Prelude.{map, slice_get, length}
use Rattle.std.specs.List.{AllByRecursion}
use Rattle.homa_plain.specs.declared.settings.Settings.{Settings}
use Rattle.homa_plain.specs.declared.packet.Packet.{Packet as WirePacket}
use Rattle.homa_plain.specs.Entries.{PlainEntry, PlainSend, PlainSettings, PlainClock, PlainRecv}
use Rattle.homa_plain.specs.Packets.{Packet}
use Rattle.homa_plain.specs.Host.{Told, Says, Sends, packets_in, entries_from}
use Rattle.host_view.specs.declared.mark.Mark.{Mark}
use Rattle.host_view.specs.declared.mark.Mark.TheVariants as mark
use Rattle.host_view.specs.declared.outbox.SentFrame.{SentFrame}
use Rattle.host_view.specs.Frames.{IsFormed, read_line, line_of, packet_of}
use Rattle.host_view.specs.Marks.{shown}
use Rattle.host_view.specs.Seen.{Seen}
use Rattle.node_io.specs.Observer.{IsSeen}
use Rattle.node_runs.specs.Course.{Tells}
use Rattle.node_turns.specs.Told.{numbers_of}
use Rattle.node_turns.specs.Acting.{IsOwn}
use Rattle.event_laws.specs.Named.{IsOfStep}

-- no settings, no tick of the clock, and not that a datagram comes
abbrev pub IsOfHost : PlainEntry → Type 0
IsOfHost (PlainSettings s) = ⊥
IsOfHost (PlainClock tick) = ⊥
IsOfHost (PlainRecv host from bytes) = ⊥
IsOfHost entry = Unit {0}

read_of : (n : ℕ) (f : SentFrame) (o : Option (WirePacket × List ℕ)) → IsOfHost (read_line n f o)
read_of n f None = tt
read_of n f (Some r) = tt

line_is : (h : Seen) (n : ℕ) (o : Option SentFrame) → IsOfHost (line_of h.settings n o)
line_is h n None = tt
line_is h n (Some f) = read_of n f (packet_of h.settings f)

mark_of : (h : Seen) (frames : List SentFrame) (whole : List ℕ) (m : Mark) → IsOfHost (shown h frames whole m)
mark_of h frames whole (mark.Sent n) = line_is h n (slice_get frames n)
mark_of h frames whole (mark.Called id server service) = tt
mark_of h frames whole mark.Junk = tt
mark_of h frames whole (mark.Stale at) = tt
mark_of h frames whole (mark.Balanced cutoffs) = tt
mark_of h frames whole (mark.Ran id service hold) = tt
mark_of h frames whole (mark.Done id) = tt
mark_of h frames whole (mark.Failed id why) = tt
mark_of h frames whole (mark.Dropped id) = tt
mark_of h frames whole (mark.TooManyGaps id) = tt
mark_of h frames whole (mark.Entombed id until) = tt
mark_of h frames whole (mark.Freed id) = tt
mark_of h frames whole (mark.NoRow id rows limit) = tt
mark_of h frames whole (mark.NoPages id need free) = tt

pub marks_of : (h : Seen) (frames : List SentFrame) (whole : List ℕ) (marks : List Mark) → AllByRecursion IsOfHost (map (shown h frames whole) marks)
marks_of h frames whole [] = tt
marks_of h frames whole (m ∷ ms) = (mark_of h frames whole m, marks_of h frames whole ms)

-- what is sent is well formed, whatever the version
formed_seen : (s : Settings) (n : ℕ) (p : Packet) → IsFormed s p → IsSeen (PlainSend n p.server p.server p.inc p.role p.id p.level p.body p.payload)
formed_seen s n p f = record { version = omega (arith); sender = f.sender; call = f.call; tick = omega (arith); of_kind = f.of_kind; bytes = f.bytes }

-- each entry of a step, with any numbers
pub all_seen : (s : Settings) (m k : ℕ) (told : List Told) → AllByRecursion (IsFormed s) (packets_in told) → AllByRecursion IsOfStep told
    → AllByRecursion IsOfHost (entries_from k told) → AllByRecursion IsSeen (entries_from m told)
all_seen s m k [] formed said of = tt
all_seen s m k (Sends p ∷ told) formed said of = (formed_seen s m p formed.0, all_seen s (suc m) (suc k) told formed.1 said.1 of.1)
all_seen s m k (Says entry ∷ told) formed said of = (by_entry entry said.0 of.0, all_seen s m k told formed said.1 of.1) where
  by_entry : (entry : PlainEntry) → IsOfStep (Says entry) → IsOfHost entry → IsSeen entry
  by_entry (PlainSend number from to inc role id level what payload) said of = absurd said
  by_entry (PlainSettings s) said of = absurd of
  by_entry (PlainClock tick) said of = absurd of
  by_entry entry said of = tt

-- none of them tells that a datagram comes
pub all_own : (m k : ℕ) (told : List Told) → AllByRecursion IsOfHost (entries_from k told) → AllByRecursion IsOwn (entries_from m told)
all_own m k [] of = tt
all_own m k (Sends p ∷ told) of = (tt, all_own (suc m) (suc k) told of.1)
all_own m k (Says entry ∷ told) of = (by_entry entry of.0, all_own m k told of.1) where
  by_entry : (entry : PlainEntry) → IsOfHost entry → IsOwn entry
  by_entry (PlainRecv host from bytes) of = of
  by_entry entry of = tt

-- they tell each packet once
pub numbers_told : (k : ℕ) (told : List Told) → AllByRecursion IsOfStep told → length (packets_in told) ≡ length (numbers_of (map Tells (entries_from k told)))
numbers_told k [] said = refl
numbers_told k (Sends p ∷ told) said = ap suc (numbers_told (suc k) told said.1)
numbers_told k (Says entry ∷ told) said = by_entry entry said.0 (numbers_told k told said.1) where
  by_entry : (entry : PlainEntry) → IsOfStep (Says entry) → length (packets_in told) ≡ length (numbers_of (map Tells (entries_from k told)))
      → length (packets_in told) ≡ length (numbers_of (Tells entry ∷ map Tells (entries_from k told)))
  by_entry (PlainSend number from to inc role id level what payload) said rest = absurd said
  by_entry entry said rest = rest
