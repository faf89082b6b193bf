-- What a recorder prints of each report of a node, what it keeps of it, and which datagrams are foreign to it.
use Rattle.std.specs.Prelude.{ℕ, zero, suc, ◌+◌, ◌-◌, ◌==◌, ◌&&◌, nat_le, Bool, true, false, is_some, if◌then◌else◌, max, Option, None, Some, List}
use Rattle.std.specs.Prelude.{[], ◌∷◌, ◌++◌, map, filter, codes}
use Rattle.std.specs.Str.{bytes_eq}
use Rattle.std.specs.List.{flat_map}
use Rattle.homa_plain.specs.declared.id.CallId.{CallId}
use Rattle.homa_plain.specs.declared.id.HostId.{HostId}
use Rattle.homa_plain.specs.declared.packet.Packet.{Packet as WirePacket}
use Rattle.homa_plain.specs.declared.packet.Body.{Body}
use Rattle.homa_plain.specs.declared.packet.Role.{Role}
use Rattle.homa_plain.specs.declared.settings.Settings.{Settings}
use Rattle.homa_plain.specs.declared.event.Event.TheVariants as event
use Rattle.homa_plain.specs.Calls.{is_host}
use Rattle.homa_plain.specs.Wire.{packet_in, spelling}
use Rattle.homa_plain.specs.Entries.{PlainSettings, PlainClock, PlainCall, PlainSend, PlainRecv}
use Rattle.homa_plain.specs.Text.{line_of_words, host_word, hex_word}
use Rattle.homa_plain.specs.Script.{event_text, settings_text}
use Rattle.homa_plain.specs.Replay.{Happening, bare}
use Rattle.node_runs.specs.Course.{Report, Tells, Turning}

-- a datagram that was sent, with its packet's number and its tick
pub record Kept : Type 0 where
  pub number : ℕ
  pub from : HostId
  pub to : HostId
  pub tick : ℕ
  pub bytes : List ℕ

-- what a recorder keeps: the clock's tick, the settings once they were reported, the datagrams that may still arrive
pub record Notes : Type 0 where
  pub tick : ℕ
  pub settings : Option Settings
  pub datagrams : List Kept

-- the notes of a recorder before the first report
abbrev pub no_notes : Notes
no_notes = record { tick = 0; settings = None; datagrams = [] }

-- ---- datagrams that arrive

-- what a datagram that arrives is: the one with this number, which was sent; junk, which is no packet;
-- or a packet that its sender, in this run, didn't send to this host in the last `life` ticks
pub data Kind : Type 0 where
  Sent : (number : ℕ) → Kind
  Junk : Kind
  Strange : Kind

-- whether a datagram that was sent went from this host to that one with these bytes
abbrev pub is_same : HostId → HostId → List ℕ → Kept → Bool
is_same host from bytes d = is_host d.to host && is_host d.from from && bytes_eq d.bytes bytes

-- the greatest of some numbers
abbrev pub greatest : List ℕ → Option ℕ
greatest [] = None
greatest (n ∷ ns) = elim (greatest ns) [ None ↦ Some n | Some m ↦ Some (max n m) ]

-- by the number of the equal datagram that was sent last, if there is one, and whether the bytes are a packet
abbrev pub kind_by : Option ℕ → Bool → Kind
kind_by (Some number) is_packet = Sent number
kind_by None true = Strange
kind_by None false = Junk

-- the kind of these bytes; of several equal datagrams it names the one that was sent last
unfoldable pub kind_of : Settings → List Kept → HostId → HostId → List ℕ → Kind
kind_of s kept host from bytes =
    kind_by (greatest (map (λ (d : Kept). d.number) (filter (is_same host from bytes) kept))) (is_some (packet_in s.wire bytes))

-- what a datagram is by the notes; nothing before the settings were reported
abbrev pub kind_in : Notes → HostId → HostId → List ℕ → Option Kind
kind_in notes host from bytes = elim (notes.settings) [ None ↦ None | Some s ↦ Some (kind_of s notes.datagrams host from bytes) ]

-- whether a datagram is foreign
abbrev pub is_strange : Option Kind → Bool
is_strange (Some Strange) = true
is_strange kind = false

-- whether a report is of a foreign datagram: a packet that its sender, in this run, didn't send to this host in the
-- last `life` ticks
abbrev pub strange : Notes → Report → Bool
strange notes (Tells (PlainRecv host from bytes)) = is_strange (kind_in notes host from bytes)
strange notes report = false

-- ---- what is printed

-- so many events of the clock
abbrev pub clocks : ℕ → List Happening
clocks zero = []
clocks (suc n) = bare event.Clock ∷ clocks n

-- the event for a datagram that arrives
abbrev pub kind_events : HostId → List ℕ → Option Kind → List Happening
kind_events host bytes (Some (Sent number)) = bare (event.Deliver number) ∷ []
kind_events host bytes (Some Junk) = record { event = event.Inject host; bytes = bytes } ∷ []
kind_events host bytes kind = []

-- the events of a schedule for a report
abbrev pub events : Notes → Report → List Happening
events notes (Turning host) = bare (event.Turn host) ∷ []
events notes (Tells (PlainClock now)) = clocks (now - notes.tick)
events notes (Tells (PlainCall id server service bytes)) = record { event = event.Call id.client server service; bytes = bytes } ∷ []
events notes (Tells (PlainRecv host from bytes)) = kind_events host bytes (kind_in notes host from bytes)
events notes report = []

-- the line `stranger HOST FROM HEX`
abbrev pub stranger_text : HostId → HostId → List ℕ → List ℕ
stranger_text host from bytes = line_of_words (codes "stranger" ∷ host_word host ∷ host_word from ∷ hex_word bytes ∷ [])

-- lines that are no events: those of the settings, and that of a foreign datagram
abbrev pub other_text : Notes → Report → List ℕ
other_text notes (Tells (PlainSettings s)) = settings_text s
other_text notes (Tells (PlainRecv host from bytes)) = if is_strange (kind_in notes host from bytes) then stranger_text host from bytes else []
other_text notes report = []

-- what a recorder prints of a report
unfoldable pub told : Notes → Report → List ℕ
told notes report = other_text notes report ++ flat_map (λ (h : Happening). event_text h.event h.bytes) (events notes report)

-- ---- what is kept

-- a datagram may be delivered for `life` ticks
abbrev pub in_life : Settings → ℕ → Kept → Bool
in_life s now d = nat_le now (d.tick + s.life)

-- the datagrams that may still be delivered at this tick
abbrev pub still : Option Settings → ℕ → List Kept → List Kept
still None now kept = kept
still (Some s) now kept = filter (in_life s now) kept

-- the packet of a `send` line, which its host sent at its own clock
abbrev pub sent_packet : Settings → ℕ → ℕ → Role → CallId → ℕ → Body → WirePacket
sent_packet s tick inc role id level body = record {
  role = role;
  level = level;
  sender = inc;
  inc = id.inc;
  seq = id.seq;
  at = if s.wire == 1 then 0 else tick + s.skew;
  body = body;
}

-- a datagram that is sent now
abbrev pub keeps : Option Settings → ℕ → HostId → HostId → (Settings → List ℕ) → Notes → Notes
keeps None number from to bytes notes = notes
keeps (Some s) number from to bytes notes =
    record notes { datagrams = notes.datagrams ++ record { number = number; from = from; to = to; tick = notes.tick; bytes = bytes s } ∷ [] }

-- what a recorder keeps after a report
unfoldable pub kept : Notes → Report → Notes
kept notes (Tells (PlainSettings s)) = record notes { settings = Some s }
kept notes (Tells (PlainClock now)) = let tick = max notes.tick now in record notes { tick = tick; datagrams = still notes.settings tick notes.datagrams }
kept notes (Tells (PlainSend number from to inc role id level body payload)) =
    keeps notes.settings number from to (λ (s : Settings). spelling s.wire (sent_packet s notes.tick inc role id level body) payload) notes
kept notes report = notes
