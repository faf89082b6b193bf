-- Packets as bytes, in versions 1 and 2: which are well formed, the one spelling of each, the packet that bytes spell.
-- The layouts are this project's own.
use Rattle.std.specs.Prelude.{◌≡◌, ℕ, zero, suc, ◌+◌, ◌*◌, ◌^◌, ◌<◌, ◌≤◌, Bool, true, false, ◌&&◌, ◌==◌, nat_lt, nat_le, if◌then◌else◌, Option, None}
use Rattle.std.specs.Prelude.{Some, IfSome, List, [], ◌∷◌, ◌++◌, length}
use Rattle.std.specs.List.{AllByRecursion, flat_map, list_all}
use Rattle.std.specs.Int.{w16, w32, w64, to_be_bytes}
use Rattle.homa_plain.specs.declared.packet.Role.{Role}
use Rattle.homa_plain.specs.declared.packet.Role.TheVariants.{Client, Server}
use Rattle.homa_plain.specs.declared.packet.Body.{Body}
use Rattle.homa_plain.specs.declared.packet.Body.TheVariants as body
use Rattle.homa_plain.specs.declared.packet.Packet.{Packet}
use Rattle.homa_plain.specs.Bytes.{IsBytes, ◌>>=◌, byte_at, number_at, two, two_at, times}
use Rattle.homa_plain.specs.Kinds.{body_kind, kind_number}
use Rattle.homa_plain.specs.Limits.{last_host_tick, longest_message}

-- ---- which packets are well formed

-- from the least to the most
abbrev pub Between : ℕ → ℕ → ℕ → Type 0
Between least most n = (least ≤ n) × (n ≤ most)

-- a call of a host: an incarnation, at least 1, and a sequence number, of four bytes each
abbrev pub IsCall : ℕ × ℕ → Type 0
IsCall call = (1 ≤ call.0) × (call.0 < 2 ^ 32) × (call.1 < 2 ^ 32)

-- the latest clock of a sender at its sending: version 1 has none
abbrev pub latest : ℕ → ℕ
latest wire = if wire == 1 then 0 else last_host_tick

-- A piece of a message of at most 1,000,000 bytes. Only a request has a service other than 0, and an acknowledgement.
pub record IsPiece (role : Role) (level size offset version service : ℕ) (ack : Option (ℕ × ℕ)) (payload : List ℕ) : Type 0 where
  pub level_in_range : level ≤ 7
  pub size_in_range : Between 1 longest_message size
  pub payload_in_range : Between 1 1400 (length payload)
  pub inside : offset + length payload ≤ size
  pub version_in_range : version < 2 ^ 16
  pub service_in_range : service < 256
  pub acknowledged : IfSome ack IsCall
  pub of_response : role ≡ Server → (service ≡ 0) × (ack ≡ None)

-- every packet but a piece goes at level 7 and has no payload
abbrev pub IsBare : ℕ → List ℕ → Type 0
IsBare level payload = (level ≡ 7) × (payload ≡ [])

-- which roles, levels, fields and payloads each kind has
abbrev pub FitsKind : Role → ℕ → Body → List ℕ → Type 0
FitsKind role level (body.Data size offset version service ack) payload = IsPiece role level size offset version service ack payload
FitsKind role level (body.Grant offset prio) payload = IsBare level payload × Between 1 longest_message offset × (prio ≤ 7)
FitsKind role level (body.Resend from to prio) payload = IsBare level payload × (from < to) × (to ≤ longest_message) × (prio ≤ 7)
FitsKind role level body.Busy payload = IsBare level payload
FitsKind role level (body.Cutoffs c) payload =
    IsBare level payload × (c.version < 2 ^ 16) × (length c.upto ≡ 8) × AllByRecursion (λ bound. bound ≤ longest_message) c.upto
FitsKind role level (body.Unknown reason) payload = IsBare level payload × (role ≡ Server) × (reason ≤ 1)
FitsKind role level body.NeedAck payload = IsBare level payload × (role ≡ Server)
FitsKind role level (body.Ack more) payload = IsBare level payload × (role ≡ Client) × (length more ≤ 4) × AllByRecursion IsCall more

-- a packet of this version, with its payload
pub record IsWellFormed (wire : ℕ) (p : Packet) (payload : List ℕ) : Type 0 where
  pub version : Between 1 2 wire
  pub sender : (1 ≤ p.sender) × (p.sender < 2 ^ 32)
  pub call : IsCall (p.inc, p.seq)
  pub tick : p.at ≤ latest wire
  pub of_kind : FitsKind p.role p.level p.body payload
  pub bytes : IsBytes payload

-- ---- how they are spelled

-- the number of a packet's kind
abbrev pub kind : Body → ℕ
kind what = kind_number (body_kind what)

-- sent by the call's client, or by its server
abbrev pub role_byte : Role → ℕ
role_byte Client = 0
role_byte Server = 1

-- a flag and a call; after the flag 0 the call is 0 and 0
abbrev pub ack_bytes : Option (ℕ × ℕ) → List ℕ
ack_bytes None = 0 ∷ two (0, 0)
ack_bytes (Some call) = 1 ∷ two call

-- the clock, in version 2 alone
abbrev pub tick_bytes : ℕ → ℕ → List ℕ
tick_bytes wire at = if wire == 1 then [] else to_be_bytes w64 at

-- the fields of each kind, which follow the header
abbrev pub body_bytes : Body → List ℕ
body_bytes (body.Data size offset version service ack) = two (size, offset) ++ to_be_bytes w16 version ++ service ∷ ack_bytes ack
body_bytes (body.Grant offset prio) = to_be_bytes w32 offset ++ prio ∷ []
body_bytes (body.Resend from to prio) = two (from, to) ++ prio ∷ []
body_bytes body.Busy = []
body_bytes (body.Cutoffs c) = to_be_bytes w16 c.version ++ flat_map (to_be_bytes w32) c.upto
body_bytes (body.Unknown reason) = reason ∷ []
body_bytes body.NeedAck = []
body_bytes (body.Ack more) = suc (length more) ∷ flat_map two more

-- version, kind, role, level, the sender's incarnation, the call, and the clock
abbrev pub header_bytes : ℕ → Packet → List ℕ
header_bytes wire p = wire ∷ kind p.body ∷ role_byte p.role ∷ p.level ∷ (to_be_bytes w32 p.sender ++ two (p.inc, p.seq) ++ tick_bytes wire p.at)

-- the one spelling, of version 1 or 2: header, fields, payload
-- A rule of this project.
abbrev pub spelling : ℕ → Packet → List ℕ → List ℕ
spelling wire p payload = header_bytes wire p ++ body_bytes p.body ++ payload

-- these bytes are this packet with this payload
abbrev pub Spells : ℕ → List ℕ → Packet → List ℕ → Type 0
Spells wire bytes p payload = IsWellFormed wire p payload × (bytes ≡ spelling wire p payload)

-- how many bytes a header has
abbrev pub header_len : ℕ → ℕ
header_len wire = if wire == 1 then 16 else 24

-- how many bytes the fields of each kind have
abbrev pub body_len : Body → ℕ
body_len (body.Data size offset version service ack) = 20
body_len (body.Grant offset prio) = 5
body_len (body.Resend from to prio) = 9
body_len body.Busy = 0
body_len (body.Cutoffs c) = 34
body_len (body.Unknown reason) = 1
body_len body.NeedAck = 0
body_len (body.Ack more) = 1 + 8 * length more

-- how many bytes the longest packet has
abbrev pub longest : ℕ → ℕ
longest wire = header_len wire + 1420

-- ---- how they are read

-- the tests of what is well formed
abbrev pub is_call : ℕ × ℕ → Bool
is_call call = nat_le 1 call.0 && nat_lt call.0 (2 ^ 32) && nat_lt call.1 (2 ^ 32)

-- from the least to the most
abbrev pub is_between : ℕ → ℕ → ℕ → Bool
is_between least most n = nat_le least n && nat_le n most

-- by role
abbrev pub is_server : Role → Bool
is_server Client = false
is_server Server = true

-- whether a role is the client's
abbrev pub is_client : Role → Bool
is_client Client = true
is_client Server = false

-- at level 7 and with no payload
abbrev pub is_bare : ℕ → List ℕ → Bool
is_bare level payload = level == 7 && length payload == 0

-- what only a request's piece may have
abbrev pub is_of_role : Role → ℕ → Option (ℕ × ℕ) → Bool
is_of_role Client service None = true
is_of_role Client service (Some call) = is_call call
is_of_role Server service None = service == 0
is_of_role Server service (Some call) = false

-- which roles, levels, fields and payloads each kind has
abbrev pub fits_kind : Role → ℕ → Body → List ℕ → Bool
fits_kind role level (body.Data size offset version service ack) payload =
    nat_le level 7 && is_between 1 longest_message size && is_between 1 1400 (length payload) && nat_le (offset + length payload) size
    && nat_lt version (2 ^ 16) && nat_lt service 256 && is_of_role role service ack
fits_kind role level (body.Grant offset prio) payload = is_bare level payload && is_between 1 longest_message offset && nat_le prio 7
fits_kind role level (body.Resend from to prio) payload = is_bare level payload && nat_lt from to && nat_le to longest_message && nat_le prio 7
fits_kind role level body.Busy payload = is_bare level payload
fits_kind role level (body.Cutoffs c) payload =
    is_bare level payload && nat_lt c.version (2 ^ 16) && length c.upto == 8 && list_all (λ bound. nat_le bound longest_message) c.upto
fits_kind role level (body.Unknown reason) payload = is_bare level payload && is_server role && nat_le reason 1
fits_kind role level body.NeedAck payload = is_bare level payload && is_server role
fits_kind role level (body.Ack more) payload = is_bare level payload && is_client role && nat_le (length more) 4 && list_all is_call more

-- the test of a packet whose fields were read
abbrev pub is_well_formed : ℕ → Packet → List ℕ → Bool
is_well_formed wire p payload =
    is_between 1 2 wire && nat_le 1 p.sender && nat_lt p.sender (2 ^ 32) && is_call (p.inc, p.seq) && nat_le p.at (latest wire)
    && fits_kind p.role p.level p.body payload

-- the role of a byte
abbrev pub role_of : ℕ → Option Role
role_of zero = Some Client
role_of (suc zero) = Some Server
role_of (suc (suc n)) = None

-- the call after a flag
abbrev pub ack_of : ℕ → ℕ × ℕ → Option (Option (ℕ × ℕ))
ack_of zero call = if call.0 == 0 && call.1 == 0 then Some None else None
ack_of (suc zero) call = Some (Some call)
ack_of (suc (suc n)) call = None

-- an acknowledgement
unfoldable pub ack_at : List ℕ → Option (Option (ℕ × ℕ) × List ℕ)
ack_at bytes = do
  flag ← byte_at bytes
  call ← two_at flag.1
  ack ← ack_of flag.0 call.0
  Some (ack, call.1)

-- the clock, in version 2 alone
unfoldable pub tick_at : ℕ → List ℕ → Option (ℕ × List ℕ)
tick_at wire bytes = if wire == 1 then Some (0, bytes) else number_at w64 bytes

-- the fields of each kind
unfoldable pub data_at : List ℕ → Option (Body × List ℕ)
data_at bytes = do
  range ← two_at bytes
  version ← number_at w16 range.1
  service ← byte_at version.1
  ack ← ack_at service.1
  Some (body.Data range.0.0 range.0.1 version.0 service.0 ack.0, ack.1)

-- the fields of a GRANT
unfoldable pub grant_at : List ℕ → Option (Body × List ℕ)
grant_at bytes = do
  offset ← number_at w32 bytes
  prio ← byte_at offset.1
  Some (body.Grant offset.0 prio.0, prio.1)

-- the fields of a RESEND
unfoldable pub resend_at : List ℕ → Option (Body × List ℕ)
resend_at bytes = do
  range ← two_at bytes
  prio ← byte_at range.1
  Some (body.Resend range.0.0 range.0.1 prio.0, prio.1)

-- the fields of CUTOFFS: a version, and a bound for each of the eight levels
unfoldable pub cutoffs_at : List ℕ → Option (Body × List ℕ)
cutoffs_at bytes = do
  version ← number_at w16 bytes
  upto ← times (number_at w32) 8 version.1
  Some (body.Cutoffs (record { version = version.0; upto = upto.0 }), upto.1)

-- the field of UNKNOWN: its reason
unfoldable pub unknown_at : List ℕ → Option (Body × List ℕ)
unknown_at bytes = do
  reason ← byte_at bytes
  Some (body.Unknown reason.0, reason.1)

-- an ACK's count is of all its calls, the header's with them
unfoldable pub more_at : ℕ → List ℕ → Option (List (ℕ × ℕ) × List ℕ)
more_at zero bytes = None
more_at (suc n) bytes = if nat_lt 4 n then None else times two_at n bytes

-- the fields of an ACK: the count, and the calls but the header's
unfoldable pub calls_at : List ℕ → Option (Body × List ℕ)
calls_at bytes = do
  count ← byte_at bytes
  more ← more_at count.0 count.1
  Some (body.Ack more.0, more.1)

-- the fields of the kind with this number
unfoldable pub body_at : ℕ → List ℕ → Option (Body × List ℕ)
body_at number bytes =
    if number == 1 then data_at bytes
    else if number == 2 then grant_at bytes
    else if number == 3 then resend_at bytes
    else if number == 4 then Some (body.Busy, bytes)
    else if number == 5 then cutoffs_at bytes
    else if number == 6 then unknown_at bytes
    else if number == 7 then Some (body.NeedAck, bytes)
    else if number == 8 then calls_at bytes
    else None

-- what follows version, kind, role and level
unfoldable pub packet_of : ℕ → ℕ → ℕ → ℕ → List ℕ → Option (Packet × List ℕ)
packet_of wire number role level bytes = do
  sent_by ← role_of role
  sender ← number_at w32 bytes
  call ← two_at sender.1
  tick ← tick_at wire call.1
  what ← body_at number tick.1
  Some (record { role = sent_by; level = level; sender = sender.0; inc = call.0.0; seq = call.0.1; at = tick.0; body = what.0 }, what.1)

-- a packet and its payload; it may not be well formed
unfoldable pub packet_at : ℕ → List ℕ → Option (Packet × List ℕ)
packet_at wire (version ∷ number ∷ role ∷ level ∷ bytes) = if version == wire then packet_of wire number role level bytes else None
packet_at wire bytes = None

-- the packet that the bytes spell, and its payload: every byte is used
unfoldable pub packet_in : ℕ → List ℕ → Option (Packet × List ℕ)
packet_in wire bytes = do
  read ← packet_at wire bytes
  if is_well_formed wire read.0 read.1 then Some read else None
