-- What the answers of both tables say of a packet's piece, and of what its rule is given.
use Rattle.std.specs.Prelude.{◌<◌, ◌≤◌, ℕ, ◌==◌, ◌+◌, Bool, true, false, if◌then◌else◌, Option, Some, None, List, length}
use Rattle.homa_plain.specs.declared.id.HostId.{HostId}
use Rattle.homa_plain.specs.declared.packet.Body.{Body}
use Rattle.homa_plain.specs.declared.packet.Body.TheVariants as body
use Rattle.homa_plain.specs.Incoming.{Incoming}
use Rattle.homa_plain.specs.Rules.{Moment, Piece, Did, opening, version_of}
use Rattle.homa_plain.specs.Limits.{longest_message}

-- the piece of a message that a packet brings, if it brings one
abbrev pub piece_in : Body → List ℕ → Option Piece
piece_in (body.Data size offset version service ack) payload =
    Some (record { size = size; offset = offset; version = version; service = service; payload = payload })
piece_in what payload = None

-- the version of the cutoffs in a first piece
abbrev pub first_version : Option Piece → Option ℕ
first_version None = None
first_version (Some piece) = version_of piece

-- the version of the cutoffs in a first piece, if the message is there
abbrev pub version_in : Option Piece → Option Incoming → Option ℕ
version_in (Some piece) (Some part) = if part.length == piece.size then version_of piece else None
version_in piece part = None

-- how many bytes the message of a piece has
abbrev pub size_in : Option Piece → ℕ
size_in None = 0
size_in (Some piece) = piece.size

-- a message of n bytes was opened, or none
abbrev pub opening_if : {R : Type 0} → Bool → ℕ → Did R → Did R
opening_if true n d = opening n d
opening_if false n d = d

-- what a rule for one row is given: the pages that the messages of other calls leave free, how many calls are served,
-- and the host's own numbers
abbrev pub moment_with : HostId → ℕ → ℕ → ℕ → ℕ → Moment
moment_with host now order free rows = record { host = host; now = now; order = order; free = free; rows = rows }

-- what a table requires of a well-formed packet: a piece has some bytes, all of them its message's,
-- and no level is above 7
abbrev pub IsFit : Body → List ℕ → Type 0
IsFit (body.Data size offset version service ack) payload = (0 < length payload) × (offset + length payload ≤ size) × (size ≤ longest_message)
IsFit (body.Grant offset prio) payload = prio ≤ 7
IsFit (body.Resend from to prio) payload = (from < to) × (prio ≤ 7)
IsFit body.Busy payload = Unit {0}
IsFit (body.Cutoffs cutoffs) payload = Unit {0}
IsFit (body.Unknown reason) payload = Unit {0}
IsFit body.NeedAck payload = Unit {0}
IsFit (body.Ack more) payload = Unit {0}
