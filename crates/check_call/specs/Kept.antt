-- What is kept of one call, and what that stands for.
use Rattle.std.specs.Prelude.{◌≡◌, ℕ, ◌+◌, ◌-◌, ◌^◌, ◌≤◌, min, Bool, true, false, ◌&&◌, ◌==◌, nat_lt, nat_le, if◌then◌else◌, Option, None, Some}
use Rattle.std.specs.Prelude.{IfSome, List, [], ◌∷◌, length}
use Rattle.std.specs.Option.{option_map, option_map_or}
use Rattle.plain_sets.specs.Maps.{empty, len}
use Rattle.plain_sets.specs.Numbers.{Numbers, with_range}
use Rattle.homa_plain.specs.declared.id.HostId.{HostId}
use Rattle.homa_plain.specs.declared.packet.Body.{Body}
use Rattle.homa_plain.specs.declared.packet.Body.TheVariants as body
use Rattle.trace_rules.specs.Parts as plain
use Rattle.trace_rules.specs.View.{Sent}
use Rattle.homa_plain.specs.declared.packet.Role.{Role}
use Rattle.homa_plain.specs.Wire.{is_client}
use Rattle.trace_rules.specs.Judge.{are_spaced, is_within_at}
use Rattle.check_call.specs.Spots as spots
use Rattle.check_call.specs.declared.part.Part.{Part}
use Rattle.check_call.specs.declared.resends.OwnTick.{OwnTick}
use Rattle.check_call.specs.declared.resends.Resends.{Resends}
use Rattle.check_call.specs.declared.spot.Spot.{Spot}
use Rattle.check_call.specs.declared.spot.Change.{Change}
use Rattle.check_call.specs.declared.spot.Change.TheVariants.{Nothing, Finished, Dropped, Renewed, Told, RaisedRequest, RaisedResponse}
use Rattle.check_call.specs.declared.packet.Piece.{Piece}
use Rattle.check_call.specs.declared.packet.Piece.TheVariants.{Data, Unknown, Other}
use Rattle.check_call.specs.declared.packet.Packet.{Packet}

-- ---- parts

-- the numbers of the bytes of a part, beside this set
abbrev pub arrived_of : Numbers → Part → Numbers
arrived_of set p = with_range (if p.keeps then set else empty) p.from p.to

-- a part at a host, from another one
abbrev pub part_of : HostId → HostId → Numbers → Part → plain.Part
part_of host peer set p = record { host = host; peer = peer; length = p.length; arrived = arrived_of set p; granted = p.granted; order = p.order }

-- its bytes are counted
abbrev pub IsCounted : Numbers → Part → Type 0
IsCounted set p = p.count ≡ len (arrived_of set p)

-- no bytes came since those that stand in the set beside it, if it keeps that one
abbrev pub IsPlain : Part → Type 0
IsPlain p = p.to ≤ p.from

-- ---- RESENDs

-- a tick by a host's own clock
abbrev pub own_value : OwnTick → ℕ
own_value t = t.tick + t.lead

-- what is kept of the ticks of RESENDs, the latest first
abbrev pub AreResends : ℕ → Resends → List ℕ → Type 0
AreResends gap r [] = (r.count ≡ 0) × (r.are_spaced ≡ true)
AreResends gap r (t ∷ ticks) = (r.count ≡ min (length ticks + 1) (2 ^ 64 - 1)) × (own_value r.latest ≡ t) × (r.are_spaced ≡ are_spaced gap (t ∷ ticks))

-- ---- spots

-- what a spot stands beside: its call's client and server, the sets of its request and its response, and by how many ticks RESENDs are to be apart
pub record Beside : Type 0 where
  pub client : HostId
  pub server : HostId
  pub asked : Numbers
  pub answered : Numbers
  pub gap : ℕ

-- what a kept spot stands for
pub record StandsFor (b : Beside) (k : Spot) (s : spots.Spot) : Type 0 where
  pub live : s.live ≡ k.live
  pub request : s.request ≡ option_map (part_of b.server b.client b.asked) k.request
  pub response : s.response ≡ option_map (part_of b.client b.server b.answered) k.response
  pub request_count : IfSome k.request (IsCounted b.asked)
  pub response_count : IfSome k.response (IsCounted b.answered)
  pub resends : AreResends b.gap k.resends s.resends

-- of a call that wasn't made
abbrev pub no_spot : spots.Spot
no_spot = record { live = None; request = None; response = None; resends = [] }

-- a change's RESENDs are to be so many ticks apart
abbrev pub IsApart : ℕ → Change → Type 0
IsApart gap (Told tick apart) = apart ≡ gap
IsApart gap change = Unit {0}

-- what a change does
abbrev pub changed : Beside → Change → spots.Spot → spots.Spot
changed b Nothing s = s
changed b Finished s = spots.finished_spot s
changed b Dropped s = spots.dropped_spot s
changed b Renewed s = spots.renewed_spot s
changed b (Told tick gap) s = spots.told_spot (own_value tick) s
changed b (RaisedRequest offset) s = spots.raised_request b.server b.client offset s
changed b (RaisedResponse offset) s = spots.raised_response b.client b.server offset s

-- ---- packets

-- what is kept of what a packet with so many bytes of payload says
abbrev pub piece_of : Body → ℕ → Piece
piece_of (body.Data size offset version service ack) n = Data size offset n
piece_of (body.Unknown reason) n = Unknown reason
piece_of other n = Other

-- what is kept of a packet
abbrev pub packet_of : Sent → Packet
packet_of p = record { from = p.from; to = p.to; inc = p.inc; role = p.role; id = p.id; piece = piece_of p.body (length p.payload) }

-- ---- what is asked of them

-- a part, if there is one, isn't granted beyond its window
abbrev pub within : ℕ → Option plain.Part → Bool
within window None = true
within window (Some p) = is_within_at window p

-- no message of the spot is granted beyond its window
abbrev pub is_within_spot : ℕ → spots.Spot → Bool
is_within_spot window s = within window s.request && within window s.response

-- a part, if there is one, is an incoming message
abbrev pub is_incoming : Option plain.Part → Bool
is_incoming p = option_map_or plain.is_message p false

-- it is DATA
abbrev pub piece_is_data : Piece → Bool
piece_is_data (Data size offset n) = true
piece_is_data (Unknown reason) = false
piece_is_data Other = false

-- it is UNKNOWN
abbrev pub piece_is_unknown : Piece → Bool
piece_is_unknown (Data size offset n) = false
piece_is_unknown (Unknown reason) = true
piece_is_unknown Other = false

-- it is UNKNOWN of a call that the server ran and forgot
abbrev pub piece_is_forgotten : Piece → Bool
piece_is_forgotten (Data size offset n) = false
piece_is_forgotten (Unknown reason) = reason == 1
piece_is_forgotten Other = false

-- it has the last of n bytes of a request
abbrev pub piece_has_last : ℕ → Role → Piece → Bool
piece_has_last size role (Data all offset n) = is_client role && nat_lt offset size && nat_le size (offset + n)
piece_has_last size role (Unknown reason) = false
piece_has_last size role Other = false
