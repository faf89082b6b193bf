-- Worked frames, spelled and read by computing: one of each kind, some of version 2, and bytes that are no packet.
use Rattle.std.proofs.Common.{◌≡◌, refl, ℕ, ◌==◌, not, Option, None, Some, Result, Ok, Err, List, [], ◌∷◌}
use Rattle.std.specs.Prelude.{codes}
use Rattle.std.specs.List.{filter}
use Rattle.hex.specs.Hex.{decode_of, decode_pairs}
use Rattle.hex.specs.declared.error.FromHexError.{FromHexError}
use Rattle.homa_plain.specs.declared.packet.Role.{Role}
use Rattle.homa_plain.specs.declared.packet.Role.TheVariants.{Client, Server}
use Rattle.homa_plain.specs.declared.packet.Body.{Body}
use Rattle.homa_plain.specs.declared.packet.Body.TheVariants as body
use Rattle.homa_plain.specs.declared.packet.Packet.{Packet}
use Rattle.homa_plain.specs.Bytes.{number_at, two_at, times}
use Rattle.homa_plain.specs.Wire.{spelling, packet_in, packet_at, packet_of, body_at, tick_at, data_at, ack_at, grant_at, resend_at, cutoffs_at}
use Rattle.homa_plain.specs.Wire.{unknown_at, more_at, calls_at}

-- the bytes that hex digits stand for, with spaces for reading only
abbrev pub bytes_of : List ℕ → Result (List ℕ) FromHexError
bytes_of text = decode_of (filter (λ c. not (c == 32)) text)

-- what bytes are read as
abbrev pub read_as : ℕ → Result (List ℕ) FromHexError → Result (Option (Packet × List ℕ)) FromHexError
read_as wire (Ok bytes) = Ok (packet_in wire bytes)
read_as wire (Err e) = Err e

-- these digits are the packet's spelling, and are read as the packet
abbrev pub IsFrame : ℕ → List ℕ → Packet → List ℕ → Type 0
IsFrame wire digits p payload = (bytes_of digits ≡ Ok (spelling wire p payload)) × (read_as wire (bytes_of digits) ≡ Ok (Some (p, payload)))

-- these digits are bytes, but no packet of this version
abbrev pub IsNoFrame : ℕ → List ℕ → Type 0
IsNoFrame wire digits = read_as wire (bytes_of digits) ≡ Ok None

-- a packet of a host's first incarnation, of the call that has this number there
abbrev pub sent : Role → ℕ → Body → Packet
sent role seq what = record { role = role; level = 7; sender = 1; inc = 1; seq = seq; at = 0; body = what }

-- a request of two bytes
pub piece : IsFrame 1 (codes "01010007 00000001 00000001 00000000 00000002 00000000 0000 00 00 00000000 00000000 6869")
    (sent Client 0 (body.Data 2 0 0 0 None)) (codes "hi")
unfolding decode_pairs packet_in packet_at packet_of body_at tick_at data_at ack_at grant_at resend_at cutoffs_at unknown_at more_at calls_at times
    two_at number_at
piece = (refl, refl)

-- its first 37 bytes are a packet with the first byte of the payload
pub first_byte : IsFrame 1 (codes "01010007 00000001 00000001 00000000 00000002 00000000 0000 00 00 00000000 00000000 68")
    (sent Client 0 (body.Data 2 0 0 0 None)) (codes "h")
unfolding decode_pairs packet_in packet_at packet_of body_at tick_at data_at ack_at grant_at resend_at cutoffs_at unknown_at more_at calls_at times
    two_at number_at
first_byte = (refl, refl)

pub grant : IsFrame 1 (codes "01020107 00000001 00000001 00000000 0000000b 00") (sent Server 0 (body.Grant 11 0)) []
unfolding decode_pairs packet_in packet_at packet_of body_at tick_at data_at ack_at grant_at resend_at cutoffs_at unknown_at more_at calls_at times
    two_at number_at
grant = (refl, refl)

pub resend : IsFrame 1 (codes "01030007 00000001 00000001 00000000 00000000 00002710 03") (sent Client 0 (body.Resend 0 10000 3)) []
unfolding decode_pairs packet_in packet_at packet_of body_at tick_at data_at ack_at grant_at resend_at cutoffs_at unknown_at more_at calls_at times
    two_at number_at
resend = (refl, refl)

pub busy : IsFrame 1 (codes "01040007 00000001 00000001 00000000") (sent Client 0 body.Busy) []
unfolding decode_pairs packet_in packet_at packet_of body_at tick_at data_at ack_at grant_at resend_at cutoffs_at unknown_at more_at calls_at times
    two_at number_at
busy = (refl, refl)

-- the server ran and forgot the call
pub unknown : IsFrame 1 (codes "01060107 00000001 00000001 00000000 01") (sent Server 0 (body.Unknown 1)) []
unfolding decode_pairs packet_in packet_at packet_of body_at tick_at data_at ack_at grant_at resend_at cutoffs_at unknown_at more_at calls_at times
    two_at number_at
unknown = (refl, refl)

pub need_ack : IsFrame 1 (codes "01070107 00000001 00000001 00000000") (sent Server 0 body.NeedAck) []
unfolding decode_pairs packet_in packet_at packet_of body_at tick_at data_at ack_at grant_at resend_at cutoffs_at unknown_at more_at calls_at times
    two_at number_at
need_ack = (refl, refl)

pub ack_of_five : IsFrame 1 (codes "01080007 00000001 00000001 00000000 05 00000001 00000001 00000001 00000002 00000001 00000003 00000001 00000004")
    (sent Client 0 (body.Ack ((1, 1) ∷ (1, 2) ∷ (1, 3) ∷ (1, 4) ∷ []))) []
unfolding decode_pairs packet_in packet_at packet_of body_at tick_at data_at ack_at grant_at resend_at cutoffs_at unknown_at more_at calls_at times
    two_at number_at
ack_of_five = (refl, refl)

pub cutoffs : IsFrame 1 (codes "01050107 00000001 00000001 00000001 0001 00000000 00000000 00000000 00000000 000f4240 00000003 00000003 00000001")
    (sent Server 1 (body.Cutoffs (record { version = 1; upto = 0 ∷ 0 ∷ 0 ∷ 0 ∷ 1000000 ∷ 3 ∷ 3 ∷ 1 ∷ [] }))) []
unfolding decode_pairs packet_in packet_at packet_of body_at tick_at data_at ack_at grant_at resend_at cutoffs_at unknown_at more_at calls_at times
    two_at number_at
cutoffs = (refl, refl)

-- version 2 has the sender's clock behind the call
pub with_tick : IsFrame 2 (codes "02010007 00000001 00000001 00000000 0000000000000000 00000001 00000000 0000 00 00 00000000 00000000 61")
    (sent Client 0 (body.Data 1 0 0 0 None)) (codes "a")
unfolding decode_pairs packet_in packet_at packet_of body_at tick_at data_at ack_at grant_at resend_at cutoffs_at unknown_at more_at calls_at times
    two_at number_at
with_tick = (refl, refl)

-- the latest clock, 1,000,000,002,000
pub latest_clock : IsFrame 2 (codes "02040007 00000001 00000001 00000000 000000e8d4a517d0")
    (record { role = Client; level = 7; sender = 1; inc = 1; seq = 0; at = 1000000002000; body = body.Busy }) []
unfolding decode_pairs packet_in packet_at packet_of body_at tick_at data_at ack_at grant_at resend_at cutoffs_at unknown_at more_at calls_at times
    two_at number_at
latest_clock = (refl, refl)

-- a byte 00 behind a frame
pub one_byte_more : IsNoFrame 1 (codes "01020107 00000001 00000001 00000000 0000000b 00 00")
unfolding decode_pairs packet_in packet_at packet_of body_at tick_at data_at ack_at grant_at resend_at cutoffs_at unknown_at more_at calls_at times
    two_at number_at
one_byte_more = refl

-- a byte more of payload than the message has
pub payload_byte_more : IsNoFrame 1 (codes "01010007 00000001 00000001 00000000 00000002 00000000 0000 00 00 00000000 00000000 686900")
unfolding decode_pairs packet_in packet_at packet_of body_at tick_at data_at ack_at grant_at resend_at cutoffs_at unknown_at more_at calls_at times
    two_at number_at
payload_byte_more = refl

-- a piece of no bytes
pub no_payload : IsNoFrame 1 (codes "01010007 00000001 00000001 00000000 00000002 00000000 0000 00 00 00000000 00000000")
unfolding decode_pairs packet_in packet_at packet_of body_at tick_at data_at ack_at grant_at resend_at cutoffs_at unknown_at more_at calls_at times
    two_at number_at
no_payload = refl

-- a frame without its last byte
pub one_byte_less : IsNoFrame 1 (codes "01030007 00000001 00000001 00000000 00000000 00002710")
unfolding decode_pairs packet_in packet_at packet_of body_at tick_at data_at ack_at grant_at resend_at cutoffs_at unknown_at more_at calls_at times
    two_at number_at
one_byte_less = refl

pub short_header : IsNoFrame 1 (codes "01070107 00000001 00000001 000000")
unfolding decode_pairs packet_in packet_at packet_of body_at tick_at data_at ack_at grant_at resend_at cutoffs_at unknown_at more_at calls_at times
    two_at number_at
short_header = refl

pub no_bytes : IsNoFrame 1 (codes "")
unfolding decode_pairs packet_in packet_at packet_of body_at tick_at data_at ack_at grant_at resend_at cutoffs_at unknown_at more_at calls_at times
    two_at number_at
no_bytes = refl

pub version_nine : IsNoFrame 1 (codes "09070107 00000001 00000001 00000000")
unfolding decode_pairs packet_in packet_at packet_of body_at tick_at data_at ack_at grant_at resend_at cutoffs_at unknown_at more_at calls_at times
    two_at number_at
version_nine = refl

pub version_nine_in_2 : IsNoFrame 2 (codes "09070107 00000001 00000001 00000000 0000000000000000")
unfolding decode_pairs packet_in packet_at packet_of body_at tick_at data_at ack_at grant_at resend_at cutoffs_at unknown_at more_at calls_at times
    two_at number_at
version_nine_in_2 = refl

pub kind_nine : IsNoFrame 1 (codes "01090107 00000001 00000001 00000000")
unfolding decode_pairs packet_in packet_at packet_of body_at tick_at data_at ack_at grant_at resend_at cutoffs_at unknown_at more_at calls_at times
    two_at number_at
kind_nine = refl

-- a length with its low byte first
pub low_byte_first : IsNoFrame 1 (codes "01010007 00000001 00000001 00000000 02000000 00000000 0000 00 00 00000000 00000000 6869")
unfolding decode_pairs packet_in packet_at packet_of body_at tick_at data_at ack_at grant_at resend_at cutoffs_at unknown_at more_at calls_at times
    two_at number_at
low_byte_first = refl

-- a GRANT at level 6
pub level_six : IsNoFrame 1 (codes "01020106 00000001 00000001 00000000 0000000b 00")
unfolding decode_pairs packet_in packet_at packet_of body_at tick_at data_at ack_at grant_at resend_at cutoffs_at unknown_at more_at calls_at times
    two_at number_at
level_six = refl

pub ack_of_six : IsNoFrame 1 (codes "01080007 00000001 00000001 00000000 06 00000001 00000001 00000001 00000002 00000001 00000003 00000001 00000004 00000001 00000005")
unfolding decode_pairs packet_in packet_at packet_of body_at tick_at data_at ack_at grant_at resend_at cutoffs_at unknown_at more_at calls_at times
    two_at number_at
ack_of_six = refl

pub ack_of_none : IsNoFrame 1 (codes "01080007 00000001 00000001 00000000 00")
unfolding decode_pairs packet_in packet_at packet_of body_at tick_at data_at ack_at grant_at resend_at cutoffs_at unknown_at more_at calls_at times
    two_at number_at
ack_of_none = refl

-- two bytes from byte 1 on of a message of two
pub offset_past_length : IsNoFrame 1 (codes "01010007 00000001 00000001 00000000 00000002 00000001 0000 00 00 00000000 00000000 6869")
unfolding decode_pairs packet_in packet_at packet_of body_at tick_at data_at ack_at grant_at resend_at cutoffs_at unknown_at more_at calls_at times
    two_at number_at
offset_past_length = refl

-- an acknowledgement's flag of 2
pub flag_two : IsNoFrame 1 (codes "01010007 00000001 00000001 00000000 00000002 00000000 0000 00 02 00000001 00000000 6869")
unfolding decode_pairs packet_in packet_at packet_of body_at tick_at data_at ack_at grant_at resend_at cutoffs_at unknown_at more_at calls_at times
    two_at number_at
flag_two = refl

-- an acknowledged call behind the flag 0
pub call_without_flag : IsNoFrame 1 (codes "01010007 00000001 00000001 00000000 00000002 00000000 0000 00 00 00000000 00000001 6869")
unfolding decode_pairs packet_in packet_at packet_of body_at tick_at data_at ack_at grant_at resend_at cutoffs_at unknown_at more_at calls_at times
    two_at number_at
call_without_flag = refl

-- NEED_ACK sent by a client
pub client_needs_ack : IsNoFrame 1 (codes "01070007 00000001 00000001 00000000")
unfolding decode_pairs packet_in packet_at packet_of body_at tick_at data_at ack_at grant_at resend_at cutoffs_at unknown_at more_at calls_at times
    two_at number_at
client_needs_ack = refl

-- a frame of version 1 where version 2 is read
pub version_1_in_2 : IsNoFrame 2 (codes "01040007 00000001 00000001 00000000")
unfolding decode_pairs packet_in packet_at packet_of body_at tick_at data_at ack_at grant_at resend_at cutoffs_at unknown_at more_at calls_at times
    two_at number_at
version_1_in_2 = refl

pub version_2_in_1 : IsNoFrame 1 (codes "02070107 00000001 00000001 00000000 0000000000000000")
unfolding decode_pairs packet_in packet_at packet_of body_at tick_at data_at ack_at grant_at resend_at cutoffs_at unknown_at more_at calls_at times
    two_at number_at
version_2_in_1 = refl

-- a clock above 1,000,000,002,000
pub clock_too_late : IsNoFrame 2 (codes "02070107 00000001 00000001 00000000 000000e8d4a517d1")
unfolding decode_pairs packet_in packet_at packet_of body_at tick_at data_at ack_at grant_at resend_at cutoffs_at unknown_at more_at calls_at times
    two_at number_at
clock_too_late = refl
