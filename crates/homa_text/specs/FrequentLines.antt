-- Parts of the line of a packet.
use Rattle.std.specs.Prelude.{ℕ, ◌+◌, List, ◌∷◌, ◌++◌, length, codes}
use Rattle.std.specs.Fmt.{decimal}
use Rattle.std.specs.List.{flat_map}
use Rattle.homa_plain.specs.declared.packet.Body.{Body}
use Rattle.homa_plain.specs.declared.packet.Body.TheVariants as body
use Rattle.homa_plain.specs.Entries.{PlainEntry, PlainSend, PlainCall, PlainRun, PlainDone, PlainInject}
use Rattle.homa_plain.specs.Text.{id_word, role_word, route_word, ack_word}
use Rattle.homa_text.specs.declared.frequent_lines.Head.{Head}
use Rattle.homa_text.specs.declared.frequent_lines.Piece.{Piece}

-- the first words; the kind has a space before it and after it
abbrev pub head_text : Head → List ℕ → List ℕ
head_text head kind =
    codes "send" ++ 32 ∷ decimal head.number ++ 32 ∷ route_word head.from head.to ++ 32 ∷ decimal head.inc ++ kind ++ role_word head.role
    ++ 32 ∷ id_word head.id

-- the numbers of a piece, with a space before each, and a space
abbrev pub numbers_text : Piece → List ℕ
numbers_text piece =
    32 ∷ decimal piece.level ++ 32 ∷ decimal piece.size ++ 32 ∷ decimal piece.offset ++ 32 ∷ decimal piece.version ++ 32 ∷ decimal piece.service ++ codes " "

-- and then what it acknowledges, and a space
abbrev pub piece_text : Piece → List ℕ
piece_text piece = numbers_text piece ++ ack_word piece.ack ++ codes " "

-- a packet
abbrev pub packet_sent : Head → ℕ → Body → List ℕ → PlainEntry
packet_sent head level body payload = PlainSend head.number head.from head.to head.inc head.role head.id level body payload

-- a GRANT
abbrev pub grant_sent : Head → ℕ → ℕ → ℕ → List ℕ → PlainEntry
grant_sent head level offset prio payload = packet_sent head level (body.Grant offset prio) payload

-- a piece of a message
abbrev pub piece_sent : Head → Piece → List ℕ → PlainEntry
piece_sent head piece payload = packet_sent head piece.level (body.Data piece.size piece.offset piece.version piece.service piece.ack) payload

-- a RESEND, BUSY, UNKNOWN, NEED_ACK or ACK
abbrev pub IsBare : Body → Type 0
IsBare (body.Resend from to prio) = Unit {0}
IsBare body.Busy = Unit {0}
IsBare (body.Unknown reason) = Unit {0}
IsBare body.NeedAck = Unit {0}
IsBare (body.Ack more) = Unit {0}
IsBare other = ⊥

-- words, each after a space
abbrev pub spaced_text : List (List ℕ) → List ℕ
spaced_text words = flat_map (λ (word : List ℕ). 32 ∷ word) words

-- how many bytes the line of a packet, a call or an injection shows in hex
abbrev pub shown_bytes : PlainEntry → ℕ
shown_bytes (PlainSend number from to inc role id level body payload) = length payload
shown_bytes (PlainCall id server service bytes) = length bytes
shown_bytes (PlainRun host id service request response hold) = length request + length response
shown_bytes (PlainDone id bytes) = length bytes
shown_bytes (PlainInject host bytes) = length bytes
shown_bytes other = 0
