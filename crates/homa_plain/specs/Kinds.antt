-- The kinds of packets: the number of each in a datagram, and its word in a trace.
use Rattle.std.specs.Prelude.{ℕ, List, [], ◌∷◌, codes}
use Rattle.homa_plain.specs.declared.packet.Body.{Body}
use Rattle.homa_plain.specs.declared.packet.Body.TheVariants as body
use Rattle.homa_plain.specs.declared.packet.Kind.{Kind}
use Rattle.homa_plain.specs.declared.packet.Kind.TheVariants.{Data, Grant, Resend, Busy, Cutoffs, Unknown, NeedAck, Ack}

-- the kind of a packet that says this
abbrev pub body_kind : Body → Kind
body_kind (body.Data size offset version service ack) = Data
body_kind (body.Grant offset prio) = Grant
body_kind (body.Resend from to prio) = Resend
body_kind body.Busy = Busy
body_kind (body.Cutoffs cutoffs) = Cutoffs
body_kind (body.Unknown reason) = Unknown
body_kind body.NeedAck = NeedAck
body_kind (body.Ack more) = Ack

-- all kinds, by their numbers
abbrev pub kinds : List Kind
kinds = Data ∷ Grant ∷ Resend ∷ Busy ∷ Cutoffs ∷ Unknown ∷ NeedAck ∷ Ack ∷ []

-- the number of a kind in a datagram
abbrev pub kind_number : Kind → ℕ
kind_number Data = 1
kind_number Grant = 2
kind_number Resend = 3
kind_number Busy = 4
kind_number Cutoffs = 5
kind_number Unknown = 6
kind_number NeedAck = 7
kind_number Ack = 8

-- the word of a kind in a trace
abbrev pub kind_name : Kind → List ℕ
kind_name Data = codes "DATA"
kind_name Grant = codes "GRANT"
kind_name Resend = codes "RESEND"
kind_name Busy = codes "BUSY"
kind_name Cutoffs = codes "CUTOFFS"
kind_name Unknown = codes "UNKNOWN"
kind_name NeedAck = codes "NEED_ACK"
kind_name Ack = codes "ACK"
