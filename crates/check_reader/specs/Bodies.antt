-- Packets that are read from the words behind their call.
use Rattle.std.specs.Prelude.{ℕ, zero, suc, ◌^◌, Option, None, Some, List, [], ◌∷◌, codes}
use Rattle.homa_plain.specs.Bytes.{◌>>=◌}
use Rattle.homa_plain.specs.declared.packet.Body.{Body}
use Rattle.homa_plain.specs.declared.packet.Body.TheVariants as body
use Rattle.homa_plain.specs.declared.packet.Kind.{Kind}
use Rattle.homa_plain.specs.declared.packet.Kind.TheVariants.{Data, Grant, Resend, Busy, Cutoffs, Unknown, NeedAck, Ack}
use Rattle.homa_plain.specs.Kinds.{kind_name, kinds}
use Rattle.check_words.specs.Fields.{◌⊗◌, number_at, ack_at, hex_at, cutoffs_at, call_of, one_of, with_value, whole, ended}

-- the kind whose word this is
unfoldable pub kind_of : List ℕ → Option Kind
kind_of word = one_of kind_name kinds word

-- a packet with no payload, whose level isn't told and is 7
abbrev pub bare : Body → ℕ × Body × List ℕ
bare what = (7, what, [])

-- at most n calls, and no other word
unfoldable pub calls_in : ℕ → List (List ℕ) → Option (List (ℕ × ℕ))
calls_in n [] = Some []
calls_in zero (word ∷ words) = None
calls_in (suc n) (word ∷ words) = call_of word >>= λ call. calls_in n words >>= λ calls. Some (call ∷ calls)

-- a DATA without its level and its payload
unfoldable pub piece_at : List (List ℕ) → Option (Body × List (List ℕ))
piece_at words =
    with_value (λ x. body.Data x.0 x.1.0 x.1.1.0 x.1.1.1.0 x.1.1.1.1)
    (number_at (2 ^ 32) ⊗ number_at (2 ^ 32) ⊗ number_at (2 ^ 16) ⊗ number_at (2 ^ 8) ⊗ ack_at) words

-- `LEVEL LENGTH OFFSET VERSION SERVICE ACK HEX`
unfoldable pub data_in : List (List ℕ) → Option (ℕ × Body × List ℕ)
data_in words = whole (λ x. (x.0, x.1.0, x.1.1)) (number_at (2 ^ 8) ⊗ piece_at ⊗ hex_at) words

-- `OFFSET PRIO`
unfoldable pub grant_in : List (List ℕ) → Option (ℕ × Body × List ℕ)
grant_in words = whole (λ x. bare (body.Grant x.0 x.1)) (number_at (2 ^ 32) ⊗ number_at (2 ^ 8)) words

-- `FROM TO PRIO`
unfoldable pub resend_in : List (List ℕ) → Option (ℕ × Body × List ℕ)
resend_in words = whole (λ x. bare (body.Resend x.0 x.1.0 x.1.1)) (number_at (2 ^ 32) ⊗ number_at (2 ^ 32) ⊗ number_at (2 ^ 8)) words

-- the level, the body and the payload that these words tell of a packet of this kind
unfoldable pub body_in : Kind → List (List ℕ) → Option (ℕ × Body × List ℕ)
body_in Data words = data_in words
body_in Grant words = grant_in words
body_in Resend words = resend_in words
body_in Busy words = ended (bare body.Busy) words
body_in Cutoffs words = whole (λ x. bare (body.Cutoffs x)) cutoffs_at words
body_in Unknown words = whole (λ x. bare (body.Unknown x)) (number_at (2 ^ 8)) words
body_in NeedAck words = ended (bare body.NeedAck) words
body_in Ack words = calls_in 4 words >>= λ calls. Some (bare (body.Ack calls))
