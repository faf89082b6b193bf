-- Values that are read from words. A reader answers the value that the words begin with and the words behind it, or
-- None where they begin with no such value.
use Rattle.std.specs.Prelude.{ℕ, zero, suc, ◌^◌, ◌==◌, nat_lt, Bool, true, false, if◌then◌else◌, Option, None, Some, List, [], ◌∷◌, bytes_eq, codes, find}
use Rattle.std.specs.List.{slice_split, list_any}
use Rattle.std.specs.Char.{is_ascii_uppercase}
use Rattle.std.specs.Result.{result_ok}
use Rattle.hex.specs.Hex.{decode_of}
use Rattle.homa_plain.specs.Bytes.{◌>>=◌}
use Rattle.homa_plain.specs.Numbers.{number_of}
use Rattle.homa_plain.specs.Text.{role_word, why_word}
use Rattle.homa_plain.specs.declared.entry.Why.{Why}
use Rattle.homa_plain.specs.declared.entry.Why.TheVariants.{Timeout, Forgotten}
use Rattle.homa_plain.specs.declared.id.CallId.{CallId}
use Rattle.homa_plain.specs.declared.id.HostId.{HostId}
use Rattle.homa_plain.specs.declared.packet.Cutoffs.{Cutoffs}
use Rattle.homa_plain.specs.declared.packet.Role.{Role}
use Rattle.homa_plain.specs.declared.packet.Role.TheVariants.{Client, Server}

-- ---- readers

-- the parts of a text, which this byte separates
abbrev pub parts : ℕ → List ℕ → List (List ℕ)
parts separator text = slice_split (λ b. b == separator) text

-- one word
abbrev pub word_at : {A : Type 0} → (List ℕ → Option A) → List (List ℕ) → Option (A × List (List ℕ))
word_at value_of [] = None
word_at value_of (word ∷ words) = value_of word >>= λ x. Some (x, words)

-- one value behind the other
infixr 20 ◌⊗◌
abbrev pub ◌⊗◌ : {A B : Type 0} → (List (List ℕ) → Option (A × List (List ℕ))) → (List (List ℕ) → Option (B × List (List ℕ))) → List (List ℕ)
    → Option ((A × B) × List (List ℕ))
(first ⊗ second) words = first words >>= λ x. second x.1 >>= λ y. Some ((x.0, y.0), y.1)

-- what is made of a value
abbrev pub with_value : {A B : Type 0} → (A → B) → (List (List ℕ) → Option (A × List (List ℕ))) → List (List ℕ) → Option (B × List (List ℕ))
with_value make read words = read words >>= λ x. Some (make x.0, x.1)

-- so many values, one behind the other
unfoldable pub times : {A : Type 0} → (List (List ℕ) → Option (A × List (List ℕ))) → ℕ → List (List ℕ) → Option (List A × List (List ℕ))
times one zero words = Some ([], words)
times one (suc n) words = one words >>= λ x. times one n x.1 >>= λ xs. Some (x.0 ∷ xs.0, xs.1)

-- no word is left
abbrev pub is_empty : List (List ℕ) → Bool
is_empty [] = true
is_empty (word ∷ words) = false

-- a value behind which no word is left
abbrev pub ended : {A : Type 0} → A → List (List ℕ) → Option A
ended x words = if is_empty words then Some x else None

-- what is made of a value behind which no word is left
abbrev pub whole : {A B : Type 0} → (A → B) → (List (List ℕ) → Option (A × List (List ℕ))) → List (List ℕ) → Option B
whole make read words = read words >>= λ x. ended (make x.0) x.1

-- the one of these values whose word this is
abbrev pub one_of : {A : Type 0} → (A → List ℕ) → List A → List ℕ → Option A
one_of word_of xs word = find (λ x. bytes_eq word (word_of x)) xs

-- ---- words

-- a number below this limit
abbrev pub number_below : ℕ → List ℕ → Option ℕ
number_below limit word = number_of word >>= λ n. if nat_lt n limit then Some n else None

-- such a number, as the next word
abbrev pub number_at : ℕ → List (List ℕ) → Option (ℕ × List (List ℕ))
number_at limit words = word_at (number_below limit) words

-- a host
unfoldable pub host_of : List ℕ → Option HostId
host_of word = number_below (2 ^ 16) word >>= λ n. Some (record { 0 = n })

-- a host, as the next word
abbrev pub host_at : List (List ℕ) → Option (HostId × List (List ℕ))
host_at words = word_at host_of words

-- a call with its client
unfoldable pub id_of : List ℕ → Option CallId
id_of word = whole (λ x. record { client = x.0; inc = x.1.0; seq = x.1.1 }) (host_at ⊗ number_at (2 ^ 32) ⊗ number_at (2 ^ 32)) (parts 46 word)

-- such a call, as the next word
abbrev pub id_at : List (List ℕ) → Option (CallId × List (List ℕ))
id_at words = word_at id_of words

-- an incarnation and a sequence number
unfoldable pub call_of : List ℕ → Option (ℕ × ℕ)
call_of word = whole (λ x. x) (number_at (2 ^ 32) ⊗ number_at (2 ^ 32)) (parts 46 word)

-- from whom to whom
unfoldable pub route_of : List ℕ → Option (HostId × HostId)
route_of word = whole (λ x. x) (host_at ⊗ host_at) (parts 62 word)

-- a route, as the next word
abbrev pub route_at : List (List ℕ) → Option ((HostId × HostId) × List (List ℕ))
route_at words = word_at route_of words

-- a hyphen
abbrev pub is_hyphen : List ℕ → Bool
is_hyphen word = bytes_eq word (codes "-")

-- bytes in lower-case hex, or none for a hyphen
unfoldable pub hex_of : List ℕ → Option (List ℕ)
hex_of [] = None
hex_of (b ∷ bs) =
    if is_hyphen (b ∷ bs) then Some []
    else if list_any is_ascii_uppercase (b ∷ bs) then None
    else result_ok (decode_of (b ∷ bs))

-- bytes, as the next word
abbrev pub hex_at : List (List ℕ) → Option (List ℕ × List (List ℕ))
hex_at words = word_at hex_of words

-- an acknowledged call, or none for a hyphen
unfoldable pub ack_of : List ℕ → Option (Option (ℕ × ℕ))
ack_of word = if is_hyphen word then Some None else call_of word >>= λ call. Some (Some call)

-- an acknowledgement, as the next word
abbrev pub ack_at : List (List ℕ) → Option (Option (ℕ × ℕ) × List (List ℕ))
ack_at words = word_at ack_of words

-- who sent a packet
unfoldable pub role_of : List ℕ → Option Role
role_of word = one_of role_word (Client ∷ Server ∷ []) word

-- a role, as the next word
abbrev pub role_at : List (List ℕ) → Option (Role × List (List ℕ))
role_at words = word_at role_of words

-- why a call failed
unfoldable pub why_of : List ℕ → Option Why
why_of word = one_of why_word (Timeout ∷ Forgotten ∷ []) word

-- a cause, as the next word
abbrev pub why_at : List (List ℕ) → Option (Why × List (List ℕ))
why_at words = word_at why_of words

-- a version and eight bounds
unfoldable pub cutoffs_at : List (List ℕ) → Option (Cutoffs × List (List ℕ))
cutoffs_at words = with_value (λ x. record { version = x.0; upto = x.1 }) (number_at (2 ^ 16) ⊗ times (number_at (2 ^ 32)) 8) words
