-- What is so of the bytes that packets and rows hold: those of the calls' requests, and of the responses that were given.
use Rattle.std.specs.Prelude.{◌≡◌, ◌<◌, ◌≤◌, ℕ, ◌+◌, ◌==◌, ◌&&◌, Option, Some, List, [], ◌∷◌, length, map, filter, slice_range}
use Rattle.homa_plain.specs.declared.id.CallId.{CallId}
use Rattle.homa_plain.specs.declared.id.HostId.{HostId}
use Rattle.homa_plain.specs.Calls.{is_host, is_call}
use Rattle.homa_plain.specs.Rows.{ClientRow, State, Held, Replying}
use Rattle.trace_rules.specs.View.{View, Called, Ran, life}

-- what a `call` line says of a client's row
abbrev pub called_by : ClientRow → Called
called_by r = record { server = r.server; service = r.service; request = r.request }

-- the responses of a call's runs at a host in its present life
abbrev pub replies : View → HostId → CallId → List (List ℕ)
replies v host id = map (λ (r : Ran). r.response) (filter (λ (r : Ran). is_call r.id id && is_host r.host host && r.life == life v host) v.runs)

-- a piece is a slice of its message, with the message's length
pub record IsSlice (message : List ℕ) (size offset : ℕ) (payload : List ℕ) : Type 0 where
  pub whole : size ≡ length message
  pub some : 0 < length payload
  pub within : offset + length payload ≤ size
  pub bytes : payload ≡ slice_range message offset (offset + length payload)

-- the response that a row holds, of the responses of this life
abbrev pub Replies : List (List ℕ) → Option State → Type 0
Replies xs (Some (Held response release)) = xs ≡ response ∷ []
Replies xs (Some (Replying response out order base count)) = (xs ≡ response ∷ []) × (out.length ≡ length response)
Replies xs o = Unit {0}
