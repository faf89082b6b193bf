-- The rows of a server as its table holds them: the bytes of the requests stand in a pool.
use Rattle.std.specs.Prelude.{◌≡◌, ◌⊎◌, ◌<◌, ◌≤◌, ◌^◌, ℕ, Bool, true, false, Option, Some, None, List, [], length, refl}
use Rattle.std.specs.Coded.{Coded, code_by, coded×, coded⊎, coded_ℕ, coded_list}
use Rattle.std.proofs.Common.{inl, inr}
use Rattle.plain_sets.specs.Maps.{len}
use Rattle.homa_plain.specs.Outgoing.{Outgoing, IsSound}
use Rattle.homa_plain.specs.PartCodes.{outgoing_code}
use Rattle.homa_plain.specs.Rows.{ServerRow, State, Receiving, Held, Replying, Buried}
use Rattle.msg_pool.specs.Pool.{Pool}
use Rattle.homa_in.specs.Part.{Part, part_code, seen}
use Rattle.homa_plain.specs.Limits.{longest_message}

-- how far a server is with a call; of a request stands here what its part says, and in a pool its bytes
pub data HeldState : Type 0 where
  Arriving : (service : ℕ) (part : Part) (base count : ℕ) → HeldState
  Keeping : (response : List ℕ) (release : ℕ) → HeldState
  Answering : (response : List ℕ) (out : Outgoing) (order base count : ℕ) → HeldState
  Gone : (until : ℕ) → HeldState

-- a call at its server
pub record HeldServer : Type 0 where
  pub order : ℕ
  pub state : HeldState

-- the plain state that a state is with its pool
abbrev pub seen_state : Pool → HeldState → State
seen_state pool (Arriving service part base count) = Receiving service (seen pool part) base count
seen_state pool (Keeping response release) = Held response release
seen_state pool (Answering response out order base count) = Replying response out order base count
seen_state pool (Gone until) = Buried until

-- the plain row that a row is with its pool
abbrev pub seen_server : Pool → HeldServer → ServerRow
seen_server pool r = record { order = r.order; state = seen_state pool r.state }

-- the part of a request that arrives
abbrev pub state_part : HeldState → Option Part
state_part (Arriving service part base count) = Some part
state_part (Keeping response release) = None
state_part (Answering response out order base count) = None
state_part (Gone until) = None

-- the response that a row keeps
abbrev pub state_response : HeldState → Option (List ℕ)
state_response (Arriving service part base count) = None
state_response (Keeping response release) = Some response
state_response (Answering response out order base count) = Some response
state_response (Gone until) = None

-- the same, or nothing
abbrev pub response_in : HeldState → List ℕ
response_in (Arriving service part base count) = []
response_in (Keeping response release) = response
response_in (Answering response out order base count) = response
response_in (Gone until) = []

-- a fact of the request that arrives, where one does
abbrev pub IfArriving : HeldState → (ℕ → Part → ℕ → ℕ → Type 0) → Type 0
IfArriving (Arriving service part base count) P = P service part base count
IfArriving (Keeping response release) P = Unit {0}
IfArriving (Answering response out order base count) P = Unit {0}
IfArriving (Gone until) P = Unit {0}

-- a fact of the response that is held back, where one is
abbrev pub IfKeeping : HeldState → (List ℕ → Type 0) → Type 0
IfKeeping (Arriving service part base count) P = Unit {0}
IfKeeping (Keeping response release) P = P response
IfKeeping (Answering response out order base count) P = Unit {0}
IfKeeping (Gone until) P = Unit {0}

-- a fact of the response that is sent, where one is
abbrev pub IfAnswering : HeldState → (List ℕ → Outgoing → ℕ → ℕ → ℕ → Type 0) → Type 0
IfAnswering (Arriving service part base count) P = Unit {0}
IfAnswering (Keeping response release) P = Unit {0}
IfAnswering (Answering response out order base count) P = P response out order base count
IfAnswering (Gone until) P = Unit {0}

-- whether a request arrives
abbrev pub is_arriving : HeldState → Bool
is_arriving (Arriving service part base count) = true
is_arriving (Keeping response release) = false
is_arriving (Answering response out order base count) = false
is_arriving (Gone until) = false

-- whether a response is held back
abbrev pub is_keeping : HeldState → Bool
is_keeping (Arriving service part base count) = false
is_keeping (Keeping response release) = true
is_keeping (Answering response out order base count) = false
is_keeping (Gone until) = false

-- whether a response is sent
abbrev pub is_answering : HeldState → Bool
is_answering (Arriving service part base count) = false
is_answering (Keeping response release) = false
is_answering (Answering response out order base count) = true
is_answering (Gone until) = false

-- ---- what holds of each row

-- bytes of a message's request are missing
pub record IsRequest (part : Part) (base : ℕ) : Type 0 where
  pub some : 0 < part.length
  pub small : part.length ≤ longest_message
  pub short : 0 < len part.missing
  pub early : base < 2 ^ 63

-- a response has a message's length
pub record IsResponse (response : List ℕ) : Type 0 where
  pub some : 0 < length response
  pub small : length response ≤ longest_message

-- and what goes out is the response
pub record IsReplied (response : List ℕ) (out : Outgoing) (base : ℕ) : Type 0 where
  pub message : IsResponse response
  pub long : out.length ≡ length response
  pub sound : IsSound out
  pub prio : out.prio ≤ 7
  pub early : base < 2 ^ 63

-- what holds of each row; no tick is so late that a deadline wouldn't fit
abbrev pub IsKept : HeldState → Type 0
IsKept (Arriving service part base count) = IsRequest part base
IsKept (Keeping response release) = IsResponse response × (release < 2 ^ 63)
IsKept (Answering response out order base count) = IsReplied response out base
IsKept (Gone until) = until < 2 ^ 63

-- ---- how rows are stored

abbrev Cases : Type 0
Cases = (ℕ × (Part × (ℕ × ℕ))) ⊎ ((List ℕ × ℕ) ⊎ ((List ℕ × (Outgoing × (ℕ × (ℕ × ℕ)))) ⊎ ℕ))

abbrev split : HeldState → Cases
split (Arriving service part base count) = inl (service, (part, (base, count)))
split (Keeping response release) = inr (inl (response, release))
split (Answering response out order base count) = inr (inr (inl (response, (out, (order, (base, count))))))
split (Gone until) = inr (inr (inr until))

abbrev join : Cases → HeldState
join (inl c) = Arriving c.0 c.1.0 c.1.1.0 c.1.1.1
join (inr (inl c)) = Keeping c.0 c.1
join (inr (inr (inl c))) = Answering c.0 c.1.0 c.1.1.0 c.1.1.1.0 c.1.1.1.1
join (inr (inr (inr until))) = Gone until

-- a state is the same after `split` and then `join`
pub join-split : (state : HeldState) → join (split state) ≡ state
join-split (Arriving service part base count) = refl
join-split (Keeping response release) = refl
join-split (Answering response out order base count) = refl
join-split (Gone until) = refl

-- a state is stored as its case, with the values that it has
abbrev pub state_code : Coded HeldState
state_code =
    code_by Cases (coded⊎ (coded× coded_ℕ (coded× part_code (coded× coded_ℕ coded_ℕ))) (coded⊎ (coded× (coded_list coded_ℕ) coded_ℕ)
    (coded⊎ (coded× (coded_list coded_ℕ) (coded× outgoing_code (coded× coded_ℕ (coded× coded_ℕ coded_ℕ)))) coded_ℕ))) split join join-split

-- a row is stored as the pair of its order and its state
abbrev pub server_code : Coded HeldServer
server_code = code_by (ℕ × HeldState) (coded× coded_ℕ state_code) (λ r. (r.order, r.state)) (λ c. record { order = c.0; state = c.1 }) (λ _. refl)
