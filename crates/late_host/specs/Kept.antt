-- Calls that are kept at work.
use Rattle.std.specs.Prelude.{◌≡◌, ◌<◌, ◌≤◌, ◌+◌, ◌⊎◌, ℕ, Bool, not, if◌then◌else◌, Option, List, [], ◌∷◌, length, filter, find, Contains, All}
use Rattle.homa_plain.specs.declared.id.CallId.{CallId}
use Rattle.homa_plain.specs.Calls.{is_call}
use Rattle.late_host.specs.declared.kept.KeptCall.{KeptCall}

-- the calls that are kept, and how many may be
pub record Keeping : Type 0 where
  pub room : ℕ
  pub calls : List KeptCall

-- whether this is the call of this id
abbrev pub is_of : CallId → KeptCall → Bool
is_of id call = is_call call.id id

-- the call of this id, if it is kept
abbrev pub call_of : CallId → List KeptCall → Option KeptCall
call_of id calls = find (is_of id) calls

-- the calls without that of this id
abbrev pub without : CallId → List KeptCall → List KeptCall
without id calls = filter (λ call. not (is_of id call)) calls

-- the calls where that of this id has changed
abbrev pub changed : CallId → (KeptCall → KeptCall) → List KeptCall → List KeptCall
changed id change [] = []
changed id change (call ∷ calls) = if is_of id call then change call ∷ calls else call ∷ changed id change calls

-- the datagram of a call may be delivered at this tick, where one may be kept for so many
abbrev pub IsFresh : ℕ → ℕ → KeptCall → Type 0
IsFresh keep now call = now ≤ call.at + keep

-- If the time that the call's datagram was under way and the time that one may be kept fit `life` together, it isn't older than that
-- at this tick.
abbrev pub IsInLife : ℕ → ℕ → ℕ → KeptCall → Type 0
IsInLife life keep now call = (sent : ℕ) → call.at + keep ≤ sent + life → now ≤ sent + life

-- this call went, since its datagram was the oldest, and may not be delivered any more
pub record Goes (keep now : ℕ) (old new : List KeptCall) (call : KeptCall) : Type 0 where
  pub kept : Contains old call
  pub oldest : All (λ other. call.at ≤ other.at) old
  pub stale : call.at + keep < now
  pub gone : new ≡ without call.id old

-- there was room for one more call, or one went
abbrev pub HasRoomMade : ℕ → ℕ → ℕ → List KeptCall → List KeptCall → Type 0
HasRoomMade keep now room old new =
    ((length old < room) × (new ≡ old)) ⊎ ((room ≤ length old) × ((call : KeptCall) × Goes keep now old new call))
