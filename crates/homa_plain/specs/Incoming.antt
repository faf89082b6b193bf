-- An incoming message: the bytes that have arrived, what is missing, and up to where its sender may send. Bytes without a grant:
-- `opened`, and for the sender `Outgoing.opened` and `restart`.
use Rattle.std.specs.Prelude.{◌≤◌, ℕ, suc, ◌+◌, ◌-◌, ◌==◌, Bool, not, ◌&&◌, nat_lt, min, Option, unwrap_or, List, [], ◌∷◌, length}
use Rattle.std.specs.Ordering.{nat_cmp}
use Rattle.plain_sets.specs.Maps.{Map, empty, get, insert_all, retain, len, values, key_set}
use Rattle.plain_sets.specs.Ranges.{Range, is_between}
use Rattle.plain_sets.specs.Numbers.{Numbers, has, first_below, within, IsBelow, missing, gaps}
use Rattle.homa_plain.specs.declared.id.HostId.{HostId}

-- an incoming message
pub record Incoming : Type 0 where
  pub peer : HostId  -- its sender
  pub length : ℕ  -- how many bytes it has in all
  pub order : ℕ  -- messages that were opened earlier have lower numbers
  pub granted : ℕ  -- the granted end: the sender may send the bytes below this number
  pub bytes : Map nat_cmp ℕ  -- the bytes that have arrived, by their numbers

-- a message of n bytes of which nothing has arrived; its first `unsched` bytes need no grant
-- Source: SIGCOMM 2018, "Basic sender behavior" (from memory).
abbrev pub opened : HostId → ℕ → ℕ → ℕ → Incoming
opened peer n order unsched = record { peer = peer; length = n; order = order; granted = min n unsched; bytes = empty }

-- the numbers of the bytes that have arrived
abbrev pub arrived : Incoming → Numbers
arrived p = key_set p.bytes

-- how many bytes are missing
abbrev pub remaining : Incoming → ℕ
remaining p = p.length - len p.bytes

-- the maximal ranges of missing bytes, in order, up to the message's end
abbrev pub missing_ranges : Incoming → List Range
missing_ranges p = gaps (arrived p) p.length

-- whether a byte of the message is missing
abbrev pub is_missing : Incoming → ℕ → Bool
is_missing p q = nat_lt q p.length && not (has (arrived p) q)

-- the first range of missing bytes below the granted end
abbrev pub first_gap : Incoming → Option Range
first_gap p = first_below (missing (arrived p) p.length) p.granted

-- the bytes of a list whose first has number a; a byte that is known already keeps its value
abbrev pub first_known : Map nat_cmp ℕ → ℕ → List ℕ → List ℕ
first_known known a [] = []
first_known known a (x ∷ xs) = unwrap_or (get known a) x ∷ first_known known (suc a) xs

-- the message with a piece of it that begins at an offset; bytes that had arrived keep their values
-- A rule of this project.
abbrev pub with_bytes : Incoming → ℕ → List ℕ → Incoming
with_bytes p offset piece =
    let known = retain p.bytes (is_between offset (offset + length piece)) in
    record p { bytes = insert_all p.bytes offset (first_known known offset piece) }

-- how many bytes of a piece hadn't arrived
abbrev pub new_bytes : Incoming → ℕ → List ℕ → ℕ
new_bytes p offset piece = length piece - len (within (arrived p) offset (offset + length piece))

-- whether a piece would leave more than 64 gaps in the message
-- A rule of this project, so that a message takes a bounded place.
abbrev pub leaves_too_many_gaps : Incoming → ℕ → List ℕ → Bool
leaves_too_many_gaps p offset piece = nat_lt 64 (length (missing_ranges (with_bytes p offset piece)))

-- whether all bytes have arrived
abbrev pub is_whole : Incoming → Bool
is_whole p = len p.bytes == p.length

-- the bytes in order: the message, where it is whole
abbrev pub message : Incoming → List ℕ
message p = values p.bytes

-- the message with another granted end
abbrev pub granted_to : Incoming → ℕ → Incoming
granted_to p offset = record p { granted = offset }

-- what holds of each incoming message:
-- the bytes that arrived and the granted end are within its length, and it has at most 64 gaps
pub record IsSound (p : Incoming) : Type 0 where
  pub below : IsBelow (arrived p) p.length
  pub granted : p.granted ≤ p.length
  pub few : length (missing_ranges p) ≤ 64
