-- What has arrived of a message, as the lines of a trace show it.
use Rattle.std.specs.Prelude.{ℕ, ◌==◌, ◌&&◌, Bool, false, not, nat_lt, min, max, if◌then◌else◌, Option, None, Some, List, [], ◌∷◌}
use Rattle.std.specs.Option.{option_map_or}
use Rattle.plain_sets.specs.Maps.{Map, empty, get, insert, len}
use Rattle.plain_sets.specs.Numbers.{Numbers, with_range}
use Rattle.homa_plain.specs.declared.id.CallId.{CallId}
use Rattle.homa_plain.specs.declared.id.HostId.{HostId}
use Rattle.homa_plain.specs.Calls.{is_host, call_cmp}

-- the part of a message that has arrived at a host
pub record Part : Type 0 where
  pub host : HostId
  pub peer : HostId  -- the message's sender
  pub length : ℕ  -- how many bytes the message has in all
  pub arrived : Numbers  -- the numbers of the bytes that have arrived
  pub granted : ℕ  -- the granted end: the sender may send the bytes below this number
  pub order : ℕ  -- the place of the line with which the first bytes arrived

-- parts by their calls
abbrev pub Parts : Type 0
Parts = Map call_cmp Part

-- a part without bytes; the first `unsched` bytes need no grant
abbrev pub opened : HostId → HostId → ℕ → ℕ → Part
opened host peer n unsched = record { host = host; peer = peer; length = n; arrived = empty; granted = min n unsched; order = 0 }

-- the part with the bytes from a to b - 1, as far as they belong to the message
abbrev pub grown : ℕ → ℕ → ℕ → Part → Part
grown place a b p = record p { arrived = with_range p.arrived a (min b p.length); order = if len p.arrived == 0 then place else p.order }

-- all bytes have arrived
abbrev pub is_whole : Part → Bool
is_whole p = len p.arrived == p.length

-- whether the part is of an incoming message: some bytes have arrived, and not all
abbrev pub is_message : Part → Bool
is_message p = nat_lt 0 (len p.arrived) && not (is_whole p)

-- the call of a part that becomes whole
abbrev pub made_whole : CallId → Option Part → Part → List CallId
made_whole id before after = if not (option_map_or is_whole before false) && is_whole after then id ∷ [] else []

-- a GRANT between two hosts raises the granted end of a message between them
abbrev pub raised : HostId → HostId → ℕ → Part → Part
raised from to offset p = if is_host p.host from && is_host p.peer to && is_message p then record p { granted = max p.granted offset } else p

-- parts of which one, if it is there, is changed
abbrev pub changed_part : (Part → Part) → Parts → CallId → Option Part → Parts
changed_part change parts id None = parts
changed_part change parts id (Some p) = insert parts id (change p)

-- parts of which that of a call, if it is there, is changed
abbrev pub changed : (Part → Part) → Parts → CallId → Parts
changed change parts id = changed_part change parts id (get parts id)
