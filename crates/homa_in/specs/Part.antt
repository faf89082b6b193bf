-- What a contract sees of an incoming message, and the plain message that it is with its pool.
use Rattle.std.specs.Prelude.{◌≡◌, ℕ, ◌≤◌, not, List, length, refl}
use Rattle.std.specs.Ordering.{nat_cmp}
use Rattle.std.specs.Coded.{Coded, code_by, coded×, coded_ℕ}
use Rattle.plain_sets.specs.Maps.{Map, empty, insert_all, retain}
use Rattle.plain_sets.specs.Numbers.{Numbers, numbers_code, has, set_of_range, IsBelow, ranges}
use Rattle.homa_plain.specs.declared.id.HostId.{HostId}
use Rattle.homa_plain.specs.contracts.id.HostId as host_id
use Rattle.homa_plain.specs.Incoming.{Incoming}
use Rattle.msg_pool.specs.Pool.{Pool, Held, held_code, bytes_of, IsLeaseOf}
use Rattle.homa_plain.specs.Limits.{longest_message}

-- an incoming message without the values of its bytes, which are in a pool
pub record Part : Type 0 where
  pub peer : HostId  -- its sender
  pub length : ℕ  -- how many bytes it has in all
  pub order : ℕ  -- messages that were opened earlier have lower numbers
  pub granted : ℕ  -- the granted end: the sender may send the bytes below this number
  pub missing : Numbers  -- the numbers of the bytes that haven't arrived
  pub lease : Held  -- the lease under which its bytes stand

-- the encoding of a part as the tuple of its fields
abbrev pub part_code : Coded Part
part_code =
    code_by (HostId × (ℕ × (ℕ × (ℕ × (Numbers × Held)))))
    (coded× host_id.the_row.coded (coded× coded_ℕ (coded× coded_ℕ (coded× coded_ℕ (coded× numbers_code held_code)))))
    (λ p. (p.peer, (p.length, (p.order, (p.granted, (p.missing, p.lease))))))
    (λ c. record { peer = c.0; length = c.1.0; order = c.1.1.0; granted = c.1.1.1.0; missing = c.1.1.1.1.0; lease = c.1.1.1.1.1 }) (λ _. refl)

-- the bytes of a list that aren't missing, under their numbers
unfoldable pub known : List ℕ → Numbers → Map nat_cmp ℕ
known bytes missing = retain (insert_all empty 0 bytes) (λ q. not (has missing q))

-- the plain incoming message of a part and its pool: the bytes that arrived are those of the part's lease
abbrev pub seen : Pool → Part → Incoming
seen pool part =
    record { peer = part.peer; length = part.length; order = part.order; granted = part.granted; bytes = known (bytes_of pool part.lease) part.missing }

-- a part of which nothing has arrived
abbrev pub unarrived : HostId → ℕ → ℕ → ℕ → Held → Part
unarrived peer n order granted lease = record { peer = peer; length = n; order = order; granted = granted; missing = set_of_range 0 n; lease = lease }

-- the part's bytes are in this pool, under a lease of the part's length
pub record IsIn (pool : Pool) (part : Part) : Type 0 where
  pub lease : IsLeaseOf pool part.lease
  pub length : part.lease.len ≡ part.length

-- what holds of each part: it has as many bytes as its lease, the granted end and the missing bytes are within them,
-- and there are at most 64 gaps
pub record IsPart (n end : ℕ) (missing : Numbers) (lease : Held) : Type 0 where
  pub leased : lease.len ≡ n
  pub small : n ≤ longest_message
  pub granted : end ≤ n
  pub below : IsBelow missing n
  pub few : length (ranges missing) ≤ 64
