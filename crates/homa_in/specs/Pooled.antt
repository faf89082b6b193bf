-- The incoming messages of a host's rows in their pool, and what a call does to one of them.
use Rattle.std.specs.Prelude.{◌≡◌, ◌⊎◌, ◌+◌, ℕ, Option, Some, None}
use Rattle.plain_sets.specs.Maps.{get}
use Rattle.msg_pool.specs.Pool.{Pool, leased_pages, free_pages}
use Rattle.homa_plain.specs.Host.{pages_for}
use Rattle.homa_plain.specs.Incoming.{Incoming}
use Rattle.homa_in.specs.Part.{Part, seen, IsIn}

-- the plain message of a row's part and the pool, if the row has a part
abbrev pub seen_part : Pool → Option Part → Option Incoming
seen_part pool None = None
seen_part pool (Some part) = Some (seen pool part)

-- how many pages the part takes
abbrev pub pages_of : Option Part → ℕ
pages_of None = 0
pages_of (Some part) = pages_for part.length

-- the part's bytes are in the pool
abbrev pub IsInPool : Pool → Option Part → Type 0
IsInPool pool None = Unit {0}
IsInPool pool (Some part) = IsIn pool part

-- the part's bytes are under the lease of this number
abbrev pub HasNumber : ℕ → Option Part → Type 0
HasNumber n None = ⊥
HasNumber n (Some part) = part.lease.number ≡ n

-- the parts of many rows are in one pool, each under a lease of its own
pub record AreIn {K : Type 0} (pool : Pool) (part_of : K → Option Part) : Type 0 where
  pub within : (k : K) → IsInPool pool (part_of k)
  pub apart : (j k : K) (n : ℕ) → HasNumber n (part_of j) → HasNumber n (part_of k) → j ≡ k

-- What a call does to a row's part and to the pool: the part is made, removed or replaced, and the bytes of all other
-- leases stay.
pub record Moves (old : Pool) (before : Option Part) (new : Pool) (after : Option Part) : Type 0 where
  pub pages : new.pages ≡ old.pages
  pub others : (n : ℕ) → (HasNumber n before → ⊥) → (HasNumber n after → ⊥) → get new.leases n ≡ get old.leases n
  pub gone : (n : ℕ) → HasNumber n before → (HasNumber n after → ⊥) → get new.leases n ≡ None  -- a lease that the part no longer has is given back
  pub number : (n : ℕ) → HasNumber n after → (HasNumber n before) ⊎ (get old.leases n ≡ None)  -- a new lease has a number that none had
  pub within : IsInPool new after
  pub count : leased_pages new.leases + pages_of before ≡ leased_pages old.leases + pages_of after
  pub free : free_pages new + pages_of after ≡ free_pages old + pages_of before
