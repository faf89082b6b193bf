-- How a pool keeps its leases: each as a chain of pages, and the free pages as one more.
use Rattle.std.specs.Prelude.{◌≡◌, ℕ, zero, suc, ◌+◌, ◌*◌, ◌<◌, ◌≤◌, List, map, length, Some}
use Rattle.std.specs.Option.{option_map_or}
use Rattle.std.specs.Ordering.{nat_cmp}
use Rattle.slab.specs.Slab.{Slab, slab_len, entries, get as slot}
use Rattle.plain_sets.specs.Maps.{Map, from_entries, len}
use Rattle.msg_pool.specs.declared.pages.Chain.{Chain}
use Rattle.msg_pool.specs.Pages.{pages_for, page_at, chain_bytes}
use Rattle.msg_pool.specs.Pool.{leased_pages}

-- the bytes of each chain under its key
unfoldable pub leases_of : (block next : List ℕ) → Slab Chain → Map nat_cmp (List ℕ)
leases_of block next chains = from_entries (map (λ e. (e.0, chain_bytes block next e.1.first e.1.len)) (entries chains))

-- the first page and the number of pages of each chain: under 0 the free pages, and under k + 1 those of the key k
abbrev pub chain_at : (head free : ℕ) → Slab Chain → ℕ → ℕ × ℕ
chain_at head free chains zero = (head, free)
chain_at head free chains (suc key) = option_map_or (λ c. (c.first, pages_for c.len)) (slot chains key) (0, 0)

-- each page of a chain tells its chain and its place in it, so that no page stands twice
pub record AreApart (next : List ℕ) (chain : ℕ → ℕ × ℕ) : Type 0 where
  pub owner : ℕ → ℕ × ℕ
  pub owns : (k i : ℕ) → i < (chain k).1 → owner (page_at next (chain k).0 i) ≡ (k, i)
  pub within : (k i : ℕ) → i < (chain k).1 → page_at next (chain k).0 i < length next

-- each chain has 1 to 1,000,000 bytes
abbrev pub AreSized : Slab Chain → Type 0
AreSized chains = (key : ℕ) (c : Chain) → slot chains key ≡ Some c → (0 < c.len) × (c.len ≤ 1000000)

-- the block, the table and the chains belong together: no page stands twice, and each page is free or leased
pub record AreKept (block next : List ℕ) (head free : ℕ) (chains : Slab Chain) : Type 0 where
  pub whole : length block ≡ length next * 4096
  pub small : length next ≤ 4096
  pub apart : AreApart next (chain_at head free chains)
  pub sized : AreSized chains
  pub counted : slab_len chains ≡ len (leases_of block next chains)
  pub total : free + leased_pages (leases_of block next chains) ≡ length next
  pub room : length next ≤ chains.capacity
