-- What a contract sees of a pool of messages and of its leases.
use Rattle.std.specs.Prelude.{◌≡◌, ℕ, ◌-◌, List, [], length, sum_by, unwrap_or, IsSomeAnd, refl}
use Rattle.std.specs.Ordering.{nat_cmp}
use Rattle.std.specs.Coded.{Coded, code_by, coded×, coded_ℕ, coded_list}
use Rattle.plain_sets.specs.Maps.{Map, get, insert, remove, values, code}
use Rattle.msg_pool.specs.Pages.{pages_for}

-- a pool: how many pages it has, and the bytes of each lease under its number
pub record Pool : Type 0 where
  pub pages : ℕ
  pub leases : Map nat_cmp (List ℕ)

-- a lease: its number, and how many bytes it has
pub record Held : Type 0 where
  pub number : ℕ
  pub len : ℕ

-- the encoding of a pool as the pair of its fields
abbrev pub pool_code : Coded Pool
pool_code = code_by (ℕ × Map nat_cmp (List ℕ)) (coded× coded_ℕ (code coded_ℕ (coded_list coded_ℕ))) (λ p. (p.pages, p.leases))
    (λ p. record { pages = p.0; leases = p.1 }) (λ _. refl)

-- the encoding of a lease as the pair of its fields
abbrev pub held_code : Coded Held
held_code = code_by (ℕ × ℕ) (coded× coded_ℕ coded_ℕ) (λ h. (h.number, h.len)) (λ p. record { number = p.0; len = p.1 }) (λ _. refl)

-- how many pages the leases take
unfoldable pub leased_pages : Map nat_cmp (List ℕ) → ℕ
leased_pages leases = sum_by (λ bytes. pages_for (length bytes)) (values leases)

-- how many pages are left
abbrev pub free_pages : Pool → ℕ
free_pages pool = pool.pages - leased_pages pool.leases

-- the bytes of a lease
abbrev pub bytes_of : Pool → Held → List ℕ
bytes_of pool lease = unwrap_or (get pool.leases lease.number) []

-- the lease is one of this pool's: its number has as many bytes as it says
abbrev pub IsLeaseOf : Pool → Held → Type 0
IsLeaseOf pool lease = IsSomeAnd (get pool.leases lease.number) (λ bytes. length bytes ≡ lease.len)

-- the pool in which a lease has these bytes
abbrev pub with_bytes : Pool → Held → List ℕ → Pool
with_bytes pool lease bytes = record pool { leases = insert pool.leases lease.number bytes }

-- the pool without a lease
abbrev pub without : Pool → Held → Pool
without pool lease = record pool { leases = remove pool.leases lease.number }
