-- A pool in which one lease has other bytes.
use Rattle.std.proofs.Common.{◌≡◌, ℕ, List, length, sym, ap, subst, ◌∙◌}
use Rattle.std.specs.Cmp.{nat_cmp_total}
use Rattle.std.specs.FinMap.{nat_cmp-IsAntisymmetric}
use Rattle.plain_sets.proofs.MapMembers.{insert-same, insert-again}
use Rattle.msg_pool.specs.Pool.{Pool, Held, bytes_of, IsLeaseOf, with_bytes}
use Rattle.msg_pool.proofs.Leases.{length-bytes_of, get-lease, bytes_of-with_bytes, lease-with_bytes}

module _ (pool : Pool) (lease : Held) (is : IsLeaseOf pool lease) where
  -- with the bytes that it has, it is the same pool
  pub pool-itself : with_bytes pool lease (bytes_of pool lease) ≡ pool
  pool-itself = ap (λ m. record pool { leases = m })
      (insert-same nat_cmp_total nat_cmp-IsAntisymmetric pool.leases lease.number (bytes_of pool lease) (get-lease pool lease is))

  module _ (new : Pool) (only : new ≡ with_bytes pool lease (bytes_of new lease)) where
    -- also where they were written again
    pub pool-same : bytes_of new lease ≡ bytes_of pool lease → new ≡ pool
    pool-same e = only ∙ ap (with_bytes pool lease) e ∙ pool-itself

    -- as many bytes keep the lease
    pub lease-stays : length (bytes_of new lease) ≡ length (bytes_of pool lease) → IsLeaseOf new lease
    lease-stays e = subst (λ p. IsLeaseOf p lease) (sym only) (lease-with_bytes pool lease (bytes_of new lease) (e ∙ length-bytes_of pool lease is))

-- what a write of any bytes made is the pool in which the lease has its bytes
pub pool-written : (pool new : Pool) (lease : Held) (bytes : List ℕ) → new ≡ with_bytes pool lease bytes → bytes_of new lease ≡ bytes
pool-written pool new lease bytes e = ap (λ p. bytes_of p lease) e ∙ bytes_of-with_bytes pool lease bytes

-- one write after another is one write
pub pool-again : (pool mid new : Pool) (lease : Held) (bytes : List ℕ) → mid ≡ with_bytes pool lease (bytes_of mid lease)
    → new ≡ with_bytes mid lease bytes → new ≡ with_bytes pool lease (bytes_of new lease)
pool-again pool mid new lease bytes e f =
    f ∙ ap (λ p. with_bytes p lease bytes) e ∙ again ∙ ap (with_bytes pool lease) (sym (pool-written mid new lease bytes f)) where
      again : with_bytes (with_bytes pool lease (bytes_of mid lease)) lease bytes ≡ with_bytes pool lease bytes
      again = ap (λ m. record pool { leases = m }) (insert-again nat_cmp_total nat_cmp-IsAntisymmetric pool.leases lease.number (bytes_of mid lease) bytes)
