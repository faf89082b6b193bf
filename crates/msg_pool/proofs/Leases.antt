-- How the leases of a pool fare when one is taken, written or given back, for callers.
use Rattle.std.proofs.Common.{◌≡◌, ◌≢◌, ℕ, ◌+◌, ◌-◌, ◌≤◌, List, [], length, sym, ap, subst, ◌∙◌, arith, Option, Some, None, Ok, Err, inl, inr}
use Rattle.std.proofs.Common.{replicate, Result, IfOk, OnErr}
use Rattle.std.proofs.lemmas.Bool.{cases_eq}
use Rattle.std.proofs.lemmas.List.{length-replicate}
use Rattle.msg_pool.specs.Bytes.{overwritten}
use Rattle.msg_pool.proofs.BytesLaws.{length-overwritten}
use Rattle.std.specs.Option.{IsSomeAnd, unwrap_or}
use Rattle.std.specs.Cmp.{nat_cmp_total}
use Rattle.plain_sets.specs.Maps.{get}
use Rattle.plain_sets.proofs.MapLaws.{get-insert, get-remove}
use Rattle.msg_pool.specs.Pages.{pages_for}
use Rattle.msg_pool.specs.Pool.{Pool, Held, leased_pages, free_pages, bytes_of, IsLeaseOf, with_bytes, without}
use Rattle.msg_pool.proofs.LeaseLaws.{chosen, left, leased-insert, leased-remove, leased-same}

-- a value that is there, with what is said of it
found : (o : Option (List ℕ)) (n : ℕ) → IsSomeAnd o (λ bytes. length bytes ≡ n) → (o ≡ Some (unwrap_or o [])) × (length (unwrap_or o []) ≡ n)
found None n h = absurd h
found (Some bytes) n h = (ap Some (λ _. bytes), h)

module _ (pool : Pool) (lease : Held) where
  -- a lease has as many bytes as it says
  pub length-bytes_of : IsLeaseOf pool lease → length (bytes_of pool lease) ≡ lease.len
  length-bytes_of h = (found (get pool.leases lease.number) lease.len h).1

  -- a lease's number has its bytes
  pub get-lease : IsLeaseOf pool lease → get pool.leases lease.number ≡ Some (bytes_of pool lease)
  get-lease h = (found (get pool.leases lease.number) lease.len h).0

  module _ (bytes : List ℕ) where
    -- the lease's number has the new bytes
    pub get-with_bytes : get (with_bytes pool lease bytes).leases lease.number ≡ Some bytes
    get-with_bytes = get-insert nat_cmp_total pool.leases lease.number bytes lease.number ∙ chosen lease.number lease.number (Some bytes)
        (get pool.leases lease.number) (λ _. lease.number)

    -- so they are the lease's
    pub bytes_of-with_bytes : bytes_of (with_bytes pool lease bytes) lease ≡ bytes
    bytes_of-with_bytes = ap (λ o. unwrap_or o []) get-with_bytes

    -- and a lease with as many bytes as it says is the pool's
    pub lease-with_bytes : length bytes ≡ lease.len → IsLeaseOf (with_bytes pool lease bytes) lease
    lease-with_bytes l = subst (λ o. IsSomeAnd o (λ bytes. length bytes ≡ lease.len)) (sym get-with_bytes) l

    -- a new lease takes its pages from the free ones
    pub free-taken : get pool.leases lease.number ≡ None → free_pages (with_bytes pool lease bytes) ≡ free_pages pool - pages_for (length bytes)
    free-taken none =
        let more = leased-insert pool.leases lease.number bytes none in
        omega arith

    -- a write takes none
    pub free-written : IsLeaseOf pool lease → length bytes ≡ lease.len → free_pages (with_bytes pool lease bytes) ≡ free_pages pool
    free-written h l = ap (λ n. pool.pages - n) (leased-same pool.leases lease.number (bytes_of pool lease) bytes (get-lease h) (l ∙ sym (length-bytes_of h)))

  -- a lease that is given back frees its pages
  pub free-given : IsLeaseOf pool lease → leased_pages pool.leases ≤ pool.pages → free_pages (without pool lease) ≡ free_pages pool + pages_for lease.len
  free-given h fits =
      let fewer = leased-remove pool.leases lease.number (bytes_of pool lease) (get-lease h) in
      let size : pages_for (length (bytes_of pool lease)) ≡ pages_for lease.len = ap pages_for (length-bytes_of h) in
      omega arith

-- a new lease has a number of its own
pub differ : (pool : Pool) (lease other : Held) → get pool.leases lease.number ≡ None → IsLeaseOf pool other → other.number ≢ lease.number
differ pool lease other none h e =
    let P : Option (List ℕ) → Type 0 = λ o. IsSomeAnd o (λ bytes. length bytes ≡ other.len) in
    subst P (ap (get pool.leases) e ∙ none) h

module _ (pool : Pool) (lease other : Held) (ne : other.number ≢ lease.number) where
  -- another number has the bytes that it had
  pub get-with_other : (bytes : List ℕ) → get (with_bytes pool lease bytes).leases other.number ≡ get pool.leases other.number
  get-with_other bytes =
      get-insert nat_cmp_total pool.leases lease.number bytes other.number ∙ left other.number lease.number (Some bytes) (get pool.leases other.number) ne

  -- also where the lease ends
  pub get-without_other : get (without pool lease).leases other.number ≡ get pool.leases other.number
  get-without_other = get-remove nat_cmp_total pool.leases lease.number other.number ∙ left other.number lease.number None (get pool.leases other.number) ne

  -- another lease keeps its bytes
  pub bytes_of-with_other : (bytes : List ℕ) → bytes_of (with_bytes pool lease bytes) other ≡ bytes_of pool other
  bytes_of-with_other bytes = ap (λ o. unwrap_or o []) (get-with_other bytes)

  -- also where the lease ends
  pub bytes_of-without_other : bytes_of (without pool lease) other ≡ bytes_of pool other
  bytes_of-without_other = ap (λ o. unwrap_or o []) get-without_other

  -- another lease is still the pool's
  pub lease-with_other : (bytes : List ℕ) → IsLeaseOf pool other → IsLeaseOf (with_bytes pool lease bytes) other
  lease-with_other bytes = subst (λ o. IsSomeAnd o (λ bytes. length bytes ≡ other.len)) (sym (get-with_other bytes))

  -- also where the lease ends
  pub lease-without_other : IsLeaseOf pool other → IsLeaseOf (without pool lease) other
  lease-without_other = subst (λ o. IsSomeAnd o (λ bytes. length bytes ≡ other.len)) (sym get-without_other)

-- a lease that was taken is one of the pool's
pub lease-taken : (old new : Pool) (lease : Held) (n : ℕ) → lease.len ≡ n → new ≡ with_bytes old lease (replicate n 0) → IsLeaseOf new lease
lease-taken old new lease n l e = subst (λ p. IsLeaseOf p lease) (sym e) (lease-with_bytes old lease (replicate n 0) (length-replicate n 0 ∙ sym l))

-- the leases of a pool stay whether one is taken or not
pub after_take : {E : Type 0} (result : Result Held E) (old new : Pool) (other : Held) (n : ℕ)
    → IfOk result (λ lease. get old.leases lease.number ≡ None) → IfOk result (λ lease. new ≡ with_bytes old lease (replicate n 0)) → OnErr result (new ≡ old)
    → IsLeaseOf old other → IsLeaseOf new other
after_take (Ok lease) old new other n none e same h =
    subst (λ p. IsLeaseOf p other) (sym e) (lease-with_other old lease other (differ old lease other none h) (replicate n 0) h)
after_take (Err full) old new other n none e same h = subst (λ p. IsLeaseOf p other) (sym same) h

-- and when one is written
pub after_write : (old new : Pool) (lease other : Held) (at : ℕ) (bytes : List ℕ) → at + length bytes ≤ lease.len → IsLeaseOf old lease
    → new ≡ with_bytes old lease (overwritten (bytes_of old lease) at bytes)
    → IsLeaseOf old other → IsLeaseOf new other
after_write old new lease other at bytes fits h e o =
    let l : length (bytes_of old lease) ≡ lease.len = length-bytes_of old lease h in
    let l' : length (overwritten (bytes_of old lease) at bytes) ≡ length (bytes_of old lease) =
    length-overwritten (bytes_of old lease) at bytes (omega arith) in
    elim (cases_eq other.number lease.number) [
      | inl same ↦
          let same_len : other.len ≡ lease.len = sym (length-bytes_of old other o) ∙ ap (λ n. length (unwrap_or (get old.leases n) [])) same ∙ l in
          let P : ℕ → Type 0 = λ n. IsSomeAnd (get new.leases n) (λ bytes. length bytes ≡ other.len) in
          let mine : P lease.number = subst (λ (p : Pool). IsSomeAnd (get p.leases lease.number) (λ bytes. length bytes ≡ other.len)) (sym e)
          (subst (λ o. IsSomeAnd o (λ bytes. length bytes ≡ other.len)) (sym (get-with_bytes old lease (overwritten (bytes_of old lease) at bytes)))
          (l' ∙ l ∙ sym same_len)) in
          subst P (sym same) mine
      | inr ne ↦ subst (λ p. IsLeaseOf p other) (sym e) (lease-with_other old lease other ne (overwritten (bytes_of old lease) at bytes) o)
    ]

-- another lease stays when one is given back
pub after_give : (old new : Pool) (lease other : Held) → other.number ≢ lease.number → new ≡ without old lease → IsLeaseOf old other → IsLeaseOf new other
after_give old new lease other ne e h = subst (λ p. IsLeaseOf p other) (sym e) (lease-without_other old lease other ne h)
