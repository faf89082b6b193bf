-- What a pool that is kept says of one lease and its chain.
use Rattle.std.proofs.Common.{◌≡◌, ◌≢◌, ℕ, suc, ◌+◌, ◌*◌, ◌<◌, ◌≤◌, List, [], length, refl, sym, ap, subst, ◌∙◌, arith, Option, Some, None, true}
use Rattle.std.proofs.Common.{false, inl, inr}
use Rattle.std.proofs.lemmas.Bool.{cases_lt, true≢false}
use Rattle.std.specs.Option.{option_map, option_map_or, IsSomeAnd, unwrap_or}
use Rattle.slab.specs.Slab.{Slab, HasRoomFor, get as slot}
use Rattle.plain_sets.specs.Maps.{get}
use Rattle.msg_pool.specs.declared.pages.Chain.{Chain}
use Rattle.msg_pool.specs.Pages.{pages_for, page_at, IsChain, HasNoRepeat}
use Rattle.msg_pool.specs.Pool.{Pool, Held, free_pages, bytes_of, IsLeaseOf}
use Rattle.msg_pool.specs.Chains.{leases_of, chain_at, AreKept}
use Rattle.msg_pool.proofs.ChainLaws.{one_place}
use Rattle.msg_pool.proofs.BytesLaws.{length-chain_bytes}
use Rattle.msg_pool.proofs.LeaseLaws.{chain_of, get-leases, few_leases}

-- the chain of a number that has bytes
pub record IsChainOf (chains : Slab Chain) (key bytes : ℕ) : Type 0 where
  pub chain : Chain
  pub there : slot chains key ≡ Some chain
  pub long : chain.len ≡ bytes

-- a slot with a chain of so many bytes
has_chain : (block next : List ℕ) (n : ℕ) (s : Option Chain) → IsSomeAnd (option_map (chain_of block next) s) (λ bytes. length bytes ≡ n)
    → (c : Chain) × (s ≡ Some c) × (c.len ≡ n)
has_chain block next n None h = absurd h
has_chain block next n (Some c) h = (c, refl, sym (length-chain_bytes block next c.first c.len) ∙ h)

-- a number that has bytes has a chain
pub lease_chain : (block next : List ℕ) (chains : Slab Chain) (key n : ℕ)
    → IsSomeAnd (get (leases_of block next chains) key) (λ bytes. length bytes ≡ n) → IsChainOf chains key n
lease_chain block next chains key n h =
    let found = has_chain block next n (slot chains key) (subst (λ o. IsSomeAnd o (λ bytes. length bytes ≡ n)) (get-leases block next chains key) h) in
    record { chain = found.0; there = found.1; long = found.2 }

-- the bytes of a number that has a chain
pub chain_lease : (block next : List ℕ) (chains : Slab Chain) (key : ℕ) (c : Chain) → slot chains key ≡ Some c
    → get (leases_of block next chains) key ≡ Some (chain_of block next c)
chain_lease block next chains key c e = get-leases block next chains key ∙ ap (option_map (chain_of block next)) e

-- a number without a chain has no bytes
pub no_lease : (block next : List ℕ) (chains : Slab Chain) (key : ℕ) → slot chains key ≡ None → get (leases_of block next chains) key ≡ None
no_lease block next chains key e = get-leases block next chains key ∙ ap (option_map (chain_of block next)) e

module _ (block next : List ℕ) (chains : Slab Chain) (number len : ℕ) (pool : Pool) (lease : Held)
    (is_pool : record { pages = length next; leases = leases_of block next chains } ≡ pool) (is_lease : record { number = number; len = len } ≡ lease)
    (of_pool : IsLeaseOf pool lease) where
  -- what the pool says of the lease, of the numbers that it keeps
  has_bytes : IsSomeAnd (get (leases_of block next chains) number) (λ bytes. length bytes ≡ len)
  has_bytes = subst (λ p. IsLeaseOf p (record { number = number; len = len })) (sym is_pool) (subst (λ l. IsLeaseOf pool l) (sym is_lease) of_pool)

  -- the lease's number has a chain
  pub has_slot : slot chains number ≡ None → ⊥
  has_slot e = let P : Option (List ℕ) → Type 0 = λ o. IsSomeAnd o (λ bytes. length bytes ≡ len) in subst P (no_lease block next chains number e) has_bytes

  -- and the chain is as long as the lease says
  pub slot_len : (c : Chain) → slot chains number ≡ Some c → c.len ≡ len
  slot_len c e =
      let P : Option (List ℕ) → Type 0 = λ o. IsSomeAnd o (λ bytes. length bytes ≡ len) in
      sym (length-chain_bytes block next c.first c.len) ∙ subst P (chain_lease block next chains number c e) has_bytes

  -- the lease's bytes are those of the chain
  pub slot_bytes : (c : Chain) → slot chains number ≡ Some c → chain_of block next c ≡ bytes_of pool lease
  slot_bytes c e =
      sym (ap (λ o. unwrap_or o []) (chain_lease block next chains number c e))
      ∙ ap (λ (p : Pool). unwrap_or (get p.leases number) []) is_pool ∙ ap (λ (l : Held). unwrap_or (get pool.leases l.number) []) is_lease

-- the chain of a key
pub chain_at-slot : (head free : ℕ) (chains : Slab Chain) (key : ℕ) (c : Chain) → slot chains key ≡ Some c
    → chain_at head free chains (suc key) ≡ (c.first, pages_for c.len)
chain_at-slot head free chains key c e = ap (λ s. option_map_or (λ (c : Chain). (c.first, pages_for c.len)) s (0, 0)) e

-- a place that is in a chain is in one of its pages
pub in_pages : (i k n : ℕ) → i * 4096 + k < n → i < pages_for n
in_pages i k n h = omega arith

module _ (block next : List ℕ) (head free : ℕ) (chains : Slab Chain) (kept : AreKept block next head free chains) where
  -- the pages of a chain are pages of the table
  pub chain_within : (key : ℕ) (c : Chain) → slot chains key ≡ Some c → IsChain next c.first (pages_for c.len)
  chain_within key c e =
      subst (λ (p : ℕ × ℕ). (i : ℕ) → i < p.1 → page_at next p.0 i < length next) (chain_at-slot head free chains key c e) (kept.apart.within (suc key))

  -- and so are the free ones
  pub free_within : IsChain next head free
  free_within = kept.apart.within 0

  -- pages of two chains, or of two places of one, differ
  pub chains_differ : (key q : ℕ) (c d : Chain) → slot chains key ≡ Some c → slot chains q ≡ Some d → (i j : ℕ) → i < pages_for c.len → j < pages_for d.len
      → page_at next c.first i ≡ page_at next d.first j → (key ≡ q) × (i ≡ j)
  chains_differ key q c d e f =
      let P : (ℕ × ℕ) → (ℕ × ℕ) → Type 0 = λ a b. (i j : ℕ) → i < a.1 → j < b.1 → page_at next a.0 i ≡ page_at next b.0 j → (key ≡ q) × (i ≡ j) in
      let all : P (chain_at head free chains (suc key)) (chain_at head free chains (suc q)) = λ i j l m same.
      let at = one_place next (chain_at head free chains) kept.apart (suc key) (suc q) i j l m same in
      let keys : key ≡ q = omega (arith, at.0) in
      (keys, at.1) in
      subst (λ a. P a (d.first, pages_for d.len)) (chain_at-slot head free chains key c e)
      (subst (P (chain_at head free chains (suc key))) (chain_at-slot head free chains q d f) all)

  -- no page stands twice in a chain
  pub no_repeat : (key : ℕ) (c : Chain) → slot chains key ≡ Some c → HasNoRepeat next c.first (pages_for c.len)
  no_repeat key c e i j l m same = (chains_differ key key c c e e i j l m same).1

  -- a free page is in no chain
  pub free_differ : (q : ℕ) (d : Chain) → slot chains q ≡ Some d → (i j : ℕ) → i < free → j < pages_for d.len → page_at next head i ≢ page_at next d.first j
  free_differ q d f =
      let all : (i j : ℕ) → i < free → j < (chain_at head free chains (suc q)).1 → page_at next head i ≢ page_at next (chain_at head free chains (suc q)).0 j =
      λ i j l m same.
      let at = one_place next (chain_at head free chains) kept.apart 0 (suc q) i j l m same in
      absurd (omega (arith, at.0)) in
      subst (λ (b : ℕ × ℕ). (i j : ℕ) → i < free → j < b.1 → page_at next head i ≢ page_at next b.0 j) (chain_at-slot head free chains q d f) all

  -- each lease has a byte
  some_bytes : (key : ℕ) (bytes : List ℕ) → get (leases_of block next chains) key ≡ Some bytes → 0 < length bytes
  some_bytes key bytes e =
      let found = lease_chain block next chains key (length bytes) (subst (λ o. IsSomeAnd o (λ b. length b ≡ length bytes)) (sym e) refl) in
      let sized = kept.sized key found.chain found.there in
      omega (arith, found.long, sized.0)

  -- where a page is free there is room for one more chain
  pub has_room : 0 < free → HasRoomFor chains 1
  has_room h =
      let few = few_leases (leases_of block next chains) some_bytes in
      let counted = kept.counted in
      let total = kept.total in
      let room = kept.room in
      omega arith

  -- where the leases of the pool that is seen leave enough pages, as many are free
  pub enough_free : (pool : Pool) (bytes need : ℕ) → record { pages = length next; leases = leases_of block next chains } ≡ pool → need ≡ pages_for bytes
      → (free_pages pool < pages_for bytes → false ≡ true) → need ≤ free
  enough_free pool bytes need is_pool is_need not_few =
      let total = kept.total in
      let left : free_pages (record { pages = length next; leases = leases_of block next chains }) ≡ free = omega arith in
      let seen : free_pages pool ≡ free = ap free_pages (sym is_pool) ∙ left in
      elim (cases_lt free need) [
        | inl few ↦ absurd (true≢false (sym (not_few (omega arith))))
        | inr enough ↦ enough
      ]
