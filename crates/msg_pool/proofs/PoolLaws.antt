-- What becomes of a pool when a lease is taken, written and given back.
use Rattle.std.proofs.Common.{◌≡◌, ◌≢◌, ℕ, suc, ◌+◌, ◌-◌, ◌*◌, ◌<◌, ◌≤◌, List, length, ◌⊎◌, inl, inr, refl, sym, ap, subst, ◌∙◌, arith, Option, Some}
use Rattle.std.proofs.Common.{None, slice_index, set, length-set, replicate}
use Rattle.std.specs.Option.{option_map_or}
use Rattle.std.proofs.lemmas.Bool.{cases_eq}
use Rattle.std.proofs.lemmas.List.{length-replicate}
use Rattle.slab.specs.Slab.{Slab, slab_len, Updates, get as slot}
use Rattle.std.specs.Ordering.{nat_cmp}
use Rattle.plain_sets.specs.Maps.{Map, get, insert, remove, len}
use Rattle.msg_pool.specs.declared.pages.Chain.{Chain}
use Rattle.msg_pool.specs.Bytes.{overwritten}
use Rattle.msg_pool.specs.Pages.{pages_for, byte_at, page_at, chain_bytes}
use Rattle.msg_pool.specs.Pool.{Pool, Held, leased_pages, with_bytes, without}
use Rattle.msg_pool.specs.Chains.{leases_of, chain_at, AreApart, AreKept}
use Rattle.msg_pool.proofs.ChainLaws.{page_at-set, parted, joined}
use Rattle.msg_pool.proofs.BytesLaws.{length-chain_bytes, chain_bytes-is, length-overwritten, same_bytes, all_zero, written_over}
use Rattle.msg_pool.proofs.LeaseLaws.{chain_of, leases-insert, leases-remove, leased-insert, leased-remove, leased-same, len-same, len-more, len-fewer}
use Rattle.msg_pool.proofs.KeptLaws.{chain_lease, no_lease, chain_at-slot, in_pages, chains_differ, free_differ}

-- a list with the bytes of a chain, as they stand in copies of the block and the table
pub copied : (block next b n : List ℕ) (first count : ℕ) (out : List ℕ) → b ≡ block → n ≡ next → length out ≡ count
    → ((i k : ℕ) → k < 4096 → i * 4096 + k < count → slice_index out (i * 4096 + k) ≡ byte_at b (page_at n first i) k)
    → out ≡ chain_bytes block next first count
copied block next b n first count out is_block is_next l alike =
    sym (chain_bytes-is block next first count out l (λ i k small h.
    ap (λ x. byte_at x (page_at next first i) k) (sym is_block) ∙ ap (λ x. byte_at b (page_at x first i) k) (sym is_next) ∙ sym (alike i k small h)))

-- a page of fewer bytes is one of more
pub fewer_pages : (m n i : ℕ) → m ≤ n → i < pages_for m → i < pages_for n
fewer_pages m n i h l = omega arith

-- a pool of equal parts
pool_is : (p q : ℕ) (m n : Map nat_cmp (List ℕ)) → p ≡ q → m ≡ n → ◌≡◌ {A = Pool} (record { pages = p; leases = m }) (record { pages = q; leases = n })
pool_is p q m n e f = λ i. record { pages = e i; leases = f i }

module _ (block next : List ℕ) (chains : Slab Chain) (number len : ℕ) (pool : Pool) (lease : Held)
    (is_pool : record { pages = length next; leases = leases_of block next chains } ≡ pool) (is_lease : record { number = number; len = len } ≡ lease) where
  -- the pool in which a lease has other bytes
  pub view_with : (pages : ℕ) (leases : Map nat_cmp (List ℕ)) (old new : List ℕ) → pages ≡ length next
      → leases ≡ insert (leases_of block next chains) number new → new ≡ old
      → ◌≡◌ {A = Pool} (record { pages = pages; leases = leases }) (with_bytes pool lease old)
  view_with pages leases old new e f g =
      pool_is _ _ _ _ (e ∙ ap (λ (p : Pool). p.pages) is_pool)
      (f ∙ ap (insert (leases_of block next chains) number) g ∙ ap (λ (p : Pool). insert p.leases number old) is_pool
      ∙ ap (λ (l : Held). insert pool.leases l.number old) is_lease)

  -- the pool without a lease
  pub view_without : (pages : ℕ) (leases : Map nat_cmp (List ℕ)) → pages ≡ length next → leases ≡ remove (leases_of block next chains) number
      → ◌≡◌ {A = Pool} (record { pages = pages; leases = leases }) (without pool lease)
  view_without pages leases e f =
      pool_is _ _ _ _ (e ∙ ap (λ (p : Pool). p.pages) is_pool)
      (f ∙ ap (λ (p : Pool). remove p.leases number) is_pool ∙ ap (λ (l : Held). remove pool.leases l.number) is_lease)

-- a pair of equal parts
pair : (a b x y : ℕ) → a ≡ x → b ≡ y → ◌≡◌ {A = ℕ × ℕ} (a, b) (x, y)
pair a b x y e f = λ i. (e i, f i)

-- two values of one slot
one_value : (s : Option Chain) (c d : Chain) → s ≡ Some c → s ≡ Some d → c ≡ d
one_value s c d e f = cc

module _ (block next : List ℕ) (head free : ℕ) (chains : Slab Chain) (kept : AreKept block next head free chains) (key : ℕ) (c : Chain)
    (there : slot chains key ≡ Some c) where
  module _ (block' n : List ℕ) (is_next : n ≡ next) (offset : ℕ) (bytes : List ℕ) (fits : offset + length bytes ≤ c.len)
      (same_len : length block' ≡ length block)
      (written_n : (i k : ℕ) → k < 4096 → offset ≤ i * 4096 + k → i * 4096 + k < offset + length bytes → byte_at block'
      (page_at n c.first i) k ≡ slice_index bytes (i * 4096 + k - offset))
      (stays_n : (q k : ℕ) → k < 4096 → ((i : ℕ) → offset ≤ i * 4096 + k → i * 4096 + k < offset + length bytes → q ≢ page_at n c.first i) →
      byte_at block' q k ≡ byte_at block q k) where
    -- the bytes that are written
    written : (i k : ℕ) → k < 4096 → offset ≤ i * 4096 + k → i * 4096 + k < offset + length bytes
        → byte_at block' (page_at next c.first i) k ≡ slice_index bytes (i * 4096 + k - offset)
    written = subst (λ n. (i k : ℕ) → k < 4096 → offset ≤ i * 4096 + k → i * 4096 + k < offset + length bytes → byte_at block'
        (page_at n c.first i) k ≡ slice_index bytes (i * 4096 + k - offset)) is_next written_n

    -- all others stay
    stays : (q k : ℕ) → k < 4096 → ((i : ℕ) → offset ≤ i * 4096 + k → i * 4096 + k < offset + length bytes → q ≢ page_at next c.first i)
        → byte_at block' q k ≡ byte_at block q k
    stays = subst (λ n. (q k : ℕ) → k < 4096 → ((i : ℕ) → offset ≤ i * 4096 + k → i * 4096 + k < offset + length bytes → q ≢ page_at n c.first i) →
        byte_at block' q k ≡ byte_at block q k) is_next stays_n

    -- the other bytes of the chain stay
    mine : (i k : ℕ) → k < 4096 → i * 4096 + k < c.len → (i * 4096 + k < offset) ⊎ (offset + length bytes ≤ i * 4096 + k)
        → byte_at block' (page_at next c.first i) k ≡ byte_at block (page_at next c.first i) k
    mine i k small h out = stays (page_at next c.first i) k small (λ j low high e.
        let at : i ≡ j =
        (chains_differ block next head free chains kept key key c c there there i j (in_pages i k c.len h) (in_pages j k c.len (omega arith)) e).1 in
        elim out [ inl l ↦ absurd (omega arith) | inr l ↦ absurd (omega arith) ])

    -- and so do those of the other chains
    not_mine : (q : ℕ) (d : Chain) → q ≢ key → slot chains q ≡ Some d → chain_of block' next d ≡ chain_of block next d
    not_mine q d ne e = same_bytes block next block' next d.first d.len (λ i k small h. stays (page_at next d.first i) k small (λ j low high same.
        ne (chains_differ block next head free chains kept q key d c e there i j (in_pages i k d.len h) (in_pages j k c.len (omega arith)) same).0))

    -- the lease that is written has new bytes
    pub write-leases : leases_of block' next chains ≡ insert (leases_of block next chains) key (overwritten (chain_of block next c) offset bytes)
    write-leases =
        leases-insert block next block' next chains chains key (λ q ne. refl) not_mine c (overwritten (chain_of block next c) offset bytes) there
        (written_over block block' next c.first c.len offset bytes fits written mine)

    -- and the pool is kept
    pub write-kept : AreKept block' next head free chains
    write-kept =
        let is = chain_lease block next chains key c there in
        let l : length (chain_of block next c) ≡ c.len = length-chain_bytes block next c.first c.len in
        let l' = length-overwritten (chain_of block next c) offset bytes (omega arith) in
        record {
          whole = same_len ∙ kept.whole;
          small = kept.small;
          apart = kept.apart;
          sized = kept.sized;
          counted = kept.counted
              ∙ sym (ap len write-leases ∙ len-same (leases_of block next chains) key (chain_of block next c)
              (overwritten (chain_of block next c) offset bytes) is);
          total = ap (λ n. free + n)
              (ap leased_pages write-leases ∙ leased-same (leases_of block next chains) key (chain_of block next c)
              (overwritten (chain_of block next c) offset bytes) is l') ∙ kept.total;
          room = kept.room;
        }

  module _ (count : ℕ) (is_count : count ≡ pages_for c.len) (chains' : Slab Chain) (updates : Updates chains chains' key None)
      (fewer : slab_len chains' + 1 ≡ slab_len chains) (same_capacity : chains'.capacity ≡ chains.capacity) where
    -- there is a last page
    some_pages : 0 < count
    some_pages = let sized = (kept.sized key c there).0 in omega arith

    -- the other chains stay
    not_ended : (q : ℕ) (d : Chain) → q ≢ key → slot chains q ≡ Some d
        → chain_of block (set next (page_at next c.first (count - 1)) head) d ≡ chain_of block next d
    not_ended q d ne e = same_bytes block next block (set next (page_at next c.first (count - 1)) head) d.first d.len (λ i k small h.
        ap (λ p. byte_at block p k) (page_at-set next (page_at next c.first (count - 1)) head d.first i (λ j l same.
        let s = some_pages in
        let inside = in_pages i k d.len h in
        ne (chains_differ block next head free chains kept q key d c e there j (count - 1) (omega arith) (omega arith) same).0)))

    -- the lease that ends is gone
    pub give-leases : leases_of block (set next (page_at next c.first (count - 1)) head) chains' ≡ remove (leases_of block next chains) key
    give-leases = leases-remove block next block (set next (page_at next c.first (count - 1)) head) chains chains' key updates.others not_ended updates.changed

    -- and the pool is kept
    pub give-kept : AreKept block (set next (page_at next c.first (count - 1)) head) c.first (free + count) chains'
    give-kept =
        let s = some_pages in
        let is = chain_lease block next chains key c there in
        let l : length (chain_of block next c) ≡ c.len = length-chain_bytes block next c.first c.len in
        let m : ℕ = count - 1 in
        let at = chain_at-slot head free chains key c there in
        let size : (chain_at head free chains (suc key)).1 ≡ suc m = ap (λ (p : ℕ × ℕ). p.1) at ∙ omega arith in
        let first : (chain_at head free chains (suc key)).0 ≡ c.first = ap (λ (p : ℕ × ℕ). p.0) at in
        let lengths = length-set next (page_at next c.first m) head in
        let apart = joined next (chain_at head free chains) key m kept.apart size (chain_at c.first (free + count) chains')
        (pair c.first (free + count) (chain_at head free chains (suc key)).0 (suc m + free) (sym first) (omega arith))
        (ap (λ s. option_map_or (λ (c : Chain). (c.first, pages_for c.len)) s (0, 0)) updates.changed)
        (λ k ne. ap (λ s. option_map_or (λ (c : Chain). (c.first, pages_for c.len)) s (0, 0)) (updates.others k ne)) in
        let gone = leased-remove (leases_of block next chains) key (chain_of block next c) is in
        let gone' = ap leased_pages give-leases in
        let pages : pages_for (length (chain_of block next c)) ≡ pages_for c.len = ap pages_for l in
        let fewer' = ap len give-leases ∙ len-fewer (leases_of block next chains) key (chain_of block next c) is in
        let total = kept.total in
        let counted = kept.counted in
        record {
          whole = kept.whole ∙ ap (λ n. n * 4096) (sym lengths);
          small = subst (λ n. n ≤ 4096) (sym lengths) kept.small;
          apart = subst (λ p. AreApart (set next (page_at next p m) head) (chain_at c.first (free + count) chains')) first apart;
          sized = λ k d e. elim (cases_eq k key) [
            | inl same ↦ absurd (let none : slot chains' k ≡ None = ap (slot chains') same ∙ updates.changed in cc)
            | inr ne ↦ kept.sized k d (sym (updates.others k ne) ∙ e)
          ];
          counted = omega arith;
          total = omega arith;
          room = subst (λ n. n ≤ chains'.capacity) (sym lengths) (subst (λ n. length next ≤ n) (sym same_capacity) kept.room);
        }

-- zeros need as many pages as they are bytes
zero_pages : (n : ℕ) → pages_for (length (replicate {A = ℕ} n 0)) ≡ pages_for n
zero_pages n = ap pages_for (length-replicate n 0)

module _ (block next : List ℕ) (head free : ℕ) (chains : Slab Chain) (kept : AreKept block next head free chains) (bytes need : ℕ)
    (is_need : need ≡ pages_for bytes) (some : 0 < bytes) (small : bytes ≤ 1000000) (enough : need ≤ free)
    (block' n : List ℕ) (is_next : n ≡ next) (same_len : length block' ≡ length block)
    (zeros_n : (i k : ℕ) → i < need → k < 4096 → byte_at block' (page_at n head i) k ≡ 0)
    (stays_n : (q k : ℕ) → k < 4096 → ((i : ℕ) → i < need → q ≢ page_at n head i) → byte_at block' q k ≡ byte_at block q k)
    (chains' : Slab Chain) (key : ℕ) (vacant : slot chains key ≡ None)
    (updates : Updates chains chains' key (Some (record { first = head; len = bytes }))) (more : slab_len chains' ≡ slab_len chains + 1)
    (same_capacity : chains'.capacity ≡ chains.capacity) where
  -- the bytes of the pages that are taken are zero
  zeros : (i k : ℕ) → i < need → k < 4096 → byte_at block' (page_at next head i) k ≡ 0
  zeros = subst (λ n. (i k : ℕ) → i < need → k < 4096 → byte_at block' (page_at n head i) k ≡ 0) is_next zeros_n

  -- those of the others stay
  untouched : (q k : ℕ) → k < 4096 → ((i : ℕ) → i < need → q ≢ page_at next head i) → byte_at block' q k ≡ byte_at block q k
  untouched = subst (λ n. (q k : ℕ) → k < 4096 → ((i : ℕ) → i < need → q ≢ page_at n head i) → byte_at block' q k ≡ byte_at block q k) is_next stays_n

  -- the chains that there are stay
  not_taken : (q : ℕ) (d : Chain) → q ≢ key → slot chains q ≡ Some d → chain_of block' next d ≡ chain_of block next d
  not_taken q d ne e = same_bytes block next block' next d.first d.len (λ i k low h. untouched (page_at next d.first i) k low (λ j l same.
      free_differ block next head free chains kept q d e j i (omega arith) (in_pages i k d.len h) (sym same)))

  -- the new lease has zeros
  pub take-leases : leases_of block' next chains' ≡ insert (leases_of block next chains) key (replicate bytes 0)
  take-leases =
      leases-insert block next block' next chains chains' key updates.others not_taken (record { first = head; len = bytes })
      (replicate bytes 0) updates.changed
      (all_zero block' next head bytes (λ i k low h. let inside = in_pages i k bytes h in zeros i k (omega arith) low))

  -- its number is new
  pub take-fresh : get (leases_of block next chains) key ≡ None
  take-fresh = no_lease block next chains key vacant

  -- and the pool is kept
  pub take-kept : AreKept block' next (page_at next head need) (free - need) chains'
  take-kept =
      let at : chain_at (page_at next head need) (free - need) chains' (suc key) ≡ (head, pages_for bytes) =
      chain_at-slot (page_at next head need) (free - need) chains' key (record { first = head; len = bytes }) updates.changed in
      let taken = leased-insert (leases_of block next chains) key (replicate bytes 0) take-fresh in
      let taken' = ap leased_pages take-leases in
      let pages = zero_pages bytes in
      let more' = ap len take-leases ∙ len-more (leases_of block next chains) key (replicate bytes 0) take-fresh in
      let total = kept.total in
      let counted = kept.counted in
      record {
        whole = same_len ∙ kept.whole;
        small = kept.small;
        apart = parted next (chain_at head free chains) (chain_at (page_at next head need) (free - need) chains') need key kept.apart enough refl
            (at ∙ pair head (pages_for bytes) head need refl (sym is_need))
            (λ k ne. ap (λ s. option_map_or (λ (c : Chain). (c.first, pages_for c.len)) s (0, 0)) (updates.others k ne));
        sized = λ k d e. elim (cases_eq k key) [
          | inl same ↦
              let is : record { first = head; len = bytes } ≡ d =
              one_value (slot chains' k) (record { first = head; len = bytes }) d (ap (slot chains') same ∙ updates.changed) e in
              let l : bytes ≡ d.len = ap (λ (c : Chain). c.len) is in
              (omega arith, omega arith)
          | inr ne ↦ kept.sized k d (sym (updates.others k ne) ∙ e)
        ];
        counted = omega arith;
        total = omega arith;
        room = subst (λ n. length next ≤ n) (sym same_capacity) kept.room;
      }
