-- The bytes of a chain, one by one.
use Rattle.std.proofs.Common.{◌≡◌, ℕ, zero, suc, ◌+◌, ◌-◌, ◌*◌, ◌/◌, ◌%◌, ◌<◌, ◌≤◌, List, length, refl, sym, ap, ◌∙◌, arith, slice_index, get_or, ◌⊎◌}
use Rattle.std.proofs.Common.{inl, inr, replicate}
use Rattle.std.proofs.lemmas.Bool.{cases_lt}
use Rattle.std.proofs.lemmas.List.{ext_get_or, length-replicate}
use Rattle.std.proofs.lemmas.Grind.{common_steps}
use Rattle.msg_pool.specs.Bytes.{overwritten}
use Rattle.msg_pool.specs.Pages.{page_at, byte_at, values_from, chain_bytes}

-- as many values as were asked for
pub length-values : (f : ℕ → ℕ) (at count : ℕ) → length (values_from f at count) ≡ count
length-values f at zero = refl
length-values f at (suc count) = ap suc (length-values f (suc at) count)

-- each is that of its number
pub get-values : (f : ℕ → ℕ) (at count i : ℕ) → i < count → get_or (values_from f at count) i 0 ≡ f (at + i)
get-values f at zero i h = absurd (omega arith)
get-values f at (suc count) zero h = ap f (omega arith)
get-values f at (suc count) (suc i) h = get-values f (suc at) count i (omega arith) ∙ ap f (omega arith)

-- a chain has the bytes that were asked for
pub length-chain_bytes : (block next : List ℕ) (first count : ℕ) → length (chain_bytes block next first count) ≡ count
unfolding chain_bytes
length-chain_bytes block next first count = length-values _ 0 count

-- where a byte of a chain is
place_of : (i k : ℕ) → k < 4096 → ((i * 4096 + k) / 4096 ≡ i) × ((i * 4096 + k) % 4096 ≡ k)
place_of i k h = (omega arith, omega arith)

-- a byte of a chain
pub get-chain_bytes : (block next : List ℕ) (first count i k : ℕ) → k < 4096 → i * 4096 + k < count
    → slice_index (chain_bytes block next first count) (i * 4096 + k) ≡ byte_at block (page_at next first i) k
unfolding chain_bytes
get-chain_bytes block next first count i k small h =
    let at = place_of i k small in
    get-values (λ j. byte_at block (page_at next first (j / 4096)) (j % 4096)) 0 count (i * 4096 + k) h
    ∙ ap (λ j. byte_at block (page_at next first (j / 4096)) (j % 4096)) (omega arith)
    ∙ ap (λ q. byte_at block (page_at next first q) ((i * 4096 + k) % 4096)) at.0 ∙ ap (byte_at block (page_at next first i)) at.1

-- a list with the same bytes is the chain's
pub chain_bytes-is : (block next : List ℕ) (first count : ℕ) (bytes : List ℕ) → length bytes ≡ count
    → ((i k : ℕ) → k < 4096 → i * 4096 + k < count → byte_at block (page_at next first i) k ≡ slice_index bytes (i * 4096 + k))
    → chain_bytes block next first count ≡ bytes
chain_bytes-is block next first count bytes l alike =
    ext_get_or 0 (chain_bytes block next first count) bytes (length-chain_bytes block next first count ∙ sym l) (λ j h.
    let low : j < count = omega (arith, length-chain_bytes block next first count) in
    let is : j / 4096 * 4096 + j % 4096 ≡ j = omega arith in
    let small : j % 4096 < 4096 = omega arith in
    let low' : j / 4096 * 4096 + j % 4096 < count = omega arith in
    ap (slice_index (chain_bytes block next first count)) (sym is) ∙ get-chain_bytes block next first count (j / 4096) (j % 4096) small low'
    ∙ alike (j / 4096) (j % 4096) small low' ∙ ap (slice_index bytes) is)

-- a byte that is written over
pub get-overwritten : (old : List ℕ) (at : ℕ) (bytes : List ℕ) (j : ℕ) → at ≤ j → j < at + length bytes → at + length bytes ≤ length old
    → slice_index (overwritten old at bytes) j ≡ slice_index bytes (j - at)
get-overwritten old at bytes j low high fits = grind (arith, common_steps)

-- a byte that stays
pub get-around : (old : List ℕ) (at : ℕ) (bytes : List ℕ) (j : ℕ) → (j < at) ⊎ (at + length bytes ≤ j) → at + length bytes ≤ length old
    → slice_index (overwritten old at bytes) j ≡ slice_index old j
get-around old at bytes j out fits = grind (arith, common_steps)

-- no byte more
pub length-overwritten : (old : List ℕ) (at : ℕ) (bytes : List ℕ) → at + length bytes ≤ length old → length (overwritten old at bytes) ≡ length old
length-overwritten old at bytes fits = grind (arith, common_steps)

-- a chain of which each byte is what it was
pub same_bytes : (block next block' next' : List ℕ) (first count : ℕ)
    → ((i k : ℕ) → k < 4096 → i * 4096 + k < count → byte_at block' (page_at next' first i) k ≡ byte_at block (page_at next first i) k)
    → chain_bytes block' next' first count ≡ chain_bytes block next first count
same_bytes block next block' next' first count alike =
    chain_bytes-is block' next' first count (chain_bytes block next first count) (length-chain_bytes block next first count)
    (λ i k small h. alike i k small h ∙ sym (get-chain_bytes block next first count i k small h))

-- a list of zeros has no other byte
pub zero-replicate : (count j : ℕ) → slice_index (replicate count 0) j ≡ 0
zero-replicate zero j = refl
zero-replicate (suc count) zero = refl
zero-replicate (suc count) (suc j) = zero-replicate count j

-- a chain of which each byte is zero
pub all_zero : (block next : List ℕ) (first count : ℕ) → ((i k : ℕ) → k < 4096 → i * 4096 + k < count → byte_at block (page_at next first i) k ≡ 0)
    → chain_bytes block next first count ≡ replicate count 0
all_zero block next first count none =
    chain_bytes-is block next first count (replicate count 0) (length-replicate count 0)
    (λ i k small h. none i k small h ∙ sym (zero-replicate count (i * 4096 + k)))

-- a chain in which bytes were written over those from a place on
pub written_over : (block block' next : List ℕ) (first count offset : ℕ) (bytes : List ℕ) → offset + length bytes ≤ count
    → ((i k : ℕ) → k < 4096 → offset ≤ i * 4096 + k → i * 4096 + k < offset + length bytes → byte_at block'
    (page_at next first i) k ≡ slice_index bytes (i * 4096 + k - offset))
    → ((i k : ℕ) → k < 4096 → i * 4096 + k < count → (i * 4096 + k < offset) ⊎ (offset + length bytes ≤ i * 4096 + k) → byte_at block'
    (page_at next first i) k ≡ byte_at block (page_at next first i) k)
    → chain_bytes block' next first count ≡ overwritten (chain_bytes block next first count) offset bytes
written_over block block' next first count offset bytes fits written kept =
    let old : List ℕ = chain_bytes block next first count in
    let l : length old ≡ count = length-chain_bytes block next first count in
    let fits' : offset + length bytes ≤ length old = omega arith in
    chain_bytes-is block' next first count (overwritten old offset bytes) (length-overwritten old offset bytes fits' ∙ l)
    (λ i k small h.
    let stays : (i * 4096 + k < offset) ⊎ (offset + length bytes ≤ i * 4096 + k)
    → byte_at block' (page_at next first i) k ≡ slice_index (overwritten old offset bytes) (i * 4096 + k) =
    λ out. kept i k small h out ∙ sym (get-around old offset bytes (i * 4096 + k) out fits' ∙ get-chain_bytes block next first count i k small h) in
    elim (cases_lt (i * 4096 + k) offset) [
      | inl l ↦ stays (inl l)
      | inr low ↦ elim (cases_lt (i * 4096 + k) (offset + length bytes)) [
        | inl high ↦ written i k small low high ∙ sym (get-overwritten old offset bytes (i * 4096 + k) low high fits')
        | inr out ↦ stays (inr out)
      ]
    ])
