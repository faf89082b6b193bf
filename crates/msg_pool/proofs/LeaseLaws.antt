-- The leases of a pool, one by one, and the pages that they take.
use Rattle.std.proofs.Common.{◌≡◌, ◌≢◌, ℕ, zero, suc, ◌+◌, ◌-◌, ◌<◌, ◌≤◌, cond, List, [], ◌∷◌, map, length, inl, inr, refl, sym, ap, ◌∙◌, arith}
use Rattle.std.proofs.Common.{Option, Some, None, get_or}
use Rattle.std.specs.Option.{option_map, is_some}
use Rattle.std.proofs.lemmas.List.Sums.{sum_by-cons}
use Rattle.std.specs.List.{Contains, sum_by}
use Rattle.std.specs.Ordering.{nat_cmp, eq_by_cmp}
use Rattle.std.specs.Cmp.{nat_cmp_total, unsigned_tied}
use Rattle.std.specs.FinMap.{find, nat_cmp-IsAntisymmetric}
use Rattle.std.proofs.lemmas.Bool.{cases_eq, eq-eqb, ne_eqb}
use Rattle.std.proofs.lemmas.List.Sorted.{sum_by_pushed}
use Rattle.slab.specs.Slab.{Slab, entries_from, get as slot}
use Rattle.plain_sets.specs.Maps.{Map, get, insert, remove, values, len}
use Rattle.plain_sets.proofs.MapLaws.{get-from_entries, get-insert, get-remove, same_map, len-insert, len-remove}
use Rattle.plain_sets.proofs.MapMembers.{values-insert_new, values-remove, get-entry, insert-remove}
use Rattle.plain_sets.proofs.OrderSame.{here, there}
use Rattle.msg_pool.specs.declared.pages.Chain.{Chain}
use Rattle.msg_pool.specs.Pages.{pages_for, chain_bytes}
use Rattle.msg_pool.specs.Pool.{leased_pages}
use Rattle.msg_pool.specs.Chains.{leases_of}

module _ {X Y : Type 0} (f : X → Y) where
  -- nothing is found below the first key
  find-below : (a q : ℕ) (slots : List (Option X)) → q < a → find nat_cmp q (map (λ e. (e.0, f e.1)) (entries_from a slots)) ≡ None
  find-below a q [] h = refl
  find-below a q (None ∷ slots) h = find-below (a + 1) q slots (omega arith)
  find-below a q (Some x ∷ slots) h =
      ap (λ b. cond b (Some (f x)) (find nat_cmp q (map (λ (e : ℕ × X). (e.0, f e.1)) (entries_from (a + 1) slots))))
      (unsigned_tied q a ∙ ne_eqb q a (λ e. absurd (omega arith)))
      ∙ find-below (a + 1) q slots (omega arith)

  -- what is found under a key is the value of its slot
  find-slot : (a q n : ℕ) (slots : List (Option X)) → n ≡ a + q → find nat_cmp n (map (λ e. (e.0, f e.1)) (entries_from a slots)) ≡ option_map f
      (get_or slots q None)
  find-slot a q n [] e = refl
  find-slot a zero n (None ∷ slots) e = find-below (a + 1) n slots (omega arith)
  find-slot a (suc q) n (None ∷ slots) e = find-slot (a + 1) q n slots (omega arith)
  find-slot a zero n (Some x ∷ slots) e =
      ap (λ b. cond b (Some (f x)) (find nat_cmp n (map (λ (e : ℕ × X). (e.0, f e.1)) (entries_from (a + 1) slots))))
      (unsigned_tied n a ∙ eq-eqb n a (omega arith))
  find-slot a (suc q) n (Some x ∷ slots) e =
      ap (λ b. cond b (Some (f x)) (find nat_cmp n (map (λ (e : ℕ × X). (e.0, f e.1)) (entries_from (a + 1) slots))))
      (unsigned_tied n a ∙ ne_eqb n a (λ e'. absurd (omega arith)))
      ∙ find-slot (a + 1) q n slots (omega arith)

-- the bytes of a lease
abbrev pub chain_of : (block next : List ℕ) → Chain → List ℕ
chain_of block next c = chain_bytes block next c.first c.len

-- a number has the bytes of its chain
pub get-leases : (block next : List ℕ) (chains : Slab Chain) (q : ℕ) → get (leases_of block next chains) q ≡ option_map (chain_of block next) (slot chains q)
unfolding leases_of
get-leases block next chains q =
    get-from_entries nat_cmp_total _ q ∙ find-slot (chain_of block next) 0 q q chains.slots (omega arith)

-- a choice by a test that is true
pub chosen : {A : Type 0} (q k : ℕ) (x y : A) → q ≡ k → cond (eq_by_cmp nat_cmp q k) x y ≡ x
chosen q k x y e = ap (λ b. cond b x y) (unsigned_tied q k ∙ eq-eqb q k e)

-- a choice by a test that is false
pub left : {A : Type 0} (q k : ℕ) (x y : A) → q ≢ k → cond (eq_by_cmp nat_cmp q k) x y ≡ y
left q k x y ne = ap (λ b. cond b x y) (unsigned_tied q k ∙ ne_eqb q k ne)

-- the same slot, and the same bytes if there is a chain
same_slot : (f g : Chain → List ℕ) (old new : Option Chain) → new ≡ old → ((c : Chain) → old ≡ Some c → g c ≡ f c) → option_map g new ≡ option_map f old
same_slot f g None new e alike = ap (option_map g) e
same_slot f g (Some c) new e alike = ap (option_map g) e ∙ ap Some (alike c refl)

module _ (block next block' next' : List ℕ) (chains chains' : Slab Chain) (key : ℕ) (others : (q : ℕ) → q ≢ key → slot chains' q ≡ slot chains q)
    (same : (q : ℕ) (c : Chain) → q ≢ key → slot chains q ≡ Some c → chain_of block' next' c ≡ chain_of block next c) where
  -- the other numbers have what they had
  other_lease : (q : ℕ) → q ≢ key → get (leases_of block' next' chains') q ≡ get (leases_of block next chains) q
  other_lease q ne = get-leases block' next' chains' q ∙ same_slot (chain_of block next) (chain_of block' next') (slot chains q) (slot chains' q)
      (others q ne) (λ c e. same q c ne e) ∙ sym (get-leases block next chains q)

  -- one number has new bytes
  pub leases-insert : (c : Chain) (bytes : List ℕ) → slot chains' key ≡ Some c → chain_of block' next' c ≡ bytes
      → leases_of block' next' chains' ≡ insert (leases_of block next chains) key bytes
  leases-insert c bytes e is = same_map nat_cmp_total nat_cmp-IsAntisymmetric _ _ (λ q.
      elim (cases_eq q key) [
        | inl t ↦ ap (get (leases_of block' next' chains')) t ∙ get-leases block' next' chains' key ∙ ap (option_map (chain_of block' next')) e
            ∙ ap Some is ∙ sym (get-insert nat_cmp_total (leases_of block next chains) key bytes q ∙ chosen q key _ _ t)
        | inr ne ↦ other_lease q ne ∙ sym (get-insert nat_cmp_total (leases_of block next chains) key bytes q ∙ left q key _ _ ne)
      ])

  -- one number is gone
  pub leases-remove : slot chains' key ≡ None → leases_of block' next' chains' ≡ remove (leases_of block next chains) key
  leases-remove e = same_map nat_cmp_total nat_cmp-IsAntisymmetric _ _ (λ q.
      elim (cases_eq q key) [
        | inl t ↦ ap (get (leases_of block' next' chains')) t ∙ get-leases block' next' chains' key ∙ ap (option_map (chain_of block' next')) e
            ∙ sym (get-remove nat_cmp_total (leases_of block next chains) key q ∙ chosen q key _ _ t)
        | inr ne ↦ other_lease q ne ∙ sym (get-remove nat_cmp_total (leases_of block next chains) key q ∙ left q key _ _ ne)
      ])

-- a new lease takes its pages
pub leased-insert : (m : Map nat_cmp (List ℕ)) (k : ℕ) (bytes : List ℕ) → get m k ≡ None
    → leased_pages (insert m k bytes) ≡ pages_for (length bytes) + leased_pages m
unfolding leased_pages
leased-insert m k bytes none = sum_by_pushed (λ bytes. pages_for (length bytes)) bytes (values m) (values (insert m k bytes))
    (values-insert_new nat_cmp_total nat_cmp-IsAntisymmetric m k bytes none)

-- a lease that ends gives them back
pub leased-remove : (m : Map nat_cmp (List ℕ)) (k : ℕ) (bytes : List ℕ) → get m k ≡ Some bytes
    → leased_pages m ≡ pages_for (length bytes) + leased_pages (remove m k)
unfolding leased_pages
leased-remove m k bytes is =
    sum_by_pushed (λ bytes. pages_for (length bytes)) bytes (values (remove m k)) (values m) (values-remove nat_cmp_total nat_cmp-IsAntisymmetric m k bytes is)

-- a lease whose bytes are others of the same number keeps its pages
pub leased-same : (m : Map nat_cmp (List ℕ)) (k : ℕ) (old new : List ℕ) → get m k ≡ Some old → length new ≡ length old
    → leased_pages (insert m k new) ≡ leased_pages m
leased-same m k old new is l =
    let gone : get (remove m k) k ≡ None = get-remove nat_cmp_total m k k ∙ chosen k k None (get m k) refl in
    ap leased_pages (sym (insert-remove nat_cmp_total nat_cmp-IsAntisymmetric m k new)) ∙ leased-insert (remove m k) k new gone
    ∙ ap (λ n. pages_for n + leased_pages (remove m k)) l ∙ sym (leased-remove m k old is)

-- and the leases are as many
pub len-same : (m : Map nat_cmp (List ℕ)) (k : ℕ) (old new : List ℕ) → get m k ≡ Some old → len (insert m k new) ≡ len m
len-same m k old new is = len-insert nat_cmp_total m k new ∙ ap (λ g. cond (is_some g) (len m) (len m + 1)) is

-- a new lease is one more
pub len-more : (m : Map nat_cmp (List ℕ)) (k : ℕ) (new : List ℕ) → get m k ≡ None → len (insert m k new) ≡ len m + 1
len-more m k new none = len-insert nat_cmp_total m k new ∙ ap (λ g. cond (is_some g) (len m) (len m + 1)) none

-- and one that ends is one fewer
pub len-fewer : (m : Map nat_cmp (List ℕ)) (k : ℕ) (old : List ℕ) → get m k ≡ Some old → len (remove m k) ≡ len m - 1
len-fewer m k old is = len-remove nat_cmp_total m k ∙ ap (λ g. cond (is_some g) (len m - 1) (len m)) is

-- a lease that has a byte takes a page
some_page : (n : ℕ) → 0 < n → 0 < pages_for n
some_page n h = omega arith

-- entries of which each has a byte take as many pages or more
many_pages : (es : List (ℕ × List ℕ)) → ((k : ℕ) (bytes : List ℕ) → Contains es (k, bytes) → 0 < length bytes)
    → length es ≤ sum_by (λ bytes. pages_for (length bytes)) (map (λ e. e.1) es)
many_pages [] has = omega arith
many_pages (e ∷ es) has =
    let one = some_page (length e.1) (has e.0 e.1 (here e es)) in
    let rest = many_pages es (λ k bytes c. has k bytes (there e (k, bytes) es c)) in
    let all = sum_by-cons (λ bytes. pages_for (length bytes)) e.1 (map (λ (e : ℕ × List ℕ). e.1) es) in
    omega arith

-- leases of which each has a byte take as many pages or more
pub few_leases : (m : Map nat_cmp (List ℕ)) → ((k : ℕ) (bytes : List ℕ) → get m k ≡ Some bytes → 0 < length bytes) → len m ≤ leased_pages m
unfolding leased_pages len values
few_leases m has = many_pages m.list (λ k bytes c. has k bytes (get-entry nat_cmp_total nat_cmp-IsAntisymmetric m k bytes c))
