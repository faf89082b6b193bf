-- A pool in which each page is free.
use Rattle.std.proofs.Common.{◌≡◌, ℕ, zero, suc, ◌+◌, ◌*◌, ◌<◌, ◌≤◌, List, [], length, refl, sym, ap, subst, ◌∙◌, arith, None, slice_index, get_or}
use Rattle.std.specs.Option.{option_map, option_map_or, is_some}
use Rattle.std.specs.List.{count_by}
use Rattle.std.specs.Ordering.{nat_cmp}
use Rattle.std.specs.Cmp.{nat_cmp_total}
use Rattle.std.specs.FinMap.{nat_cmp-IsAntisymmetric}
use Rattle.slab.specs.Slab.{Slab, slab_len, get as slot}
use Rattle.plain_sets.specs.Maps.{empty, len, values}
use Rattle.plain_sets.proofs.MapLaws.{get-empty, len-empty, same_map}
use Rattle.msg_pool.specs.declared.pages.Chain.{Chain}
use Rattle.msg_pool.specs.Pages.{pages_for, page_at}
use Rattle.msg_pool.specs.Pool.{leased_pages}
use Rattle.msg_pool.specs.Chains.{leases_of, chain_at, AreKept}
use Rattle.msg_pool.proofs.LeaseLaws.{chain_of, get-leases}

-- in the first table the pages follow one another by number
page_at-linked : (next : List ℕ) (pages i : ℕ) → ((k : ℕ) → k < pages → slice_index next k ≡ k + 1) → i < pages → page_at next 0 i ≡ i
page_at-linked next pages zero linked h = refl
page_at-linked next pages (suc i) linked h =
    ap (slice_index next) (page_at-linked next pages i linked (omega arith)) ∙ linked i (omega arith) ∙ omega arith

-- no lease takes no page
pub leased-empty : leased_pages empty ≡ 0
unfolding leased_pages values empty
leased-empty = refl

module _ (block next : List ℕ) (chains : Slab Chain) (none : chains.slots ≡ []) where
  -- no slot has a chain
  no_slot : (key : ℕ) → slot chains key ≡ None
  no_slot key = ap (λ slots. get_or slots key None) none

  -- so there is no lease
  pub new-leases : leases_of block next chains ≡ empty {X = List ℕ} {R = nat_cmp}
  new-leases = same_map nat_cmp_total nat_cmp-IsAntisymmetric _ _
      (λ q. get-leases block next chains q ∙ ap (option_map (chain_of block next)) (no_slot q) ∙ sym (get-empty nat_cmp q))

  -- and all pages are free
  pub new-kept : (pages : ℕ) → length block ≡ pages * 4096 → length next ≡ pages → pages ≤ 4096 → ((k : ℕ) → k < pages → slice_index next k ≡ k + 1)
      → pages ≤ chains.capacity → AreKept block next 0 pages chains
  new-kept pages whole size small linked room =
      let counted : slab_len chains ≡ 0 = ap (count_by is_some) none in
      let leases = ap len new-leases ∙ len-empty nat_cmp (List ℕ) in
      let leased = ap leased_pages new-leases ∙ leased-empty in
      record {
        whole = whole ∙ ap (λ n. n * 4096) (sym size);
        small = subst (λ n. n ≤ 4096) (sym size) small;
        apart = record {
          owner = λ p. (0, p);
          owns = owns;
          within = within;
        };
        sized = λ key c e. absurd (let gone = no_slot key in cc);
        counted = counted ∙ sym leases;
        total = omega arith;
        room = subst (λ n. n ≤ chains.capacity) (sym size) room;
      }
    where
      None_at : ℕ → ℕ × ℕ → Type 0
      None_at k chain = (i : ℕ) → i < chain.1 → ⊥

      no_chain : (k i : ℕ) → i < (chain_at 0 pages chains (suc k)).1 → ⊥
      no_chain k = subst (None_at k) (sym (ap (λ s. option_map_or (λ (c : Chain). (c.first, pages_for c.len)) s (0, 0)) (no_slot k))) (λ i h. omega arith)

      owns : (k i : ℕ) → i < (chain_at 0 pages chains k).1 → ◌≡◌ {A = ℕ × ℕ} (0, page_at next (chain_at 0 pages chains k).0 i) (k, i)
      owns zero i h = ap (λ (n : ℕ). (0, n)) (page_at-linked next pages i linked h)
      owns (suc k) i h = absurd (no_chain k i h)

      within : (k i : ℕ) → i < (chain_at 0 pages chains k).1 → page_at next (chain_at 0 pages chains k).0 i < length next
      within zero i h = let at = page_at-linked next pages i linked h in omega (arith, at)
      within (suc k) i h = absurd (no_chain k i h)
