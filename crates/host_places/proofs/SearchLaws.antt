-- What a search by halving finds in entries whose keys rise, and what an edit there makes of them.
use Rattle.std.proofs.Common.{◌≡◌, ℕ, zero, suc, ◌<◌, ◌≤◌, Bool, true, false, cond, not, ◌&&◌, T, List, [], ◌∷◌, length, get_or, refl, sym, ap, subst}
use Rattle.std.proofs.Common.{◌∙◌, arith, inl, inr, Some, None, Result, Ok, Err, add-one}
use Rattle.std.specs.List.{filter, insert as insert_at, remove as remove_at, Contains}
use Rattle.std.specs.List.Sorted.{IsBinarySearchResult, IsSearchInRange, IsSortedBy, IsNonDecreasingBy}
use Rattle.std.specs.Result.{MatchResult}
use Rattle.std.specs.Ordering.{eq_by_cmp, is_eq, is_lt, ordering_reverse, ordering_index}
use Rattle.std.specs.Cmp.{IsTotalOrder, tied_itself}
use Rattle.std.specs.declared.cmp.Ordering.{Ordering}
use Rattle.std.specs.declared.cmp.Ordering.TheVariants.{Less, Equal, Greater}
use Rattle.std.specs.FinMap.{IsAntisymmetric}
use Rattle.std.proofs.lemmas.Bool.{cases_lt}
use Rattle.std.proofs.lemmas.List.Sorted.{searchable_from_sorted}
use Rattle.core.specs.FinMap.Entries.{put, below_all, by_order}
use Rattle.plain_sets.specs.Maps.{Map, entries, get, rises}
use Rattle.plain_sets.proofs.MapLaws.{sorted-rises_above}
use Rattle.plain_sets.proofs.MapMembers.{entry-get}

-- of two tests that hold together each holds
first : (a b : Bool) → T (a && b) → T a
first true b h = tt
first false b h = h

second : (a b : Bool) → T (a && b) → T b
second true b h = h
second false b h = absurd h

-- what the test of an ordering says
less : (r : Ordering) → T (is_lt r) → r ≡ Less
less Less h = refl
less Equal h = absurd h
less Greater h = absurd h

-- the key of the entry at i
abbrev pub key_at : {K X : Type 0} → List (K × X) → ℕ → K × X → K
key_at es i d = (get_or es i d).0

-- the entry at i has this key
pub record IsAt {K X : Type 0} (es : List (K × X)) (k : K) (i : ℕ) : Type 0 where
  pub within : i < length es
  pub key : (d : K × X) → key_at es i d ≡ k

-- the keys before i are lower than this one, and the others are greater
pub record IsGap {K X : Type 0} (R : K → K → Ordering) (es : List (K × X)) (k : K) (i : ℕ) : Type 0 where
  pub within : i ≤ length es
  pub before : (j : ℕ) (d : K × X) → j < i → R (key_at es j d) k ≡ Less
  pub after : (j : ℕ) (d : K × X) → i ≤ j → j < length es → R (key_at es j d) k ≡ Greater

-- entries that rise from above a key rise
tail_rises : {K X : Type 0} (R : K → K → Ordering) (e : K × X) (es : List (K × X)) → T (rises R (e ∷ es)) → T (rises R es)
tail_rises R e [] h = tt
tail_rises R e (f ∷ es) h = second _ _ h

-- two keys the other way round
turned : {K : Type 0} {R : K → K → Ordering} → IsTotalOrder R → (a b : K) (r : Ordering) → R a b ≡ r → R b a ≡ ordering_reverse r
turned o a b r e = o.antisymm b a ∙ ap ordering_reverse e

module _ {K X : Type 0} {R : K → K → Ordering} (o : IsTotalOrder R) (same : IsAntisymmetric R) where
  -- each key is below the next
  next_above : (es : List (K × X)) → T (rises R es) → (j : ℕ) (d : K × X) → suc j < length es → R (key_at es j d) (key_at es (suc j) d) ≡ Less
  next_above [] h j d l = absurd (omega arith)
  next_above (e ∷ []) h j d l = absurd (omega arith)
  next_above (e ∷ f ∷ es) h zero d l = less _ (first _ _ h)
  next_above (e ∷ f ∷ es) h (suc j) d l = next_above (f ∷ es) (second _ _ h) j d (omega arith)

  -- so they are sorted as a search asks
  comparisons_rise : (es : List (K × X)) → T (rises R es) → (k : K) → IsNonDecreasingBy (λ e. ordering_index (R e.0 k)) es
  comparisons_rise es h k =
      let sorted : IsSortedBy (λ a b. is_lt (R a.0 b.0)) es =
      λ j d low high. rw (add-one j) (ap is_lt (turned o _ _ Less (next_above es h j d (omega arith)))) in
      searchable_from_sorted o (λ (e : K × X). e.0) es k sorted

  -- a search ends at the key, or at the gap for it
  pub searched : (es : List (K × X)) → T (rises R es) → (k : K) (r : Result ℕ ℕ) → IsSearchInRange r (length es)
      → IsBinarySearchResult (λ e. R e.0 k) es r → MatchResult r (IsAt es k) (IsGap R es k)
  searched es h k (Ok i) within equal = record { within = within; key = λ d. same _ k (equal d) }
  searched es h k (Err i) within parted =
      let p = parted (comparisons_rise es h k) in
      record { within = within; before = λ j d l. p.0 j d (omega arith) l; after = p.1 }

  -- a key with a gap has no value
  pub absent : (m : Map R X) (k : K) (i : ℕ) → IsGap R (entries m) k i → get m k ≡ None
  absent m k i gap =
      elim (get m k) as (λ v. get m k ≡ v → v ≡ None) [
        | None ↦ λ e. refl
        | Some v ↦ λ e. absurd (not_there v (entry-get o same m k v e))
      ] refl where
        tied : (j : ℕ) (v : X) (r : Ordering) → get_or (entries m) j (k, v) ≡ (k, v) → R (key_at (entries m) j (k, v)) k ≡ r → r ≡ Equal
        tied j v r at e = sym e ∙ ap (λ (f : K × X). R f.0 k) at ∙ tied_itself o k

        not_there : (v : X) → Contains (entries m) (k, v) → ⊥
        not_there v c =
            elim (cases_lt c.0 i) [
              | inl l ↦ let e : Less ≡ Equal = tied c.0 v Less c.2 (gap.before c.0 (k, v) l) in cc
              | inr l ↦ let e : Greater ≡ Equal = tied c.0 v Greater c.2 (gap.after c.0 (k, v) l c.1) in cc
            ]

  -- a new entry in the gap is in its place
  pub put_gap : (es : List (K × X)) (k : K) (v : X) (i : ℕ) → IsGap R es k i → put R k v es ≡ insert_at es i (k, v)
  put_gap [] k v zero gap = refl
  put_gap [] k v (suc i) gap = let l : suc i ≤ 0 = gap.within in absurd (omega arith)
  put_gap (e ∷ es) k v zero gap =
      ap (λ r. by_order r ((k, v) ∷ e ∷ es) ((e.0, v) ∷ es) (e ∷ put R k v es)) (turned o e.0 k Greater (gap.after zero e (omega arith) (omega arith)))
  put_gap (e ∷ es) k v (suc i) gap =
      let l : suc i ≤ suc (length es) = gap.within in
      let rest : IsGap R es k i = record {
        within = omega arith;
        before = λ j d b. gap.before (suc j) d (omega arith);
        after = λ j d a b. gap.after (suc j) d (omega arith) (omega arith);
      } in
      ap (λ r. by_order r ((k, v) ∷ e ∷ es) ((e.0, v) ∷ es) (e ∷ put R k v es)) (turned o e.0 k Less (gap.before zero e (omega arith)))
      ∙ ap (λ fs. e ∷ fs) (put_gap es k v i rest)

  -- a key below all entries ties with none
  all_stay : (k : K) (es : List (K × X)) → T (below_all R k es) → filter (λ e. not (eq_by_cmp R k e.0)) es ≡ es
  all_stay k [] h = refl
  all_stay k (e ∷ es) h =
      ap (λ r. cond (not (is_eq r)) (e ∷ filter (λ f. not (eq_by_cmp R k f.0)) es) (filter (λ f. not (eq_by_cmp R k f.0)) es)) (less _ (first _ _ h))
      ∙ ap (λ fs. e ∷ fs) (all_stay k es (second _ _ h))

  -- a key that is below all is below each
  below_each : (k : K) (es : List (K × X)) → T (below_all R k es) → (j : ℕ) (d : K × X) → j < length es → R k (key_at es j d) ≡ Less
  below_each k [] h j d l = absurd (omega arith)
  below_each k (e ∷ es) h zero d l = less _ (first _ _ h)
  below_each k (e ∷ es) h (suc j) d l = below_each k es (second _ _ h) j d (omega arith)

  -- without the key the entry at its place is gone
  pub without_at : (es : List (K × X)) → T (rises R es) → (k : K) (i : ℕ) → IsAt es k i → filter (λ e. not (eq_by_cmp R k e.0)) es ≡ remove_at es i
  without_at [] h k i at = let l : i < 0 = at.within in absurd (omega arith)
  without_at (e ∷ es) h k zero at =
      let is : e.0 ≡ k = at.key e in
      let below : T (below_all R e.0 es) = first _ _ (sorted-rises_above R o e.0 es h) in
      ap (λ r. cond (not (is_eq r)) (e ∷ filter (λ f. not (eq_by_cmp R k f.0)) es) (filter (λ f. not (eq_by_cmp R k f.0)) es)) (ap (R k) is ∙ tied_itself o k)
      ∙ all_stay k es (subst (λ (q : K). T (below_all R q es)) is below)
  without_at (e ∷ es) h k (suc i) at =
      let l : suc i < suc (length es) = at.within in
      let both = sorted-rises_above R o e.0 es h in
      let up : R e.0 k ≡ Less = subst (λ (q : K). R e.0 q ≡ Less) (at.key e) (below_each e.0 es (first _ _ both) i e (omega arith)) in
      let rest : IsAt es k i = record { within = omega arith; key = at.key } in
      ap (λ r. cond (not (is_eq r)) (e ∷ filter (λ f. not (eq_by_cmp R k f.0)) es) (filter (λ f. not (eq_by_cmp R k f.0)) es)) (turned o e.0 k Less up)
      ∙ ap (λ fs. e ∷ fs) (without_at es (tail_rises R e es h) k i rest)
