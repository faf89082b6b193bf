-- What look-ups, sizes and keys are after each change of a map.
use Rattle.std.proofs.Common.{◌≡◌, ℕ, ◌+◌, ◌-◌, Bool, true, false, cond, not, ◌&&◌, T, Some, None, List, [], ◌∷◌, map, length, refl, sym, ap, subst, ◌∙◌, arith}
use Rattle.std.specs.Option.{is_some}
use Rattle.std.specs.List.{filter}
use Rattle.std.specs.Ordering.{eq_by_cmp, is_eq, is_lt}
use Rattle.std.specs.Cmp.{IsTotalOrder, alike_right, eq_by_cmp_equiv}
use Rattle.std.specs.declared.cmp.Ordering.{Ordering}
use Rattle.std.specs.declared.cmp.Ordering.TheVariants.{Less, Equal}
use Rattle.std.specs.FinMap.{IsAntisymmetric}
use Rattle.std.proofs.lemmas.List.{nil_from_length}
use Rattle.core.specs.FinMap.Entries.{put, find, below_all, is_sorted, is_sorted-put, is_sorted-where_key, find-put, find-where_key, length-put}
use Rattle.core.specs.FinMap.Entries.{length_without, same_entries}
use Rattle.plain_sets.proofs.Small.{both, first, second, less}
use Rattle.plain_sets.specs.Maps.{Map, rises, rises_above, empty, checked, get, contains_key, insert, retain, remove, len, keys, values, from_entries}
use Rattle.plain_sets.specs.Maps.{same_list}

-- a choice by a test denied
turned : {A : Type 0} (b : Bool) (x y : A) → cond (not b) x y ≡ cond b y x
turned true x y = refl
turned false x y = refl

-- what a removal leaves, by what was there
one_less : (b : Bool) (a n : ℕ) → cond b 1 0 + a ≡ n → a ≡ cond b (n - 1) n
one_less true a n e = omega arith
one_less false a n e = omega arith

-- entries in std's order rise
module _ {K X : Type 0} (R : K → K → Ordering) where
  -- in std's order keys rise from above k on, where k is below all
  rises_above-sorted : (k : K) (es : List (K × X)) → T (below_all R k es) → T (is_sorted R es) → T (rises_above R k es)
  rises_above-sorted k [] g h = tt
  rises_above-sorted k (e ∷ es) g h = both _ _ (first _ _ g) (rises_above-sorted e.0 es (first _ _ h) (second _ _ h))

  -- in std's order keys rise
  pub rises-sorted : (es : List (K × X)) → T (is_sorted R es) → T (rises R es)
  rises-sorted [] h = tt
  rises-sorted (e ∷ es) h = rises_above-sorted e.0 es (first _ _ h) (second _ _ h)

  module _ (o : IsTotalOrder R) where
    below-rises : (j k : K) (es : List (K × X)) → R j k ≡ Less → T (rises_above R k es) → T (below_all R j es)
    below-rises j k [] p h = tt
    below-rises j k (e ∷ es) p h =
        let next = o.trans j k e.0 p (less _ (first _ _ h)) in both _ _ (subst (λ r. T (is_lt r)) (sym next) tt) (below-rises j e.0 es next (second _ _ h))

    below-rises_above : (k : K) (es : List (K × X)) → T (rises_above R k es) → T (below_all R k es)
    below-rises_above k [] h = tt
    below-rises_above k (e ∷ es) h = both _ _ (first _ _ h) (below-rises k e.0 es (less _ (first _ _ h)) (second _ _ h))

    pub sorted-rises_above : (k : K) (es : List (K × X)) → T (rises_above R k es) → T (below_all R k es && is_sorted R es)
    sorted-rises_above k [] h = tt
    sorted-rises_above k (e ∷ es) h = both _ _ (below-rises_above k (e ∷ es) h) (sorted-rises_above e.0 es (second _ _ h))

    pub sorted-rises : (es : List (K × X)) → T (rises R es) → T (is_sorted R es)
    sorted-rises [] h = tt
    sorted-rises (e ∷ es) h = sorted-rises_above e.0 es h

module _ {K X : Type 0} {R : K → K → Ordering} where
  -- a look-up finds in the entries
  pub get-list : (m : Map R X) (q : K) → get m q ≡ find R q m.list
  unfolding get
  get-list m q = refl

  -- the keys are those of the entries
  pub keys-list : (m : Map R X) → keys m ≡ map (λ e. e.0) m.list
  unfolding keys
  keys-list m = refl

  -- the values are those of the entries
  pub values-list : (m : Map R X) → values m ≡ map (λ e. e.1) m.list
  unfolding values
  values-list m = refl

  -- the length is that of the entries
  pub len-list : (m : Map R X) → len m ≡ length m.list
  unfolding len
  len-list m = refl

  -- a map of length 0 is the empty one
  pub empty_of_len : (m : Map R X) → len m ≡ 0 → m ≡ empty
  unfolding len empty
  empty_of_len m e = same_list m empty (nil_from_length m.list e)

  -- in a map of length 0 no key has a value
  pub none_of_len : (m : Map R X) (q : K) → len m ≡ 0 → get m q ≡ None
  unfolding get len
  none_of_len m q e = ap (find R q) (nil_from_length m.list e)

  -- entries that rise are those of their map, the test at hand
  list-checked : (es : List (K × X)) (b : Bool) (e : rises R es ≡ b) (m : Map R X) → T b → (checked es b e m).list ≡ es
  unfolding checked
  list-checked es true e m h = refl
  list-checked es false e m h = absurd h

-- entries that rise are those of their map
pub list_if_rises : {K X : Type 0} {R : K → K → Ordering} (es : List (K × X)) (m : Map R X) → T (rises R es) → (checked es (rises R es) refl m).list ≡ es
list_if_rises es m h = list-checked es _ refl m h

-- in the empty map no key has a value
pub get-empty : {K X : Type 0} (R : K → K → Ordering) (q : K) → get (empty {X = X} {R = R}) q ≡ None
unfolding get empty
get-empty R q = refl

-- the empty map has length 0
pub len-empty : {K : Type 0} (R : K → K → Ordering) (X : Type 0) → len (empty {X = X} {R = R}) ≡ 0
unfolding len empty
len-empty R X = refl

-- the empty map has no keys
pub keys-empty : {K : Type 0} (R : K → K → Ordering) (X : Type 0) → keys (empty {X = X} {R = R}) ≡ []
unfolding keys empty
keys-empty R X = refl

module _ {K X : Type 0} {R : K → K → Ordering} (o : IsTotalOrder R) where
  -- the entries after an insertion
  pub list-insert : (m : Map R X) (k : K) (v : X) → (insert m k v).list ≡ put R k v m.list
  unfolding insert
  list-insert m k v = list_if_rises _ m (rises-sorted R _ (is_sorted-put R o k v m.list (sorted-rises R o m.list m.sorted)))

  -- the entries that pass
  pub list-retain : (m : Map R X) (p : K → Bool) → (retain m p).list ≡ filter (λ e. p e.0) m.list
  unfolding retain
  list-retain m p = list_if_rises _ m (rises-sorted R _ (is_sorted-where_key R p m.list (sorted-rises R o m.list m.sorted)))

  -- what a look-up answers after an insertion
  pub get-insert : (m : Map R X) (k : K) (v : X) (q : K) → get (insert m k v) q ≡ cond (eq_by_cmp R q k) (Some v) (get m q)
  unfolding get
  get-insert m k v q = ap (find R q) (list-insert m k v) ∙ find-put R o q k v m.list

  -- what it answers where keys had to pass a test that ties don't tell apart
  pub get-retain : (m : Map R X) (p : K → Bool) (q : K) → ((x : K) → R q x ≡ Equal → p x ≡ p q) → get (retain m p) q ≡ cond (p q) (get m q) None
  unfolding get
  get-retain m p q alike = ap (find R q) (list-retain m p) ∙ find-where_key R p q alike m.list

  -- what it answers after a removal
  pub get-remove : (m : Map R X) (k q : K) → get (remove m k) q ≡ cond (eq_by_cmp R q k) None (get m q)
  unfolding remove
  get-remove m k q = get-retain m (λ x. not (eq_by_cmp R k x)) q (λ x t. ap (λ r. not (is_eq r)) (sym (alike_right o q x k t)))
      ∙ turned (eq_by_cmp R k q) _ _ ∙ ap (λ b. cond b None (get m q)) ((eq_by_cmp_equiv o).symm k q)

  -- what it answers in the map of a list
  pub get-from_entries : (es : List (K × X)) (q : K) → get (from_entries {R = R} es) q ≡ find R q es
  get-from_entries [] q = get-empty R q
  get-from_entries (e ∷ es) q = get-insert (from_entries es) e.0 e.1 q ∙ ap (cond (eq_by_cmp R q e.0) (Some e.1)) (get-from_entries es q)

  -- how many keys have a value after an insertion
  pub len-insert : (m : Map R X) (k : K) (v : X) → len (insert m k v) ≡ cond (contains_key m k) (len m) (len m + 1)
  unfolding len get
  len-insert m k v = ap length (list-insert m k v) ∙ length-put R o k v m.list (sorted-rises R o m.list m.sorted)

  -- how many there were before a removal
  len_before_remove : (m : Map R X) (k : K) → cond (contains_key m k) 1 0 + len (remove m k) ≡ len m
  unfolding len get remove
  len_before_remove m k = ap (λ es. cond (is_some (find R k m.list)) 1 0 + length es) (list-retain m (λ x. not (eq_by_cmp R k x)))
      ∙ length_without R o k m.list (sorted-rises R o m.list m.sorted)

  -- how many there are after it
  pub len-remove : (m : Map R X) (k : K) → len (remove m k) ≡ cond (contains_key m k) (len m - 1) (len m)
  len-remove m k = one_less (contains_key m k) _ _ (len_before_remove m k)

  -- two maps that answer alike at each key are one
  pub same_map : IsAntisymmetric R → (m n : Map R X) → ((q : K) → get m q ≡ get n q) → m ≡ n
  unfolding get
  same_map same m n is = same_list m n (same_entries R o same m.list n.list (sorted-rises R o m.list m.sorted) (sorted-rises R o n.list n.sorted) is)
