-- The entries and keys of a map, and changes that change nothing or undo each other.
use Rattle.std.proofs.Common.{◌≡◌, ◌<◌, Bool, true, false, ◌||◌, cond, T, List, [], ◌∷◌, map, refl, sym, ap, subst, ◌∙◌, arith, Option, Some, None, inl, inr}
use Rattle.std.specs.List.{Contains, list_any}
use Rattle.std.specs.List.Sorted.{IsPermutation}
use Rattle.std.specs.declared.cmp.Ordering.{Ordering}
use Rattle.std.specs.declared.cmp.Ordering.TheVariants.{Less, Equal, Greater}
use Rattle.std.specs.Ordering.{eq_by_cmp, is_eq, ordering_reverse}
use Rattle.std.specs.Cmp.{IsTotalOrder, tied_itself}
use Rattle.std.specs.FinMap.{IsAntisymmetric}
use Rattle.std.proofs.lemmas.Bool.{true≢false, or_cases, or_right}
use Rattle.std.proofs.lemmas.List.Sorted.{IsPermutation-refl, IsPermutation-cons, IsPermutation-trans, IsPermutation-middle, IsPermutation-map}
use Rattle.core.specs.FinMap.Entries.{put, find, below_all, is_sorted, is_some-find}
use Rattle.plain_sets.proofs.Small.{none_some, first, second, less, equal}
use Rattle.plain_sets.specs.Maps.{Map, entries, empty, get, contains_key, insert, remove, keys, values, from_entries, AreDistinct}
use Rattle.plain_sets.proofs.MapLaws.{list-insert, get-insert, get-remove, get-from_entries, same_map, sorted-rises}
use Rattle.plain_sets.proofs.OrderSame.{here, there, at_head}

-- equal values from equal options
pub same_some : {A : Type 0} (x y : A) → Some x ≡ Some y → x ≡ y
same_some x y e = cc

module _ {K X : Type 0} {R : K → K → Ordering} where
  -- a key has a value where it is among the keys
  pub contains_key-keys : (m : Map R X) (q : K) → contains_key m q ≡ list_any (eq_by_cmp R q) (keys m)
  unfolding get keys
  contains_key-keys m q = is_some-find R q m.list

-- of two choices by one test the first decides
twice : {A : Type 0} (b : Bool) (x y z : A) → cond b x (cond b y z) ≡ cond b x z
twice true x y z = refl
twice false x y z = refl

-- two choices by tests that aren't true at once may come in either order
swapped : {A : Type 0} (b c : Bool) (x y z : A) → (b ≡ true → c ≡ true → ⊥) → cond b x (cond c y z) ≡ cond c y (cond b x z)
swapped true true x y z h = absurd (h refl refl)
swapped true false x y z h = refl
swapped false c x y z h = refl

module _ {K : Type 0} {R : K → K → Ordering} (same : IsAntisymmetric R) where
  -- a key that ties with one of a list is in it
  key_listed : (q : K) (ks : List K) → list_any (eq_by_cmp R q) ks ≡ true → Contains ks q
  key_listed q [] e = absurd (true≢false (sym e))
  key_listed q (k ∷ ks) e =
      elim (or_cases (eq_by_cmp R q k) (list_any (eq_by_cmp R q) ks) e) [
        | inl t ↦ subst (Contains (k ∷ ks)) (sym (same q k (equal _ t))) (here k ks)
        | inr rest ↦ there k q ks (key_listed q ks rest)
      ]

module _ {K : Type 0} {R : K → K → Ordering} (o : IsTotalOrder R) where
  -- a key ties with itself
  tied : (q : K) → eq_by_cmp R q q ≡ true
  tied q = ap is_eq (tied_itself o q)

  -- a key in a list ties with one of it
  listed_key : (q : K) (ks : List K) → Contains ks q → list_any (eq_by_cmp R q) ks ≡ true
  listed_key q [] c = let l : c.0 < 0 = c.1 in absurd (omega arith)
  listed_key q (k ∷ ks) c =
      elim (at_head k q ks c) [
        | inl is ↦ ap (λ (j : K). eq_by_cmp R q j || list_any (eq_by_cmp R q) ks) is ∙ ap (λ b. b || list_any (eq_by_cmp R q) ks) (tied q)
        | inr rest ↦ or_right (eq_by_cmp R q k) _ (listed_key q ks rest)
      ]

module _ {K X : Type 0} {R : K → K → Ordering} (o : IsTotalOrder R) (same : IsAntisymmetric R) where
  -- a key that is below all is below each
  above : (k : K) (es : List (K × X)) (e : K × X) → T (below_all R k es) → Contains es e → R k e.0 ≡ Less
  above k [] e h c = let l : c.0 < 0 = c.1 in absurd (omega arith)
  above k (f ∷ es) e h c =
      elim (at_head f e es c) [ inl is ↦ subst (λ (g : K × X). R k g.0 ≡ Less) is (less _ (first _ _ h)) | inr rest ↦ above k es e (second _ _ h) rest ]

  -- an entry is found under its key
  find-contains : (k : K) (v : X) (es : List (K × X)) → T (is_sorted R es) → Contains es (k, v) → find R k es ≡ Some v
  find-contains k v [] h c = let l : c.0 < 0 = c.1 in absurd (omega arith)
  find-contains k v (e ∷ es) h c =
      elim (at_head e (k, v) es c) [
        | inl is ↦ subst (λ (g : K × X). cond (eq_by_cmp R k g.0) (Some g.1) (find R k es) ≡ Some v) (sym is)
            (ap (λ b. cond b (Some v) (find R k es)) (tied o k))
        | inr rest ↦
            let up : R e.0 k ≡ Less = above e.0 es (k, v) (first _ _ h) rest in
            let off : eq_by_cmp R k e.0 ≡ false = ap is_eq (o.antisymm k e.0 ∙ ap ordering_reverse up) in
            ap (λ b. cond b (Some e.1) (find R k es)) off ∙ find-contains k v es (second _ _ h) rest
      ]

  -- what is found is an entry
  contains-find : (k : K) (v : X) (es : List (K × X)) → find R k es ≡ Some v → Contains es (k, v)
  contains-find k v [] = λ e. absurd (none_some e)
  contains-find k v (f ∷ es) =
      elim (eq_by_cmp R k f.0) as (λ b. eq_by_cmp R k f.0 ≡ b → cond b (Some f.1) (find R k es) ≡ Some v → Contains (f ∷ es) (k, v)) [
        | true ↦ λ t e. let is : f ≡ (k, v) = λ i. (sym (same k f.0 (equal _ t)) i, same_some f.1 v e i) in subst (Contains (f ∷ es)) is (here f es)
        | false ↦ λ t e. there f (k, v) es (contains-find k v es e)
      ] refl

  -- a key with its value is an entry
  pub entry-get : (m : Map R X) (k : K) (v : X) → get m k ≡ Some v → Contains (entries m) (k, v)
  unfolding get
  entry-get m k v e = contains-find k v m.list e

  -- and each entry is a key with its value
  pub get-entry : (m : Map R X) (k : K) (v : X) → Contains (entries m) (k, v) → get m k ≡ Some v
  unfolding get
  get-entry m k v c = find-contains k v m.list (sorted-rises R o m.list m.sorted) c

  -- the keys are those that have a value
  pub keys-contains : (m : Map R X) (q : K) → contains_key m q ≡ true → Contains (keys m) q
  keys-contains m q e = key_listed same q (keys m) (sym (contains_key-keys m q) ∙ e)

  -- and each of the keys has a value
  pub contains-keys : (m : Map R X) (q : K) → Contains (keys m) q → contains_key m q ≡ true
  contains-keys m q c = contains_key-keys m q ∙ listed_key o q (keys m) c

  -- a value that a key has already may be answered for it
  at_key : (m : Map R X) (k q : K) (v : Option X) → get m k ≡ v → (b : Bool) → eq_by_cmp R q k ≡ b → cond b v (get m q) ≡ get m q
  at_key m k q v e true t = sym e ∙ ap (get m) (sym (same q k (equal _ t)))
  at_key m k q v e false t = refl

  -- a value that a key has already changes nothing
  pub insert-same : (m : Map R X) (k : K) (v : X) → get m k ≡ Some v → insert m k v ≡ m
  insert-same m k v e = same_map o same _ _ (λ q. get-insert o m k v q ∙ at_key m k q (Some v) e (eq_by_cmp R q k) refl)

  -- nor does the removal of a key without a value
  pub remove-absent : (m : Map R X) (k : K) → get m k ≡ None → remove m k ≡ m
  remove-absent m k e = same_map o same _ _ (λ q. get-remove o m k q ∙ at_key m k q None e (eq_by_cmp R q k) refl)

  -- of two values of one key the later stays
  pub insert-again : (m : Map R X) (k : K) (v w : X) → insert (insert m k v) k w ≡ insert m k w
  insert-again m k v w =
      same_map o same _ _
      (λ q. get-insert o (insert m k v) k w q ∙ ap (cond (eq_by_cmp R q k) (Some w)) (get-insert o m k v q) ∙ twice (eq_by_cmp R q k) (Some w) (Some v)
      (get m q) ∙ sym (get-insert o m k w q))

  -- an insertion after a removal of the key is the insertion
  pub insert-remove : (m : Map R X) (k : K) (v : X) → insert (remove m k) k v ≡ insert m k v
  insert-remove m k v =
      same_map o same _ _
      (λ q. get-insert o (remove m k) k v q ∙ ap (cond (eq_by_cmp R q k) (Some v)) (get-remove o m k q) ∙ twice (eq_by_cmp R q k) (Some v) None
      (get m q) ∙ sym (get-insert o m k v q))

  -- a removal after an insertion of the key is the removal
  pub remove-insert : (m : Map R X) (k : K) (v : X) → remove (insert m k v) k ≡ remove m k
  remove-insert m k v =
      same_map o same _ _
      (λ q. get-remove o (insert m k v) k q ∙ ap (cond (eq_by_cmp R q k) None) (get-insert o m k v q) ∙ twice (eq_by_cmp R q k) None (Some v) (get m q)
      ∙ sym (get-remove o m k q))

  -- what is put at a new key and taken away again leaves the map as it was
  pub remove-insert_new : (m : Map R X) (k : K) (v : X) → get m k ≡ None → remove (insert m k v) k ≡ m
  remove-insert_new m k v e = remove-insert m k v ∙ remove-absent m k e

  -- values at different keys may come in either order
  pub insert-swap : (m : Map R X) (j k : K) (v w : X) → (j ≡ k → ⊥) → insert (insert m j v) k w ≡ insert (insert m k w) j v
  insert-swap m j k v w ne = same_map o same _ _ (λ q.
      get-insert o (insert m j v) k w q ∙ ap (cond (eq_by_cmp R q k) (Some w)) (get-insert o m j v q)
      ∙ swapped (eq_by_cmp R q k) (eq_by_cmp R q j) (Some w) (Some v) (get m q) (λ a b. ne (sym (same q j (equal _ b)) ∙ same q k (equal _ a)))
      ∙ sym (get-insert o (insert m k w) j v q ∙ ap (cond (eq_by_cmp R q j) (Some v)) (get-insert o m k w q)))

  -- where nothing is found the first key doesn't tie, and nothing is found in the rest
  none_first : (b : Bool) (x : X) (p : Option X) → cond b (Some x) p ≡ None → (b ≡ false) × (p ≡ None)
  none_first true x p e = cc
  none_first false x p e = (refl, e)

  -- a new entry in its place is one entry more
  permutation-put : (k : K) (v : X) (es : List (K × X)) → find R k es ≡ None → IsPermutation ((k, v) ∷ es) (put R k v es)
  permutation-put k v [] none = IsPermutation-refl ((k, v) ∷ [])
  permutation-put k v (e ∷ es) none =
      elim (R k e.0) as
      (λ r. R k e.0 ≡ r → IsPermutation ((k, v) ∷ e ∷ es)
      (Rattle.core.specs.FinMap.Entries.by_order r ((k, v) ∷ e ∷ es) ((e.0, v) ∷ es) (e ∷ put R k v es))) [
        | Less ↦ λ h. IsPermutation-refl ((k, v) ∷ e ∷ es)
        | Equal ↦ λ h. absurd (true≢false (sym (ap is_eq h) ∙ (none_first (eq_by_cmp R k e.0) e.1 (find R k es) none).0))
        | Greater ↦ λ h.
            let rest = (none_first (eq_by_cmp R k e.0) e.1 (find R k es) none).1 in
            IsPermutation-trans ((k, v) ∷ e ∷ es) (e ∷ (k, v) ∷ es) (e ∷ put R k v es) (IsPermutation-middle ((k, v) ∷ []) e es)
            (IsPermutation-cons e ((k, v) ∷ es) (put R k v es) (permutation-put k v es rest))
      ] refl

  -- a new key brings its entry, in its place
  pub entries-insert_new : (m : Map R X) (k : K) (v : X) → get m k ≡ None → IsPermutation ((k, v) ∷ entries m) (entries (insert m k v))
  unfolding get
  entries-insert_new m k v none = subst (IsPermutation ((k, v) ∷ m.list)) (sym (list-insert o m k v)) (permutation-put k v m.list none)

  -- and its value
  pub values-insert_new : (m : Map R X) (k : K) (v : X) → get m k ≡ None → IsPermutation (v ∷ values m) (values (insert m k v))
  unfolding values
  values-insert_new m k v none = IsPermutation-map (λ (e : K × X). e.1) ((k, v) ∷ m.list) (insert m k v).list (entries-insert_new m k v none)

  -- a key's removal takes its entry away
  pub entries-remove : (m : Map R X) (k : K) (v : X) → get m k ≡ Some v → IsPermutation ((k, v) ∷ entries (remove m k)) (entries m)
  entries-remove m k v e =
      let gone : get (remove m k) k ≡ None = get-remove o m k k ∙ ap (λ b. cond b None (get m k)) (tied o k) in
      subst (λ (n : Map R X). IsPermutation ((k, v) ∷ entries (remove m k)) (entries n)) (insert-remove m k v ∙ insert-same m k v e)
      (entries-insert_new (remove m k) k v gone)

  -- and its value
  pub values-remove : (m : Map R X) (k : K) (v : X) → get m k ≡ Some v → IsPermutation (v ∷ values (remove m k)) (values m)
  unfolding values
  values-remove m k v e = IsPermutation-map (λ (e : K × X). e.1) ((k, v) ∷ (remove m k).list) m.list (entries-remove m k v e)

  -- entries of which no key stands twice are those of their map
  pub entries-from_entries : (es : List (K × X)) → AreDistinct R es → IsPermutation es (entries (from_entries {R = R} es))
  unfolding empty
  entries-from_entries [] distinct = IsPermutation-refl []
  entries-from_entries (e ∷ es) distinct =
      IsPermutation-trans (e ∷ es) (e ∷ entries (from_entries es)) (entries (from_entries (e ∷ es)))
      (IsPermutation-cons e es (entries (from_entries es)) (entries-from_entries es distinct.1))
      (entries-insert_new (from_entries es) e.0 e.1 (get-from_entries o es e.0 ∙ distinct.0))

  -- and their values are its values
  pub values-from_entries : (es : List (K × X)) → AreDistinct R es → IsPermutation (map (λ e. e.1) es) (values (from_entries {R = R} es))
  unfolding values
  values-from_entries es distinct = IsPermutation-map (λ (e : K × X). e.1) es (entries (from_entries {R = R} es)) (entries-from_entries es distinct)
