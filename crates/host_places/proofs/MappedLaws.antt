-- A map with another value of each key.
use Rattle.std.proofs.Common.{◌≡◌, suc, Bool, true, false, ◌&&◌, cond, T, List, [], ◌∷◌, length, map, refl, sym, ap, subst, ◌∙◌, Option, Some, None}
use Rattle.std.specs.Option.{option_map}
use Rattle.std.specs.declared.cmp.Ordering.{Ordering}
use Rattle.std.specs.Ordering.{eq_by_cmp, is_lt}
use Rattle.std.specs.Cmp.{IsTotalOrder}
use Rattle.std.specs.FinMap.{IsAntisymmetric}
use Rattle.core.specs.FinMap.Entries.{find}
use Rattle.plain_sets.specs.Maps.{Map, rises, rises_above, empty, get, len, insert, remove}
use Rattle.plain_sets.proofs.MapLaws.{list_if_rises, get-insert, get-remove, same_map}
use Rattle.host_places.specs.Mapped.{mapped}

module _ {K X Y : Type 0} (f : X → Y) where
  -- the entries with other values
  abbrev pub each : List (K × X) → List (K × Y)
  each es = map (λ e. (e.0, f e.1)) es

  length-each : (es : List (K × X)) → length (each es) ≡ length es
  length-each [] = refl
  length-each (e ∷ es) = ap suc (length-each es)

  module _ (R : K → K → Ordering) where
    rises_above-each : (k : K) (es : List (K × X)) → rises_above R k (each es) ≡ rises_above R k es
    rises_above-each k [] = refl
    rises_above-each k (e ∷ es) = ap (λ b. is_lt (R k e.0) && b) (rises_above-each e.0 es)

    rises-each : (es : List (K × X)) → rises R (each es) ≡ rises R es
    rises-each [] = refl
    rises-each (e ∷ es) = rises_above-each e.0 es

    find-each : (q : K) (es : List (K × X)) → find R q (each es) ≡ option_map f (find R q es)
    find-each q [] = refl
    find-each q (e ∷ es) =
        elim (eq_by_cmp R q e.0) as (λ b. cond b (Some (f e.1)) (find R q (each es)) ≡ option_map f (cond b (Some e.1) (find R q es)))
        [ true ↦ refl | false ↦ find-each q es ]

module _ {K X Y : Type 0} {R : K → K → Ordering} (f : X → Y) where
  -- its entries
  pub list-mapped : (m : Map R X) → (mapped f m).list ≡ each f m.list
  unfolding mapped
  list-mapped m = list_if_rises (each f m.list) empty (subst T (sym (rises-each f R m.list)) m.sorted)

  -- what a look-up answers
  pub get-mapped : (m : Map R X) (q : K) → get (mapped f m) q ≡ option_map f (get m q)
  unfolding get
  get-mapped m q = ap (find R q) (list-mapped m) ∙ find-each f R q m.list

  -- as many keys have a value
  pub len-mapped : (m : Map R X) → len (mapped f m) ≡ len m
  unfolding len
  len-mapped m = ap length (list-mapped m) ∙ length-each f m.list

module _ {K X Y : Type 0} {R : K → K → Ordering} (o : IsTotalOrder R) (same : IsAntisymmetric R) (f : X → Y) where
  -- it is changed with the map
  pub mapped-insert : (m : Map R X) (k : K) (v : X) → mapped f (insert m k v) ≡ insert (mapped f m) k (f v)
  mapped-insert m k v = same_map o same _ _ (λ q.
      get-mapped f (insert m k v) q ∙ ap (option_map f) (get-insert o m k v q) ∙ at (eq_by_cmp R q k) (get m q)
      ∙ ap (cond (eq_by_cmp R q k) (Some (f v))) (sym (get-mapped f m q)) ∙ sym (get-insert o (mapped f m) k (f v) q)) where
        at : (b : Bool) (g : Option X) → option_map f (cond b (Some v) g) ≡ cond b (Some (f v)) (option_map f g)
        at true g = refl
        at false g = refl

  pub mapped-remove : (m : Map R X) (k : K) → mapped f (remove m k) ≡ remove (mapped f m) k
  mapped-remove m k = same_map o same _ _ (λ q.
      get-mapped f (remove m k) q ∙ ap (option_map f) (get-remove o m k q) ∙ at (eq_by_cmp R q k) (get m q)
      ∙ ap (cond (eq_by_cmp R q k) None) (sym (get-mapped f m q)) ∙ sym (get-remove o (mapped f m) k q)) where
        at : (b : Bool) (g : Option X) → option_map f (cond b None g) ≡ cond b None (option_map f g)
        at true g = refl
        at false g = refl
