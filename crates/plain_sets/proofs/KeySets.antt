-- The set of the keys of a map.
use Rattle.std.proofs.Common.{◌≡◌, ℕ, suc, ◌+◌, ◌-◌, true, false, ◌&&◌, ◌||◌, cond, ltb, leb, T, List, [], ◌∷◌, length, map, refl, sym, ap, subst}
use Rattle.std.proofs.Common.{◌∙◌, arith, Option, Some}
use Rattle.std.specs.Option.{is_some}
use Rattle.std.specs.List.{slice_get}
use Rattle.std.specs.declared.cmp.Ordering.{Ordering}
use Rattle.std.specs.Ordering.{nat_cmp, eq_by_cmp, is_lt}
use Rattle.std.proofs.lemmas.Bool.Decides.{nat_tests}
use Rattle.core.specs.FinMap.Entries.{find}
use Rattle.plain_sets.specs.Maps.{Map, rises, rises_above, empty, get, contains_key, keys, len, insert_all, key_set}
use Rattle.plain_sets.specs.Ranges.{is_between}
use Rattle.plain_sets.specs.Numbers.{with_range}
use Rattle.plain_sets.proofs.MapLaws.{list_if_rises}
use Rattle.plain_sets.proofs.SpreadLaws.{get-insert_all, is_some-slice_get}
use Rattle.plain_sets.proofs.NumberLaws.{has-with_range, same_numbers}

module _ {K X : Type 0} where
  -- entries without their values
  abbrev bare : List (K × X) → List (K × Unit {0})
  bare es = map (λ e. (e.0, tt)) es

  -- they have the same keys
  keys-bare : (es : List (K × X)) → map (λ e. e.0) (bare es) ≡ map (λ e. e.0) es
  keys-bare [] = refl
  keys-bare (e ∷ es) = ap (λ ks. e.0 ∷ ks) (keys-bare es)

  -- they are as many
  length-bare : (es : List (K × X)) → length (bare es) ≡ length es
  length-bare [] = refl
  length-bare (e ∷ es) = ap suc (length-bare es)

module _ {K X : Type 0} (R : K → K → Ordering) where
  -- their keys rise as before
  rises_above-bare : (k : K) (es : List (K × X)) → rises_above R k (bare es) ≡ rises_above R k es
  rises_above-bare k [] = refl
  rises_above-bare k (e ∷ es) = ap (λ b. is_lt (R k e.0) && b) (rises_above-bare e.0 es)

  -- their keys rise as before
  rises-bare : (es : List (K × X)) → rises R (bare es) ≡ rises R es
  rises-bare [] = refl
  rises-bare (e ∷ es) = rises_above-bare e.0 es

  -- the same keys are found
  find-bare : (q : K) (es : List (K × X)) → is_some (find R q (bare es)) ≡ is_some (find R q es)
  find-bare q [] = refl
  find-bare q (e ∷ es) =
      elim (eq_by_cmp R q e.0) as (λ b. is_some (cond b (Some tt) (find R q (bare es))) ≡ is_some (cond b (Some e.1) (find R q es)))
      [ true ↦ refl | false ↦ find-bare q es ]

module _ {K X : Type 0} {R : K → K → Ordering} where
  -- the entries of the set of the keys
  list-key_set : (m : Map R X) → (key_set m).list ≡ bare m.list
  unfolding key_set
  list-key_set m = list_if_rises (bare m.list) empty (subst T (sym (rises-bare R m.list)) m.sorted)

  -- its members are the keys that have a value
  pub has-key_set : (m : Map R X) (q : K) → contains_key (key_set m) q ≡ contains_key m q
  unfolding get
  has-key_set m q = ap (λ es. is_some (find R q es)) (list-key_set m) ∙ find-bare R q m.list

  -- its keys are those of the map
  pub keys-key_set : (m : Map R X) → keys (key_set m) ≡ keys m
  unfolding keys
  keys-key_set m = ap (map (λ e. e.0)) (list-key_set m) ∙ keys-bare m.list

  -- it has as many members as the map has keys
  pub len-key_set : (m : Map R X) → len (key_set m) ≡ len m
  unfolding len
  len-key_set m = ap length (list-key_set m) ∙ length-bare m.list

-- the keys of a map in which a list stands under the numbers from a on
pub key_set-insert_all : {X : Type 0} (m : Map nat_cmp X) (a : ℕ) (xs : List X) → key_set (insert_all m a xs) ≡ with_range (key_set m) a (a + length xs)
key_set-insert_all {X} m a xs = same_numbers _ _ (λ q.
    has-key_set (insert_all m a xs) q ∙ ap is_some (get-insert_all m a xs q) ∙ inside q (slice_get xs (q - a)) (is_some-slice_get xs (q - a)) (get m q)
    ∙ ap (λ b. is_between a (a + length xs) q || b) (sym (has-key_set m q)) ∙ sym (has-with_range (key_set m) a (a + length xs) q)) where
      within : (a n q : ℕ) → (leb a q && ltb q (a + n)) ≡ true → ltb (q - a) n ≡ true
      within a n q e = grind (arith, nat_tests)

      inside : (q : ℕ) (o : Option X) → is_some o ≡ ltb (q - a) (length xs) → (g : Option X)
          → is_some (cond (leb a q && ltb q (a + length xs)) o g) ≡ ((leb a q && ltb q (a + length xs)) || is_some g)
      inside q o e g = elim (leb a q && ltb q (a + length xs)) as (λ b. (leb a q && ltb q (a + length xs)) ≡ b → is_some (cond b o g) ≡ (b || is_some g)) [
        | true ↦ λ h. e ∙ within a (length xs) q h
        | false ↦ λ h. refl
      ] refl

-- and how many they are
pub len-insert_all : {X : Type 0} (m : Map nat_cmp X) (a : ℕ) (xs : List X) → len (insert_all m a xs) ≡ len (with_range (key_set m) a (a + length xs))
len-insert_all m a xs = sym (len-key_set (insert_all m a xs)) ∙ ap len (key_set-insert_all m a xs)
