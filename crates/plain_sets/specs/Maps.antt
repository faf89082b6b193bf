-- Finite maps as lists of entries in the order of their keys. All of it computes, so that examples hold by `refl`.
use Rattle.std.specs.Prelude.{◌≡◌, ℕ, suc, ◌+◌, Bool, true, false, not, ◌&&◌, nat_lt, nat_le, Option, Some, None, is_some, List, [], ◌∷◌, ◌++◌, map}
use Rattle.std.specs.Prelude.{filter, length, slice_get, refl}
use Rattle.std.specs.Coded.{Coded, coded×, coded_list}
use Rattle.std.specs.Ordering.{eq_by_cmp, is_lt, nat_cmp}
use Rattle.std.specs.declared.cmp.Ordering.{Ordering}
use Rattle.std.specs.FinMap.{find, put}
use Rattle.std.proofs.Common.{T, sym, subst}
use base.Stored.{coded_via}
use lib.Dec.{T_prop}
use mathlib.Core.HLevel.{Σ_prop_path}

module _ {K X : Type 0} (R : K → K → Ordering) where
  -- the keys of the entries rise strictly, from above k on
  abbrev pub rises_above : K → List (K × X) → Bool
  rises_above k [] = true
  rises_above k (e ∷ es) = is_lt (R k e.0) && rises_above e.0 es

  -- the keys of the entries rise strictly
  abbrev pub rises : List (K × X) → Bool
  rises [] = true
  rises (e ∷ es) = rises_above e.0 es

  -- each key occurs once
  abbrev pub AreDistinct : List (K × X) → Type 0
  AreDistinct [] = Unit {0}
  AreDistinct (e ∷ es) = (find R e.0 es ≡ None) × AreDistinct es

-- a finite map from keys in the order R to values of X
pub record Map {K : Type 0} (R : K → K → Ordering) (X : Type 0) : Type 0 where
  pub list : List (K × X)
  pub sorted : T (rises R list)

module _ {K X : Type 0} {R : K → K → Ordering} where
  -- the entries of a map, in order of key
  abbrev pub entries : Map R X → List (K × X)
  entries m = m.list

  -- the map without an entry
  unfoldable pub empty : Map R X
  empty = record { list = []; sorted = tt }

  -- the map of these entries where their keys rise, as they do below under each total order; else m
  unfoldable pub checked : (es : List (K × X)) (b : Bool) → rises R es ≡ b → Map R X → Map R X
  checked es true e m = record { list = es; sorted = subst T (sym e) tt }
  checked es false e m = m

  -- the value of a key
  unfoldable pub get : Map R X → K → Option X
  get m q = find R q m.list

  -- whether a key has a value
  abbrev pub contains_key : Map R X → K → Bool
  contains_key m q = is_some (get m q)

  -- the map in which k has the value v
  unfoldable pub insert : Map R X → K → X → Map R X
  insert m k v = checked (put R k v m.list) _ refl m

  -- the entries whose keys pass a test
  unfoldable pub retain : Map R X → (K → Bool) → Map R X
  retain m p = checked (filter (λ e. p e.0) m.list) _ refl m

  -- the map in which k has no value
  unfoldable pub remove : Map R X → K → Map R X
  remove m k = retain m (λ x. not (eq_by_cmp R k x))

  -- how many keys have a value
  unfoldable pub len : Map R X → ℕ
  len m = length m.list

  -- the keys that have a value, in order
  unfoldable pub keys : Map R X → List K
  keys m = map (λ e. e.0) m.list

  -- the values, in order of key
  unfoldable pub values : Map R X → List X
  values m = map (λ e. e.1) m.list

  -- the map of any entries; of several with one key, the first counts
  abbrev pub from_entries : List (K × X) → Map R X
  from_entries [] = empty
  from_entries (e ∷ es) = insert (from_entries es) e.0 e.1

  -- two maps with the same entries are one
  pub same_list : (m n : Map R X) → entries m ≡ entries n → m ≡ n
  same_list m n e =
      let pairs : ◌≡◌ {A = (es : List (K × X)) × T (rises R es)} (m.list, m.sorted) (n.list, n.sorted) = Σ_prop_path (λ es. T_prop _) e in
      λ i. record { list = (pairs i).0; sorted = (pairs i).1 }

  -- the encoding of a map as its entries, for types whose model is a map
  abbrev pub code : Coded K → Coded X → Coded (Map R X)
  code k x = coded_via (coded_list (coded× k x)) entries same_list

-- the set of the keys that have a value
unfoldable pub key_set : {K X : Type 0} {R : K → K → Ordering} → Map R X → Map R (Unit {0})
key_set m = checked (map (λ e. (e.0, tt)) m.list) _ refl empty

module _ {X : Type 0} where
  -- the values of a list under the numbers from a on
  abbrev pub numbered : ℕ → List X → List (ℕ × X)
  numbered a [] = []
  numbered a (x ∷ xs) = (a, x) ∷ numbered (suc a) xs

  -- the map in which the numbers from a on have the values of a list
  unfoldable pub insert_all : Map nat_cmp X → ℕ → List X → Map nat_cmp X
  insert_all m a xs = checked (filter (λ e. nat_lt e.0 a) m.list ++ numbered a xs ++ filter (λ e. nat_le (a + length xs) e.0) m.list) _ refl m

  -- each value that the map has is that of the list under its number
  abbrev pub IsPartOf : Map nat_cmp X → List X → Type 0
  IsPartOf m xs = (q : ℕ) (x : X) → get m q ≡ Some x → slice_get xs q ≡ Some x
