-- A map as the part of a list that is there so far.
use Rattle.std.proofs.Common.{◌≡◌, ℕ, zero, suc, ◌+◌, ◌-◌, ◌<◌, ◌≤◌, Bool, true, false, ◌&&◌, cond, ltb, leb, Option, Some, None, List, [], ◌∷◌}
use Rattle.std.proofs.Common.{length, map, take, drop, refl, sym, ap, ◌∙◌, arith, ◌⊎◌, inl, inr, append-nil}
use Rattle.std.specs.Option.{is_some}
use Rattle.std.specs.List.{slice_get, slice_range}
use Rattle.std.specs.Ordering.{nat_cmp}
use Rattle.std.specs.Cmp.{nat_cmp_total}
use Rattle.std.specs.FinMap.{nat_cmp-IsAntisymmetric}
use Rattle.std.proofs.lemmas.Bool.{cases_lt, le-leb, lt-ltb, le-ltb, ltb-true, leb-true, and_parts, true≢false}
use Rattle.std.proofs.lemmas.Option.{slice_get_past}
use Rattle.plain_sets.proofs.Small.{none_some}
use Rattle.plain_sets.specs.Maps.{Map, empty, get, len, values, insert_all, numbered, key_set, IsPartOf}
use Rattle.plain_sets.specs.Numbers.{IsBelow}
use Rattle.plain_sets.proofs.MapLaws.{get-empty, same_map}
use Rattle.plain_sets.proofs.SpreadLaws.{list-insert_all, get-insert_all, is_some-slice_get}
use Rattle.plain_sets.proofs.KeySets.{has-key_set, len-key_set}
use Rattle.plain_sets.proofs.CountLaws.{full-all}

module _ {X : Type 0} where
  -- the values under numbers are the list
  values-numbered : (a : ℕ) (xs : List X) → map (λ e. e.1) (numbered a xs) ≡ xs
  values-numbered a [] = refl
  values-numbered a (x ∷ xs) = ap (λ l. x ∷ l) (values-numbered (suc a) xs)

  -- the values of a list under the numbers from a on are those of the list
  pub values-insert_all_empty : (a : ℕ) (xs : List X) → values (insert_all empty a xs) ≡ xs
  unfolding values empty
  values-insert_all_empty a xs = ap (map (λ e. e.1)) (list-insert_all empty a xs ∙ append-nil (numbered a xs)) ∙ values-numbered a xs

  -- a map that answers as the list does has its values
  pub values-whole : (m : Map nat_cmp X) (xs : List X) → ((q : ℕ) → get m q ≡ slice_get xs q) → values m ≡ xs
  values-whole m xs same =
      ap values (same_map nat_cmp_total nat_cmp-IsAntisymmetric m (insert_all empty 0 xs) (λ q. same q ∙ sym (got q (cases_lt q (length xs)))))
      ∙ values-insert_all_empty 0 xs where
        got : (q : ℕ) → ((q < length xs) ⊎ (length xs ≤ q)) → get (insert_all empty 0 xs) q ≡ slice_get xs q
        got q (inl h) =
            let here : leb 0 q ≡ true = le-leb 0 q (omega arith) in
            let inside : ltb q (0 + length xs) ≡ true = lt-ltb q (0 + length xs) (omega arith) in
            let same_place : q - 0 ≡ q = omega arith in
            get-insert_all empty 0 xs q ∙ rw (here, inside, same_place) refl
        got q (inr h) =
            let here : leb 0 q ≡ true = le-leb 0 q (omega arith) in
            let outside : ltb q (0 + length xs) ≡ false = le-ltb q (0 + length xs) (omega arith) in
            get-insert_all empty 0 xs q ∙ rw (here, outside) (get-empty nat_cmp q ∙ sym (slice_get_past xs q h))

  -- an element of the front of a list is one of the list
  get-take : (n i : ℕ) (xs : List X) (x : X) → slice_get (take n xs) i ≡ Some x → slice_get xs i ≡ Some x
  get-take zero i xs x e = absurd (none_some e)
  get-take (suc n) i [] x e = e
  get-take (suc n) zero (y ∷ ys) x e = e
  get-take (suc n) (suc i) (y ∷ ys) x e = get-take n i ys x e

  -- an element of a list's end
  get-drop : (a i : ℕ) (xs : List X) → slice_get (drop a xs) i ≡ slice_get xs (i + a)
  get-drop zero i xs = ap (slice_get xs) (omega arith)
  get-drop (suc a) i [] = refl
  get-drop (suc a) i (y ∷ ys) = let e : i + suc a ≡ suc (i + a) = omega arith in rw e (get-drop a i ys)

  -- the empty map is a part of each list
  pub part-empty : (xs : List X) → IsPartOf empty xs
  part-empty xs q x e = absurd (none_some (sym (get-empty nat_cmp q) ∙ e))

  -- and stays one with more of the list
  pub part-insert_all : (m : Map nat_cmp X) (xs : List X) (a b : ℕ) → IsPartOf m xs → IsPartOf (insert_all m a (slice_range xs a b)) xs
  part-insert_all m xs a b part q x e =
      choose (leb a q && ltb q (a + length (slice_range xs a b))) refl (sym (get-insert_all m a (slice_range xs a b) q) ∙ e) where
        choose : (c : Bool) → (leb a q && ltb q (a + length (slice_range xs a b))) ≡ c
            → cond c (slice_get (slice_range xs a b) (q - a)) (get m q) ≡ Some x → slice_get xs q ≡ Some x
        choose true t f =
            let above : a ≤ q = leb-true a q (and_parts (leb a q) (ltb q (a + length (slice_range xs a b))) t).0 in
            let place : q - a + a ≡ q = omega arith in
            ap (slice_get xs) (sym place) ∙ sym (get-drop a (q - a) xs) ∙ get-take (b - a) (q - a) (drop a xs) x f
        choose false t f = part q x f

  -- a part with as many values as the list is the whole of it
  pub part-whole : (m : Map nat_cmp X) (xs : List X) → IsPartOf m xs → len m ≡ length xs → values m ≡ xs
  part-whole m xs part full = values-whole m xs (λ q. answer q (get m q) refl (cases_lt q (length xs))) where
    placed_at : (q : ℕ) (o : Option X) → get m q ≡ o → is_some o ≡ true → q < length xs
    placed_at q None e h = absurd (true≢false (sym h))
    placed_at q (Some x) e h = ltb-true q (length xs) (sym (is_some-slice_get xs q) ∙ ap is_some (part q x e))

    below : IsBelow (key_set m) (length xs)
    below q h = placed_at q (get m q) refl (sym (has-key_set m q) ∙ h)

    answer : (q : ℕ) (o : Option X) → get m q ≡ o → ((q < length xs) ⊎ (length xs ≤ q)) → get m q ≡ slice_get xs q
    answer q (Some x) e h = e ∙ sym (part q x e)
    answer q None e (inl h) = absurd (true≢false (sym (full-all (key_set m) (length xs) below (len-key_set m ∙ full) q h) ∙ has-key_set m q ∙ ap is_some e))
    answer q None e (inr h) = e ∙ sym (slice_get_past xs q h)
