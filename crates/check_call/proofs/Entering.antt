-- The chosen messages, found by letting one after the other enter a list of at most k.
use Rattle.std.proofs.Common.{◌≡◌, ◌≢◌, ℕ, zero, suc, Bool, true, false, not, ◌&&◌, cond, eqb, List, [], ◌∷◌, take, refl, sym, ap, ◌∙◌, subst}
use Rattle.std.specs.List.{AllByRecursion, filter}
use Rattle.std.proofs.lemmas.Bool.{eqb-true, eq-eqb, true≢false}
use Rattle.plain_sets.specs.Ordered.{is_below, placed, ordered, IsInOrder, not_of, firsts, SendersDiffer}
use Rattle.plain_sets.proofs.OrderLaws.{ordered-cons, sorted-ordered, above_all}
use Rattle.plain_sets.proofs.FirstLaws.{firsts-nil, firsts-cons, firsts-differ, sorted-firsts}
use Rattle.check_call.specs.Entered.{entered}

module _ {X : Type 0} (from : X → ℕ) where
  -- filters of two senders change places
  swapped : (s t : ℕ) (xs : List X) → not_of from s (not_of from t xs) ≡ not_of from t (not_of from s xs)
  swapped s t [] = refl
  swapped s t (x ∷ xs) =
      elim (eqb (from x) t) as
      (λ b. eqb (from x) t ≡ b → not_of from s (cond (not b) (x ∷ not_of from t xs) (not_of from t xs)) ≡ not_of from t (not_of from s (x ∷ xs))) [
        | true ↦ λ e. swapped s t xs ∙ sym (at_t true e)
        | false ↦ λ e. ap (λ l. cond (not (eqb (from x) s)) (x ∷ l) l) (swapped s t xs) ∙ sym (at_t false e)
      ] refl
    where
      same : (b : Bool) (l : List X) → l ≡ cond (not b) l l
      same true l = refl
      same false l = refl

      at_t : (b : Bool) → eqb (from x) t ≡ b
          → not_of from t (not_of from s (x ∷ xs)) ≡ cond (not b)
          (cond (not (eqb (from x) s)) (x ∷ not_of from t (not_of from s xs)) (not_of from t (not_of from s xs))) (not_of from t (not_of from s xs))
      at_t b e = elim (eqb (from x) s) as
          (λ c. not_of from t (cond (not c) (x ∷ not_of from s xs) (not_of from s xs)) ≡ cond (not b)
          (cond (not c) (x ∷ not_of from t (not_of from s xs)) (not_of from t (not_of from s xs))) (not_of from t (not_of from s xs)))
          [ true ↦ same b _ | false ↦ ap (λ d. cond (not d) (x ∷ not_of from t (not_of from s xs)) (not_of from t (not_of from s xs))) e ]

  -- one of them twice
  again : (s : ℕ) (xs : List X) → not_of from s (not_of from s xs) ≡ not_of from s xs
  again s [] = refl
  again s (x ∷ xs) =
      elim (eqb (from x) s) as
      (λ b. eqb (from x) s ≡ b → not_of from s (cond (not b) (x ∷ not_of from s xs) (not_of from s xs)) ≡ cond (not b) (x ∷ not_of from s xs)
      (not_of from s xs)) [
        | true ↦ λ e. again s xs
        | false ↦ λ e. ap (λ b. cond (not b) (x ∷ not_of from s (not_of from s xs)) (not_of from s (not_of from s xs))) e
            ∙ ap (λ l. x ∷ l) (again s xs)
      ] refl

  -- none of a sender is left out
  none_of : (s : ℕ) (xs : List X) → AllByRecursion (λ y. s ≢ from y) xs → not_of from s xs ≡ xs
  none_of s [] all = refl
  none_of s (x ∷ xs) all =
      elim (eqb (from x) s) as (λ b. eqb (from x) s ≡ b → cond (not b) (x ∷ not_of from s xs) (not_of from s xs) ≡ x ∷ xs)
      [ true ↦ λ e. absurd (all.0 (sym (eqb-true (from x) s e))) | false ↦ λ e. ap (λ l. x ∷ l) (none_of s xs all.1) ] refl

  take_all : (P : X → Type 0) (k : ℕ) (xs : List X) → AllByRecursion P xs → AllByRecursion P (take k xs)
  take_all P zero xs all = tt
  take_all P (suc k) [] all = tt
  take_all P (suc k) (x ∷ xs) all = (all.0, take_all P k xs all.1)

  take_again : (k : ℕ) (xs : List X) → take k (take k xs) ≡ take k xs
  take_again zero xs = refl
  take_again (suc k) [] = refl
  take_again (suc k) (x ∷ xs) = ap (λ l. x ∷ l) (take_again k xs)

  -- where at most one goes, one more than k is enough for k
  one_more : (s k : ℕ) (us : List X) → SendersDiffer from us → take k (not_of from s us) ≡ take k (not_of from s (take (suc k) us))
  one_more s k [] differ = refl
  one_more s k (u ∷ us) differ =
      elim (eqb (from u) s) as
      (λ b. eqb (from u) s ≡ b → take k (cond (not b) (u ∷ not_of from s us) (not_of from s us)) ≡ take k
      (cond (not b) (u ∷ not_of from s (take k us)) (not_of from s (take k us))))
      [ true ↦ λ e. gone (eqb-true (from u) s e) | false ↦ λ e. stays k (λ j. one_more s j us differ.1) ] refl
    where
      gone : from u ≡ s → take k (not_of from s us) ≡ take k (not_of from s (take k us))
      gone e =
          let none : AllByRecursion (λ y. s ≢ from y) us = subst (λ (t : ℕ). AllByRecursion (λ y. t ≢ from y) us) e differ.0 in
          ap (take k) (none_of s us none) ∙ sym (ap (take k) (none_of s (take k us) (take_all (λ y. s ≢ from y) k us none)) ∙ take_again k us)

      stays : (k : ℕ) → ((j : ℕ) → take j (not_of from s us) ≡ take j (not_of from s (take (suc j) us)))
          → take k (u ∷ not_of from s us) ≡ take k (u ∷ not_of from s (take k us))
      stays zero rest = refl
      stays (suc j) rest = ap (λ l. u ∷ l) (rest j)

  module _ (key : X → ℕ × ℕ) where
    -- among more than k it is the same
    entered-take : (y : X) (k : ℕ) (ws : List X) → SendersDiffer from ws → take k (entered from key y ws) ≡ take k (entered from key y (take k ws))
    entered-take y zero ws differ = refl
    entered-take y (suc k) [] differ = refl
    entered-take y (suc k) (w ∷ ws) differ =
        elim (is_below (key y) (key w)) as
        (λ b. take (suc k) (cond b (y ∷ not_of from (from y) (w ∷ ws)) (cond (eqb (from w) (from y)) (w ∷ ws) (w ∷ entered from key y ws)))
        ≡ take (suc k) (cond b (y ∷ not_of from (from y) (w ∷ take k ws))
        (cond (eqb (from w) (from y)) (w ∷ take k ws) (w ∷ entered from key y (take k ws))))) [
          | true ↦ ap (λ l. y ∷ l) (one_more (from y) k (w ∷ ws) differ)
          | false ↦ elim (eqb (from w) (from y)) as
              (λ c. take (suc k) (cond c (w ∷ ws) (w ∷ entered from key y ws)) ≡ take (suc k) (cond c (w ∷ take k ws) (w ∷ entered from key y (take k ws))))
              [ true ↦ ap (λ l. w ∷ l) (sym (take_again k ws)) | false ↦ ap (λ l. w ∷ l) (entered-take y k ws differ.1) ]
        ]

    -- what enters leaves others out as before
    entered-other : (y : X) (s : ℕ) (ws : List X) → eqb (from y) s ≡ false → IsInOrder key ws
        → not_of from s (entered from key y ws) ≡ entered from key y (not_of from s ws)
    entered-other y s [] e up = ap (λ b. cond (not b) (y ∷ []) []) e
    entered-other y s (w ∷ ws) e up =
        by_order (is_below (key y) (key w)) (eqb (from w) (from y)) (eqb (from w) s) refl refl refl (entered-other y s ws e up.1) where
          -- where y comes before all of them
          in_front : (vs : List X) → AllByRecursion (λ v. is_below (key y) (key v) ≡ true) vs → entered from key y vs ≡ y ∷ not_of from (from y) vs
          in_front [] all = refl
          in_front (v ∷ vs) all = ap (λ b. cond b (y ∷ not_of from (from y) (v ∷ vs)) (cond (eqb (from v) (from y)) (v ∷ vs) (v ∷ entered from key y vs))) all.0

          kept_all : (P : X → Type 0) (vs : List X) → AllByRecursion P vs → AllByRecursion P (not_of from s vs)
          kept_all P [] all = tt
          kept_all P (v ∷ vs) all = elim (eqb (from v) s) as (λ b. AllByRecursion P (cond (not b) (v ∷ not_of from s vs) (not_of from s vs)))
              [ true ↦ kept_all P vs all.1 | false ↦ (all.0, kept_all P vs all.1) ]

          by_order : (b c d : Bool) → is_below (key y) (key w) ≡ b → eqb (from w) (from y) ≡ c → eqb (from w) s ≡ d
              → not_of from s (entered from key y ws) ≡ entered from key y (not_of from s ws)
              → not_of from s (cond b (y ∷ not_of from (from y) (w ∷ ws)) (cond c (w ∷ ws) (w ∷ entered from key y ws))) ≡ entered from key y
              (cond (not d) (w ∷ not_of from s ws) (not_of from s ws))
          by_order true c d is same gone rest =
              ap (λ x. cond (not x) (y ∷ not_of from s (not_of from (from y) (w ∷ ws))) (not_of from s (not_of from (from y) (w ∷ ws)))) e
              ∙ ap (λ l. y ∷ l) (swapped s (from y) (w ∷ ws))
              ∙ sym (ap (λ x. entered from key y (cond (not x) (w ∷ not_of from s ws) (not_of from s ws))) (sym gone) ∙ in_front (not_of from s (w ∷ ws))
              (kept_all (λ v. is_below (key y) (key v) ≡ true) (w ∷ ws) (is, above_all key y w ws is up.0)))
          by_order false true true is same gone rest =
              absurd (true≢false (sym (eq-eqb (from y) s (sym (eqb-true (from w) (from y) same) ∙ eqb-true (from w) s gone)) ∙ e))
          by_order false true false is same gone rest =
              ap (λ x. cond (not x) (w ∷ not_of from s ws) (not_of from s ws)) gone
              ∙ sym (ap (λ x. cond x (y ∷ not_of from (from y) (w ∷ not_of from s ws))
              (cond (eqb (from w) (from y)) (w ∷ not_of from s ws) (w ∷ entered from key y (not_of from s ws)))) is
              ∙ ap (λ x. cond x (w ∷ not_of from s ws) (w ∷ entered from key y (not_of from s ws))) same)
          by_order false false true is same gone rest =
              ap (λ x. cond (not x) (w ∷ not_of from s (entered from key y ws)) (not_of from s (entered from key y ws))) gone ∙ rest
          by_order false false false is same gone rest =
              ap (λ x. cond (not x) (w ∷ not_of from s (entered from key y ws)) (not_of from s (entered from key y ws))) gone ∙ ap (λ l. w ∷ l) rest
              ∙ sym (ap (λ x. cond x (y ∷ not_of from (from y) (w ∷ not_of from s ws))
              (cond (eqb (from w) (from y)) (w ∷ not_of from s ws) (w ∷ entered from key y (not_of from s ws)))) is
              ∙ ap (λ x. cond x (w ∷ not_of from s ws) (w ∷ entered from key y (not_of from s ws))) same)

    -- where one of its sender stands before it, it makes no difference to the others
    entered-same : (y : X) (ws : List X) → not_of from (from y) (entered from key y ws) ≡ not_of from (from y) ws
    entered-same y [] = ap (λ b. cond (not b) (y ∷ []) []) (eq-eqb (from y) (from y) refl)
    entered-same y (w ∷ ws) =
        elim (is_below (key y) (key w)) as
        (λ b. not_of from (from y) (cond b (y ∷ not_of from (from y) (w ∷ ws)) (cond (eqb (from w) (from y)) (w ∷ ws) (w ∷ entered from key y ws)))
        ≡ not_of from (from y) (w ∷ ws)) [
          | true ↦ ap (λ b. cond (not b) (y ∷ not_of from (from y) (not_of from (from y) (w ∷ ws)))
              (not_of from (from y) (not_of from (from y) (w ∷ ws)))) (eq-eqb (from y) (from y) refl) ∙ again (from y) (w ∷ ws)
          | false ↦ elim (eqb (from w) (from y)) as (λ c. not_of from (from y) (cond c (w ∷ ws) (w ∷ entered from key y ws)) ≡ not_of from (from y) (w ∷ ws))
              [ true ↦ refl | false ↦ ap (λ l. cond (not (eqb (from w) (from y))) (w ∷ l) l) (entered-same y ws) ]
        ]

    -- the first of each sender with one thing more
    firsts-placed : (y : X) (zs : List X) → IsInOrder key zs → firsts from (placed key y zs) ≡ entered from key y (firsts from zs)
    firsts-placed y [] up = firsts-cons from y [] ∙ ap (λ l. y ∷ not_of from (from y) l) (firsts-nil from) ∙ sym (ap (entered from key y) (firsts-nil from))
    firsts-placed y (z ∷ zs) up = by_order (is_below (key y) (key z)) (eqb (from z) (from y)) refl refl (firsts-placed y zs up.1)
        ∙ sym (ap (entered from key y) (firsts-cons from z zs)) where
          rest_of : List X
          rest_of = not_of from (from z) (firsts from zs)

          turned : eqb (from z) (from y) ≡ false → eqb (from y) (from z) ≡ false
          turned e = elim (eqb (from y) (from z)) as (λ b. eqb (from y) (from z) ≡ b → b ≡ false)
              [ true ↦ λ t. absurd (true≢false (sym (eq-eqb (from z) (from y) (sym (eqb-true (from y) (from z) t))) ∙ e)) | false ↦ λ t. refl ] refl

          by_order : (b c : Bool) → is_below (key y) (key z) ≡ b → eqb (from z) (from y) ≡ c
              → firsts from (placed key y zs) ≡ entered from key y (firsts from zs)
              → firsts from (cond b (y ∷ z ∷ zs) (z ∷ placed key y zs)) ≡ cond b (y ∷ not_of from (from y) (z ∷ rest_of))
              (cond c (z ∷ rest_of) (z ∷ entered from key y rest_of))
          by_order true c is same so_far = firsts-cons from y (z ∷ zs) ∙ ap (λ l. y ∷ not_of from (from y) l) (firsts-cons from z zs)
          by_order false true is same so_far =
              firsts-cons from z (placed key y zs) ∙ ap (λ l. z ∷ not_of from (from z) l) so_far
              ∙ ap (λ l. z ∷ l)
              (subst (λ (s : ℕ). not_of from s (entered from key y (firsts from zs)) ≡ not_of from s (firsts from zs))
              (sym (eqb-true (from z) (from y) same)) (entered-same y (firsts from zs)))
          by_order false false is same so_far =
              firsts-cons from z (placed key y zs) ∙ ap (λ l. z ∷ not_of from (from z) l) so_far
              ∙ ap (λ l. z ∷ l) (entered-other y (from z) (firsts from zs) (turned same) (sorted-firsts from key zs up.1))

    -- the first k of each sender, with one thing more
    pub chosen-more : (k : ℕ) (x : X) (xs : List X)
        → take k (firsts from (ordered key (x ∷ xs))) ≡ take k (entered from key x (take k (firsts from (ordered key xs))))
    chosen-more k x xs =
        ap (λ l. take k (firsts from l)) (ordered-cons key x xs) ∙ ap (take k) (firsts-placed x (ordered key xs) (sorted-ordered key xs))
        ∙ entered-take x k (firsts from (ordered key xs)) (firsts-differ from (ordered key xs))
