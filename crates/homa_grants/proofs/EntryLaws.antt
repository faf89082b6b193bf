-- Lists after a filter, or with one thing more in its place.
use Rattle.std.proofs.Common.{◌≡◌, ◌≢◌, ℕ, zero, suc, ◌<◌, Bool, true, false, not, cond, eqb, List, [], ◌∷◌, length, get_or, Some, None, refl, sym}
use Rattle.std.proofs.Common.{ap, subst, ◌∙◌, inl, inr, arith}
use Rattle.std.specs.List.{AllByRecursion, Contains, filter, find}
use Rattle.std.proofs.lemmas.Bool.{cond_both, true≢false}
use Rattle.plain_sets.specs.Ordered.{is_below, placed, IsInOrder, KeysDiffer, SendersDiffer, ordered, first_of}
use Rattle.plain_sets.proofs.OrderLaws.{all_weaker, ordered-cons}
use Rattle.plain_sets.proofs.OrderSame.{everywhere, none_in, at_head, all_at, ordered-filter, ordered-sorted}
use Rattle.plain_sets.proofs.OrderFirst.{all_from}
use Rattle.plain_sets.proofs.MapMembers.{same_some}
use Rattle.homa_grants.specs.Entries.{Entry, entry_of, without}

-- what holds of all holds of that at an index
pub all-at : {X : Type 0} (P : X → Type 0) (xs : List X) (i : ℕ) (d : X) → AllByRecursion P xs → i < length xs → P (get_or xs i d)
all-at P [] i d all inside = absurd (omega arith)
all-at P (x ∷ xs) zero d all inside = all.0
all-at P (x ∷ xs) (suc i) d all inside = all-at P xs i d all.1 (omega arith)

-- what holds of those that pass a test holds of all that are left by it
pub filter-passed : {X : Type 0} (P : X → Type 0) (t : X → Bool) (xs : List X) → AllByRecursion (λ x. t x ≡ true → P x) xs → AllByRecursion P (filter t xs)
filter-passed P t [] all = tt
filter-passed P t (x ∷ xs) all = cond_both (t x) _ _ (AllByRecursion P) (λ e. (all.0 e, filter-passed P t xs all.1)) (λ _. filter-passed P t xs all.1)

-- a filter of a list that begins with x or not
filter-cond : {X : Type 0} (p : X → Bool) (b : Bool) (x : X) (xs : List X)
    → filter p (cond b (x ∷ xs) xs) ≡ cond b (cond (p x) (x ∷ filter p xs) (filter p xs)) (filter p xs)
filter-cond p true x xs = refl
filter-cond p false x xs = refl

-- two tests of the first thing may come in either order
either_order : {X : Type 0} (b c : Bool) (x : X) (xs ys : List X) → xs ≡ ys → cond b (cond c (x ∷ xs) xs) xs ≡ cond c (cond b (x ∷ ys) ys) ys
either_order true true x xs ys e = ap (λ l. x ∷ l) e
either_order true false x xs ys e = e
either_order false true x xs ys e = e
either_order false false x xs ys e = e

-- two filters may come in either order
pub filter-swap : {X : Type 0} (p q : X → Bool) (xs : List X) → filter p (filter q xs) ≡ filter q (filter p xs)
filter-swap p q [] = refl
filter-swap p q (x ∷ xs) =
    filter-cond p (q x) x (filter q xs) ∙ either_order (q x) (p x) x (filter p (filter q xs)) (filter q (filter p xs)) (filter-swap p q xs)
    ∙ sym (filter-cond q (p x) x (filter p xs))

-- a filter that all pass keeps all
pub filter-kept : {X : Type 0} (t : X → Bool) (xs : List X) → AllByRecursion (λ x. t x ≡ true) xs → filter t xs ≡ xs
filter-kept t [] all = refl
filter-kept t (x ∷ xs) all = ap (λ b. cond b (x ∷ filter t xs) (filter t xs)) all.0 ∙ ap (λ l. x ∷ l) (filter-kept t xs all.1)

-- one that none pass keeps none
pub filter-none : {X : Type 0} (t : X → Bool) (xs : List X) → AllByRecursion (λ x. t x ≡ false) xs → filter t xs ≡ []
filter-none t [] all = refl
filter-none t (x ∷ xs) all = ap (λ b. cond b (x ∷ filter t xs) (filter t xs)) all.0 ∙ filter-none t xs all.1

-- a filter that keeps what a second one keeps adds nothing to it
pub filter-again : {X : Type 0} (t u : X → Bool) (xs : List X) → AllByRecursion (λ x. t x ≡ true → u x ≡ true) xs → filter u (filter t xs) ≡ filter t xs
filter-again t u xs all = filter-kept u (filter t xs) (filter-passed (λ x. u x ≡ true) t xs all)

-- the first of those that pass
pub first-passing : {X : Type 0} (P : X → Type 0) (t : X → Bool) (xs : List X) (y : X) → AllByRecursion P xs → first_of (filter t xs) ≡ Some y
    → P y × (t y ≡ true)
first-passing P t [] y all = λ e. absurd (cc e)
first-passing P t (x ∷ xs) y all =
    elim (t x) as (λ b. t x ≡ b → first_of (cond b (x ∷ filter t xs) (filter t xs)) ≡ Some y → P y × (t y ≡ true)) [
      | true ↦ λ h e. subst (λ z. P z × (t z ≡ true)) (same_some x y e) (all.0, h)
      | false ↦ λ h. first-passing P t xs y all.1
    ] refl

-- a filter that keeps all that a second one lets through doesn't change what that lets through
pub filter-within : {X : Type 0} (t u : X → Bool) (xs : List X) → AllByRecursion (λ x. t x ≡ true → u x ≡ true) xs → filter t (filter u xs) ≡ filter t xs
filter-within t u [] all = refl
filter-within t u (x ∷ xs) all =
    elim (u x) as (λ b. u x ≡ b → filter t (cond b (x ∷ filter u xs) (filter u xs)) ≡ cond (t x) (x ∷ filter t xs) (filter t xs)) [
      | true ↦ λ h. ap (λ l. cond (t x) (x ∷ l) l) (filter-within t u xs all.1)
      | false ↦ λ h. filter-within t u xs all.1
          ∙ elim (t x) as (λ b. t x ≡ b → filter t xs ≡ cond b (x ∷ filter t xs) (filter t xs))
          [ true ↦ λ e. absurd (true≢false (sym (all.0 e) ∙ h)) | false ↦ λ _. refl ] refl
    ] refl

-- nothing is found where none passes
pub find-none : {X : Type 0} (p : X → Bool) (xs : List X) → AllByRecursion (λ x. p x ≡ false) xs → find p xs ≡ None
find-none p [] all = refl
find-none p (x ∷ xs) all = ap (λ b. cond b (Some x) (find p xs)) all.0 ∙ find-none p xs all.1

-- a filter that keeps what is looked for doesn't change what is found
pub find-filter : {X : Type 0} (p q : X → Bool) (xs : List X) → AllByRecursion (λ x. p x ≡ true → q x ≡ true) xs → find p (filter q xs) ≡ find p xs
find-filter p q [] all = refl
find-filter p q (x ∷ xs) all =
    elim (q x) as (λ b. q x ≡ b → find p (cond b (x ∷ filter q xs) (filter q xs)) ≡ cond (p x) (Some x) (find p xs)) [
      | true ↦ λ h. ap (λ o. cond (p x) (Some x) o) (find-filter p q xs all.1)
      | false ↦ λ h. find-filter p q xs all.1
          ∙ elim (p x) as (λ b. p x ≡ b → find p xs ≡ cond b (Some x) (find p xs))
          [ true ↦ λ t. absurd (true≢false (sym (all.0 t) ∙ h)) | false ↦ λ _. refl ] refl
    ] refl

-- what is found passes, and is as all are
pub found-passes : {X : Type 0} (P : X → Type 0) (p : X → Bool) (xs : List X) (y : X) → AllByRecursion P xs → find p xs ≡ Some y → P y × (p y ≡ true)
found-passes P p [] y all = λ e. absurd (cc e)
found-passes P p (x ∷ xs) y all =
    elim (p x) as (λ b. p x ≡ b → cond b (Some x) (find p xs) ≡ Some y → P y × (p y ≡ true)) [
      | true ↦ λ h e. subst (λ z. P z × (p z ≡ true)) (same_some x y e) (all.0, h)
      | false ↦ λ h. found-passes P p xs y all.1
    ] refl

-- where nothing is found none passes
pub none-passes : {X : Type 0} (p : X → Bool) (xs : List X) → find p xs ≡ None → AllByRecursion (λ x. p x ≡ false) xs
none-passes p [] = λ e. tt
none-passes p (x ∷ xs) =
    elim (p x) as (λ b. p x ≡ b → cond b (Some x) (find p xs) ≡ None → (p x ≡ false) × AllByRecursion (λ x. p x ≡ false) xs) [
      | true ↦ λ h e. absurd (cc e)
      | false ↦ λ h e. (h, none-passes p xs e)
    ] refl

module _ {X : Type 0} (key : X → ℕ × ℕ) where
  -- a filter of things in order with one more that passes
  pub placed-kept : (p : X → Bool) (x : X) (ys : List X) → p x ≡ true → IsInOrder key ys → KeysDiffer key ys
      → filter p (placed key x ys) ≡ placed key x (filter p ys)
  placed-kept p x ys e up differ =
      let same : ordered key ys ≡ ys = ordered-sorted key ys up differ in
      ap (λ l. filter p (placed key x l)) (sym same) ∙ ap (filter p) (sym (ordered-cons key x ys)) ∙ sym (ordered-filter key p (x ∷ ys))
      ∙ ap (λ b. ordered key (cond b (x ∷ filter p ys) (filter p ys))) e ∙ ordered-cons key x (filter p ys)
      ∙ ap (placed key x) (ordered-filter key p ys ∙ ap (filter p) same)

  -- and with one more that doesn't
  pub placed-gone : (p : X → Bool) (x : X) (ys : List X) → p x ≡ false → filter p (placed key x ys) ≡ filter p ys
  placed-gone p x [] e = ap (λ b. cond b (x ∷ []) []) e
  placed-gone p x (y ∷ ys) e =
      elim (is_below (key x) (key y)) as (λ b. filter p (cond b (x ∷ y ∷ ys) (y ∷ placed key x ys)) ≡ filter p (y ∷ ys)) [
        | true ↦ ap (λ b. cond b (x ∷ filter p (y ∷ ys)) (filter p (y ∷ ys))) e
        | false ↦ ap (λ l. cond (p y) (y ∷ l) l) (placed-gone p x ys e)
      ]

  -- one more thing that isn't looked for changes nothing
  pub find-placed_other : (p : X → Bool) (x : X) (ys : List X) → p x ≡ false → find p (placed key x ys) ≡ find p ys
  find-placed_other p x [] e = ap (λ b. cond b (Some x) None) e
  find-placed_other p x (y ∷ ys) e =
      elim (is_below (key x) (key y)) as (λ b. find p (cond b (x ∷ y ∷ ys) (y ∷ placed key x ys)) ≡ find p (y ∷ ys)) [
        | true ↦ ap (λ b. cond b (Some x) (find p (y ∷ ys))) e
        | false ↦ ap (λ o. cond (p y) (Some y) o) (find-placed_other p x ys e)
      ]

  -- one more thing that is looked for is found
  pub find-placed_same : (p : X → Bool) (x : X) (ys : List X) → p x ≡ true → AllByRecursion (λ y. p y ≡ false) ys → find p (placed key x ys) ≡ Some x
  find-placed_same p x [] e none = ap (λ b. cond b (Some x) None) e
  find-placed_same p x (y ∷ ys) e none =
      elim (is_below (key x) (key y)) as (λ b. find p (cond b (x ∷ y ∷ ys) (y ∷ placed key x ys)) ≡ Some x) [
        | true ↦ ap (λ b. cond b (Some x) (find p (y ∷ ys))) e
        | false ↦ ap (λ b. cond b (Some y) (find p (placed key x ys))) none.0 ∙ find-placed_same p x ys e none.1
      ]

-- two things with one number are one, where numbers differ
pub same_number : {X : Type 0} (f : X → ℕ) (xs : List X) (x y : X) → SendersDiffer f xs → Contains xs x → Contains xs y → f x ≡ f y → x ≡ y
same_number f [] x y differ c d e = absurd (none_in x c)
same_number f (z ∷ zs) x y differ c d e =
    elim (at_head z x zs c) [
      | inl is ↦ elim (at_head z y zs d) [ inl is' ↦ sym is ∙ is' | inr later ↦ absurd (all_at (λ w. f z ≢ f w) zs y differ.0 later (ap f is ∙ e)) ]
      | inr later ↦ elim (at_head z y zs d) [
        | inl is' ↦ absurd (all_at (λ w. f z ≢ f w) zs x differ.0 later (ap f is' ∙ sym e))
        | inr later' ↦
            same_number f zs x y differ.1 later later' e
      ]
    ]

-- nothing is taken out where there is no message of the slot
pub without-absent : (slot : ℕ) (es : List Entry) → entry_of slot es ≡ None → without slot es ≡ es
without-absent slot es none =
    filter-kept (λ e. not (eqb e.slot slot)) es
    (all_weaker (λ (e : Entry). eqb e.slot slot ≡ false) (λ (e : Entry). not (eqb e.slot slot) ≡ true) (λ e h. ap not h) es
    (none-passes (λ e. eqb e.slot slot) es none))

-- the message of a slot is taken out once
pub without-again : (slot : ℕ) (es : List Entry) → without slot (without slot es) ≡ without slot es
without-again slot es = filter-again (λ e. not (eqb e.slot slot)) (λ e. not (eqb e.slot slot)) es
    (all_from (λ e. not (eqb e.slot slot) ≡ true → not (eqb e.slot slot) ≡ true) es (λ e c h. h))

-- no message that is left is of the slot
pub none-left : (slot : ℕ) (es : List Entry) → AllByRecursion (λ e. eqb e.slot slot ≡ false) (without slot es)
none-left slot es =
    filter-passed (λ e. eqb e.slot slot ≡ false) (λ e. not (eqb e.slot slot)) es
    (everywhere (λ e. not (eqb e.slot slot) ≡ true → eqb e.slot slot ≡ false)
    (λ e. elim (eqb e.slot slot) as (λ b. not b ≡ true → b ≡ false) [ true ↦ λ off. absurd (true≢false (sym off)) | false ↦ λ _. refl ]) es)

-- and none is found
pub entry_of-without : (slot : ℕ) (es : List Entry) → entry_of slot (without slot es) ≡ None
entry_of-without slot es = find-none (λ e. eqb e.slot slot) (without slot es) (none-left slot es)
