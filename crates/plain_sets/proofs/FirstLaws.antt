-- What the first of each sender are.
use Rattle.std.proofs.Common.{◌≡◌, ◌≢◌, ℕ, zero, suc, Bool, true, false, not, ◌&&◌, ◌||◌, cond, eqb, List, [], ◌∷◌, ◌++◌, take, refl, sym, ap, ◌∙◌}
use Rattle.std.proofs.Common.{arith, append-nil}
use Rattle.std.specs.List.{AllByRecursion, filter, list_any}
use Rattle.std.proofs.lemmas.Bool.{cond_both, eqb-true, eq-eqb, true≢false}
use Rattle.std.proofs.Math.Bool.{and_comm, and-false}
use Rattle.std.proofs.lemmas.Bool.Decides.{nat_tests}
use Rattle.std.proofs.lemmas.List.Elements.{filter-append, filter_agree}
use Rattle.std.proofs.lemmas.List.Folds.{list_any-append}
use Rattle.plain_sets.proofs.Small.{passes}
use Rattle.plain_sets.specs.Ordered.{is_below, IsInOrder, has_sender, not_of, firsts, SendersDiffer}
use Rattle.plain_sets.proofs.OrderSame.{filter-all}

-- two filters are one by both tests
filter-twice : {X : Type 0} (p q : X → Bool) (xs : List X) → filter p (filter q xs) ≡ filter (λ x. q x && p x) xs
filter-twice p q [] = refl
filter-twice p q (x ∷ xs) =
    elim (q x) as (λ b. filter p (cond b (x ∷ filter q xs) (filter q xs)) ≡ cond (b && p x) (x ∷ filter (λ x. q x && p x) xs) (filter (λ x. q x && p x) xs)) [
      | true ↦ ap (λ l. cond (p x) (x ∷ l) l) (filter-twice p q xs)
      | false ↦ filter-twice p q xs
    ]

-- a test whose denial holds is false
not_true : (b : Bool) → not b ≡ true → b ≡ false
not_true true e = absurd (true≢false (sym e))
not_true false e = refl

-- neither of two is not one or the other
not_or : (b c : Bool) → (not b && not c) ≡ not (b || c)
not_or true c = refl
not_or false c = refl

-- what holds of all holds of the first k
take-all : {X : Type 0} (P : X → Type 0) (k : ℕ) (xs : List X) → AllByRecursion P xs → AllByRecursion P (take k xs)
take-all P zero xs all = tt
take-all P (suc k) [] all = tt
take-all P (suc k) (x ∷ xs) all = (all.0, take-all P k xs all.1)

-- a test that all pass keeps all
all_kept : {X : Type 0} (p : X → Bool) → ((x : X) → p x ≡ true) → (xs : List X) → filter p xs ≡ xs
all_kept p all [] = refl
all_kept p all (x ∷ xs) = rw (all x) (ap (λ l. x ∷ l) (all_kept p all xs))

-- equality of numbers goes both ways
eqb_turned : (a b : ℕ) → eqb a b ≡ eqb b a
eqb_turned a b = grind (arith, nat_tests)

-- not of one sender, and of no sender of a list
neither : (h : Bool) (a b : ℕ) → (not h && not (eqb a b)) ≡ not (eqb b a || h)
neither h a b = and_comm (not h) (not (eqb a b)) ∙ not_or (eqb a b) h ∙ ap (λ c. not (c || h)) (eqb_turned a b)

-- a thing of sender a, and whether the others have one of sender s, without those of sender t
without_same : (a s t : ℕ) (h : Bool) → eqb a t ≡ true → (not (eqb s t) && h) ≡ (not (eqb s t) && (eqb a s || h))
without_same a s t h e = grind (arith, nat_tests)

-- the same where the thing is kept
without_other : (a s t : ℕ) (h : Bool) → eqb a t ≡ false → (eqb a s || (not (eqb s t) && h)) ≡ (not (eqb s t) && (eqb a s || h))
without_other a s t h e = grind (arith, nat_tests)

-- what is left without a sender, with one of it in front
or_without : (a s : ℕ) (h : Bool) → (eqb a s || (not (eqb s a) && h)) ≡ (eqb a s || h)
or_without a s h = grind (arith, nat_tests)

-- whether a sender is among those seen
abbrev among : List ℕ → ℕ → Bool
among seen t = list_any (λ s. eqb s t) seen

-- a sender seen is left out already
seen_same : (seen : List ℕ) (a t : ℕ) → among seen a ≡ true → not (among seen t) ≡ (not (eqb t a) && not (among seen t))
seen_same seen a t e =
    elim (eqb t a) as (λ b. eqb t a ≡ b → not (among seen t) ≡ (not b && not (among seen t))) [
      | true ↦ λ h. ap (λ k. not (among seen k)) (eqb-true t a h) ∙ ap not e
      | false ↦ λ h. refl
    ] refl

-- a sender more that is seen
seen_more : (seen : List ℕ) (a t : ℕ) → not (among (seen ++ a ∷ []) t) ≡ (not (eqb t a) && not (among seen t))
seen_more seen a t = ap not (list_any-append (λ s. eqb s t) seen (a ∷ [])) ∙ more (among seen t) (eqb a t) (eqb t a) (eqb_turned a t) where
  more : (h b c : Bool) → b ≡ c → not (h || (b || false)) ≡ (not c && not h)
  more true true c e = rw (← e) refl
  more true false c e = rw (← e) refl
  more false true c e = rw (← e) refl
  more false false c e = rw (← e) refl

module _ {X : Type 0} (sender : X → ℕ) where
  -- of nothing there is no first
  pub firsts-nil : firsts sender [] ≡ []
  unfolding firsts
  firsts-nil = refl

  -- the first thing stays, and those of its sender behind it go
  pub firsts-cons : (x : X) (xs : List X) → firsts sender (x ∷ xs) ≡ x ∷ not_of sender (sender x) (firsts sender xs)
  unfolding firsts
  firsts-cons x xs = refl

  -- senders that differ do so after a filter
  differ-filter : (p : X → Bool) (xs : List X) → SendersDiffer sender xs → SendersDiffer sender (filter p xs)
  differ-filter p [] differ = tt
  differ-filter p (x ∷ xs) differ =
      cond_both (p x) _ _ (SendersDiffer sender) (λ _. (filter-all (λ y. sender x ≢ sender y) p xs differ.0, differ-filter p xs differ.1))
      (λ _. differ-filter p xs differ.1)

  -- no two of the first of each sender are of one sender
  pub firsts-differ : (xs : List X) → SendersDiffer sender (firsts sender xs)
  unfolding firsts
  firsts-differ [] = tt
  firsts-differ (x ∷ xs) = (
    passes (λ y. sender x ≢ sender y) (λ y. not (eqb (sender y) (sender x)))
        (λ y e same. absurd (true≢false (sym (eq-eqb (sender y) (sender x) (sym same)) ∙ not_true _ e))) (firsts sender xs),
    differ-filter (λ y. not (eqb (sender y) (sender x))) (firsts sender xs) (firsts-differ xs),
  )

  -- and among the first k
  pub take-differ : (k : ℕ) (xs : List X) → SendersDiffer sender xs → SendersDiffer sender (take k xs)
  take-differ zero xs differ = tt
  take-differ (suc k) [] differ = tt
  take-differ (suc k) (x ∷ xs) differ = (take-all (λ y. sender x ≢ sender y) k xs differ.0, take-differ k xs differ.1)

  -- the first of what comes after others: those of senders that aren't among the others
  pub firsts-append : (xs ys : List X) → firsts sender (xs ++ ys) ≡ firsts sender xs ++ filter (λ y. not (has_sender sender xs (sender y))) (firsts sender ys)
  unfolding firsts
  firsts-append [] ys = sym (all_kept (λ _. true) (λ _. refl) (firsts sender ys))
  firsts-append (x ∷ xs) ys =
      ap (λ l. x ∷ not_of sender (sender x) l) (firsts-append xs ys)
      ∙ ap (λ l. x ∷ l)
      (filter-append (λ y. not (eqb (sender y) (sender x))) (firsts sender xs) (filter (λ y. not (has_sender sender xs (sender y))) (firsts sender ys))
      ∙ ap (λ l. not_of sender (sender x) (firsts sender xs) ++ l)
      (filter-twice (λ y. not (eqb (sender y) (sender x))) (λ y. not (has_sender sender xs (sender y))) (firsts sender ys)
      ∙ filter_agree (λ y. not (has_sender sender xs (sender y)) && not (eqb (sender y) (sender x)))
      (λ y. not (has_sender sender (x ∷ xs) (sender y))) (λ y. neither (has_sender sender xs (sender y)) (sender y) (sender x)) (firsts sender ys)))

  -- one thing is the first of its sender
  firsts_one : (x : X) → firsts sender (x ∷ []) ≡ x ∷ []
  unfolding firsts
  firsts_one x = refl

  -- one thing more is kept where none before it is of its sender, and left out else
  pub firsts-push : (xs : List X) (x : X) → firsts sender (xs ++ x ∷ []) ≡ cond (has_sender sender xs (sender x)) (firsts sender xs)
      (firsts sender xs ++ x ∷ [])
  firsts-push xs x =
      firsts-append xs (x ∷ []) ∙ ap (λ l. firsts sender xs ++ filter (λ y. not (has_sender sender xs (sender y))) l) (firsts_one x)
      ∙ last (has_sender sender xs (sender x)) (firsts sender xs) where
        last : (b : Bool) (l : List X) → l ++ cond (not b) (x ∷ []) [] ≡ cond b l (l ++ x ∷ [])
        last true l = append-nil l
        last false l = refl

  -- the senders without one of them
  any-filter : (s t : ℕ) (xs : List X) → has_sender sender (not_of sender t xs) s ≡ (not (eqb s t) && has_sender sender xs s)
  any-filter s t [] = sym (and-false (not (eqb s t)))
  any-filter s t (x ∷ xs) =
      elim (eqb (sender x) t) as
      (λ b. eqb (sender x) t ≡ b → has_sender sender (cond (not b) (x ∷ not_of sender t xs) (not_of sender t xs)) s
      ≡ (not (eqb s t) && (eqb (sender x) s || has_sender sender xs s))) [
        | true ↦ λ e. any-filter s t xs ∙ without_same (sender x) s t (has_sender sender xs s) e
        | false ↦ λ e. ap (λ b. eqb (sender x) s || b) (any-filter s t xs) ∙ without_other (sender x) s t (has_sender sender xs s) e
      ] refl

  -- each sender has one among the first of each
  pub firsts-senders : (xs : List X) (s : ℕ) → has_sender sender (firsts sender xs) s ≡ has_sender sender xs s
  unfolding firsts
  firsts-senders [] s = refl
  firsts-senders (x ∷ xs) s =
      ap (λ b. eqb (sender x) s || b) (any-filter s (sender x) (firsts sender xs) ∙ ap (λ b. not (eqb s (sender x)) && b) (firsts-senders xs s))
      ∙ or_without (sender x) s (has_sender sender xs s)

  -- the first of each sender are some of the things
  pub firsts-all : (P : X → Type 0) (xs : List X) → AllByRecursion P xs → AllByRecursion P (firsts sender xs)
  unfolding firsts
  firsts-all P [] all = tt
  firsts-all P (x ∷ xs) all = (all.0, filter-all P (λ y. not (eqb (sender y) (sender x))) (firsts sender xs) (firsts-all P xs all.1))

  -- a filter leaves things in order
  sorted-filter : (key : X → ℕ × ℕ) (p : X → Bool) (xs : List X) → IsInOrder key xs → IsInOrder key (filter p xs)
  sorted-filter key p [] up = tt
  sorted-filter key p (x ∷ xs) up =
      cond_both (p x) _ _ (IsInOrder key) (λ _. (filter-all (λ y. is_below (key y) (key x) ≡ false) p xs up.0, sorted-filter key p xs up.1))
      (λ _. sorted-filter key p xs up.1)

  -- and stay in order
  pub sorted-firsts : (key : X → ℕ × ℕ) (xs : List X) → IsInOrder key xs → IsInOrder key (firsts sender xs)
  unfolding firsts
  sorted-firsts key [] up = tt
  sorted-firsts key (x ∷ xs) up = (
    filter-all (λ y. is_below (key y) (key x) ≡ false) (λ y. not (eqb (sender y) (sender x))) (firsts sender xs)
        (firsts-all (λ y. is_below (key y) (key x) ≡ false) xs up.0),
    sorted-filter key (λ y. not (eqb (sender y) (sender x))) (firsts sender xs) (sorted-firsts key xs up.1),
  )

  -- the first of each sender but of those seen, as a walk with a list of the senders seen so far finds them
  abbrev pub firsts_but : List ℕ → List X → List X
  firsts_but seen [] = []
  firsts_but seen (x ∷ xs) = cond (list_any (λ s. eqb s (sender x)) seen) (firsts_but seen xs) (x ∷ firsts_but (seen ++ sender x ∷ []) xs)

  -- the walk finds the first of each sender that wasn't seen
  pub firsts_but-firsts : (seen : List ℕ) (xs : List X) → firsts_but seen xs ≡ filter (λ x. not (list_any (λ s. eqb s (sender x)) seen)) (firsts sender xs)
  unfolding firsts
  firsts_but-firsts seen [] = refl
  firsts_but-firsts seen (x ∷ xs) =
      let both = λ (y : X). not (eqb (sender y) (sender x)) && not (among seen (sender y)) in
      let kept : filter (λ y. not (among seen (sender y))) (not_of sender (sender x) (firsts sender xs)) ≡ filter both (firsts sender xs) =
      filter-twice (λ y. not (among seen (sender y))) (λ y. not (eqb (sender y) (sender x))) (firsts sender xs) in
      elim (among seen (sender x)) as (λ b. among seen (sender x) ≡ b → cond b (firsts_but seen xs) (x ∷ firsts_but (seen ++ sender x ∷ []) xs)
      ≡ cond (not b) (x ∷ filter (λ y. not (among seen (sender y))) (not_of sender (sender x) (firsts sender xs)))
      (filter (λ y. not (among seen (sender y))) (not_of sender (sender x) (firsts sender xs)))) [
        | true ↦ λ e. firsts_but-firsts seen xs ∙ filter_agree (λ y. not (among seen (sender y))) both (λ y. seen_same seen (sender x) (sender y) e)
            (firsts sender xs) ∙ sym kept
        | false ↦ λ e. ap (λ l. x ∷ l)
            (firsts_but-firsts (seen ++ sender x ∷ []) xs ∙ filter_agree (λ y. not (among (seen ++ sender x ∷ []) (sender y))) both
            (λ y. seen_more seen (sender x) (sender y)) (firsts sender xs) ∙ sym kept)
      ] refl

  -- the walk that has seen none finds the first of each sender
  pub firsts-walk : (xs : List X) → firsts_but [] xs ≡ firsts sender xs
  firsts-walk xs = firsts_but-firsts [] xs ∙ all_kept (λ _. true) (λ _. refl) (firsts sender xs)
