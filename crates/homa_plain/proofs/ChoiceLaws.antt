-- Which messages are chosen, which are left out, and which GRANTs there are.
use Rattle.std.proofs.Common.{◌≡◌, ℕ, zero, suc, ◌+◌, ◌-◌, ◌<◌, ◌≤◌, Bool, true, false, not, cond, ltb, eqb, List, [], ◌∷◌, ◌++◌, length, map, take}
use Rattle.std.proofs.Common.{refl, sym, ap, subst, ◌∙◌, arith, ◌⊎◌, inl, inr, Some}
use Rattle.std.specs.List.{AllByRecursion, Contains, filter, slice_get}
use Rattle.std.specs.List.Sorted.{IsPermutation}
use Rattle.std.proofs.lemmas.List.{length-take, take-map}
use Rattle.std.proofs.lemmas.List.Elements.{Contains-append_left, Contains-append_right, Contains-append_cases}
use Rattle.std.proofs.lemmas.List.Sorted.{IsPermutation-sym, Contains-permutation}
use Rattle.std.proofs.lemmas.Bool.{cases_Bool, eqb-true, ltb-true, lt-ltb, le-leb, leb-true, true≢false}
use Rattle.std.proofs.lemmas.Bool.Decides.{nat_tests}
use Rattle.std.specs.Prelude.{nat_le}
use Rattle.plain_sets.specs.Ordered.{is_below, ordered, IsInOrder, KeysDiffer, not_of, firsts, SendersDiffer}
use Rattle.plain_sets.proofs.OrderLaws.{below_self, tied_keys, sorted-ordered, permutation-ordered}
use Rattle.plain_sets.proofs.OrderSame.{here, there, at_head, all_at, none_in, ordered-permuted, ordered-map_same}
use Rattle.plain_sets.proofs.MapMembers.{same_some}
use Rattle.plain_sets.proofs.FirstLaws.{firsts-differ, take-differ, firsts-all, sorted-firsts}
use Rattle.homa_plain.specs.Grants.{Message, sender, choice_key, new_end, Granted, chosen_by, chosen, grants_from, grants, IsBefore}
use Rattle.homa_plain.specs.Timers.{first_due, due}
use Rattle.homa_plain.specs.Grants.{HasAhead, IsGrant}

-- a thing that is listed where a test holds
one_if : {X : Type 0} (b : Bool) (x : X) → b ≡ true → Contains (cond b (x ∷ []) []) x
one_if true x e = here x []
one_if false x e = absurd (true≢false (sym e))

-- what passes a test is in the filtered list
contains-filter : {X : Type 0} (p : X → Bool) (xs : List X) (x : X) → Contains xs x → p x ≡ true → Contains (filter p xs) x
contains-filter p [] x c e = absurd (none_in x c)
contains-filter p (y ∷ ys) x c e =
    elim (p y) as (λ b. p y ≡ b → Contains (cond b (y ∷ filter p ys) (filter p ys)) x) [
      | true ↦ λ h. elim (at_head y x ys c) [
        | inl is ↦ subst (Contains (y ∷ filter p ys)) is (here y (filter p ys))
        | inr rest ↦
            there y x (filter p ys) (contains-filter p ys x rest e)
      ]
      | false ↦ λ h. elim (at_head y x ys c) [ inl is ↦ absurd (true≢false (sym e ∙ ap p (sym is) ∙ h)) | inr rest ↦ contains-filter p ys x rest e ]
    ] refl

-- and was in the list
filter-contains : {X : Type 0} (p : X → Bool) (xs : List X) (x : X) → Contains (filter p xs) x → Contains xs x
filter-contains p [] x = λ c. c
filter-contains p (y ∷ ys) x =
    elim (p y) as (λ b. Contains (cond b (y ∷ filter p ys) (filter p ys)) x → Contains (y ∷ ys) x) [
      | true ↦ λ c. elim (at_head y x (filter p ys) c)
          [ inl is ↦ subst (Contains (y ∷ ys)) is (here y ys) | inr rest ↦ there y x ys (filter-contains p ys x rest) ]
      | false ↦ λ c. there y x ys (filter-contains p ys x c)
    ]

-- and passes the test
filter_passes : {X : Type 0} (p : X → Bool) (xs : List X) (x : X) → Contains (filter p xs) x → p x ≡ true
filter_passes p [] x = λ c. absurd (none_in x c)
filter_passes p (y ∷ ys) x =
    elim (p y) as (λ b. p y ≡ b → Contains (cond b (y ∷ filter p ys) (filter p ys)) x → p x ≡ true) [
      | true ↦ λ e c. elim (at_head y x (filter p ys) c) [ inl is ↦ ap p (sym is) ∙ e | inr rest ↦ filter_passes p ys x rest ]
      | false ↦ λ e c. filter_passes p ys x c
    ] refl

-- what is in the front of a list is in the list
take-contains : {X : Type 0} (k : ℕ) (xs : List X) (x : X) → Contains (take k xs) x → Contains xs x
take-contains zero xs x c = absurd (none_in x c)
take-contains (suc k) [] x c = c
take-contains (suc k) (y ∷ ys) x c =
    elim (at_head y x (take k ys) c) [ inl is ↦ subst (Contains (y ∷ ys)) is (here y ys) | inr rest ↦ there y x ys (take-contains k ys x rest) ]

-- a fact of the elements of a list holds of all of them
all_in : {X : Type 0} (P : X → Type 0) (xs : List X) → ((x : X) → Contains xs x → P x) → AllByRecursion P xs
all_in P [] h = tt
all_in P (x ∷ xs) h = (h x (here x xs), all_in P xs (λ y c. h y (there x y xs c)))

-- a key that isn't below a second one, which isn't below a third, isn't below the third
not_below : (p q r : ℕ × ℕ) → is_below p q ≡ false → is_below q r ≡ false → is_below p r ≡ false
not_below p q r = numbers p.0 p.1 q.0 q.1 r.0 r.1 where
  numbers : (a m b n c o : ℕ) → is_below (a, m) (b, n) ≡ false → is_below (b, n) (c, o) ≡ false → is_below (a, m) (c, o) ≡ false
  numbers a m b n c o h k = grind (arith, nat_tests)

module _ {X : Type 0} (key : X → ℕ × ℕ) where
  -- of things in order, one is in the front, or the front is full of things that it doesn't come before
  in_front : (zs : List X) (z : X) (k : ℕ) → IsInOrder key zs → Contains zs z
      → Contains (take k zs) z ⊎ ((length (take k zs) ≡ k) × AllByRecursion (λ y. is_below (key z) (key y) ≡ false) (take k zs))
  in_front [] z k up c = absurd (none_in z c)
  in_front (y ∷ ys) z zero up c = inr (refl, tt)
  in_front (y ∷ ys) z (suc k) up c =
      elim (at_head y z ys c) [
        | inl is ↦ inl (subst (Contains (y ∷ take k ys)) is (here y (take k ys)))
        | inr rest ↦ elim (in_front ys z k up.1 rest) [
          | inl front ↦ inl (there y z (take k ys) front)
          | inr full ↦ inr (ap suc full.0, (all_at (λ w. is_below (key w) (key y) ≡ false) ys z up.0 rest, full.1))
        ]
      ]

  -- what comes before no thing of a list comes after what doesn't come before it
  all_after : (x z : X) → is_below (key x) (key z) ≡ false → (cs : List X) → AllByRecursion (λ y. is_below (key z) (key y) ≡ false) cs
      → AllByRecursion (λ y. is_below (key x) (key y) ≡ false) cs
  all_after x z h [] all = tt
  all_after x z h (y ∷ ys) all = (not_below (key x) (key z) (key y) h all.0, all_after x z h ys all.1)

  -- two things with one key are one, where keys differ
  same_key : (xs : List X) (x y : X) → KeysDiffer key xs → Contains xs x → Contains xs y → key x ≡ key y → x ≡ y
  same_key [] x y differ c d e = absurd (none_in x c)
  same_key (z ∷ zs) x y differ c d e =
      elim (at_head z x zs c) [
        | inl is ↦ elim (at_head z y zs d) [ inl is' ↦ sym is ∙ is' | inr later ↦ absurd (all_at (λ w. key z ≡ key w → ⊥) zs y differ.0 later (ap key is ∙ e)) ]
        | inr later ↦ elim (at_head z y zs d) [
          | inl is' ↦ absurd (all_at (λ w. key z ≡ key w → ⊥) zs x differ.0 later (ap key is' ∙ sym e))
          | inr later' ↦
              same_key zs x y differ.1 later later' e
        ]
      ]

  -- of two things, where the first doesn't come before the second, the second comes before it or is the first
  before_or_same : (xs : List X) (x y : X) → KeysDiffer key xs → Contains xs x → Contains xs y → is_below (key x) (key y) ≡ false → (x ≡ y) ⊎ IsBefore key y x
  before_or_same xs x y differ c d e =
      elim (cases_Bool (is_below (key y) (key x))) [ inl t ↦ inr t | inr f ↦ inl (same_key xs x y differ c d (tied_keys (key x) (key y) e f)) ]

  -- all of some things come before x, or x is one of them
  all_before_or_in : (xs cs : List X) (x : X) → KeysDiffer key xs → Contains xs x → ((y : X) → Contains cs y → Contains xs y)
      → AllByRecursion (λ y. is_below (key x) (key y) ≡ false) cs → Contains cs x ⊎ AllByRecursion (λ y. IsBefore key y x) cs
  all_before_or_in xs [] x differ c sub all = inr tt
  all_before_or_in xs (y ∷ ys) x differ c sub all =
      elim (before_or_same xs x y differ c (sub y (here y ys)) all.0) [
        | inl is ↦ inl (subst (Contains (y ∷ ys)) (sym is) (here y ys))
        | inr before ↦ elim (all_before_or_in xs ys x differ c (λ z d. sub z (there y z ys d)) all.1)
            [ inl front ↦ inl (there y x ys front) | inr rest ↦ inr (before, rest) ]
      ]

  -- a thing whose deadline has come acts, or as many act as may, each before it
  pub left_waiting : (n now : ℕ) (xs : List X) → KeysDiffer key xs → (x : X) → Contains xs x → (key x).0 ≤ now
      → Contains (first_due key n now xs) x ⊎ ((length (first_due key n now xs) ≡ n) × AllByRecursion (λ y. IsBefore key y x) (first_due key n now xs))
  left_waiting n now xs differ x c come =
      let ys : List X = filter (λ y. nat_le (key y).0 now) xs in
      let placed : Contains (ordered key ys) x = Contains-permutation ys (ordered key ys) x (permutation-ordered key ys)
      (contains-filter (λ y. nat_le (key y).0 now) xs x c (le-leb (key x).0 now come)) in
      elim (in_front (ordered key ys) x n (sorted-ordered key ys) placed) [
        | inl front ↦ inl front
        | inr full ↦ elim (all_before_or_in xs (take n (ordered key ys)) x differ c (λ y d. due_in n now xs y d) full.1)
            [ inl front ↦ inl front | inr all ↦ inr (full.0, all) ]
      ]
    where
      due_in : (n now : ℕ) (xs : List X) (y : X) → Contains (first_due key n now xs) y → Contains xs y
      due_in n now xs y d =
          let ys : List X = filter (λ z. nat_le (key z).0 now) xs in
          filter-contains (λ z. nat_le (key z).0 now) xs y
          (Contains-permutation (ordered key ys) ys y (IsPermutation-sym ys (ordered key ys) (permutation-ordered key ys))
          (take-contains n (ordered key ys) y d))

module _ {X : Type 0} (from : X → ℕ) (key : X → ℕ × ℕ) where
  -- one that is of x's sender, and that x doesn't come before
  record Ahead (cs : List X) (x : X) : Type 0 where
    pub ahead : X
    pub listed : Contains cs ahead
    pub sender : from ahead ≡ from x
    pub before : is_below (key x) (key ahead) ≡ false

  -- among the first of each sender there is one for each
  first_of_sender : (ys : List X) (x : X) → IsInOrder key ys → Contains ys x → Ahead (firsts from ys) x
  unfolding firsts
  first_of_sender [] x up c = absurd (none_in x c)
  first_of_sender (y ∷ ys) x up c =
      elim (at_head y x ys c) [
        | inl is ↦ record {
          ahead = y;
          listed = here y _;
          sender = ap from is;
          before = subst (λ (z : X). is_below (key z) (key y) ≡ false) is
              (below_self (key y));
        }
        | inr rest ↦
            let z = first_of_sender ys x up.1 rest in
            elim (eqb (from z.ahead) (from y)) as (λ b. eqb (from z.ahead) (from y) ≡ b → Ahead (y ∷ not_of from (from y) (firsts from ys)) x) [
              | true ↦ λ e. record {
                ahead = y;
                listed = here y _;
                sender = sym (eqb-true _ _ e) ∙ z.sender;
                before = all_at (λ w. is_below (key w) (key y) ≡ false) ys x up.0 rest;
              }
              | false ↦ λ e. record {
                ahead = z.ahead;
                listed = there y z.ahead _ (contains-filter (λ w. not (eqb (from w) (from y))) (firsts from ys) z.ahead z.listed (ap not e));
                sender = z.sender;
                before = z.before;
              }
            ] refl
      ]

  -- the first of each sender are some of the things
  firsts-contains : (ys : List X) (y : X) → Contains (firsts from ys) y → Contains ys y
  firsts-contains ys y c = all_at (Contains ys) (firsts from ys) y (firsts-all from (Contains ys) ys (all_in (Contains ys) ys (λ z d. d))) c

  -- the chosen are some of the messages
  pub chosen-contains : (k : ℕ) (xs : List X) (y : X) → Contains (chosen_by from key k xs) y → Contains xs y
  chosen-contains k xs y c =
      Contains-permutation (ordered key xs) xs y (IsPermutation-sym xs (ordered key xs) (permutation-ordered key xs))
      (firsts-contains (ordered key xs) y (take-contains k (firsts from (ordered key xs)) y c))

  -- they are at most k
  pub few-chosen : (k : ℕ) (xs : List X) → length (chosen_by from key k xs) ≤ k
  few-chosen k xs = omega (arith, length-take k (firsts from (ordered key xs)))

  -- and of different senders
  pub differ-chosen : (k : ℕ) (xs : List X) → SendersDiffer from (chosen_by from key k xs)
  differ-chosen k xs = take-differ from k (firsts from (ordered key xs)) (firsts-differ from (ordered key xs))

  -- whatever the order in which the messages are listed
  pub chosen-permuted : (k : ℕ) (xs ys : List X) → IsPermutation xs ys → KeysDiffer key xs → chosen_by from key k xs ≡ chosen_by from key k ys
  chosen-permuted k xs ys same differ = ap (λ zs. take k (firsts from zs)) (ordered-permuted key xs ys same differ)

  -- one is left out where one of its sender is chosen that comes before it, or k that come before it
  pub left_out : (k : ℕ) (xs : List X) → KeysDiffer key xs → (x : X) → Contains xs x
      → Contains (chosen_by from key k xs) x
      ⊎ (HasAhead from key (chosen_by from key k xs) x
      ⊎ ((length (chosen_by from key k xs) ≡ k) × AllByRecursion (λ y. IsBefore key y x) (chosen_by from key k xs)))
  left_out k xs differ x c =
      let up : IsInOrder key (ordered key xs) = sorted-ordered key xs in
      let z = first_of_sender (ordered key xs) x up (Contains-permutation xs (ordered key xs) x (permutation-ordered key xs) c) in
      elim (in_front key (firsts from (ordered key xs)) z.ahead k (sorted-firsts from key (ordered key xs) up) z.listed) [
        | inl front ↦ elim (before_or_same key xs x z.ahead differ c (chosen-contains k xs z.ahead front) z.before) [
          | inl is ↦ inl (subst (Contains (chosen_by from key k xs)) (sym is) front)
          | inr before ↦ inr (inl (record { ahead = z.ahead; listed = front; sender = z.sender; before = before }))
        ]
        | inr full ↦ elim (all_before_or_in key xs (chosen_by from key k xs) x differ c (chosen-contains k xs)
            (all_after key x z.ahead z.before (chosen_by from key k xs) full.1)) [
              | inl front ↦ inl front
              | inr all ↦ inr (inr (full.0, all))
            ]
      ]

-- the chosen of other things with the same senders and keys are those of the things
module _ {X Y : Type 0} (from : X → ℕ) (from' : Y → ℕ) (f : X → Y) (same : (x : X) → from' (f x) ≡ from x) where
  -- those that aren't of a sender
  not_of-map : (s : ℕ) (xs : List X) → not_of from' s (map f xs) ≡ map f (not_of from s xs)
  not_of-map s [] = refl
  not_of-map s (x ∷ xs) =
      ap (λ n. cond (not (eqb n s)) (f x ∷ not_of from' s (map f xs)) (not_of from' s (map f xs))) (same x)
      ∙ elim (not (eqb (from x) s)) as
      (λ b. cond b (f x ∷ not_of from' s (map f xs)) (not_of from' s (map f xs)) ≡ map f (cond b (x ∷ not_of from s xs) (not_of from s xs))) [
        | true ↦ ap (λ l. f x ∷ l) (not_of-map s xs)
        | false ↦ not_of-map s xs
      ]

  -- the first of each sender
  firsts-map : (xs : List X) → firsts from' (map f xs) ≡ map f (firsts from xs)
  unfolding firsts
  firsts-map [] = refl
  firsts-map (x ∷ xs) = ap (λ l. f x ∷ not_of from' (from' (f x)) l) (firsts-map xs) ∙ ap (λ n. f x ∷ not_of from' n (map f (firsts from xs)))
      (same x) ∙ ap (λ l. f x ∷ l) (not_of-map (from x) (firsts from xs))

  -- the chosen
  pub chosen-map : (key : X → ℕ × ℕ) (key' : Y → ℕ × ℕ) → ((x : X) → key' (f x) ≡ key x) → (k : ℕ) (xs : List X)
      → chosen_by from' key' k (map f xs) ≡ map f (chosen_by from key k xs)
  chosen-map key key' alike k xs = ap (λ l. take k (firsts from' l)) (ordered-map_same key key' f alike xs)
      ∙ ap (take k) (firsts-map (ordered key xs)) ∙ take-map f k (firsts from (ordered key xs))

module _ {X : Type 0} (message : X → Message) where
  -- a GRANT to a message of a list whose first one has rank r, of n
  record GrantAt (window n r : ℕ) (cs : List X) (g : Granted X) : Type 0 where
    pub rank : ℕ
    pub chosen : slice_get cs rank ≡ Some g.to
    pub offset : g.offset ≡ new_end window (message g.to)
    pub more : (message g.to).granted < g.offset
    pub prio : g.prio ≡ n - 1 - (r + rank)

  -- the GRANT to a message
  abbrev grant_to : ℕ → ℕ → X → Granted X
  grant_to window prio x = record { to = x; offset = new_end window (message x); prio = prio }

  -- each GRANT is for a message of the list
  grants-only : (window n r : ℕ) (cs : List X) (g : Granted X) → Contains (grants_from message window n r cs) g → GrantAt window n r cs g
  grants-only window n r [] g c = absurd (none_in g c)
  grants-only window n r (x ∷ xs) g c =
      elim (Contains-append_cases (cond (ltb (message x).granted (new_end window (message x))) (grant_to window (n - 1 - r) x ∷ []) [])
      (grants_from message window n (suc r) xs) g c) [
        | inl first ↦ here_at (ltb (message x).granted (new_end window (message x))) refl first
        | inr later ↦
            let rest = grants-only window n (suc r) xs g later in
            record { rank = suc rest.rank; chosen = rest.chosen; offset = rest.offset; more = rest.more; prio = omega (arith, rest.prio) }
      ]
    where
      here_at : (b : Bool) → ltb (message x).granted (new_end window (message x)) ≡ b → Contains (cond b (grant_to window (n - 1 - r) x ∷ []) []) g
          → GrantAt window n r (x ∷ xs) g
      here_at false e d = absurd (none_in g d)
      here_at true e d = elim (at_head (grant_to window (n - 1 - r) x) g [] d) [
        | inl is ↦ subst (GrantAt window n r (x ∷ xs)) is (record { rank = 0; chosen = refl; offset = refl; more = ltb-true _ _ e; prio = omega arith })
        | inr none ↦ absurd (none_in g none)
      ]

  -- and each message of the list whose new end exceeds its granted end gets one
  grants-all : (window n r : ℕ) (cs : List X) (i : ℕ) (x : X) → slice_get cs i ≡ Some x → (message x).granted < new_end window (message x)
      → Contains (grants_from message window n r cs) (grant_to window (n - 1 - (r + i)) x)
  grants-all window n r [] i x e h = cc
  grants-all window n r (y ∷ ys) zero x e h =
      let is : y ≡ x = same_some y x e in
      let place : r ≡ r + 0 = omega arith in
      let more : (message y).granted < new_end window (message y) = subst (λ (z : X). (message z).granted < new_end window (message z)) (sym is) h in
      let first : Contains (grants_from message window n r (y ∷ ys)) (grant_to window (n - 1 - r) y) =
      Contains-append_left (cond (ltb (message y).granted (new_end window (message y))) (grant_to window (n - 1 - r) y ∷ []) [])
      (grants_from message window n (suc r) ys) _
      (one_if (ltb (message y).granted (new_end window (message y))) (grant_to window (n - 1 - r) y) (lt-ltb _ _ more)) in
      subst (λ j. Contains (grants_from message window n r (y ∷ ys)) (grant_to window (n - 1 - j) x)) place
      (subst (λ (z : X). Contains (grants_from message window n r (y ∷ ys)) (grant_to window (n - 1 - r) z)) is first)
  grants-all window n r (y ∷ ys) (suc i) x e h =
      let place : suc r + i ≡ r + suc i = omega arith in
      Contains-append_right (cond (ltb (message y).granted (new_end window (message y))) (grant_to window (n - 1 - r) y ∷ []) [])
      (grants_from message window n (suc r) ys) _
      (subst (λ j. Contains (grants_from message window n (suc r) ys) (grant_to window (n - 1 - j) x)) place (grants-all window n (suc r) ys i x e h))

  -- the GRANTs of a step are those to the chosen messages whose new ends exceed their granted ends
  pub grant-chosen : (k window : ℕ) (xs : List X) (g : Granted X) → Contains (grants message k window xs) g → IsGrant message window (chosen message k xs) g
  grant-chosen k window xs g c =
      let at = grants-only window (length (chosen message k xs)) 0 (chosen message k xs) g c in
      record { rank = at.rank; chosen = at.chosen; offset = at.offset; more = at.more; prio = omega (arith, at.prio) }

  -- and each of these gets one
  pub chosen-grant : (k window : ℕ) (xs : List X) (r : ℕ) (x : X) → slice_get (chosen message k xs) r ≡ Some x
      → (message x).granted < new_end window (message x)
      → Contains (grants message k window xs) (record { to = x; offset = new_end window (message x); prio = length (chosen message k xs) - 1 - r })
  chosen-grant k window xs r x e h =
      let place : 0 + r ≡ r = omega arith in
      subst (λ j. Contains (grants message k window xs) (grant_to window (length (chosen message k xs) - 1 - j) x)) place
      (grants-all window (length (chosen message k xs)) 0 (chosen message k xs) r x e h)

-- there is at most one GRANT for each of a list
few-grants_from : {X : Type 0} (message : X → Message) (window n r : ℕ) (cs : List X) → length (grants_from message window n r cs) ≤ length cs
few-grants_from message window n r [] = omega arith
few-grants_from message window n r (x ∷ xs) =
    let rest : length (grants_from message window n (suc r) xs) ≤ length xs = few-grants_from message window n (suc r) xs in
    elim (ltb (message x).granted (new_end window (message x))) as
    (λ b. length (cond b (grant_to message window (n - 1 - r) x ∷ []) [] ++ grants_from message window n (suc r) xs) ≤ suc (length xs)) [
      | true ↦ omega arith
      | false ↦ omega arith
    ]

-- so there are at most k
pub few-grants : {X : Type 0} (message : X → Message) (k window : ℕ) (xs : List X) → length (grants message k window xs) ≤ k
few-grants message k window xs =
    omega (
      arith,
      few-grants_from message window (length (chosen message k xs)) 0 (chosen message k xs),
      few-chosen (λ x. sender (message x)) (λ x. choice_key (message x)) k xs,
    )

-- the rows that act are at most 32
pub few-due : {X : Type 0} (key : X → ℕ × ℕ) (now : ℕ) (xs : List X) → length (due key now xs) ≤ 32
unfolding due
few-due key now xs = omega (arith, length-take 32 (ordered key (filter (λ x. nat_le (key x).0 now) xs)))

-- each was due
pub deadline-due : {X : Type 0} (key : X → ℕ × ℕ) (now : ℕ) (xs : List X) (x : X) → Contains (due key now xs) x → Contains xs x × ((key x).0 ≤ now)
unfolding due
deadline-due key now xs x c =
    let ys : List _ = filter (λ y. nat_le (key y).0 now) xs in
    let d : Contains ys x = Contains-permutation (ordered key ys) ys x (IsPermutation-sym ys (ordered key ys) (permutation-ordered key ys))
    (take-contains 32 (ordered key ys) x c) in
    (filter-contains (λ y. nat_le (key y).0 now) xs x d, leb-true (key x).0 now (filter_passes (λ y. nat_le (key y).0 now) xs x d))

-- a row that is due acts, or 32 that come before it do
pub left-due : {X : Type 0} (key : X → ℕ × ℕ) (now : ℕ) (xs : List X) → KeysDiffer key xs → (x : X) → Contains xs x → (key x).0 ≤ now
    → Contains (due key now xs) x ⊎ ((length (due key now xs) ≡ 32) × AllByRecursion (λ y. IsBefore key y x) (due key now xs))
unfolding due
left-due key now xs differ x c h = left_waiting key 32 now xs differ x c h
