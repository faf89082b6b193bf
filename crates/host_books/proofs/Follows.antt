-- A list of things in order, one of each row, follows a change of one row.
use Rattle.std.proofs.Common.{◌≡◌, ◌≢◌, ℕ, ◌==◌, not, true, false, cond, List, [], ◌∷◌, ◌++◌, map, refl, sym, ap, subst, ◌∙◌, inl, inr, Option, Some, filter}
use Rattle.std.specs.List.{AllByRecursion, Contains}
use Rattle.std.proofs.lemmas.Bool.{eq-eqb, eqb-true, ne_eqb, true≢false}
use Rattle.std.proofs.lemmas.List.{map-append}
use Rattle.std.proofs.lemmas.List.Sorted.{IsPermutation-middle}
use Rattle.plain_sets.specs.Ordered.{ordered, placed, is_below, KeysDiffer}
use Rattle.plain_sets.proofs.OrderLaws.{ordered-cons, all_weaker}
use Rattle.plain_sets.proofs.OrderSame.{ordered-filter, ordered-permuted, here, there, none_in, at_head}
use Rattle.homa_plain.specs.Timers.{Place}
use Rattle.step_laws.specs.StepLaws.{number_at, AreOwn}
use Rattle.step_laws.proofs.Places.{IsOne, all-append}
use Rattle.host_view.specs.Seen.{Seen, slot_of}
use Rattle.host_view.specs.Follow.{ChangesAt, has_row, booked}
use Rattle.host_books.specs.Stood.{Stood}
use Rattle.host_books.proofs.Splits.{ThingsOf, all_of, at, Split, split}
use Rattle.host_books.proofs.Slots.{slots_differ, slots_stay, row_of_number, IsNumbered, numbers, at_one, one_all}

-- ---- parts of a list of which something holds

pub all_left : {X : Type 0} (P : X → Type 0) (xs ys : List X) → AllByRecursion P (xs ++ ys) → AllByRecursion P xs
all_left P [] ys all = tt
all_left P (x ∷ xs) ys all = (all.0, all_left P xs ys all.1)

pub all_right : {X : Type 0} (P : X → Type 0) (xs ys : List X) → AllByRecursion P (xs ++ ys) → AllByRecursion P ys
all_right P [] ys all = all
all_right P (x ∷ xs) ys all = all_right P xs ys all.1

pub all_map : {X Y : Type 0} (P : Y → Type 0) (f : X → Y) (xs : List X) → AllByRecursion (λ x. P (f x)) xs → AllByRecursion P (map f xs)
all_map P f [] all = tt
all_map P f (x ∷ xs) all = (all.0, all_map P f xs all.1)

pub same_map_of : {X Y : Type 0} (f g : X → Y) (xs : List X) → AllByRecursion (λ x. f x ≡ g x) xs → map f xs ≡ map g xs
same_map_of f g [] all = refl
same_map_of f g (x ∷ xs) all = λ i. all.0 i ∷ same_map_of f g xs all.1 i

pub map_three : {X Y : Type 0} (f : X → Y) (xs ys zs : List X) → map f (xs ++ (ys ++ zs)) ≡ map f xs ++ (map f ys ++ map f zs)
map_three f xs ys zs = map-append f xs (ys ++ zs) ∙ ap (λ l. map f xs ++ l) (map-append f ys zs)

-- at most one
abbrev pub IsFew : {Y : Type 0} → List Y → Type 0
IsFew [] = Unit {0}
IsFew (y ∷ []) = Unit {0}
IsFew (y ∷ z ∷ ys) = ⊥

-- ---- a list without a slot's things

module _ {Y : Type 0} (slot : Y → ℕ) (n : ℕ) where
  abbrev pub without : List Y → List Y
  without ys = filter (λ y. not (slot y == n)) ys

  without_none : (ys : List Y) → AllByRecursion (λ y. slot y ≢ n) ys → without ys ≡ ys
  without_none [] all = refl
  without_none (y ∷ ys) all = ap (λ b. cond (not b) (y ∷ without ys) (without ys)) (ne_eqb (slot y) n all.0) ∙ ap (λ zs. y ∷ zs) (without_none ys all.1)

  without_all : (xs ys : List Y) → AllByRecursion (λ y. slot y ≡ n) xs → without (xs ++ ys) ≡ without ys
  without_all [] ys all = refl
  without_all (x ∷ xs) ys all = ap (λ b. cond (not b) (x ∷ without (xs ++ ys)) (without (xs ++ ys))) (eq-eqb (slot x) n all.0) ∙ without_all xs ys all.1

  without_front : (xs ys : List Y) → AllByRecursion (λ y. slot y ≢ n) xs → without (xs ++ ys) ≡ xs ++ without ys
  without_front [] ys all = refl
  without_front (x ∷ xs) ys all =
      ap (λ b. cond (not b) (x ∷ without (xs ++ ys)) (without (xs ++ ys))) (ne_eqb (slot x) n all.0) ∙ ap (λ zs. x ∷ zs) (without_front xs ys all.1)

  -- what holds of all things but those of the slot
  pub without_holds : (P : Y → Type 0) (ys : List Y) → AllByRecursion (λ y. (slot y ≡ n → ⊥) → P y) ys → AllByRecursion P (without ys)
  without_holds P [] all = tt
  without_holds P (y ∷ ys) all =
      elim (slot y == n) as (λ b. (slot y == n) ≡ b → AllByRecursion P (cond (not b) (y ∷ without ys) (without ys))) [
        | true ↦ λ e. without_holds P ys all.1
        | false ↦ λ e. (all.0 (λ is. true≢false (sym (eq-eqb (slot y) n is) ∙ e)), without_holds P ys all.1)
      ] refl

  -- and each of them is still there
  pub without_keeps : (ys : List Y) (z : Y) → (slot z ≡ n → ⊥) → Contains ys z → Contains (without ys) z
  without_keeps [] z ne c = absurd (none_in z c)
  without_keeps (y ∷ ys) z ne c =
      elim (slot y == n) as (λ b. (slot y == n) ≡ b → Contains (cond (not b) (y ∷ without ys) (without ys)) z) [
        | true ↦ λ e. elim (at_head y z ys c) [ inl is ↦ absurd (ne (ap slot (sym is) ∙ eqb-true (slot y) n e)) | inr rest ↦ without_keeps ys z ne rest ]
        | false ↦ λ e. elim (at_head y z ys c) [
          | inl is ↦ subst (Contains (y ∷ without ys)) is (here y (without ys))
          | inr rest ↦
              there y z (without ys) (without_keeps ys z ne rest)
        ]
      ] refl

module _ {Y : Type 0} (key : Y → ℕ × ℕ) where
  -- a thing that was put in its place is there, and so are all others
  pub placed_here : (y : Y) (ys : List Y) → Contains (placed key y ys) y
  placed_here y [] = here y []
  placed_here y (z ∷ zs) = elim (is_below (key y) (key z)) as (λ b. Contains (cond b (y ∷ z ∷ zs) (z ∷ placed key y zs)) y)
      [ true ↦ here y (z ∷ zs) | false ↦ there z y (placed key y zs) (placed_here y zs) ]

  pub placed_keeps : (y : Y) (ys : List Y) (x : Y) → Contains ys x → Contains (placed key y ys) x
  placed_keeps y [] x c = absurd (none_in x c)
  placed_keeps y (z ∷ zs) x c = elim (is_below (key y) (key z)) as (λ b. Contains (cond b (y ∷ z ∷ zs) (z ∷ placed key y zs)) x) [
    | true ↦ there y x (z ∷ zs) c
    | false ↦ elim (at_head z x zs c) [
      | inl is ↦ subst (Contains (z ∷ placed key y zs)) is (here z (placed key y zs))
      | inr rest ↦
          there z x (placed key y zs) (placed_keeps y zs x rest)
    ]
  ]

  module _ (slot : Y → ℕ) (n : ℕ) (front olds back : List Y)
      (before : AllByRecursion (λ y. slot y ≢ n) front) (after : AllByRecursion (λ y. slot y ≢ n) back) (of_slot : AllByRecursion (λ y. slot y ≡ n) olds) where
    -- the slot's old thing is taken out
    gone : without slot n (ordered key (front ++ (olds ++ back))) ≡ ordered key (front ++ back)
    gone = sym (ordered-filter key (λ y. not (slot y == n)) (front ++ (olds ++ back)))
        ∙ ap (ordered key)
        (without_front slot n front (olds ++ back) before ∙ ap (λ ys. front ++ ys) (without_all slot n olds back of_slot ∙ without_none slot n back after))

    -- and its new one, if it has one, is put in its place
    pub rebooked : (news book : List Y) → IsFew news → KeysDiffer key (front ++ (news ++ back)) → book ≡ ordered key (front ++ (olds ++ back))
        → booked key slot n news book ≡ ordered key (front ++ (news ++ back))
    rebooked [] book few differ is = ap (without slot n) is ∙ gone
    rebooked (y ∷ []) book few differ is =
        ap (λ ys. placed key y (without slot n ys)) is ∙ ap (placed key y) gone ∙ sym (ordered-cons key y (front ++ back))
        ∙ sym (ordered-permuted key (front ++ y ∷ back) (y ∷ (front ++ back)) (IsPermutation-middle front y back) differ)
    rebooked (y ∷ z ∷ ys) book few differ is = absurd few

-- ---- the books of a host

module _ {X Y : Type 0} (t : ThingsOf X) (slot : Y → ℕ) (entry : Seen → X → Y)
    (slotted : (h : Seen) (x : X) → slot (entry h x) ≡ slot_of h (t.place x))
    (alike : (g h : Seen) (x : X) → slot_of g (t.place x) ≡ slot_of h (t.place x) → entry g x ≡ entry h x)
    (place : Place) (n : ℕ) (old new : Seen) (change : ChangesAt place n old new) (stood : Stood place old new) where
  -- the things of all other rows stand in both
  pub parts : Split t place old.host new.host
  parts = split t place old.host new.host change.clients change.servers

  -- another row's slot is not this one's
  pub other_slot : (p : Place) → (place ≡ p → ⊥) → has_row old p → has_row new p → slot_of old p ≡ n → ⊥
  other_slot p ne was is e = elim stood [
    | inl row ↦ ne (slots_differ old place p change.slots_before row was (change.before row ∙ sym e))
    | inr row ↦ ne (slots_differ new place p change.slots_after row is (change.after row ∙ sym (slots_stay place n old new change p ne ∙ e)))
  ]

  -- a thing of another row has another slot, and its entry stays
  abbrev pub IsOther : X → Type 0
  IsOther x = (place ≡ t.place x → ⊥) × (slot (entry old x) ≢ n) × (entry new x ≡ entry old x)

  others : (xs : List X) → AllByRecursion (λ x. place ≡ t.place x → ⊥) xs → AllByRecursion (IsNumbered t old.host) xs
      → AllByRecursion (IsNumbered t new.host) xs → AllByRecursion IsOther xs
  others [] differ was is = tt
  others (x ∷ xs) differ was is = (
    (
      differ.0,
      λ e. other_slot (t.place x) differ.0 (row_of_number t.of_client t.of_server old (t.place x) (t.order x) was.0)
          (row_of_number t.of_client t.of_server new (t.place x) (t.order x) is.0) (sym (slotted old x) ∙ e),
      alike new old x (slots_stay place n old new change (t.place x) differ.0),
    ),
    others xs differ.1 was.1 is.1,
  )

  numbered_old : AllByRecursion (IsNumbered t old.host) (parts.front ++ (at t old.host place ++ parts.back))
  numbered_old = subst (AllByRecursion (IsNumbered t old.host)) parts.old (numbers t old.host)

  numbered_new : AllByRecursion (IsNumbered t new.host) (parts.front ++ (at t new.host place ++ parts.back))
  numbered_new = subst (AllByRecursion (IsNumbered t new.host)) parts.new (numbers t new.host)

  pub front_others : AllByRecursion IsOther parts.front
  front_others = others parts.front parts.before (all_left _ parts.front _ numbered_old) (all_left _ parts.front _ numbered_new)

  pub back_others : AllByRecursion IsOther parts.back
  back_others = others parts.back parts.after
      (all_right _ (at t old.host place) _ (all_right _ parts.front _ numbered_old))
      (all_right _ (at t new.host place) _ (all_right _ parts.front _ numbered_new))

  -- the old thing of this row has its slot
  pub own_slot : AllByRecursion (λ x. slot (entry old x) ≡ n) (at t old.host place)
  own_slot = by_one (at t old.host place) (one_all t.place t.order place _ (at t old.host place) (at_one t old.host place)) where
    by_one : (xs : List X) → AllByRecursion (λ x. (t.place x ≡ place) × (number_at t.of_client t.of_server old.host place ≡ Some (t.order x))) xs
        → AllByRecursion (λ x. slot (entry old x) ≡ n) xs
    by_one [] all = tt
    by_one (x ∷ xs) all = (
      slotted old x ∙ ap (slot_of old) all.0.0 ∙ change.before (row_of_number t.of_client t.of_server old place (t.order x) all.0.1),
      by_one xs all.1,
    )

  few : (h : Seen) (xs : List X) (number : Option ℕ) → IsOne t.place t.order place number xs → IsFew (map (entry h) xs)
  few h [] number one = tt
  few h (x ∷ []) number one = tt
  few h (x ∷ y ∷ xs) number one = one

  -- the book is that of all rows again
  pub follows : (key : Y → ℕ × ℕ) (book : List Y) → KeysDiffer key (map (entry new) (all_of t new.host))
      → book ≡ ordered key (map (entry old) (all_of t old.host))
      → booked key slot n (map (entry new) (at t new.host place)) book ≡ ordered key (map (entry new) (all_of t new.host))
  follows key book differ is =
      let front : map (entry new) parts.front ≡ map (entry old) parts.front =
      same_map_of (entry new) (entry old) parts.front (all_weaker IsOther (λ x. entry new x ≡ entry old x) (λ x o. o.2) parts.front front_others) in
      let back : map (entry new) parts.back ≡ map (entry old) parts.back =
      same_map_of (entry new) (entry old) parts.back (all_weaker IsOther (λ x. entry new x ≡ entry old x) (λ x o. o.2) parts.back back_others) in
      let news = map (entry new) (at t new.host place) in
      let olds = map (entry old) (at t old.host place) in
      let before : map (entry old) (all_of t old.host) ≡ map (entry old) parts.front ++ (olds ++ map (entry old) parts.back) =
      ap (map (entry old)) parts.old ∙ map_three (entry old) parts.front (at t old.host place) parts.back in
      let after : map (entry new) (all_of t new.host) ≡ map (entry old) parts.front ++ (news ++ map (entry old) parts.back) =
      ap (map (entry new)) parts.new ∙ map_three (entry new) parts.front (at t new.host place) parts.back ∙ (λ i. front i ++ (news ++ back i)) in
      rebooked key slot n (map (entry old) parts.front) olds (map (entry old) parts.back)
      (all_map (λ y. slot y ≢ n) (entry old) parts.front (all_weaker IsOther (λ x. slot (entry old x) ≢ n) (λ x o. o.1) parts.front front_others))
      (all_map (λ y. slot y ≢ n) (entry old) parts.back (all_weaker IsOther (λ x. slot (entry old x) ≢ n) (λ x o. o.1) parts.back back_others))
      (all_map (λ y. slot y ≡ n) (entry old) (at t old.host place) own_slot)
      news book (few new (at t new.host place) _ (at_one t new.host place)) (subst (KeysDiffer key) after differ) (is ∙ ap (ordered key) before)
      ∙ sym (ap (ordered key) after)

  -- the order of the new thing is no other row's
  pub own_order : (limit : ℕ) → AreOwn limit (number_at t.of_client t.of_server new.host)
      → AllByRecursion (λ x. AllByRecursion (λ z. t.order z ≡ t.order x → slot (entry old z) ≡ n) (all_of t old.host)) (at t new.host place)
  own_order limit own = by_one (at t new.host place) (one_all t.place t.order place _ (at t new.host place) (at_one t new.host place)) where
    apart : (x : X) → number_at t.of_client t.of_server new.host place ≡ Some (t.order x) → (zs : List X)
        → AllByRecursion (λ z. place ≡ t.place z → ⊥) zs → AllByRecursion (IsNumbered t new.host) zs
        → AllByRecursion (λ z. t.order z ≡ t.order x → slot (entry old z) ≡ n) zs
    apart x is [] differ all = tt
    apart x is (z ∷ zs) differ all = (λ e. absurd (differ.0 (own.differ place (t.place z) (t.order x) is (all.0 ∙ ap Some e))), apart x is zs differ.1 all.1)

    by_one : (xs : List X) → AllByRecursion (λ x. (t.place x ≡ place) × (number_at t.of_client t.of_server new.host place ≡ Some (t.order x))) xs
        → AllByRecursion (λ x. AllByRecursion (λ z. t.order z ≡ t.order x → slot (entry old z) ≡ n) (all_of t old.host)) xs
    by_one [] all = tt
    by_one (x ∷ xs) all = (
      subst (AllByRecursion (λ z. t.order z ≡ t.order x → slot (entry old z) ≡ n)) (sym parts.old)
          (all-append _ parts.front _
          (apart x all.0.1 parts.front parts.before (all_left _ parts.front _ numbered_new))
          (all-append _ (at t old.host place) parts.back
          (all_weaker (λ z. slot (entry old z) ≡ n) _ (λ z e _. e) (at t old.host place) own_slot)
          (apart x all.0.1 parts.back parts.after (all_right _ (at t new.host place) _ (all_right _ parts.front _ numbered_new))))),
      by_one xs all.1,
    )
