-- A thing of a row is the thing at its place, and stays where only another row changes.
use Rattle.std.proofs.Common.{◌≡◌, ℕ, false, Option, Some, List, [], ◌∷◌, ◌++◌, refl, sym, subst, ◌∙◌, inl, inr}
use Rattle.std.specs.List.{AllByRecursion, Contains}
use Rattle.std.proofs.lemmas.List.Elements.{Contains-append_left, Contains-append_right, Contains-append_cases}
use Rattle.plain_sets.specs.Maps.{get}
use Rattle.plain_sets.proofs.OrderSame.{all_at, at_head, none_in}
use Rattle.homa_plain.specs.declared.id.CallId.{CallId}
use Rattle.homa_plain.specs.Host.{Host}
use Rattle.homa_plain.specs.Timers.{Place}
use Rattle.step_laws.specs.StepLaws.{is_at_client, is_at_server, number_at}
use Rattle.step_laws.proofs.Places.{IsOne}
use Rattle.host_books.proofs.Splits.{ThingsOf, all_of, at, split}
use Rattle.host_books.proofs.Slots.{at_one, one_all}

module _ {X : Type 0} (t : ThingsOf X) where
  -- what stands elsewhere in the list isn't of this place
  elsewhere : (p : Place) (xs : List X) (x : X) → AllByRecursion (λ y. p ≡ t.place y → ⊥) xs → t.place x ≡ p → Contains xs x → ⊥
  elsewhere p xs x all is c = all_at (λ (y : X). p ≡ t.place y → ⊥) xs x all c (sym is)

  -- what is at a place is of it
  pub of_place : (h : Host) (p : Place) (x : X) → Contains (at t h p) x → t.place x ≡ p
  of_place h p x c =
      (all_at (λ (y : X). (t.place y ≡ p) × (number_at t.of_client t.of_server h p ≡ Some (t.order y))) (at t h p) x
      (one_all t.place t.order p _ (at t h p) (at_one t h p)) c).0

  -- of at most one thing two are one
  only : (p : Place) (number : Option ℕ) (xs : List X) (x y : X) → IsOne t.place t.order p number xs → Contains xs x → Contains xs y → x ≡ y
  only p number [] x y one a b = absurd (none_in x a)
  only p number (z ∷ []) x y one a b = elim (at_head z x [] a) [
    | inl e ↦ elim (at_head z y [] b) [ inl f ↦ sym e ∙ f | inr none ↦ absurd (none_in y none) ]
    | inr none ↦ absurd (none_in x none)
  ]
  only p number (z ∷ w ∷ xs) x y one a b = absurd one

  -- a thing of a row is at its place
  pub thing_at : (h : Host) (p : Place) (x : X) → Contains (all_of t h) x → t.place x ≡ p → Contains (at t h p) x
  thing_at h p x c is =
      let s = split t p h h (λ q e. refl) (λ q e. refl) in
      elim (Contains-append_cases s.front (at t h p ++ s.back) x (subst (λ (ls : List X). Contains ls x) s.old c)) [
        | inl a ↦ absurd (elsewhere p s.front x s.before is a)
        | inr rest ↦ elim (Contains-append_cases (at t h p) s.back x rest) [ inl a ↦ a | inr a ↦ absurd (elsewhere p s.back x s.after is a) ]
      ]

  -- and the other way round
  pub at_thing : (h : Host) (p : Place) (x : X) → Contains (at t h p) x → Contains (all_of t h) x
  at_thing h p x c =
      let s = split t p h h (λ q e. refl) (λ q e. refl) in
      subst (λ (ls : List X). Contains ls x) (sym s.old) (Contains-append_right s.front _ x (Contains-append_left (at t h p) s.back x c))

  -- a thing of another row stays
  pub thing_stays : (p : Place) (g h : Host) → ((q : CallId) → is_at_client p q ≡ false → get h.clients q ≡ get g.clients q)
      → ((q : CallId) → is_at_server p q ≡ false → get h.servers q ≡ get g.servers q)
      → (x : X) → (t.place x ≡ p → ⊥) → Contains (all_of t g) x → Contains (all_of t h) x
  thing_stays p g h clients servers x ne c =
      let s = split t p g h clients servers in
      elim (Contains-append_cases s.front (at t g p ++ s.back) x (subst (λ (ls : List X). Contains ls x) s.old c)) [
        | inl a ↦ subst (λ (ls : List X). Contains ls x) (sym s.new) (Contains-append_left s.front _ x a)
        | inr rest ↦ elim (Contains-append_cases (at t g p) s.back x rest) [
          | inl a ↦ absurd (ne (of_place g p x a))
          | inr a ↦ subst (λ (ls : List X). Contains ls x) (sym s.new) (Contains-append_right s.front _ x (Contains-append_right (at t h p) s.back x a))
        ]
      ]

  -- two things of one row are one
  pub one_thing : (h : Host) (x y : X) → Contains (all_of t h) x → Contains (all_of t h) y → t.place x ≡ t.place y → x ≡ y
  one_thing h x y a b e = only _ _ (at t h (t.place y)) x y (at_one t h (t.place y)) (thing_at h (t.place y) x a e) (thing_at h (t.place y) y b refl)
