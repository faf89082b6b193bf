-- What stands at a place, and what a change of one call's row leaves.
use Rattle.std.proofs.Common.{◌≡◌, ◌<◌, ◌==◌, ℕ, Bool, true, false, cond, List, [], ◌∷◌, refl, sym, ap, subst, ◌∙◌, ◌⊎◌, inl, inr, Option, Some, None}
use Rattle.std.specs.List.{Contains}
use Rattle.std.specs.Option.{option_map}
use Rattle.std.proofs.lemmas.Bool.{true≢false, eqb-true, eq-eqb}
use Rattle.plain_sets.specs.Maps.{entries, get, insert, remove}
use Rattle.plain_sets.proofs.MapLaws.{get-insert, get-remove, same_map}
use Rattle.plain_sets.proofs.MapMembers.{entry-get, get-entry, same_some}
use Rattle.plain_sets.proofs.OrderSame.{none_in, here, there, at_head}
use Rattle.homa_plain.specs.declared.id.CallId.{CallId}
use Rattle.homa_plain.specs.Calls.{is_call}
use Rattle.homa_plain.specs.Rows.{RowsOf}
use Rattle.homa_plain.proofs.CallOrder.{call_total, call_same, calls_are}
use Rattle.host_places.specs.Placed.{Placed, StandsAt, IsFree, ArePlaced, spot_among, spot_at, set_at, Changed}
use Rattle.host_places.proofs.MappedLaws.{get-mapped}

-- two options that answer alike are one
pub same_option : {A : Type 0} (a b : Option A) → ((x : A) → a ≡ Some x → b ≡ Some x) → ((x : A) → b ≡ Some x → a ≡ Some x) → a ≡ b
same_option (Some x) b to from = sym (to x refl)
same_option None None to from = refl
same_option None (Some x) to from = from x refl

-- a call is another or not
pub one_call : (p q : CallId) → (p ≡ q) ⊎ (p ≡ q → ⊥)
one_call p q = elim (is_call p q) as (λ b. is_call p q ≡ b → (p ≡ q) ⊎ (p ≡ q → ⊥)) [
  | true ↦ λ e. inl ((calls_are p q).0 e)
  | false ↦ λ e. inr (λ is. true≢false (sym ((calls_are p q).1 is) ∙ e))
] refl

-- a test of two calls, by whether they are one
pub by_call : {A : Type 0} (p q : CallId) (x y z : A) → (p ≡ q → x ≡ z) → ((p ≡ q → ⊥) → y ≡ z) → cond (is_call p q) x y ≡ z
by_call p q x y z one other =
    elim (is_call p q) as (λ b. is_call p q ≡ b → cond b x y ≡ z) [
      | true ↦ λ e. one ((calls_are p q).0 e)
      | false ↦ λ e. other (λ is. true≢false (sym ((calls_are p q).1 is) ∙ e))
    ] refl

-- what a look-up of the call, and of another, answers after each change
module _ {X : Type 0} (rows : RowsOf X) (id : CallId) where
  pub get-insert_here : (x : X) → get (insert rows id x) id ≡ Some x
  get-insert_here x = get-insert call_total rows id x id ∙ by_call id id (Some x) (get rows id) (Some x) (λ _. refl) (λ ne. absurd (ne refl))

  pub get-insert_else : (x : X) (q : CallId) → (q ≡ id → ⊥) → get (insert rows id x) q ≡ get rows q
  get-insert_else x q ne = get-insert call_total rows id x q ∙ by_call q id (Some x) (get rows q) (get rows q) (λ is. absurd (ne is)) (λ _. refl)

  pub get-remove_here : get (remove rows id) id ≡ None
  get-remove_here = get-remove call_total rows id id ∙ by_call id id None (get rows id) None (λ _. refl) (λ ne. absurd (ne refl))

  pub get-remove_else : (q : CallId) → (q ≡ id → ⊥) → get (remove rows id) q ≡ get rows q
  get-remove_else q ne = get-remove call_total rows id q ∙ by_call q id None (get rows q) (get rows q) (λ is. absurd (ne is)) (λ _. refl)

-- a row at the place becomes this one
abbrev set_where : {R : Type 0} → ℕ → R → Placed R → Placed R
set_where place new x = cond (x.place == place) (record x { row = new }) x

module _ {R : Type 0} where
  -- a row without a place is none, and one with a place stands there
  pub none_placed : (x : Option (Placed R)) → option_map (λ (y : Placed R). y.place) x ≡ None → x ≡ None
  none_placed None e = refl
  none_placed (Some y) e = cc

  pub some_placed : (x : Option (Placed R)) (n : ℕ) → option_map (λ (y : Placed R). y.place) x ≡ Some n
      → (row : R) × (x ≡ Some (record { place = n; row = row }))
  some_placed None n e = absurd (nothing e) where
    nothing : None ≡ Some n → ⊥
    nothing e = cc
  some_placed (Some y) n e = (y.row, λ i. Some (record { place = same_some y.place n e i; row = y.row }))

  -- what is found at a place is among the entries
  found : (es : List (CallId × Placed R)) (place : ℕ) (s : CallId × R) → spot_among es place ≡ Some s → Contains es (s.0, record { place = place; row = s.1 })
  found [] place s = λ e. absurd (nothing s e) where
    nothing : (s : CallId × R) → None ≡ Some s → ⊥
    nothing s e = cc
  found (e ∷ es) place s =
      elim (e.1.place == place) as
      (λ b. (e.1.place == place) ≡ b → cond b (Some (e.0, e.1.row)) (spot_among es place) ≡ Some s → Contains (e ∷ es)
      (s.0, record { place = place; row = s.1 })) [
        | true ↦ λ t is.
            let at : e.1.place ≡ place = eqb-true _ _ t in
            let same : (e.0, e.1.row) ≡ s = same_some (e.0, e.1.row) s is in
            let one : e ≡ (s.0, record { place = place; row = s.1 }) = λ i. ((same i).0, record { place = at i; row = (same i).1 }) in
            subst (Contains (e ∷ es)) one (here e es)
        | false ↦ λ t is. there e _ es (found es place s is)
      ] refl

  -- where nothing is found no entry has the place
  none_found : (es : List (CallId × Placed R)) (place : ℕ) (e : CallId × Placed R) → spot_among es place ≡ None → Contains es e → e.1.place ≡ place → ⊥
  none_found [] place e = λ none c at. absurd (none_in e c)
  none_found (f ∷ es) place e =
      elim (f.1.place == place) as
      (λ b. (f.1.place == place) ≡ b → cond b (Some (f.0, f.1.row)) (spot_among es place) ≡ None → Contains (f ∷ es) e → e.1.place ≡ place → ⊥) [
        | true ↦ λ t none c at. let no : Some (f.0, f.1.row) ≡ None = none in cc
        | false ↦ λ t none c at.
            elim (at_head f e es c) [
              | inl is ↦ true≢false (sym (eq-eqb _ _ (ap (λ (g : CallId × Placed R). g.1.place) is ∙ at)) ∙ t)
              | inr rest ↦ none_found es place e none rest at
            ]
      ] refl

  -- what stands at a place is the row of its call
  pub get-spot : (rows : RowsOf (Placed R)) (place : ℕ) (id : CallId) (row : R) → spot_at rows place ≡ Some (id, row) → StandsAt rows id place row
  unfolding spot_at
  get-spot rows place id row e = get-entry call_total call_same rows id _ (found (entries rows) place (id, row) e)

  no_spot : (rows : RowsOf (Placed R)) (place : ℕ) (id : CallId) (x : Placed R) → spot_at rows place ≡ None → get rows id ≡ Some x → x.place ≡ place → ⊥
  unfolding spot_at
  no_spot rows place id x none e = none_found (entries rows) place (id, x) none (entry-get call_total call_same rows id x e)

  module _ (room : ℕ) (rows : RowsOf (Placed R)) (placed : ArePlaced room rows) where
    -- and the row of a call stands at its place
    pub spot-get : (id : CallId) (x : Placed R) → get rows id ≡ Some x → spot_at rows x.place ≡ Some (id, x.row)
    spot-get id x e =
        elim (spot_at rows x.place) as (λ s. spot_at rows x.place ≡ s → s ≡ Some (id, x.row)) [
          | None ↦ λ none. absurd (no_spot rows x.place id x none e refl)
          | Some s ↦ λ is.
              let stands = get-spot rows x.place s.0 s.1 is in
              let one : s.0 ≡ id = placed.apart s.0 id _ x stands e refl in
              let same : x ≡ record { place = x.place; row = s.1 } = same_some _ _ (sym e ∙ ap (get rows) (sym one) ∙ stands) in
              λ i. Some (one i, (sym same i).row)
        ] refl

    pub spot-stands : (id : CallId) (place : ℕ) (row : R) → StandsAt rows id place row → spot_at rows place ≡ Some (id, row)
    spot-stands id place row e = spot-get id (record { place = place; row = row }) e

    -- the row at a place is changed where its call's row is
    pub set_at-insert : (id : CallId) (place : ℕ) (row new : R) → StandsAt rows id place row
        → set_at rows place new ≡ insert rows id (record { place = place; row = new })
    set_at-insert id place row new e = same_map call_total call_same _ _ (λ q.
        get-mapped (set_where place new) rows q
        ∙ sym (get-insert call_total rows id _ q ∙ by_call q id _ (get rows q) _ (λ is. sym (here_at q is))
        (λ ne. sym (else_at q ne (get rows q) refl)))) where
          here_at : (q : CallId) → q ≡ id → option_map (set_where place new) (get rows q) ≡ Some (record { place = place; row = new })
          here_at q is =
              ap (λ (p : CallId). option_map (set_where place new) (get rows p)) is ∙ ap (option_map (set_where place new)) e
              ∙ ap (λ (b : Bool). Some (cond b (record { place = place; row = new }) (record { place = place; row = row }))) (eq-eqb place place refl)

          else_at : (q : CallId) → (q ≡ id → ⊥) → (x : Option (Placed R)) → get rows q ≡ x → option_map (set_where place new) x ≡ x
          else_at q ne None is = refl
          else_at q ne (Some x) is =
              elim (x.place == place) as (λ b. (x.place == place) ≡ b → Some (cond b (record x { row = new }) x) ≡ Some x) [
                | true ↦ λ t. absurd (ne (placed.apart q id x _ is e (eqb-true _ _ t)))
                | false ↦ λ t. refl
              ] refl

    -- a new row is as well placed, at a free place
    pub placed-insert : (id : CallId) (x : Placed R) → x.place < room → IsFree rows x.place → ArePlaced room (insert rows id x)
    placed-insert id x within free = record {
      within = λ q y e. elim (one_call q id) [
        | inl is ↦ let one : y ≡ x =
            same_some _ _ (sym e ∙ ap (get (insert rows id x)) is ∙ get-insert_here rows id x) in subst (λ (z : Placed R). z.place < room) (sym one) within
        | inr ne ↦ placed.within q y (sym (get-insert_else rows id x q ne) ∙ e)
      ];
      apart = λ p q y z e f at. elim (one_call p id) [
        | inl p_is ↦ elim (one_call q id) [
          | inl q_is ↦ p_is ∙ sym q_is
          | inr q_ne ↦
              let one : y ≡ x = same_some _ _ (sym e ∙ ap (get (insert rows id x)) p_is ∙ get-insert_here rows id x) in
              absurd (free q z (sym (get-insert_else rows id x q q_ne) ∙ f) (sym at ∙ ap (λ (w : Placed R). w.place) one))
        ]
        | inr p_ne ↦ elim (one_call q id) [
          | inl q_is ↦
              let one : z ≡ x = same_some _ _ (sym f ∙ ap (get (insert rows id x)) q_is ∙ get-insert_here rows id x) in
              absurd (free p y (sym (get-insert_else rows id x p p_ne) ∙ e) (at ∙ ap (λ (w : Placed R). w.place) one))
          | inr q_ne ↦ placed.apart p q y z (sym (get-insert_else rows id x p p_ne) ∙ e) (sym (get-insert_else rows id x q q_ne) ∙ f) at
        ]
      ];
    }

  -- ---- a change of one call's row

  -- a new row of the call at its place
  pub changed-put : (rows : RowsOf (Placed R)) (id : CallId) (place : ℕ) (row new : R) → StandsAt rows id place row
      → Changed id rows (insert rows id (record { place = place; row = new }))
  changed-put rows id place row new e = record {
    place = λ x y was is. ap (λ (z : Placed R). z.place) (same_some y _ (sym is ∙ get-insert_here rows id _)) ∙ ap (λ (z : Placed R). z.place)
        (same_some _ x (sym e ∙ was));
    others = λ q ne. get-insert_else rows id _ q ne;
  }

  -- the first row of a call
  pub changed-new : (rows : RowsOf (Placed R)) (id : CallId) (x : Placed R) → get rows id ≡ None → Changed id rows (insert rows id x)
  changed-new rows id x none = record {
    place = λ y z was is. let no : None ≡ Some y = sym none ∙ was in cc;
    others = λ q ne. get-insert_else rows id x q ne;
  }

  -- the end of its row
  pub changed-gone : (rows : RowsOf (Placed R)) (id : CallId) → Changed id rows (remove rows id)
  changed-gone rows id = record {
    place = λ x y was is. let no : None ≡ Some y = sym (get-remove_here rows id) ∙ is in cc;
    others = λ q ne. get-remove_else rows id q ne;
  }

  -- nothing
  pub changed-none : (rows : RowsOf (Placed R)) (id : CallId) → Changed id rows rows
  changed-none rows id = record { place = λ x y was is. ap (λ (z : Placed R). z.place) (same_some y x (sym is ∙ was)); others = λ q ne. refl }
