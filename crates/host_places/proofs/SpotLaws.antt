-- The rows of spots: what stands in a spot is the row of its call, and a change of one spot is that of one row.
use Rattle.std.proofs.Common.{◌≡◌, ℕ, zero, suc, ◌+◌, ◌<◌, true, false, cond, List, [], ◌∷◌, length, get_or, set, replicate, refl, sym, ap, subst}
use Rattle.std.proofs.Common.{◌∙◌, arith, inl, inr, Option, Some, None, IsSome, ◌≤◌, ◌++◌}
use Rattle.std.specs.Option.{option_map}
use Rattle.std.proofs.lemmas.Bool.{true≢false, cases_lt, cases_eq}
use Rattle.std.proofs.lemmas.List.{get_or_default, get_or_past, get_or-set_same, get_or-set_other, length-set}
use Rattle.core.specs.FinMap.Entries.{find}
use Rattle.plain_sets.specs.Maps.{empty, from_entries, get, insert, remove, len}
use Rattle.plain_sets.proofs.MapLaws.{get-empty, get-insert, get-remove, get-from_entries, same_map}
use Rattle.plain_sets.proofs.MapMembers.{same_some}
use Rattle.homa_plain.specs.declared.id.CallId.{CallId}
use Rattle.homa_plain.specs.Calls.{call_cmp, is_call}
use Rattle.homa_plain.specs.Rows.{RowsOf}
use Rattle.homa_plain.proofs.CallOrder.{call_total, call_same, calls_are}
use Rattle.host_places.specs.Placed.{Placed, IsFree, ArePlaced, spot_at, set_at}
use Rattle.host_places.specs.Index.{Taken, IsFreePlace}
use Rattle.host_places.specs.Mapped.{mapped}
use Rattle.host_places.specs.declared.table.Spot.{Spot}
use Rattle.host_places.specs.declared.table.Spot.TheVariants.{Free, Of}
use Rattle.host_places.specs.Spots.{call_in, row_in, spot_in, placed_from, rows_of, call_of, AreSpots}
use Rattle.host_places.proofs.MappedLaws.{get-mapped, len-mapped}
use Rattle.host_places.proofs.PlacedLaws.{same_option, none_placed, one_call, by_call, get-insert_here, get-insert_else, get-remove_here}
use Rattle.host_places.proofs.PlacedLaws.{get-remove_else, get-spot, spot-get, set_at-insert}

module _ {R : Type 0} where
  -- what was read of a spot
  pub spot_read : (spots : List (Spot R)) (n : ℕ) (s : Spot R) → n < length spots → s ≡ get_or spots n s → get_or spots n Free ≡ s
  spot_read spots n s l e = get_or_default spots n Free s l ∙ sym e

  -- a spot's call and row, by what it is
  of_call : (s : Spot R) (id : CallId) → call_in s ≡ Some id → (row : R) × (s ≡ Of id row)
  of_call Free id e = absurd (no e) where
    no : None ≡ Some id → ⊥
    no e = cc
  of_call (Of q row) id e = (row, ap (λ (p : CallId). Of p row) (same_some q id e))

  -- the row of a spot is the row in it
  pub row-in_spot : (s : Spot R) → option_map (λ (x : CallId × R). x.1) (spot_in s) ≡ row_in s
  row-in_spot Free = refl
  row-in_spot (Of id row) = refl

  same_call : (p q : CallId) (r s : R) → Of p r ≡ Of q s → p ≡ q
  same_call p q r s e = same_some p q (ap call_in e)

  same_row : (p q : CallId) (r s : R) → Of p r ≡ Of q s → r ≡ s
  same_row p q r s e = same_some r s (ap row_in e)

  pub free_not_of : (q : CallId) (r : R) → Free ≡ Of q r → ⊥
  free_not_of q r e = let no : None ≡ Some q = ap call_in e in cc

  -- what is found among the rows of spots stands in its spot
  spot_of_found : (q : CallId) (k : ℕ) (spots : List (Spot R)) (x : Placed R) → find call_cmp q (placed_from k spots) ≡ Some x
      → (n : ℕ) × (k + n ≡ x.place) × (get_or spots n Free ≡ Of q x.row)
  spot_of_found q k [] x = λ e. let no : None ≡ Some x = e in absurd cc
  spot_of_found q k (Free ∷ spots) x = λ e. let rest = spot_of_found q (suc k) spots x e in (suc rest.0, omega (arith, rest.1), rest.2)
  spot_of_found q k (Of id row ∷ spots) x =
      elim (is_call q id) as (λ b. is_call q id ≡ b → cond b (Some (record { place = k; row = row })) (find call_cmp q (placed_from (suc k) spots)) ≡ Some x
      → (n : ℕ) × (k + n ≡ x.place) × (get_or (Of id row ∷ spots) n Free ≡ Of q x.row)) [
        | true ↦ λ t e.
            let is : record { place = k; row = row } ≡ x = same_some _ x e in
            (0, omega (arith, ap (λ (y : Placed R). y.place) is), λ i. Of (sym ((calls_are q id).0 t) i) (is i).row)
        | false ↦ λ t e. let rest = spot_of_found q (suc k) spots x e in (suc rest.0, omega (arith, rest.1), rest.2)
      ] refl

  -- and what stands in a spot is found
  found_of_spot : (q : CallId) (row : R) (n k : ℕ) (spots : List (Spot R)) → get_or spots n Free ≡ Of q row
      → (x : Placed R) × (find call_cmp q (placed_from k spots) ≡ Some x)
  found_of_spot q row n k [] e = absurd (free_not_of q row e)
  found_of_spot q row zero k (Free ∷ spots) e = absurd (free_not_of q row e)
  found_of_spot q row (suc n) k (Free ∷ spots) e = found_of_spot q row n (suc k) spots e
  found_of_spot q row zero k (Of id r ∷ spots) e = (
    record { place = k; row = r },
    ap (λ b. cond b (Some (record { place = k; row = r })) (find call_cmp q (placed_from (suc k) spots)))
        ((calls_are q id).1 (sym (same_call id q r row e))),
  )
  found_of_spot q row (suc n) k (Of id r ∷ spots) e =
      elim (is_call q id) as (λ b. (x : Placed R) × (cond b (Some (record { place = k; row = r })) (find call_cmp q (placed_from (suc k) spots)) ≡ Some x)) [
        | true ↦ (record { place = k; row = r }, refl)
        | false ↦ found_of_spot q row n (suc k) spots e
      ]

  -- the row of a call stands in the spot of its place
  pub stands-get : (spots : List (Spot R)) (q : CallId) (x : Placed R) → get (rows_of spots) q ≡ Some x → get_or spots x.place Free ≡ Of q x.row
  unfolding rows_of
  stands-get spots q x e =
      let at = spot_of_found q 0 spots x (sym (get-from_entries call_total (placed_from 0 spots) q) ∙ e) in
      let is : at.0 ≡ x.place = omega (arith, at.1) in
      subst (λ (n : ℕ). get_or spots n Free ≡ Of q x.row) is at.2

  get_some : (spots : List (Spot R)) (q : CallId) (row : R) (n : ℕ) → get_or spots n Free ≡ Of q row → (x : Placed R) × (get (rows_of spots) q ≡ Some x)
  unfolding rows_of
  get_some spots q row n e = let f = found_of_spot q row n 0 spots e in (f.0, get-from_entries call_total (placed_from 0 spots) q ∙ f.1)

  module _ (taken : Taken) (spots : List (Spot R)) (are : AreSpots taken spots) where
    -- no call has two spots
    one_spot : (q : CallId) (m n : ℕ) → call_of spots m ≡ Some q → call_of spots n ≡ Some q → m ≡ n
    one_spot q m n e f = same_some m n (sym (are.found q m e) ∙ are.found q n f)

    -- what stands in a spot is the row of its call
    pub get-stands : (q : CallId) (row : R) (n : ℕ) → get_or spots n Free ≡ Of q row → get (rows_of spots) q ≡ Some (record { place = n; row = row })
    get-stands q row n e =
        let f = get_some spots q row n e in
        let at : get_or spots f.0.place Free ≡ Of q f.0.row = stands-get spots q f.0 f.1 in
        let place : f.0.place ≡ n = one_spot q f.0.place n (ap call_in at) (ap call_in e) in
        let same : f.0.row ≡ row = same_row q q _ _ (sym at ∙ ap (λ m. get_or spots m Free) place ∙ e) in
        f.1 ∙ (λ i. Some (record { place = place i; row = same i }))

    -- a spot that isn't free is one of the spots
    pub spot_within : (q : CallId) (row : R) (n : ℕ) → get_or spots n Free ≡ Of q row → n < length spots
    spot_within q row n e = elim (cases_lt n (length spots)) [ inl l ↦ l | inr past ↦ absurd (free_not_of q row (sym (get_or_past spots n Free past) ∙ e)) ]

    pub rows_placed : ArePlaced taken.room (rows_of spots)
    rows_placed = record {
      within = λ q x e. let l = spot_within q x.row x.place (stands-get spots q x e) in omega (arith, are.few);
      apart = λ p q x y e f at. same_call p q x.row y.row (sym (stands-get spots p x e) ∙ ap (λ n. get_or spots n Free) at ∙ stands-get spots q y f);
    }

    -- what stands at a place, by its spot
    pub spot-is : (n : ℕ) → spot_at (rows_of spots) n ≡ spot_in (get_or spots n Free)
    spot-is n =
        elim (get_or spots n Free) as (λ s. get_or spots n Free ≡ s → spot_at (rows_of spots) n ≡ spot_in s) [
          | Free ↦ λ e. none e (spot_at (rows_of spots) n) refl
          | Of id row ↦ λ e. spot-get taken.room (rows_of spots) rows_placed id (record { place = n; row = row }) (get-stands id row n e)
        ] refl where
          none : get_or spots n Free ≡ Free → (s : Option (CallId × R)) → spot_at (rows_of spots) n ≡ s → s ≡ None
          none e None is = refl
          none e (Some s) is =
              absurd (free_not_of s.0 s.1 (sym e ∙ stands-get spots s.0 (record { place = n; row = s.1 }) (get-spot (rows_of spots) n s.0 s.1 is)))

    -- where something stands there, the spot has a call's row
    pub stands_in : (n : ℕ) → IsSome (spot_at (rows_of spots) n) → (id : CallId) × (row : R) × (get_or spots n Free ≡ Of id row)
    stands_in n some = by_spot (get_or spots n Free) refl where
      by_spot : (s : Spot R) → get_or spots n Free ≡ s → (id : CallId) × (row : R) × (get_or spots n Free ≡ Of id row)
      by_spot Free e = absurd (true≢false (sym (subst IsSome (spot-is n ∙ ap spot_in e) some)))
      by_spot (Of id row) e = (id, row, e)

    -- the place of a call is that of its row
    pub place-is : (q : CallId) → option_map (λ (x : Placed R). x.place) (get (rows_of spots) q) ≡ get taken.at q
    place-is q = same_option _ _ (λ n e. forth n (get (rows_of spots) q) refl e) (λ n e.
        let s = of_call _ q (are.stands q n e) in ap (option_map (λ (x : Placed R). x.place)) (get-stands q s.0 n s.1)) where
          forth : (n : ℕ) (v : Option (Placed R)) → get (rows_of spots) q ≡ v → option_map (λ (x : Placed R). x.place) v ≡ Some n → get taken.at q ≡ Some n
          forth n None is e = absurd (nothing n e) where
            nothing : (n : ℕ) → None ≡ Some n → ⊥
            nothing n e = cc
          forth n (Some x) is e = are.found q x.place (ap call_in (stands-get spots q x is)) ∙ e

    -- a call without a row has no place, and one with a row has one
    pub no_place : (q : CallId) → get (rows_of spots) q ≡ None → get taken.at q ≡ None
    no_place q none = sym (place-is q) ∙ ap (option_map (λ (x : Placed R). x.place)) none

    pub no_row : (q : CallId) → get taken.at q ≡ None → get (rows_of spots) q ≡ None
    no_row q none = none_placed (get (rows_of spots) q) (place-is q ∙ none)

    pub place_of_spot : (q : CallId) (row : R) (n : ℕ) → get_or spots n Free ≡ Of q row → get taken.at q ≡ Some n
    place_of_spot q row n e = are.found q n (ap call_in e)

    -- at the place of a call something stands
    pub stands_at_place : (q : CallId) (n : ℕ) → get taken.at q ≡ Some n → IsSome (spot_at (rows_of spots) n)
    stands_at_place q n e = let s = of_call _ q (are.stands q n e) in subst IsSome (sym (spot-is n ∙ ap spot_in s.1)) refl

    pub places-are : mapped (λ (x : Placed R). x.place) (rows_of spots) ≡ taken.at
    places-are = same_map call_total call_same _ _ (λ q. get-mapped _ (rows_of spots) q ∙ place-is q)

    -- as many calls have a place as have a row
    pub len-is : len taken.at ≡ len (rows_of spots)
    len-is = sym (ap len places-are) ∙ len-mapped _ (rows_of spots)

    -- a place that no call has is free
    pub free-is : (n : ℕ) → IsFreePlace taken.at n → get_or spots n Free ≡ Free
    free-is n free = by_spot (get_or spots n Free) refl where
      by_spot : (s : Spot R) → get_or spots n Free ≡ s → s ≡ Free
      by_spot Free e = refl
      by_spot (Of q row) e = absurd (free q (are.found q n (ap call_in e)))

    pub free_place : (n : ℕ) → IsFreePlace taken.at n → IsFree (rows_of spots) n
    free_place n free q x e at = free q (sym (place-is q) ∙ ap (option_map (λ (y : Placed R). y.place)) e ∙ ap Some at)

  -- one spot has another row, of the same call or of one that had none
  module _ (taken new_taken : Taken) (spots new : List (Spot R)) (n : ℕ) (id : CallId)
      (are : AreSpots taken spots) (are_new : AreSpots new_taken new)
      (others : (m : ℕ) → (m ≡ n → ⊥) → get_or new m Free ≡ get_or spots m Free)
      (old : (q : CallId) (row : R) → get_or spots n Free ≡ Of q row → q ≡ id) where
    module _ (unlike : (q : CallId) (row : R) → get_or new n Free ≡ Of q row → q ≡ id) where
      rows_else : (q : CallId) → (q ≡ id → ⊥) → get (rows_of new) q ≡ get (rows_of spots) q
      rows_else q ne = same_option _ _
          (λ x e.
          let at = stands-get new q x e in
          get-stands taken spots are q x.row x.place (sym (others x.place (λ is. ne (unlike q x.row (sym (ap (λ m. get_or new m Free) is) ∙ at)))) ∙ at))
          (λ x e.
          let at = stands-get spots q x e in
          get-stands new_taken new are_new q x.row x.place (others x.place (λ is. ne (old q x.row (sym (ap (λ m. get_or spots m Free) is) ∙ at))) ∙ at))

    pub rows-put : (row : R) → get_or new n Free ≡ Of id row → rows_of new ≡ insert (rows_of spots) id (record { place = n; row = row })
    rows-put row here = same_map call_total call_same _ _ (λ q. sym (get-insert call_total (rows_of spots) id _ q ∙ by_call q id _ (get (rows_of spots) q) _
        (λ is. sym (ap (get (rows_of new)) is ∙ get-stands new_taken new are_new id row n here))
        (λ ne. sym (rows_else (λ p r e. same_call p id r row (sym e ∙ here)) q ne))))

    pub rows-gone : get_or new n Free ≡ Free → new_taken.at ≡ remove taken.at id → rows_of new ≡ remove (rows_of spots) id
    rows-gone here gone = same_map call_total call_same _ _ (λ q. sym (get-remove call_total (rows_of spots) id q ∙ by_call q id None (get (rows_of spots) q) _
        (λ is. sym (no_row q (ap (get (rows_of new)) is ∙ refl)))
        (λ ne. sym (rows_else (λ p r e. absurd (free_not_of p r (sym here ∙ e))) q ne)))) where
          no_row : (q : CallId) → get (rows_of new) q ≡ get (rows_of new) id → get (rows_of new) q ≡ None
          no_row q e = e ∙ same_option _ None (λ x is.
              let place : get new_taken.at id ≡ Some x.place = sym (place-is new_taken new are_new id) ∙ ap (option_map (λ (y : Placed R). y.place)) is in
              let no : None ≡ Some x.place =
              sym (get-remove_here taken.at id) ∙ ap (λ (m : RowsOf ℕ). get m id) (sym gone) ∙ place in absurd cc) (λ x no. absurd (nothing x no)) where
                nothing : (x : Placed R) → None ≡ Some x → ⊥
                nothing x e = cc

  -- ---- the spots at first, and after each change

  abbrev free_spots : ℕ → List (Spot R)
  free_spots n = replicate n Free

  -- in free spots no call has a row
  free-placed : (n k : ℕ) → placed_from k (free_spots n) ≡ []
  free-placed zero k = refl
  free-placed (suc n) k = free-placed n (suc k)

  free-at : (n m : ℕ) → get_or (free_spots n) m Free ≡ Free
  free-at zero m = refl
  free-at (suc n) zero = refl
  free-at (suc n) (suc m) = free-at n m

  more-placed : (spots : List (Spot R)) (n k : ℕ) → placed_from k (spots ++ free_spots n) ≡ placed_from k spots
  more-placed [] n k = free-placed n k
  more-placed (Free ∷ spots) n k = more-placed spots n (suc k)
  more-placed (Of id row ∷ spots) n k = ap (λ es. (id, record { place = k; row = row }) ∷ es) (more-placed spots n (suc k))

  pub more-at : (spots : List (Spot R)) (n m : ℕ) → get_or (spots ++ free_spots n) m Free ≡ get_or spots m Free
  more-at [] n m = free-at n m
  more-at (s ∷ spots) n zero = refl
  more-at (s ∷ spots) n (suc m) = more-at spots n m

  pub rows-none : (spots : List (Spot R)) → spots ≡ [] → rows_of spots ≡ empty
  unfolding rows_of
  rows-none spots e = ap rows_of e

  pub spots-none : (taken : Taken) (spots : List (Spot R)) (room : ℕ) → taken ≡ record { room = room; at = empty } → spots ≡ [] → AreSpots taken spots
  spots-none taken spots room t e =
      rw (t, e) (record {
        few = omega arith;
        stands = λ q n some. absurd (nothing n (sym (get-empty call_cmp q) ∙ some));
        found = λ q n some. absurd (no_call q some);
      }) where
        nothing : (n : ℕ) → None ≡ Some n → ⊥
        nothing n e = cc

        no_call : (q : CallId) → None ≡ Some q → ⊥
        no_call q e = cc

  -- more free spots behind the last leave all rows
  pub rows-more : (spots : List (Spot R)) (n : ℕ) → rows_of (spots ++ free_spots n) ≡ rows_of spots
  unfolding rows_of
  rows-more spots n = ap (λ es. from_entries es) (more-placed spots n 0)

  -- so the table stands
  pub stored : (taken : Taken) (spots more : List (Spot R)) (n : ℕ) → more ≡ spots ++ replicate n Free → AreSpots taken spots
      → length more ≤ taken.room → AreSpots taken more
  stored taken spots more n e are few =
      let same : (m : ℕ) → get_or more m Free ≡ get_or spots m Free = λ m. ap (λ s. get_or s m Free) e ∙ more-at spots n m in
      record {
        few = few;
        stands = λ q m at. ap call_in (same m) ∙ are.stands q m at;
        found = λ q m at. are.found q m (sym (ap call_in (same m)) ∙ at);
      }

  -- a free spot takes a call's row
  pub spots-insert : (taken : Taken) (spots : List (Spot R)) (id : CallId) (n : ℕ) (row : R) → AreSpots taken spots → get taken.at id ≡ None
      → n < length spots → IsFreePlace taken.at n
      → AreSpots (record taken { at = insert taken.at id n }) (set spots n (Of id row))
  spots-insert taken spots id n row are none l free =
      record {
        few = omega (arith, length-set spots n (Of id row), are.few);
        stands = λ q m e. elim (one_call q id) [
          | inl is ↦
              let at : n ≡ m = same_some n m (sym (get-insert_here taken.at id n) ∙ ap (get (insert taken.at id n)) (sym is) ∙ e) in
              ap (call_of (set spots n (Of id row))) (sym at) ∙ ap call_in (get_or-set_same spots n (Of id row) Free l) ∙ ap Some (sym is)
          | inr ne ↦
              let was : get taken.at q ≡ Some m = sym (get-insert_else taken.at id n q ne) ∙ e in
              ap call_in (get_or-set_other spots n m (Of id row) Free (λ is. free q (was ∙ ap Some is))) ∙ are.stands q m was
        ];
        found = λ q m e. elim (cases_eq m n) [
          | inl at ↦
              let is : id ≡ q =
              same_some id q (sym (ap call_in (get_or-set_same spots n (Of id row) Free l)) ∙ ap (call_of (set spots n (Of id row))) (sym at) ∙ e) in
              ap (get (insert taken.at id n)) (sym is) ∙ get-insert_here taken.at id n ∙ ap Some (sym at)
          | inr off ↦
              let was : get taken.at q ≡ Some m = are.found q m (sym (ap call_in (get_or-set_other spots n m (Of id row) Free off)) ∙ e) in
              get-insert_else taken.at id n q (λ is. absurd (nothing m (sym none ∙ ap (get taken.at) (sym is) ∙ was))) ∙ was
        ];
      } where
        nothing : (m : ℕ) → None ≡ Some m → ⊥
        nothing m e = cc

  -- a spot's row goes
  pub spots-remove : (taken : Taken) (spots : List (Spot R)) (id : CallId) (n : ℕ) (row : R) → AreSpots taken spots → get_or spots n Free ≡ Of id row
      → AreSpots (record taken { at = remove taken.at id }) (set spots n Free)
  spots-remove taken spots id n row are here =
      let l : n < length spots = spot_within taken spots are id row n here in record {
        few = omega (arith, length-set spots n Free, are.few);
        stands = λ q m e. elim (one_call q id) [
          | inl is ↦ absurd (nothing m (sym (get-remove_here taken.at id) ∙ ap (get (remove taken.at id)) (sym is) ∙ e))
          | inr ne ↦
              let was : get taken.at q ≡ Some m = sym (get-remove_else taken.at id q ne) ∙ e in
              ap call_in (get_or-set_other spots n m Free Free
              (λ is. ne (same_some q id (sym (are.stands q m was) ∙ ap (call_of spots) is ∙ ap call_in here)))) ∙ are.stands q m was
        ];
        found = λ q m e. elim (cases_eq m n) [
          | inl at ↦ absurd (nothing_at q (sym (ap call_in (get_or-set_same spots n Free Free l)) ∙ ap (call_of (set spots n Free)) (sym at) ∙ e))
          | inr off ↦
              let was : get taken.at q ≡ Some m = are.found q m (sym (ap call_in (get_or-set_other spots n m Free Free off)) ∙ e) in
              get-remove_else taken.at id q (λ is. off (same_some m n (sym was ∙ ap (get taken.at) is ∙ are.found id n (ap call_in here)))) ∙ was
        ];
      } where
        nothing : (m : ℕ) → None ≡ Some m → ⊥
        nothing m e = cc

        nothing_at : (q : CallId) → None ≡ Some q → ⊥
        nothing_at q e = cc

  -- a spot's row becomes another
  pub spots-set : (taken : Taken) (spots : List (Spot R)) (id : CallId) (n : ℕ) (row new : R) → AreSpots taken spots → get_or spots n Free ≡ Of id row
      → AreSpots taken (set spots n (Of id new))
  spots-set taken spots id n row new are here =
      let l : n < length spots = spot_within taken spots are id row n here in
      let same : (m : ℕ) → call_of (set spots n (Of id new)) m ≡ call_of spots m = λ m. elim (cases_eq m n) [
        | inl at ↦ ap (call_of (set spots n (Of id new))) at ∙ ap call_in (get_or-set_same spots n (Of id new) Free l)
            ∙ sym (ap (call_of spots) at ∙ ap call_in here)
        | inr off ↦ ap call_in (get_or-set_other spots n m (Of id new) Free off)
      ] in record {
        few = omega (arith, length-set spots n (Of id new), are.few);
        stands = λ q m e. same m ∙ are.stands q m e;
        found = λ q m e. are.found q m (sym (same m) ∙ e);
      }

  module _ (taken : Taken) (spots : List (Spot R)) (id : CallId) (n : ℕ) (row : R) (are : AreSpots taken spots) where
    -- the rows after each change
    pub rows-insert : get taken.at id ≡ None → n < length spots → IsFreePlace taken.at n
        → rows_of (set spots n (Of id row)) ≡ insert (rows_of spots) id (record { place = n; row = row })
    rows-insert none l free =
        rows-put taken (record taken { at = insert taken.at id n }) spots (set spots n (Of id row)) n id are (spots-insert taken spots id n row are none l free)
        (λ m off. get_or-set_other spots n m (Of id row) Free off) (λ q r e. absurd (free_not_of q r (sym (free-is taken spots are n free) ∙ e))) row
        (get_or-set_same spots n (Of id row) Free l)

    module _ (here : get_or spots n Free ≡ Of id row) where
      within_spots : n < length spots
      within_spots = spot_within taken spots are id row n here

      only : (q : CallId) (r : R) → get_or spots n Free ≡ Of q r → q ≡ id
      only q r e = same_call q id r row (sym e ∙ here)

      pub rows-remove : rows_of (set spots n Free) ≡ remove (rows_of spots) id
      rows-remove =
          rows-gone taken (record taken { at = remove taken.at id }) spots (set spots n Free) n id are (spots-remove taken spots id n row are here)
          (λ m off. get_or-set_other spots n m Free Free off) only (get_or-set_same spots n Free Free within_spots) refl

      pub rows-set : (new : R) → rows_of (set spots n (Of id new)) ≡ set_at (rows_of spots) n new
      rows-set new =
          rows-put taken taken spots (set spots n (Of id new)) n id are (spots-set taken spots id n row new are here)
          (λ m off. get_or-set_other spots n m (Of id new) Free off) only new (get_or-set_same spots n (Of id new) Free within_spots)
          ∙ sym (set_at-insert taken.room (rows_of spots) (rows_placed taken spots are) id n row new (get-stands taken spots are id row n here))
