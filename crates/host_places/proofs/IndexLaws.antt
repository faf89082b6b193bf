-- The places of an index and the free ones are all places, each once.
use Rattle.std.proofs.Common.{◌≡◌, ℕ, zero, suc, ◌+◌, ◌<◌, ◌≤◌, ◌==◌, true, false, cond, Bool, T, List, [], ◌∷◌, ◌++◌, length, get_or, map, refl, sym}
use Rattle.std.proofs.Common.{ap, subst, ◌∙◌, arith, add-zero, zero-add, add-one, Some, None, Result, Ok, Err}
use Rattle.std.specs.List.{Contains, range_with_len, sum_by, filter, insert as insert_at, remove as remove_at}
use Rattle.std.specs.List.Sorted.{IsPermutation, IsSearchInRange, IsBinarySearchResult}
use Rattle.std.specs.Result.{MatchResult}
use Rattle.std.proofs.lemmas.Bool.{eqb-true, eq-eqb}
use Rattle.std.proofs.lemmas.List.{append_assoc, get_or_default, length-append, length-map}
use Rattle.std.proofs.lemmas.List.Elements.{Contains-append_left, Contains-append_right, Contains-push}
use Rattle.std.proofs.lemmas.List.FromFn.{length-range_with_len, get_or-range_with_len}
use Rattle.std.proofs.lemmas.List.Sums.{sum_by-cons, sum_by-append}
use Rattle.std.proofs.lemmas.List.Sorted.{IsPermutation-refl, IsPermutation-sym, IsPermutation-trans, IsPermutation-to_front}
use Rattle.std.proofs.lemmas.List.Sorted.{IsPermutation-append_left, Contains-permutation, length_permutation, sum_by-IsPermutation}
use Rattle.core.specs.FinMap.Entries.{put}
use Rattle.plain_sets.specs.Maps.{empty, get, insert, remove, len, rises, values, same_list}
use Rattle.plain_sets.proofs.MapLaws.{list_if_rises, list-insert, list-retain, values-list, len-list, get-remove}
use Rattle.plain_sets.proofs.MapMembers.{get-entry, values-insert_new, values-remove}
use Rattle.plain_sets.proofs.OrderSame.{here}
use Rattle.homa_plain.specs.declared.id.CallId.{CallId}
use Rattle.homa_plain.specs.Calls.{call_cmp, is_call}
use Rattle.homa_plain.specs.Rows.{RowsOf}
use Rattle.homa_plain.proofs.CallOrder.{call_total, call_same, calls_are}
use Rattle.host_places.specs.Index.{map_of, AreKept, ArePlaces, IsFreePlace}
use Rattle.host_places.proofs.SearchLaws.{IsAt, IsGap, searched, put_gap, without_at, absent}

-- ---- the map of an index

-- an index that rises is the list of its map
pub list-map_of : (index : List (CallId × ℕ)) → T (rises call_cmp index) → (map_of index).list ≡ index
unfolding map_of
list-map_of index h = list_if_rises index empty h

-- no index, no places
pub map_of-nil : map_of [] ≡ empty
unfolding empty
map_of-nil = same_list _ _ (list-map_of [] tt)

pub values-nil : values (map_of []) ≡ []
values-nil = values-list (map_of []) ∙ ap (map (λ e. e.1)) (list-map_of [] tt)

module _ (index : List (CallId × ℕ)) (h : T (rises call_cmp index)) where
  pub len-map_of : len (map_of index) ≡ length index
  len-map_of = len-list (map_of index) ∙ ap length (list-map_of index h)

  module _ (id : CallId) (i : ℕ) where
    -- the place of the call at i
    pub get-at : IsAt index id i → (d : CallId × ℕ) → get (map_of index) id ≡ Some (get_or index i d).1
    get-at at d =
        let e = get_or index i d in
        let here : Contains index e = (i, at.within, get_or_default index i e d at.within) in
        ap (get (map_of index)) (sym (at.key d)) ∙ get-entry call_total call_same (map_of index) e.0 e.1
        (subst (λ (es : List (CallId × ℕ)). Contains es e) (sym (list-map_of index h)) here)

    -- a call with a gap has none
    pub get-gap : IsGap call_cmp index id i → get (map_of index) id ≡ None
    get-gap gap = absent call_total call_same (map_of index) id i (subst (λ (es : List (CallId × ℕ)). IsGap call_cmp es id i) (sym (list-map_of index h)) gap)

    -- the index after an insertion in the gap
    inserted-list : (place : ℕ) → IsGap call_cmp index id i → (insert (map_of index) id place).list ≡ insert_at index i (id, place)
    inserted-list place gap = list-insert call_total (map_of index) id place ∙ ap (λ es. put call_cmp id place es) (list-map_of index h)
        ∙ put_gap call_total call_same index id place i gap

    pub insert-rises : (place : ℕ) → IsGap call_cmp index id i → T (rises call_cmp (insert_at index i (id, place)))
    insert-rises place gap = subst (λ (es : List (CallId × ℕ)). T (rises call_cmp es)) (inserted-list place gap) (insert (map_of index) id place).sorted

    pub map_of-insert : (place : ℕ) → IsGap call_cmp index id i → map_of (insert_at index i (id, place)) ≡ insert (map_of index) id place
    map_of-insert place gap = same_list _ _ (list-map_of _ (insert-rises place gap) ∙ sym (inserted-list place gap))

    -- and after a removal
    removed-list : IsAt index id i → (remove (map_of index) id).list ≡ remove_at index i
    unfolding remove
    removed-list at = list-retain call_total (map_of index) _ ∙ ap (filter _) (list-map_of index h) ∙ without_at call_total call_same index h id i at

    pub remove-rises : IsAt index id i → T (rises call_cmp (remove_at index i))
    remove-rises at = subst (λ (es : List (CallId × ℕ)). T (rises call_cmp es)) (removed-list at) (remove (map_of index) id).sorted

    pub map_of-remove : IsAt index id i → map_of (remove_at index i) ≡ remove (map_of index) id
    map_of-remove at = same_list _ _ (list-map_of _ (remove-rises at) ∙ sym (removed-list at))

-- what a search of the index answered
module _ (index found_in : List (CallId × ℕ)) (h : T (rises call_cmp index)) (id : CallId) (r : Result ℕ ℕ) (i : ℕ)
    (bound : IsSearchInRange r (length found_in)) (position : IsBinarySearchResult (λ e. call_cmp e.0 id) found_in r) (is : found_in ≡ index) where
  search : MatchResult r (IsAt index id) (IsGap call_cmp index id)
  search = searched call_total call_same index h id r (subst (λ (es : List (CallId × ℕ)). IsSearchInRange r (length es)) is bound)
      (subst (λ (es : List (CallId × ℕ)). IsBinarySearchResult (λ e. call_cmp e.0 id) es r) is position)

  pub found_at : r ≡ Ok i → IsAt index id i
  found_at ok = subst (λ (s : Result ℕ ℕ). MatchResult s (IsAt index id) (IsGap call_cmp index id)) ok search

  pub gap_at : r ≡ Err i → IsGap call_cmp index id i
  gap_at err = subst (λ (s : Result ℕ ℕ). MatchResult s (IsAt index id) (IsGap call_cmp index id)) err search

-- ---- all places, each once

-- 1 for this number, and else 0
abbrev is_number : ℕ → ℕ → ℕ
is_number n x = cond (x == n) 1 0

counts_itself : (n : ℕ) → is_number n n ≡ 1
counts_itself n = ap (λ b. cond b 1 0) (eq-eqb n n refl)

none_below : (n a k : ℕ) → n < a → sum_by (is_number n) (range_with_len a k) ≡ 0
none_below n a zero l = refl
none_below n a (suc k) l =
    elim (a == n) as (λ b. (a == n) ≡ b → sum_by (is_number n) (a ∷ range_with_len (a + 1) k) ≡ 0) [
      | true ↦ λ e. let is : a ≡ n = eqb-true a n e in absurd (omega arith)
      | false ↦ λ e. let zero : is_number n a ≡ 0 = ap (λ b. cond b 1 0) e in let more : n < a + 1 =
          omega arith in omega (arith, sum_by-cons (is_number n) a (range_with_len (a + 1) k), none_below n (a + 1) k more)
    ] refl

-- each number comes at most once
once : (n a k : ℕ) → sum_by (is_number n) (range_with_len a k) ≤ 1
once n a zero = omega arith
once n a (suc k) =
    elim (a == n) as (λ b. (a == n) ≡ b → sum_by (is_number n) (a ∷ range_with_len (a + 1) k) ≤ 1) [
      | true ↦ λ e. let is : a ≡ n = eqb-true a n e in let one : is_number n a ≡ 1 = ap (λ b. cond b 1 0) e in let more : n < a + 1 =
          omega arith in omega (arith, sum_by-cons (is_number n) a (range_with_len (a + 1) k), none_below n (a + 1) k more)
      | false ↦ λ e. let zero : is_number n a ≡ 0 =
          ap (λ b. cond b 1 0) e in omega (arith, sum_by-cons (is_number n) a (range_with_len (a + 1) k), once n (a + 1) k)
    ] refl

-- a number of a range is below its end
in_range : (n a k : ℕ) → Contains (range_with_len a k) n → n < a + k
in_range n a k c =
    let l : c.0 < k = subst (λ (m : ℕ). c.0 < m) (length-range_with_len a k) c.1 in
    let is : a + c.0 ≡ n = sym (get_or-range_with_len a k c.0 n l) ∙ c.2 in omega arith

-- a range is one longer
range_more : (a k : ℕ) → range_with_len a (k + 1) ≡ range_with_len a k ++ (a + k) ∷ []
range_more a zero = rw add-zero refl
range_more a (suc k) =
    rw add-one (ap (λ xs. a ∷ xs)
    (sym (ap (range_with_len (a + 1)) (add-one k)) ∙ range_more (a + 1) k ∙ ap (λ n. range_with_len (a + 1) k ++ n ∷ []) (omega arith)))

-- so are the numbers from 0 on
pub numbers_more : (k : ℕ) → range_with_len 0 (k + 1) ≡ range_with_len 0 k ++ k ∷ []
numbers_more k = range_more 0 k ∙ ap (λ n. range_with_len 0 k ++ n ∷ []) (zero-add k)

module _ (room : ℕ) (at : RowsOf ℕ) (free : List ℕ) (all : IsPermutation (range_with_len 0 room) (values at ++ free)) where
  -- places that are taken, and free ones, as often as a number comes in them
  both_once : (n : ℕ) → sum_by (is_number n) (values at) + sum_by (is_number n) free ≤ 1
  both_once n = omega (arith, sum_by-append (is_number n) (values at) free, sum_by-IsPermutation (is_number n) _ _ all, once n 0 room)

  -- the place of a call comes in the places that are taken
  taken_once : (q : CallId) (n : ℕ) → get at q ≡ Some n → sum_by (is_number n) (values at) ≡ sum_by (is_number n) (values (remove at q)) + 1
  taken_once q n e =
      omega (
        arith,
        sum_by-IsPermutation (is_number n) _ _ (values-remove call_total call_same at q n e),
        sum_by-cons (is_number n) n (values (remove at q)),
        counts_itself n,
      )

  pub places_sound : ArePlaces room at
  places_sound = record {
    within = λ q n e.
        let there : Contains (values at) n = Contains-permutation _ _ n (values-remove call_total call_same at q n e) (here n (values (remove at q))) in
        let ranged = in_range n 0 room (Contains-permutation _ _ n (IsPermutation-sym _ _ all) (Contains-append_left (values at) free n there)) in
        omega arith;
    apart = λ p q n e f.
        elim (is_call q p) as (λ b. is_call q p ≡ b → p ≡ q) [
          | true ↦ λ t. sym ((calls_are q p).0 t)
          | false ↦ λ t.
              let still : get (remove at p) q ≡ Some n = get-remove call_total at p q ∙ ap (λ b. cond b None (get at q)) t ∙ f in
              let again : sum_by (is_number n) (values (remove at p)) ≡ sum_by (is_number n) (values (remove (remove at p) q)) + 1 =
              omega (
                arith,
                sum_by-IsPermutation (is_number n) _ _ (values-remove call_total call_same (remove at p) q n still),
                sum_by-cons (is_number n) n (values (remove (remove at p) q)),
                counts_itself n,
              ) in
              absurd (omega (arith, both_once n, taken_once p n e))
        ] refl;
  }

  -- there are as many places as room
  pub all_counted : length (values at) + length free ≡ room
  all_counted = omega (arith, length_permutation _ _ all, length-append (values at) free, length-range_with_len 0 room)

length-values : (at : RowsOf ℕ) → length (values at) ≡ len at
length-values at = ap length (values-list at) ∙ length-map at.list (λ e. e.1) ∙ sym (len-list at)

-- there are as many places as room
pub counted : (room : ℕ) (at : RowsOf ℕ) (free : List ℕ) → IsPermutation (range_with_len 0 room) (values at ++ free) → len at + length free ≡ room
counted room at free all = omega (arith, all_counted room at free all, length-values at)

module _ (room : ℕ) (at : RowsOf ℕ) (rest : List ℕ) (n : ℕ) (all : IsPermutation (range_with_len 0 room) (values at ++ (rest ++ n ∷ []))) where
  -- the last free place is below the room, and no call's
  pub last_within : n < room
  last_within =
      let there : Contains (values at ++ (rest ++ n ∷ [])) n = Contains-append_right (values at) _ n (Contains-push rest n) in
      let ranged = in_range n 0 room (Contains-permutation _ _ n (IsPermutation-sym _ _ all) there) in
      omega arith

  pub last_free : IsFreePlace at n
  last_free q e =
      omega (
        arith,
        both_once room at (rest ++ n ∷ []) all n,
        taken_once room at (rest ++ n ∷ []) all q n e,
        sum_by-append (is_number n) rest (n ∷ []),
        sum_by-cons (is_number n) n [],
        counts_itself n,
      )

  -- and may be taken
  pub all_taken : (id : CallId) → get at id ≡ None → IsPermutation (range_with_len 0 room) (values (insert at id n) ++ rest)
  all_taken id none =
      IsPermutation-trans _ _ _ (subst (IsPermutation (range_with_len 0 room)) (sym (append_assoc (values at) rest (n ∷ []))) all)
      (IsPermutation-trans _ _ _ (IsPermutation-to_front (values at ++ rest) n)
      (IsPermutation-append_left rest (n ∷ values at) (values (insert at id n)) (values-insert_new call_total call_same at id n none)))

-- a call's place may be given back
pub all_given : (room : ℕ) (at : RowsOf ℕ) (free : List ℕ) (id : CallId) (n : ℕ) → IsPermutation (range_with_len 0 room) (values at ++ free)
    → get at id ≡ Some n
    → IsPermutation (range_with_len 0 room) (values (remove at id) ++ (free ++ n ∷ []))
all_given room at free id n all e =
    let to_front : IsPermutation (values at ++ free) (n ∷ (values (remove at id) ++ free)) =
    IsPermutation-append_left free (values at) (n ∷ values (remove at id)) (IsPermutation-sym _ _ (values-remove call_total call_same at id n e)) in
    IsPermutation-trans _ _ _ all
    (IsPermutation-trans _ _ _ to_front
    (subst (IsPermutation (n ∷ (values (remove at id) ++ free))) (append_assoc (values (remove at id)) free (n ∷ []))
    (IsPermutation-sym _ _ (IsPermutation-to_front (values (remove at id) ++ free) n))))

-- at first no place was ever taken
pub open_kept : (index : List (CallId × ℕ)) (free : List ℕ) → index ≡ [] → free ≡ [] → AreKept 0 index free
open_kept index free none no_free = rw (none, no_free) (record { rising = tt; all = rw values-nil (IsPermutation-refl []) })

-- the next place may join the free ones
pub kept_more : (more : Bool) (used new_used : ℕ) (index : List (CallId × ℕ)) (free new_free : List ℕ) → new_free ≡ cond more (free ++ used ∷ []) free
    → new_used ≡ cond more (used + 1) used
    → AreKept used index free → AreKept new_used index new_free
kept_more false used new_used index free new_free e f kept = rw (e, f) kept
kept_more true used new_used index free new_free e f kept =
    rw (e, f) (record {
      rising = kept.rising;
      all = rw (numbers_more used, sym (append_assoc (values (map_of index)) free (used ∷ [])))
          (IsPermutation-append_left (used ∷ []) (range_with_len 0 used) (values (map_of index) ++ free) kept.all);
    })

-- and is one of the room where there is one left
pub used_within : (n used new_used room : ℕ) → new_used ≡ cond (n == 0) (used + 1) used → used ≤ room → (n ≡ 0 → used + 1 ≤ room) → new_used ≤ room
used_within n used new_used room e h left =
    elim (n == 0) as (λ b. (n == 0) ≡ b → new_used ≡ cond b (used + 1) used → new_used ≤ room) [
      | true ↦ λ t f. let l = left (eqb-true n 0 t) in omega arith
      | false ↦ λ t f. omega arith
    ] refl e

-- places below fewer are below more
pub places_within : (used room : ℕ) (at : RowsOf ℕ) → used ≤ room → ArePlaces used at → ArePlaces room at
places_within used room at h are = record { within = λ q n e. let l = are.within q n e in omega arith; apart = are.apart }

-- a call took the last free place
pub kept_taken : (room : ℕ) (index new_index : List (CallId × ℕ)) (free rest : List ℕ) (id : CallId) (i place : ℕ) → AreKept room index free
    → IsGap call_cmp index id i
    → free ≡ rest ++ place ∷ [] → new_index ≡ insert_at index i (id, place) → AreKept room new_index rest
kept_taken room index new_index free rest id i place kept gap last new =
    rw new (record {
      rising = insert-rises index kept.rising id i place gap;
      all = rw (map_of-insert index kept.rising id i place gap)
          (all_taken room (map_of index) rest place
          (subst (λ (fs : List ℕ). IsPermutation (range_with_len 0 room) (values (map_of index) ++ fs)) last kept.all) id
          (get-gap index kept.rising id i gap));
    })

-- a call's place was given back
pub kept_given : (room : ℕ) (index new_index : List (CallId × ℕ)) (free new_free : List ℕ) (id : CallId) (i : ℕ) (e : CallId × ℕ)
    → AreKept room index free → IsAt index id i
    → e ≡ get_or index i e → new_index ≡ remove_at index i → new_free ≡ free ++ e.1 ∷ [] → AreKept room new_index new_free
kept_given room index new_index free new_free id i e kept at is new more =
    rw (new, more) (record {
      rising = remove-rises index kept.rising id i at;
      all = rw (map_of-remove index kept.rising id i at)
          (all_given room (map_of index) free id (e.1) kept.all (get-at index kept.rising id i at e ∙ ap (λ (f : CallId × ℕ). Some (f.1)) (sym is)));
    })
