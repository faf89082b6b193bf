-- The frontier of places that may come next, over a pop.
use Rattle.std.proofs.Common.{◌≡◌, ◌≢◌, ℕ, zero, suc, ◌+◌, ◌*◌, ◌<◌, ◌≤◌, ◌⊎◌, inl, inr, Bool, true, false, List, [], ◌∷◌, ◌++◌, length, take, get_or}
use Rattle.std.proofs.Common.{refl, sym, ap, subst, ◌∙◌, arith, ⊎_elim}
use Rattle.std.specs.Prelude.{if◌then◌else◌, ◌==◌, nat_lt, remove}
use Rattle.std.proofs.lemmas.List.{append_assoc, append-nil, take_at, take_all, get_or_read, length_push, nil_from_length}
use Rattle.std.proofs.lemmas.Bool.{cases_eq}
use Rattle.std.proofs.lemmas.Bool.Decides.{nat_tests}
use Rattle.place_heap.specs.declared.front.Candidate.{Candidate}
use Rattle.place_heap.specs.Order.{Item, is_before, placed, ordered}
use Rattle.place_heap.specs.Held.{at}
use Rattle.place_heap.specs.Sifted.{parent, NotBefore, InOrder}
use Rattle.place_heap.specs.Front.{candidate, IsLeast, with_child}
use Rattle.place_heap.proofs.Before.{either, test_same, test_other, order, not_itself}
use Rattle.place_heap.proofs.Placed.{placed_swap, ordered_more, Each, each_ordered, least_first}

-- a test has one answer
not_both : (t : Bool) → t ≡ true → t ≡ false → ⊥
not_both t p q = cc (p, q)

-- the places that were popped, and one more
abbrev pub and_popped : ℕ → (ℕ → Bool) → ℕ → Bool
and_popped p popped j = if j == p then true else popped j

-- the new place was popped
popped_now : (p : ℕ) (popped : ℕ → Bool) (j : ℕ) → j ≡ p → and_popped p popped j ≡ true
popped_now p popped j e = ap (λ t. if t then true else popped j) (test_same j p e)

-- for another place nothing changes
popped_else : (p : ℕ) (popped : ℕ → Bool) (j : ℕ) → j ≢ p → and_popped p popped j ≡ popped j
popped_else p popped j ne = ap (λ t. if t then true else popped j) (test_other j p ne)

-- what was popped stays so
still_popped : (p : ℕ) (popped : ℕ → Bool) (j : ℕ) → popped j ≡ true → and_popped p popped j ≡ true
still_popped p popped j e = ⊎_elim (λ s. popped_now p popped j s) (λ ne. popped_else p popped j ne ∙ e) (cases_eq j p)

-- the items below n that were not popped
abbrev pub left : List Item → (ℕ → Bool) → ℕ → List Item
left items popped zero = []
left items popped (suc n) = if popped n then left items popped n else at items n ∷ left items popped n

-- a popped place is left out
left_popped : (items : List Item) (popped : ℕ → Bool) (n : ℕ) → popped n ≡ true → left items popped (suc n) ≡ left items popped n
left_popped items popped n e = ap (λ t. if t then left items popped n else at items n ∷ left items popped n) e

-- another is kept
left_more : (items : List Item) (popped : ℕ → Bool) (n : ℕ) → popped n ≡ false → left items popped (suc n) ≡ at items n ∷ left items popped n
left_more items popped n e = ap (λ t. if t then left items popped n else at items n ∷ left items popped n) e

-- at first all are left
pub left_all : (items : List Item) (n : ℕ) → n ≤ length items → ordered (left items (λ _. false) n) ≡ ordered (take n items)
left_all items zero fits = refl
left_all items (suc n) fits = ap (placed (at items n)) (left_all items n (omega arith)) ∙ sym (ordered_more items n (omega arith))

-- a place from n on changes nothing
left_beyond : (items : List Item) (popped : ℕ → Bool) (p n : ℕ) → n ≤ p → left items (and_popped p popped) n ≡ left items popped n
left_beyond items popped p zero high = refl
left_beyond items popped p (suc n) high =
    let same : and_popped p popped n ≡ popped n = popped_else p popped n (omega arith) in
    (λ i. if same i then left_beyond items popped p n (omega arith) i else at items n ∷ left_beyond items popped p n (omega arith) i)

-- one is popped
pub left_pop : (items : List Item) (popped : ℕ → Bool) (p n : ℕ) → p < n → popped p ≡ false
    → ordered (left items popped n) ≡ placed (at items p) (ordered (left items (and_popped p popped) n))
left_pop items popped p zero inside new = absurd (omega arith)
left_pop items popped p (suc n) inside new = ⊎_elim
    (λ (e : n ≡ p).
    ap ordered (left_more items popped n (ap popped e ∙ new)) ∙ (λ i. placed (at items (e i)) (ordered (left items popped n)))
    ∙ ap (λ l. placed (at items p) (ordered l))
    (sym (left_popped items (and_popped p popped) n (popped_now p popped n e) ∙ left_beyond items popped p n (omega arith))))
    (λ ne.
    let same : and_popped p popped n ≡ popped n = popped_else p popped n ne in
    let on = left_pop items popped p n (omega arith) new in
    either (popped n)
    (λ e. ap ordered (left_popped items popped n e) ∙ on ∙ ap (λ l. placed (at items p) (ordered l))
    (sym (left_popped items (and_popped p popped) n (same ∙ e))))
    (λ e. ap ordered (left_more items popped n e) ∙ ap (placed (at items n)) on ∙ placed_swap (at items n) (at items p)
    (ordered (left items (and_popped p popped) n))
    ∙ ap (λ l. placed (at items p) (ordered l)) (sym (left_more items (and_popped p popped) n (same ∙ e)))))
    (cases_eq n p)

-- what holds of each place that was not popped holds of each item that is left
pub left_each : (P : Item → Type 0) (items : List Item) (popped : ℕ → Bool) (n : ℕ) → ((j : ℕ) → j < n → popped j ≡ false → P (at items j))
    → Each P (left items popped n)
left_each P items popped zero all = tt
left_each P items popped (suc n) all =
    let rest = left_each P items popped n (λ j below e. all j (omega arith) e) in
    either (popped n) (λ e. subst (Each P) (sym (left_popped items popped n e)) rest)
    (λ e. subst (Each P) (sym (left_more items popped n e)) (all n (omega arith) e, rest))

-- nothing is left where all was popped
pub left_none : (items : List Item) (popped : ℕ → Bool) (n : ℕ) → ((j : ℕ) → j < n → popped j ≡ true) → left items popped n ≡ []
left_none items popped zero all = refl
left_none items popped (suc n) all = left_popped items popped n (all n (omega arith)) ∙ left_none items popped n (λ j below. all j (omega arith))

-- it holds of each candidate
abbrev pub Every : (Candidate → Type 0) → List Candidate → Type 0
Every P [] = Unit {0}
Every P (c ∷ cs) = P c × Every P cs

-- a place is in the frontier
abbrev pub In : ℕ → List Candidate → Type 0
In j [] = ⊥
In j (c ∷ cs) = (c.place ≡ j) ⊎ In j cs

-- no place is there twice
abbrev pub Different : List Candidate → Type 0
Different [] = Unit {0}
Different (c ∷ cs) = Every (λ d. d.place ≢ c.place) cs × Different cs

-- what holds of each candidate may be weakened
every_map : (P Q : Candidate → Type 0) → ((c : Candidate) → P c → Q c) → (cs : List Candidate) → Every P cs → Every Q cs
every_map P Q f [] all = tt
every_map P Q f (c ∷ cs) all = (f c all.0, every_map P Q f cs all.1)

-- two facts of each candidate are one
every_both : (P Q : Candidate → Type 0) (cs : List Candidate) → Every P cs → Every Q cs → Every (λ c. P c × Q c) cs
every_both P Q [] p q = tt
every_both P Q (c ∷ cs) p q = ((p.0, q.0), every_both P Q cs p.1 q.1)

-- it holds of the candidate at an index
every_at : (P : Candidate → Type 0) (cs : List Candidate) (i : ℕ) → i < length cs → Every P cs → P (candidate cs i)
every_at P [] i inside all = absurd (omega arith)
every_at P (c ∷ cs) zero inside all = all.0
every_at P (c ∷ cs) (suc i) inside all = every_at P cs i (omega arith) all.1

-- it holds of the others
every_remove : (P : Candidate → Type 0) (cs : List Candidate) (i : ℕ) → Every P cs → Every P (remove cs i)
every_remove P [] zero all = tt
every_remove P [] (suc i) all = tt
every_remove P (c ∷ cs) zero all = all.1
every_remove P (c ∷ cs) (suc i) all = (all.0, every_remove P cs i all.1)

-- and of one more
every_push : (P : Candidate → Type 0) (cs : List Candidate) (c : Candidate) → Every P cs → P c → Every P (cs ++ c ∷ [])
every_push P [] c all here = (here, tt)
every_push P (d ∷ ds) c all here = (all.0, every_push P ds c all.1 here)

-- places stay different without one, which is then not there
different_remove : (cs : List Candidate) (i : ℕ) → i < length cs → Different cs
    → Different (remove cs i) × Every (λ d. d.place ≢ (candidate cs i).place) (remove cs i)
different_remove [] i inside all = absurd (omega arith)
different_remove (c ∷ cs) zero inside all = (all.1, all.0)
different_remove (c ∷ cs) (suc i) inside all =
    let rest = different_remove cs i (omega arith) all.1 in
    let other = every_at (λ d. d.place ≢ c.place) cs i (omega arith) all.0 in
    ((every_remove (λ d. d.place ≢ c.place) cs i all.0, rest.0), (λ e. other (sym e), rest.1))

-- and with one that is new
different_push : (cs : List Candidate) (c : Candidate) → Different cs → Every (λ d. d.place ≢ c.place) cs → Different (cs ++ c ∷ [])
different_push [] c all new = (tt, tt)
different_push (d ∷ ds) c all new = (every_push (λ e. e.place ≢ d.place) ds c all.0 (λ e. new.0 (sym e)), different_push ds c all.1 new.1)

-- a place is that of the removed candidate, or is still there
in_remove : (j : ℕ) (cs : List Candidate) (i : ℕ) → In j cs → ((candidate cs i).place ≡ j) ⊎ In j (remove cs i)
in_remove j [] i here = absurd here
in_remove j (c ∷ cs) zero here = here
in_remove j (c ∷ cs) (suc i) here = ⊎_elim (λ e. inr (inl e)) (λ more. ⊎_elim (λ e. inl e) (λ r. inr (inr r)) (in_remove j cs i more)) here

-- a place stays there
in_push : (j : ℕ) (cs : List Candidate) (c : Candidate) → In j cs → In j (cs ++ c ∷ [])
in_push j [] c here = absurd here
in_push j (d ∷ ds) c here = ⊎_elim (λ e. inl e) (λ more. inr (in_push j ds c more)) here

-- the new place is there
in_last : (cs : List Candidate) (c : Candidate) → In c.place (cs ++ c ∷ [])
in_last [] c = inl refl
in_last (d ∷ ds) c = inr (in_last ds c)

-- a place that is there has a candidate, of which the facts hold
in_least : (j : ℕ) (cs : List Candidate) (Q : Candidate → Type 0) → Every Q cs → In j cs → (c : Candidate) × (c.place ≡ j) × Q c
in_least j [] Q all here = absurd here
in_least j (c ∷ cs) Q all here = ⊎_elim (λ e. (c, e, all.0)) (λ more. in_least j cs Q all.1 more) here

-- what holds at each index holds of each candidate
every_index : (P : Candidate → Type 0) (cs : List Candidate) → ((i : ℕ) → i < length cs → P (candidate cs i)) → Every P cs
every_index P [] all = tt
every_index P (c ∷ cs) all = (all 0 (omega arith), every_index P cs (λ i inside. all (suc i) (omega arith)))

-- one candidate less
length-remove : (cs : List Candidate) (i : ℕ) → i < length cs → length (remove cs i) + 1 ≡ length cs
length-remove [] i inside = absurd (omega arith)
length-remove (c ∷ cs) zero inside = omega arith
length-remove (c ∷ cs) (suc i) inside = omega (arith, length-remove cs i (omega arith))

-- one candidate more
length-push : (cs : List Candidate) (c : Candidate) → length (cs ++ c ∷ []) ≡ length cs + 1
length-push [] c = refl
length-push (d ∷ ds) c = omega (arith, length-push ds c)

-- a candidate lies where it says, and was not popped, but what is above it was
abbrev pub Lies : List Item → ℕ → (ℕ → Bool) → Candidate → Type 0
Lies items len popped c = (c.place < len) × (c.item ≡ at items c.place) × (popped c.place ≡ false) × (0 < c.place → popped (parent c.place) ≡ true)

-- the frontier, after these items came out
pub record IsFront (items : List Item) (len : ℕ) (front : List Candidate) (out : List Item) (popped : ℕ → Bool) : Type 0 where
  pub lies : Every (Lies items len popped) front
  pub different : Different front
  pub closed : (j : ℕ) → 0 < j → popped j ≡ true → popped (parent j) ≡ true
  pub reached : (j : ℕ) → j < len → popped j ≡ false → In j front ⊎ ((0 < j) × (popped (parent j) ≡ false))
  pub list : ordered (take len items) ≡ out ++ ordered (left items popped len)

-- at most one candidate more
pub length-child : (items : List Item) (len place : ℕ) (front : List Candidate) → length (with_child items len place front) ≤ length front + 1
length-child items len place front =
    let child : Candidate = record { place = place; item = at items place } in
    either (nat_lt place len)
    (λ e. omega (arith, ap (λ t. length (if t then front ++ child ∷ [] else front)) e, length-push front child))
    (λ e. omega (arith, ap (λ t. length (if t then front ++ child ∷ [] else front)) e))

-- a new place is added, if an item lies there
module _ (items : List Item) (len place : ℕ) (front : List Candidate) where
  -- the candidate of the place
  abbrev child : Candidate
  child = record { place = place; item = at items place }

  -- what holds of each candidate and of the new one holds of all
  every_child : (P : Candidate → Type 0) → Every P front → (place < len → P child) → Every P (with_child items len place front)
  every_child P all new =
      either (nat_lt place len)
      (λ e. let below : place < len = grind (arith, nat_tests) in subst (λ t. Every P (if t then front ++ child ∷ [] else front)) (sym e)
      (every_push P front child all (new below)))
      (λ e. subst (λ t. Every P (if t then front ++ child ∷ [] else front)) (sym e) all)

  -- places stay different
  different_child : Different front → Every (λ d. d.place ≢ place) front → Different (with_child items len place front)
  different_child all new =
      either (nat_lt place len)
      (λ e. subst (λ t. Different (if t then front ++ child ∷ [] else front)) (sym e) (different_push front child all new))
      (λ e. subst (λ t. Different (if t then front ++ child ∷ [] else front)) (sym e) all)

  -- a place stays there
  in_child : (j : ℕ) → In j front → In j (with_child items len place front)
  in_child j here =
      either (nat_lt place len)
      (λ e. subst (λ t. In j (if t then front ++ child ∷ [] else front)) (sym e) (in_push j front child here))
      (λ e. subst (λ t. In j (if t then front ++ child ∷ [] else front)) (sym e) here)

  -- the new place is there, if an item lies in it
  new_child : (j : ℕ) → j ≡ place → j < len → In j (with_child items len place front)
  new_child j same below =
      let e : nat_lt place len ≡ true = grind (arith, nat_tests) in
      subst (λ t. In j (if t then front ++ child ∷ [] else front)) (sym e) (subst (λ k. In k (front ++ child ∷ [])) (sym same) (in_last front child))

-- the least of the frontier is not after any item that is left
least_of_all : (items : List Item) (len : ℕ) (front : List Candidate) (out : List Item) (popped : ℕ → Bool) (best : Item) → InOrder (at items) len
    → IsFront items len front out popped
    → Every (λ c. NotBefore c.item best) front → (most j : ℕ) → j ≤ most → j < len → popped j ≡ false → NotBefore (at items j) best
least_of_all items len front out popped best heap state least zero j small inside new = ⊎_elim
    (λ here. let found = in_least j front (λ c. Lies items len popped c × NotBefore c.item best)
    (every_both (Lies items len popped) (λ c. NotBefore c.item best) front state.lies least) here in
    ap (λ n. is_before (at items n) best) (sym found.1) ∙ ap (λ x. is_before x best) (sym found.2.0.1) ∙ found.2.1)
    (λ up. absurd (omega (arith, up.0))) (state.reached j inside new)
least_of_all items len front out popped best heap state least (suc most) j small inside new = ⊎_elim
    (λ here. let found = in_least j front (λ c. Lies items len popped c × NotBefore c.item best)
    (every_both (Lies items len popped) (λ c. NotBefore c.item best) front state.lies least) here in
    ap (λ n. is_before (at items n) best) (sym found.1) ∙ ap (λ x. is_before x best) (sym found.2.0.1) ∙ found.2.1)
    (λ up. order.chain (at items j) (at items (parent j)) best (heap j up.0 inside)
    (least_of_all items len front out popped best heap state least most (parent j) (omega (arith, up.0)) (omega (arith, up.0)) up.1))
    (state.reached j inside new)

-- the least is popped, and its children come
module _ (items : List Item) (len : ℕ) (front : List Candidate) (out : List Item) (popped : ℕ → Bool) (fits : len ≤ length items)
    (heap : InOrder (at items) len) (state : IsFront items len front out popped) (m : ℕ) (best : IsLeast front m) where
  -- the candidate that is popped
  abbrev next : Candidate
  next = candidate front m

  -- its place
  abbrev p : ℕ
  p = next.place

  -- the frontier without it
  abbrev rest : List Candidate
  rest = remove front m

  -- with its left child
  abbrev one : List Candidate
  one = with_child items len (2 * p + 1) rest

  -- and its right child
  abbrev two : List Candidate
  two = with_child items len (2 * p + 2) one

  -- the places that were popped then
  abbrev popped' : ℕ → Bool
  popped' = and_popped p popped

  -- the popped candidate lies where it says
  lies_next : Lies items len popped next
  lies_next = every_at (Lies items len popped) front m best.inside state.lies

  -- and so do the others
  rest_lies : Every (Lies items len popped') rest
  rest_lies =
      let away = different_remove front m best.inside state.different in
      every_map (λ c. Lies items len popped c × (c.place ≢ p)) (Lies items len popped')
      (λ c both. (both.0.0, both.0.1, popped_else p popped c.place both.1 ∙ both.0.2, λ pos. still_popped p popped (parent c.place) (both.0.3 pos)))
      rest (every_both (Lies items len popped) (λ c. c.place ≢ p) rest (every_remove (Lies items len popped) front m state.lies) away.1)

  -- what is below p was not popped, and is not in the frontier
  child_new : (j : ℕ) → 0 < j → parent j ≡ p → popped j ≡ false
  child_new j pos e = either (popped j) (λ t. absurd (not_both (popped p) (ap popped (sym e) ∙ state.closed j pos t) lies_next.2)) (λ t. t)

  -- a child is another place
  child_else : (j : ℕ) → 0 < j → parent j ≡ p → j ≢ p
  child_else j pos e = omega arith

  -- a child is not among the others
  child_away : (j : ℕ) → 0 < j → parent j ≡ p → Every (λ d. d.place ≢ j) rest
  child_away j pos e =
      every_map (Lies items len popped) (λ d. d.place ≢ j)
      (λ c lies same. not_both (popped p) (ap popped (sym e) ∙ ap (λ n. popped (parent n)) (sym same) ∙ lies.3 (omega arith)) lies_next.2)
      rest (every_remove (Lies items len popped) front m state.lies)

  -- a child lies where it says
  child_lies : (j : ℕ) → 0 < j → parent j ≡ p → j < len → Lies items len popped' (record { place = j; item = at items j })
  child_lies j pos e below = (below, refl, popped_else p popped j (child_else j pos e) ∙ child_new j pos e, λ _. popped_now p popped (parent j) e)

  -- the left child is below p
  left_is : parent (2 * p + 1) ≡ p
  left_is = omega arith

  -- and so is the right one
  right_is : parent (2 * p + 2) ≡ p
  right_is = omega arith

  -- the frontier is kept
  pub pop_step : IsFront items len two (out ++ next.item ∷ []) popped'
  pop_step = record {
    lies = every_child items len (2 * p + 2) one (Lies items len popped')
        (every_child items len (2 * p + 1) rest (Lies items len popped') rest_lies (child_lies (2 * p + 1) (omega arith) left_is))
        (child_lies (2 * p + 2) (omega arith) right_is);
    different =
        let away = different_remove front m best.inside state.different in
        different_child items len (2 * p + 2) one (different_child items len (2 * p + 1) rest away.0 (child_away (2 * p + 1) (omega arith) left_is))
        (every_child items len (2 * p + 1) rest (λ d. d.place ≢ 2 * p + 2) (child_away (2 * p + 2) (omega arith) right_is) (λ _. omega arith));
    closed = λ j pos was. ⊎_elim
        (λ e. ⊎_elim (λ top. absurd (omega arith))
        (λ deep. still_popped p popped (parent j) (ap (λ n. popped (parent n)) e ∙ lies_next.3 (omega arith))) (cases_eq p 0))
        (λ ne. still_popped p popped (parent j) (state.closed j pos (sym (popped_else p popped j ne) ∙ was)))
        (cases_eq j p);
    reached = λ j inside new. ⊎_elim
        (λ e. absurd (not_both (popped' j) (popped_now p popped j e) new))
        (λ ne.
        let was : popped j ≡ false = sym (popped_else p popped j ne) ∙ new in
        ⊎_elim
        (λ here. ⊎_elim (λ same. absurd (ne (sym same)))
        (λ still. inl (in_child items len (2 * p + 2) one j (in_child items len (2 * p + 1) rest j still))) (in_remove j front m here))
        (λ up. ⊎_elim
        (λ e. ⊎_elim
        (λ is_left. inl (in_child items len (2 * p + 2) one j (new_child items len (2 * p + 1) rest j is_left inside)))
        (λ not_left. inl (new_child items len (2 * p + 2) one j (omega (arith, up.0)) inside))
        (cases_eq j (2 * p + 1)))
        (λ nq. inr (up.0, popped_else p popped (parent j) nq ∙ up.1))
        (cases_eq (parent j) p))
        (state.reached j inside was))
        (cases_eq j p);
    list =
        let low = left_each (λ x. is_before x (at items p) ≡ false) items popped' len (λ j below new.
        ⊎_elim (λ e. absurd (not_both (popped' j) (popped_now p popped j e) new))
        (λ ne. least_of_all items len front out popped (at items p) heap state
        (every_map (λ c. NotBefore c.item next.item) (λ c. NotBefore c.item (at items p)) (λ c l. ap (is_before c.item) (sym lies_next.1) ∙ l) front
        (every_index (λ c. NotBefore c.item next.item) front best.least))
        j j (omega arith) below (sym (popped_else p popped j ne) ∙ new))
        (cases_eq j p)) in
        state.list ∙ ap (λ l. out ++ l) (left_pop items popped p len lies_next.0 lies_next.2
        ∙ least_first (at items p) (ordered (left items popped' len)) (each_ordered (λ x. is_before x (at items p) ≡ false) (left items popped' len) low)
        ∙ ap (λ x. x ∷ ordered (left items popped' len)) (sym lies_next.1))
        ∙ sym (append_assoc out (next.item ∷ []) (ordered (left items popped' len)));
  }

  -- it grows by one at most
  pub pop_len : length two ≤ length front + 1
  pop_len = omega (arith, length-child items len (2 * p + 2) one, length-child items len (2 * p + 1) rest, length-remove front m best.inside)

-- at first the frontier is the root, if there is one
pub front_starts : (items : List Item) (len : ℕ) → len ≤ length items → IsFront items len (with_child items len 0 []) [] (λ _. false)
front_starts items len fits = record {
  lies = every_child items len 0 [] (Lies items len (λ _. false)) tt (λ below. (below, refl, refl, λ pos. absurd (omega arith)));
  different = different_child items len 0 [] tt tt;
  closed = λ j pos was. absurd (cc was);
  reached = λ j inside new. ⊎_elim (λ e. inl (new_child items len 0 [] j e inside)) (λ ne. inr (omega arith, refl)) (cases_eq j 0);
  list = sym (left_all items len fits);
}

-- with an empty frontier all came out
all_popped : (items : List Item) (len : ℕ) (out : List Item) (popped : ℕ → Bool) → IsFront items len [] out popped → (most j : ℕ) → j ≤ most → j < len
    → popped j ≡ true
all_popped items len out popped state zero j small inside =
    either (popped j) (λ t. t) (λ t. ⊎_elim (λ here. absurd here) (λ up. absurd (omega (arith, up.0))) (state.reached j inside t))
all_popped items len out popped state (suc most) j small inside =
    either (popped j) (λ t. t)
    (λ t. ⊎_elim (λ here. absurd here)
    (λ up. let above = all_popped items len out popped state most (parent j) (omega (arith, up.0)) (omega (arith, up.0)) in
    absurd (not_both (popped (parent j)) above up.1)) (state.reached j inside t))

-- so many came out as were asked for
pub enough : (items : List Item) (len k : ℕ) (front : List Candidate) (out : List Item) (popped : ℕ → Bool) → IsFront items len front out popped
    → length out ≡ k → out ≡ take k (ordered (take len items))
enough items len k front out popped state full = sym (ap (take k) state.list ∙ take_at out (ordered (left items popped len)) k full)

-- or there are no more
pub no_more_left : (items : List Item) (len k : ℕ) (front : List Candidate) (out : List Item) (popped : ℕ → Bool) → IsFront items len front out popped
    → front ≡ [] → length out ≤ k → out ≡ take k (ordered (take len items))
no_more_left items len k front out popped state empty few =
    let at_end = subst (λ l. IsFront items len l out popped) empty state in
    let none = left_none items popped len (λ j below. all_popped items len out popped at_end j j (omega arith) below) in
    sym (ap (take k) (state.list ∙ ap (λ l. out ++ ordered l) none ∙ append-nil out) ∙ take_all k out few)

-- a candidate is not after those seen before it
pub least_first_seen : (front : List Candidate) (j : ℕ) → j < 1 → NotBefore (candidate front j).item (candidate front 0).item
least_first_seen front j below =
    let e : j ≡ 0 = omega arith in ap (λ n. is_before (candidate front n).item (candidate front 0).item) e ∙ not_itself (candidate front 0).item

-- a candidate that is before the least so far is the least
pub least_changes : (front : List Candidate) (i best : ℕ) → ((j : ℕ) → j < i → NotBefore (candidate front j).item (candidate front best).item)
    → is_before (candidate front i).item (candidate front best).item ≡ true
    → (j : ℕ) → j < i + 1 → NotBefore (candidate front j).item (candidate front i).item
least_changes front i best seen before j below = ⊎_elim
    (λ e. ap (λ n. is_before (candidate front n).item (candidate front i).item) e ∙ not_itself (candidate front i).item)
    (λ ne. order.chain (candidate front j).item (candidate front best).item (candidate front i).item (seen j (omega arith))
    (order.one_way (candidate front i).item (candidate front best).item before))
    (cases_eq j i)

-- and one that is not leaves it the least
pub least_stays : (front : List Candidate) (i best : ℕ) → ((j : ℕ) → j < i → NotBefore (candidate front j).item (candidate front best).item)
    → is_before (candidate front i).item (candidate front best).item ≡ false
    → (j : ℕ) → j < i + 1 → NotBefore (candidate front j).item (candidate front best).item
least_stays front i best seen late j below = ⊎_elim
    (λ e. ap (λ n. is_before (candidate front n).item (candidate front best).item) e ∙ late) (λ ne. seen j (omega arith)) (cases_eq j i)

-- one pop, as the code does it
pub popped_once : (items : List Item) (len : ℕ) (front : List Candidate) (out : List Item) (popped : ℕ → Bool) → len ≤ length items
    → InOrder (at items) len → IsFront items len front out popped
    → (slice : List Candidate) (m : ℕ) → slice ≡ front → IsLeast slice m → (next : Candidate) → next ≡ get_or front m next
    → (rest one two : List Candidate) (out' : List Item) → rest ≡ remove front m → out' ≡ out ++ next.item ∷ []
    → one ≡ with_child items len (2 * next.place + 1) rest → two ≡ with_child items len (2 * next.place + 2) one
    → ((popped' : ℕ → Bool) × IsFront items len two out' popped') × (length two ≤ length front + 1) × (length out' ≡ length out + 1)
popped_once items len front out popped fits heap state slice m same least next read rest one two out' rest_is out_is one_is two_is =
    let best = subst (λ l. IsLeast l m) same least in
    let is : next ≡ candidate front m = get_or_read front m next best.inside read _ in
    let fronts : two ≡ with_child items len (2 * (candidate front m).place + 2) (with_child items len (2 * (candidate front m).place + 1) (remove front m)) =
    two_is ∙ ap (with_child items len (2 * next.place + 2)) (one_is ∙ ap (with_child items len (2 * next.place + 1)) rest_is)
    ∙ ap (λ (c : Candidate). with_child items len (2 * c.place + 2) (with_child items len (2 * c.place + 1) (remove front m))) is in
    let outs : out' ≡ out ++ (candidate front m).item ∷ [] = out_is ∙ ap (λ (c : Candidate). out ++ c.item ∷ []) is in
    let step = pop_step items len front out popped fits heap state m best in
    let there : IsFront items len two out' (and_popped (candidate front m).place popped) = rw (fronts, outs) step in (
      (and_popped (candidate front m).place popped, there),
      omega (arith, ap length fronts, pop_len items len front out popped fits heap state m best),
      ap length out_is ∙ length_push out next.item,
    )

-- a frontier of no candidates is empty
pub empty_front : (front : List Candidate) → (length front == 0) ≡ true → front ≡ []
empty_front front e = let none : length front ≡ 0 = grind (arith, nat_tests) in nil_from_length front none
