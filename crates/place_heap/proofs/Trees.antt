-- Heap order, but for one place, over an exchange. A heap is seen as the item `f i` of each place i below `len`.
use Rattle.std.proofs.Common.{◌≡◌, ◌≢◌, ℕ, zero, suc, ◌+◌, ◌<◌, ◌≤◌, true, refl, sym, ap, ◌∙◌, arith, ⊎_elim}
use Rattle.std.proofs.lemmas.Bool.{cases_eq}
use Rattle.place_heap.specs.Order.{Item, is_before}
use Rattle.place_heap.specs.Sifted.{parent, NotBefore, InOrder, MayGoUp, MayGoDown}
use Rattle.place_heap.proofs.Before.{order}

-- g is f with the items of i and j exchanged
pub record Exchanged (f g : ℕ → Item) (i j : ℕ) : Type 0 where
  pub first : g i ≡ f j
  pub second : g j ≡ f i
  pub rest : (k : ℕ) → k ≢ i → k ≢ j → g k ≡ f k

-- the same items
moved : (a b c d : Item) → a ≡ c → b ≡ d → NotBefore c d → NotBefore a b
moved a b c d p q h = (λ k. is_before (p k) (q k)) ∙ h

-- the item at i is before its parent's, and they are exchanged
module _ (f g : ℕ → Item) (len i : ℕ) (pos : 0 < i) (inside : i < len) (changed : Exchanged f g i (parent i))
    (before : is_before (f i) (f (parent i)) ≡ true) (state : MayGoUp f len i) where
  -- the parent
  abbrev p : ℕ
  p = parent i

  -- its item is not before that at i
  late : NotBefore (f p) (f i)
  late = order.one_way (f i) (f p) before

  -- the parent may have to go up then
  pub up_step : MayGoUp g len p
  up_step = record {
    parents = λ k kpos kin kp.
        ⊎_elim
        (λ ki. moved _ _ _ _ (ap g ki ∙ changed.first) (ap (λ n. g (parent n)) ki ∙ changed.second) late)
        (λ ni.
        let q : ℕ = parent k in
        ⊎_elim
        (λ qp. moved _ _ _ _ (changed.rest k ni kp) (ap g qp ∙ changed.second)
        (order.chain (f k) (f p) (f i) (moved _ _ _ _ refl (ap f (sym qp)) (state.parents k kpos kin ni)) late))
        (λ nqp. ⊎_elim
        (λ qi. moved _ _ _ _ (changed.rest k ni kp) (ap g qi ∙ changed.first) (state.over k pos kpos kin qi))
        (λ nqi. moved _ _ _ _ (changed.rest k ni kp) (changed.rest q nqi nqp) (state.parents k kpos kin ni))
        (cases_eq q i))
        (cases_eq q p))
        (cases_eq k i);
    over = λ k ppos kpos kin kp.
        let q : ℕ = parent p in
        let grand : g q ≡ f q = changed.rest q (omega arith) (omega arith) in
        let top : NotBefore (f p) (f q) = state.parents p ppos (omega arith) (omega arith) in
        ⊎_elim
        (λ ki. moved _ _ _ _ (ap g ki ∙ changed.first) grand top)
        (λ ni. moved _ _ _ _ (changed.rest k ni (omega arith)) grand
        (order.chain (f k) (f p) (f q) (moved _ _ _ _ refl (ap f (sym kp)) (state.parents k kpos kin ni)) top))
        (cases_eq k i);
  }

-- the item at i is not before its parent's, or it is the first
pub up_ends : (f : ℕ → Item) (len i : ℕ) → (0 < i → NotBefore (f i) (f (parent i))) → MayGoUp f len i → InOrder f len
up_ends f len i ok state k pos below =
    ⊎_elim (λ e. moved _ _ _ _ (ap f e) (ap (λ n. f (parent n)) e) (ok (omega arith))) (λ ne. state.parents k pos below ne) (cases_eq k i)

-- the item at c, a child of i that is not after the other, is before that at i, and they are exchanged
module _ (f g : ℕ → Item) (len i c : ℕ) (pos : 0 < c) (inside : c < len) (child : parent c ≡ i) (changed : Exchanged f g i c)
    (before : is_before (f c) (f i) ≡ true)
    (least : (k : ℕ) → 0 < k → k < len → parent k ≡ i → NotBefore (f k) (f c)) (state : MayGoDown f len i) where
  -- the item may have to go down from there
  pub down_step : MayGoDown g len c
  down_step = record {
    parents = λ k kpos kin nq.
        ⊎_elim
        (λ kc. moved _ _ _ _ (ap g kc ∙ changed.second) (ap (λ n. g (parent n)) kc ∙ ap g child ∙ changed.first) (order.one_way (f c) (f i) before))
        (λ nc. ⊎_elim
        (λ ki. moved _ _ _ _ (ap g ki ∙ changed.first) (ap (λ n. g (parent n)) ki ∙ changed.rest (parent i) (omega arith) (omega arith))
        (state.over c (omega arith) pos inside child))
        (λ ni. ⊎_elim
        (λ qi. moved _ _ _ _ (changed.rest k ni nc) (ap g qi ∙ changed.first) (least k kpos kin qi))
        (λ nqi. moved _ _ _ _ (changed.rest k ni nc) (changed.rest (parent k) nqi nq) (state.parents k kpos kin nqi))
        (cases_eq (parent k) i))
        (cases_eq k i))
        (cases_eq k c);
    over = λ k cpos kpos kin kc.
        moved _ _ _ _ (changed.rest k (omega arith) (omega arith)) (ap g child ∙ changed.first)
        (moved _ _ _ _ refl (ap f (sym kc)) (state.parents k kpos kin (omega arith)));
  }

-- no child of i is before the item at i
pub down_ends : (f : ℕ → Item) (len i : ℕ) → ((k : ℕ) → 0 < k → k < len → parent k ≡ i → NotBefore (f k) (f i)) → MayGoDown f len i → InOrder f len
down_ends f len i ok state k pos below =
    ⊎_elim (λ e. moved _ _ _ _ refl (ap f e) (ok k pos below e)) (λ ne. state.parents k pos below ne) (cases_eq (parent k) i)

-- the item at p of a heap is changed
module _ (f g : ℕ → Item) (len p : ℕ) (inside : p < len) (rest : (k : ℕ) → k ≢ p → g k ≡ f k) (heap : InOrder f len) where
  -- what is below p is not before what is above it
  over_p : (k : ℕ) → 0 < p → 0 < k → k < len → parent k ≡ p → NotBefore (g k) (g (parent p))
  over_p k ppos kpos kin kp = moved _ _ _ _ (rest k (omega arith)) (rest (parent p) (omega arith))
      (order.chain (f k) (f p) (f (parent p)) (moved _ _ _ _ refl (ap f (sym kp)) (heap k kpos kin)) (heap p ppos inside))

  -- to one that is before it
  pub may_go_up : is_before (g p) (f p) ≡ true → MayGoUp g len p
  may_go_up before = record {
    parents = λ k kpos kin kp. ⊎_elim
        (λ qp. moved _ _ _ _ (rest k kp) (ap g qp)
        (order.chain (f k) (f p) (g p) (moved _ _ _ _ refl (ap f (sym qp)) (heap k kpos kin)) (order.one_way (g p) (f p) before)))
        (λ nq. moved _ _ _ _ (rest k kp) (rest (parent k) nq) (heap k kpos kin))
        (cases_eq (parent k) p);
    over = over_p;
  }

  -- to one that is not
  pub may_go_down : NotBefore (g p) (f p) → MayGoDown g len p
  may_go_down late = record {
    parents = λ k kpos kin nq. ⊎_elim
        (λ kp. moved _ _ _ _ (ap g kp) (rest (parent k) nq)
        (moved _ _ _ _ refl (ap (λ n. f (parent n)) kp) (order.chain (g p) (f p) (f (parent p)) late (heap p (omega arith) inside))))
        (λ np. moved _ _ _ _ (rest k np) (rest (parent k) nq) (heap k kpos kin))
        (cases_eq k p);
    over = over_p;
  }

-- an item is put behind a heap
pub grown : (f g : ℕ → Item) (len : ℕ) → ((k : ℕ) → k ≢ len → g k ≡ f k) → InOrder f len → MayGoUp g (len + 1) len
grown f g len rest heap = record {
  parents = λ k kpos kin ne. moved _ _ _ _ (rest k ne) (rest (parent k) (omega arith)) (heap k kpos (omega arith));
  over = λ k lpos kpos kin e. absurd (omega arith);
}

-- the first item of a heap is not after any
pub first_is_least : (f : ℕ → Item) (len : ℕ) → InOrder f len → (most i : ℕ) → i ≤ most → i < len → i ≢ 0 → NotBefore (f i) (f 0)
first_is_least f len heap zero i small inside ne = absurd (ne (omega arith))
first_is_least f len heap (suc most) i small inside ne =
    let up : NotBefore (f i) (f (parent i)) = heap i (omega arith) inside in
    ⊎_elim (λ e. moved _ _ _ _ refl (ap f (sym e)) up)
    (λ np. order.chain (f i) (f (parent i)) (f 0) up (first_is_least f len heap most (parent i) (omega arith) (omega arith) np))
    (cases_eq (parent i) 0)
