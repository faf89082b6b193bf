-- The order of items.
use Rattle.std.proofs.Common.{◌≡◌, ◌≢◌, ℕ, ◌<◌, Bool, true, false, refl, ap, arith}
use Rattle.std.specs.Prelude.{◌==◌}
use Rattle.std.proofs.lemmas.Bool.Decides.{nat_tests}
use Rattle.std.proofs.lemmas.List.Sorted.{ranks_by}
use Rattle.std.proofs.lemmas.Cmp.{on_total, then_total, nat_cmp_total, ranked, by_ranked}
use Rattle.std.specs.Cmp.{IsTotalOrder, IsStrictWeakOrder}
use Rattle.std.specs.declared.cmp.Ordering.{Ordering}
use Rattle.std.specs.declared.cmp.Ordering.TheVariants.{Less, Equal, Greater}
use Rattle.std.specs.Ordering.{nat_cmp, ordering_then, ordering_reverse, is_lt}
use Rattle.place_heap.specs.Order.{Item, item_cmp, is_before}

-- a test has either answer
pub either : {P : Type 0} (t : Bool) → (t ≡ true → P) → (t ≡ false → P) → P
either true f g = f refl
either false f g = g refl

-- a test of two numbers, which are the same, or not
pub test_same : (a b : ℕ) → a ≡ b → (a == b) ≡ true
test_same a b e = grind (arith, nat_tests)

-- and two that are not
pub test_other : (a b : ℕ) → a ≢ b → (a == b) ≡ false
test_other a b ne = grind (arith, nat_tests)

-- the order is total
items_total : IsTotalOrder item_cmp
items_total = then_total (on_total (λ (x : Item). x.1.first) nat_cmp_total)
    (then_total (on_total (λ (x : Item). x.1.second) nat_cmp_total) (on_total (λ (x : Item). x.0) nat_cmp_total))

-- an item does not stand before one that stands before it, and not being before is transitive
pub order : IsStrictWeakOrder is_before
unfolding is_before
order = ranks_by items_total (λ x. x)

-- numbers that compare equal are one
same_number : (x y : ℕ) → nat_cmp x y ≡ Equal → x ≡ y
same_number x y e = by_ranked (x < y) (x ≡ y) (y < x) (nat_cmp x y) (ranked x y (nat_cmp x y) refl) (λ l _. cc (l, e)) (λ _ same. same) (λ g _. cc (g, e))

-- two comparisons in turn are equal where both are
then_equal : (p q : Ordering) → ordering_then p q ≡ Equal → (p ≡ Equal) × (q ≡ Equal)
then_equal Less q e = cc
then_equal Equal q e = (refl, e)
then_equal Greater q e = cc

-- a comparison that is less neither way is equal
neither : (p q : Ordering) → p ≡ ordering_reverse q → is_lt p ≡ false → is_lt q ≡ false → p ≡ Equal
neither Less q e l r = cc
neither Equal q e l r = refl
neither Greater Less e l r = cc
neither Greater Equal e l r = cc
neither Greater Greater e l r = cc

-- two items of which neither is before the other are the same
pub same_item : (a b : Item) → is_before a b ≡ false → is_before b a ≡ false → a ≡ b
unfolding is_before
same_item a b l r =
    let e = neither (item_cmp a b) (item_cmp b a) (items_total.antisymm a b) l r in
    let e1 = then_equal (nat_cmp a.1.first b.1.first) _ e in
    let e2 = then_equal (nat_cmp a.1.second b.1.second) _ e1.1 in
    (λ i. (same_number a.0 b.0 e2.1 i, record { first = same_number a.1.first b.1.first e1.0 i; second = same_number a.1.second b.1.second e2.0 i }))

-- of two items of different slots that which is not before the other is after it
pub is_after : (a b : Item) → a.0 ≢ b.0 → is_before b a ≡ false → is_before a b ≡ true
is_after a b ne l =
    elim (is_before a b) as (λ t. is_before a b ≡ t → t ≡ true)
    [ true ↦ λ e. refl | false ↦ λ e. absurd (ne (ap (λ (x : Item). x.0) (same_item a b e l))) ] refl

-- no item stands before itself
pub not_itself : (x : Item) → is_before x x ≡ false
not_itself x = either (is_before x x) (λ e. order.one_way x x e) (λ e. e)
