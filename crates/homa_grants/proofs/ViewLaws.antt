-- The messages of all heaps are those of the book.
use Rattle.std.proofs.Common.{◌≡◌, ℕ, zero, suc, ◌+◌, ◌<◌, Bool, true, false, ◌||◌, cond, eqb, List, [], ◌∷◌, ◌++◌, length, map, get_or, refl, sym}
use Rattle.std.proofs.Common.{ap, subst, ◌∙◌, arith}
use Rattle.std.specs.Prelude.{nat_le}
use Rattle.std.specs.List.{AllByRecursion, filter}
use Rattle.std.specs.List.Sorted.{IsPermutation}
use Rattle.std.proofs.lemmas.Bool.{eqb-true}
use Rattle.std.proofs.lemmas.Bool.Decides.{nat_tests}
use Rattle.std.proofs.lemmas.List.Sorted.{IsPermutation-refl, IsPermutation-sym, IsPermutation-cons, IsPermutation-trans, IsPermutation-middle}
use Rattle.std.proofs.lemmas.List.Sorted.{IsPermutation-append_right}
use Rattle.place_heap.specs.Held.{Held, list_of}
use Rattle.host_heap.proofs.Books.{keys-differ}
use Rattle.plain_sets.specs.Ordered.{ordered, IsInOrder, SendersDiffer}
use Rattle.plain_sets.proofs.OrderLaws.{all_weaker}
use Rattle.plain_sets.proofs.OrderSame.{everywhere, ordered-permuted, ordered-sorted}
use Rattle.homa_grants.specs.Entries.{Entry, entry_key, entries_of}
use Rattle.homa_grants.specs.Heaps.{slot_item, slot_items, message_at, messages_from, messages}
use Rattle.place_heap.specs.Heaps.{no_heap}
use Rattle.homa_grants.proofs.EntryLaws.{filter-kept, filter-none}

-- the messages of a peer, read back from its heap
read_back : (p : ℕ) (es : List Entry) → map (message_at p) (slot_items p es) ≡ entries_of p es
read_back p [] = refl
read_back p (e ∷ es) =
    elim (eqb e.peer p) as
    (λ b. eqb e.peer p ≡ b → map (message_at p) (map slot_item (cond b (e ∷ entries_of p es) (entries_of p es))) ≡ cond b (e ∷ entries_of p es)
    (entries_of p es)) [
      | true ↦ λ h. let is = eqb-true e.peer p h in λ i. record e { peer = sym is i } ∷ read_back p es i
      | false ↦ λ h. read_back p es
    ] refl

-- the messages of n peers from one on, one peer after another
abbrev parts : ℕ → ℕ → List Entry → List Entry
parts p zero es = []
parts p (suc n) es = entries_of p es ++ parts (suc p) n es

-- the heaps hold the messages, one peer after another
messages_from-parts : (p : ℕ) (heaps : List Held) (es : List Entry)
    → ((i : ℕ) → i < length heaps → list_of (get_or heaps i no_heap) ≡ slot_items (p + i) es) → messages_from p heaps ≡ parts p (length heaps) es
messages_from-parts p [] es lists = refl
messages_from-parts p (heap ∷ heaps) es lists =
    let here : p + 0 ≡ p = omega arith in
    let first : list_of heap ≡ slot_items p es = lists 0 (omega arith) ∙ ap (λ q. slot_items q es) here in
    let rest = messages_from-parts (suc p) heaps es
    (λ i inside. let place : p + suc i ≡ suc p + i = omega arith in lists (suc i) (omega arith) ∙ ap (λ q. slot_items q es) place) in
    λ i. (ap (map (message_at p)) first ∙ read_back p es) i ++ rest i

module _ {X : Type 0} (t u v : X → Bool) (same : (x : X) → t x ≡ (u x || v x)) (apart : (x : X) → u x ≡ true → v x ≡ false) where
  -- what passes either of two tests that exclude one another, in two parts
  partition : (xs : List X) → IsPermutation (filter t xs) (filter u xs ++ filter v xs)
  partition [] = IsPermutation-refl []
  partition (x ∷ xs) =
      subst (λ b. IsPermutation (cond b (x ∷ filter t xs) (filter t xs)) (filter u (x ∷ xs) ++ filter v (x ∷ xs))) (sym (same x))
      (elim (u x) as (λ b. u x ≡ b → IsPermutation (cond (b || v x) (x ∷ filter t xs) (filter t xs))
      (cond b (x ∷ filter u xs) (filter u xs) ++ cond (v x) (x ∷ filter v xs) (filter v xs))) [
        | true ↦ λ e. subst (λ b. IsPermutation (x ∷ filter t xs) (x ∷ (filter u xs ++ cond b (x ∷ filter v xs) (filter v xs)))) (sym (apart x e))
            (IsPermutation-cons x (filter t xs) (filter u xs ++ filter v xs) (partition xs))
        | false ↦ λ e. elim (v x) as (λ b. IsPermutation (cond b (x ∷ filter t xs) (filter t xs)) (filter u xs ++ cond b (x ∷ filter v xs) (filter v xs))) [
          | true ↦ IsPermutation-trans (x ∷ filter t xs) (x ∷ (filter u xs ++ filter v xs)) (filter u xs ++ x ∷ filter v xs)
              (IsPermutation-cons x (filter t xs) (filter u xs ++ filter v xs) (partition xs))
              (IsPermutation-sym (filter u xs ++ x ∷ filter v xs) (x ∷ (filter u xs ++ filter v xs)) (IsPermutation-middle (filter u xs) x (filter v xs)))
          | false ↦ partition xs
        ]
      ] refl)

-- a number from p on is p or from p + 1 on
from_on : (p q : ℕ) → nat_le p q ≡ (eqb q p || nat_le (suc p) q)
from_on p q = grind (arith, nat_tests)

-- and not both
not_both : (p q : ℕ) → eqb q p ≡ true → nat_le (suc p) q ≡ false
not_both p q e = grind (arith, nat_tests)

-- a number is from 0 on
from_zero : (q : ℕ) → nat_le 0 q ≡ true
from_zero q = grind (arith, nat_tests)

-- a number below another isn't from it on
below_it : (p q : ℕ) → q < p + 0 → nat_le p q ≡ false
below_it p q h = grind (arith, nat_tests)

-- the parts are all the messages of these peers
parts-all : (p n : ℕ) (es : List Entry) → AllByRecursion (λ e. e.peer < p + n) es → IsPermutation (filter (λ e. nat_le p e.peer) es) (parts p n es)
parts-all p zero es within =
    subst (λ xs. IsPermutation xs [])
    (sym (filter-none (λ e. nat_le p e.peer) es
    (all_weaker (λ (e : Entry). e.peer < p + 0) (λ (e : Entry). nat_le p e.peer ≡ false) (λ e. below_it p e.peer) es within))) (IsPermutation-refl [])
parts-all p (suc n) es within =
    let later : AllByRecursion (λ e. e.peer < suc p + n) es =
    all_weaker (λ (e : Entry). e.peer < p + suc n) (λ (e : Entry). e.peer < suc p + n) (λ e h. omega arith) es within in
    IsPermutation-trans (filter (λ e. nat_le p e.peer) es) (entries_of p es ++ filter (λ e. nat_le (suc p) e.peer) es) (entries_of p es ++ parts (suc p) n es)
    (partition (λ e. nat_le p e.peer) (λ e. eqb e.peer p) (λ e. nat_le (suc p) e.peer) (λ e. from_on p e.peer) (λ e. not_both p e.peer) es)
    (IsPermutation-append_right (entries_of p es) (filter (λ e. nat_le (suc p) e.peer) es) (parts (suc p) n es) (parts-all (suc p) n es later))

-- heaps that hold the messages of a list in order are seen as this list
pub messages-same : (heaps : List Held) (es : List Entry) → IsInOrder entry_key es → SendersDiffer (λ e. e.order) es
    → AllByRecursion (λ e. e.peer < length heaps) es
    → ((p : ℕ) → p < length heaps → list_of (get_or heaps p no_heap) ≡ slot_items p es) → messages heaps ≡ es
unfolding messages
messages-same heaps es up orders within lists =
    let differ = keys-differ entry_key es orders in
    let all : filter (λ (e : Entry). nat_le 0 e.peer) es ≡ es =
    filter-kept (λ e. nat_le 0 e.peer) es (everywhere (λ (e : Entry). nat_le 0 e.peer ≡ true) (λ e. from_zero e.peer) es) in
    let below : AllByRecursion (λ e. e.peer < 0 + length heaps) es =
    all_weaker (λ (e : Entry). e.peer < length heaps) (λ (e : Entry). e.peer < 0 + length heaps) (λ e h. omega arith) es within in
    let same : IsPermutation es (parts 0 (length heaps) es) =
    subst (λ xs. IsPermutation xs (parts 0 (length heaps) es)) all (parts-all 0 (length heaps) es below) in
    ap (ordered entry_key)
    (messages_from-parts 0 heaps es (λ p inside. let place : p ≡ 0 + p = omega arith in lists p inside ∙ ap (λ q. slot_items q es) place))
    ∙ sym (ordered-permuted entry_key es (parts 0 (length heaps) es) same differ) ∙ ordered-sorted entry_key es up differ
