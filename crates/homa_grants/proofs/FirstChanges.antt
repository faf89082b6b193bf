-- The first message of each peer, where the messages of one peer change.
use Rattle.std.proofs.Common.{◌≡◌, ◌≢◌, ℕ, true, false, not, cond, eqb, List, [], ◌∷◌, Option, Some, None, map, refl, sym, ap, subst, ◌∙◌, arith}
use Rattle.std.specs.List.{AllByRecursion, Contains}
use Rattle.std.specs.Option.{option_map}
use Rattle.std.proofs.lemmas.Bool.{eqb-true, true≢false}
use Rattle.std.proofs.lemmas.Bool.Decides.{nat_tests}
use Rattle.place_heap.specs.Order.{placed as item_placed, without as items_without, first_of as first_item, replaced}
use Rattle.host_heap.proofs.Books.{placed-items, without-items, keys-differ, filter-in_order, filter-differ}
use Rattle.plain_sets.specs.Ordered.{is_below, placed, IsInOrder, KeysDiffer, DiffersFrom, SendersDiffer, not_of, firsts, first_of}
use Rattle.plain_sets.proofs.OrderLaws.{front, below_other}
use Rattle.plain_sets.proofs.OrderSame.{everywhere, filter-all, all_at}
use Rattle.plain_sets.proofs.FirstLaws.{firsts-all, sorted-firsts}
use Rattle.plain_sets.proofs.OrderFirst.{all_from}
use Rattle.homa_grants.specs.Entries.{Entry, entry_key, entry_peer, entries_of, placed_if}
use Rattle.homa_grants.specs.Heaps.{slot_item, slot_items, peer_item, peer_items}
use Rattle.homa_grants.proofs.EntryLaws.{filter-passed, filter-swap, filter-again, first-passing, same_number, placed-kept}

-- the messages but those of a peer
abbrev pub others : ℕ → List Entry → List Entry
others p = not_of entry_peer p

-- leaving those of one peer out twice is leaving them out once
others-again : (p : ℕ) (es : List Entry) → others p (others p es) ≡ others p es
others-again p es =
    filter-again (λ e. not (eqb e.peer p)) (λ e. not (eqb e.peer p)) es (all_from (λ e. not (eqb e.peer p) ≡ true → not (eqb e.peer p) ≡ true) es (λ e c h. h))

-- the first of each peer but one, of all or of those of the other peers
firsts-others : (p : ℕ) (es : List Entry) → others p (firsts entry_peer es) ≡ firsts entry_peer (others p es)
unfolding firsts
firsts-others p [] = refl
firsts-others p (e ∷ es) =
    elim (eqb e.peer p) as
    (λ b. eqb e.peer p ≡ b → cond (not b) (e ∷ others p (others e.peer (firsts entry_peer es))) (others p (others e.peer (firsts entry_peer es)))
    ≡ firsts entry_peer (cond (not b) (e ∷ others p es) (others p es))) [
      | true ↦ λ h. ap (λ q. others p (others q (firsts entry_peer es))) (eqb-true e.peer p h) ∙ others-again p (firsts entry_peer es) ∙ firsts-others p es
      | false ↦ λ h. ap (λ l. e ∷ l)
          (filter-swap (λ x. not (eqb x.peer p)) (λ x. not (eqb x.peer e.peer)) (firsts entry_peer es) ∙ ap (others e.peer) (firsts-others p es))
    ] refl

-- numbers that differ do so among the first of each peer
differ-firsts : (number : Entry → ℕ) (es : List Entry) → SendersDiffer number es → SendersDiffer number (firsts entry_peer es)
unfolding firsts
differ-firsts number [] differ = tt
differ-firsts number (e ∷ es) differ = (
  filter-all (λ y. number e ≢ number y) (λ y. not (eqb y.peer e.peer)) (firsts entry_peer es) (firsts-all entry_peer (λ y. number e ≢ number y) es differ.0),
  filter-differ number (λ y. not (eqb y.peer e.peer)) (firsts entry_peer es) (differ-firsts number es differ.1),
)

-- a first message of another peer stays first
first_stays : (e : Entry) (o : Option Entry) (xs ys : List Entry) → xs ≡ placed_if o ys → IsInOrder entry_key ys → KeysDiffer entry_key ys
    → ((f : Entry) → o ≡ Some f → (is_below (entry_key f) (entry_key e) ≡ false) × (not (eqb f.peer e.peer) ≡ true))
    → e ∷ others e.peer xs ≡ placed_if o (e ∷ others e.peer ys)
first_stays e None xs ys same up differ facts = ap (λ l. e ∷ others e.peer l) same
first_stays e (Some f) xs ys same up differ facts =
    let fact = facts f refl in
    ap (λ l. e ∷ others e.peer l) same
    ∙ ap (λ l. e ∷ l) (placed-kept entry_key (λ x. not (eqb x.peer e.peer)) f ys fact.1 up differ)
    ∙ sym (ap (λ b. cond b (f ∷ e ∷ others e.peer ys) (e ∷ placed entry_key f (others e.peer ys))) fact.0)

-- of things in order whose keys differ the first is below the others
all_above : (e : Entry) (es : List Entry) → IsInOrder entry_key (e ∷ es) → KeysDiffer entry_key (e ∷ es)
    → AllByRecursion (λ x. is_below (entry_key e) (entry_key x) ≡ true) es
all_above e es up differ = all_from (λ x. is_below (entry_key e) (entry_key x) ≡ true) es (λ x c.
    below_other (entry_key x) (entry_key e) (λ same. all_at (λ y. entry_key e ≢ entry_key y) es x differ.0 c (sym same))
    ∙ ap not (all_at (λ y. is_below (entry_key y) (entry_key e) ≡ false) es x up.0 c))

-- another peer is no peer that is this one
apart : (p q r : ℕ) → eqb r p ≡ true → eqb q p ≡ false → not (eqb r q) ≡ true
apart p q r same off = grind (arith, nat_tests)

-- the first of each peer are those of the other peers, with the first of this one in its place
firsts-parted : (p : ℕ) (es : List Entry) → IsInOrder entry_key es → SendersDiffer (λ e. e.order) es
    → firsts entry_peer es ≡ placed_if (first_of (entries_of p es)) (others p (firsts entry_peer es))
unfolding firsts
firsts-parted p [] up orders = refl
firsts-parted p (e ∷ es) up orders =
    let differ : KeysDiffer entry_key (e ∷ es) = keys-differ entry_key (e ∷ es) orders in
    let rest : List Entry = others e.peer (firsts entry_peer es) in
    elim (eqb e.peer p) as
    (λ b. eqb e.peer p ≡ b → e ∷ rest ≡ placed_if (first_of (cond b (e ∷ entries_of p es) (entries_of p es)))
    (cond (not b) (e ∷ others p rest) (others p rest))) [
      | true ↦ λ h.
          let same : others p rest ≡ rest = ap (λ q. others p (others q (firsts entry_peer es))) (eqb-true e.peer p h)
          ∙ others-again p (firsts entry_peer es) ∙ ap (λ q. others q (firsts entry_peer es)) (sym (eqb-true e.peer p h)) in
          sym (ap (placed entry_key e) same
          ∙ front entry_key e rest (filter-all (λ x. is_below (entry_key e) (entry_key x) ≡ true) (λ x. not (eqb x.peer e.peer)) (firsts entry_peer es)
          (firsts-all entry_peer (λ x. is_below (entry_key e) (entry_key x) ≡ true) es (all_above e es up differ))))
      | false ↦ λ h.
          first_stays e (first_of (entries_of p es)) (firsts entry_peer es) (others p (firsts entry_peer es)) (firsts-parted p es up.1 orders.1)
          (filter-in_order entry_key (λ x. not (eqb x.peer p)) (firsts entry_peer es) (sorted-firsts entry_peer entry_key es up.1))
          (keys-differ entry_key (others p (firsts entry_peer es))
          (filter-differ (λ x. x.order) (λ x. not (eqb x.peer p)) (firsts entry_peer es) (differ-firsts (λ x. x.order) es orders.1)))
          (λ f is. let fact = first-passing (λ x. is_below (entry_key x) (entry_key e) ≡ false) (λ x. eqb x.peer p) es f up.0 is in
          (fact.0, apart p e.peer f.peer fact.1 h))
          ∙ ap (λ l. placed_if (first_of (entries_of p es)) (e ∷ l))
          (filter-swap (λ x. not (eqb x.peer e.peer)) (λ x. not (eqb x.peer p)) (firsts entry_peer es))
    ] refl

-- the first message of a peer has another key than those of the others
first_differs : (p : ℕ) (es : List Entry) (f : Entry) → SendersDiffer (λ e. e.order) es → first_of (entries_of p es) ≡ Some f
    → DiffersFrom entry_key f (others p (firsts entry_peer es))
first_differs p es f differ is =
    let first = first-passing (Contains es) (λ x. eqb x.peer p) es f (all_from (Contains es) es (λ x c. c)) is in
    filter-passed (λ y. entry_key f ≢ entry_key y) (λ y. not (eqb y.peer p)) (firsts entry_peer es)
    (firsts-all entry_peer (λ y. not (eqb y.peer p) ≡ true → entry_key f ≢ entry_key y) es
    (all_from (λ y. not (eqb y.peer p) ≡ true → entry_key f ≢ entry_key y) es (λ y c h same.
    let is' : f ≡ y = same_number (λ e. e.order) es f y differ first.0 c (ap (λ k. k.1) same) in
    true≢false (sym h ∙ ap not (ap (λ (x : Entry). eqb x.peer p) (sym is') ∙ first.1)))))

-- the item of a peer whose first message is this one
parted_items : (p : ℕ) (mine firsts : List Entry) (o : Option Entry) → first_of mine ≡ o
    → ((f : Entry) → o ≡ Some f → (f.peer ≡ p) × DiffersFrom entry_key f (others p firsts))
    → map peer_item (placed_if o (others p firsts)) ≡ replaced p (option_map (λ i. i.1) (first_item (map slot_item mine))) (map peer_item firsts)
parted_items p [] firsts o is facts = ap (λ v. map peer_item (placed_if v (others p firsts))) (sym is) ∙ sym (without-items peer_item p firsts)
parted_items p (f ∷ mine) firsts o is facts =
    let fact = facts f (sym is) in
    ap (λ v. map peer_item (placed_if v (others p firsts))) (sym is)
    ∙ sym (placed-items peer_item f (others p firsts) fact.1)
    ∙ ap (item_placed (peer_item f)) (sym (without-items peer_item p firsts))
    ∙ ap (λ q. item_placed (q, record { first = f.remaining; second = f.order }) (items_without p (map peer_item firsts))) fact.0

-- the heap over the peers, where the messages of one peer change
pub peer_items-changed : (p : ℕ) (old new : List Entry) → IsInOrder entry_key new → SendersDiffer (λ e. e.order) new → others p new ≡ others p old
    → peer_items new ≡ replaced p (option_map (λ i. i.1) (first_item (slot_items p new))) (peer_items old)
peer_items-changed p old new up orders same =
    let rest : others p (firsts entry_peer new) ≡ others p (firsts entry_peer old) =
    firsts-others p new ∙ ap (firsts entry_peer) same ∙ sym (firsts-others p old) in
    let o = first_of (entries_of p new) in
    ap (map peer_item) (firsts-parted p new up orders ∙ ap (placed_if o) rest)
    ∙ parted_items p (entries_of p new) (firsts entry_peer old) o refl (λ f is. (
      eqb-true f.peer p (first-passing (λ _. Unit {0}) (λ x. eqb x.peer p) new f (everywhere (λ _. Unit {0}) (λ _. tt) new) is).1,
      subst (DiffersFrom entry_key f) rest (first_differs p new f orders is),
    ))
