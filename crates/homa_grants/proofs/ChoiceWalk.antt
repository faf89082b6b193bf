-- The choice, as a walk over the first peers finds it.
use Rattle.std.proofs.Common.{◌≡◌, ℕ, zero, suc, ◌+◌, ◌<◌, ◌≤◌, true, false, not, cond, eqb, List, [], ◌∷◌, ◌++◌, length, map, take, get_or, Option}
use Rattle.std.proofs.Common.{Some, refl, sym, ap, subst, ◌∙◌, arith}
use Rattle.std.specs.List.{AllByRecursion}
use Rattle.std.proofs.lemmas.Bool.{eq-eqb}
use Rattle.std.proofs.lemmas.Bool.Decides.{nat_tests}
use Rattle.std.proofs.lemmas.List.{length-map, length-take, take-map, take_all, map_more}
use Rattle.std.proofs.Math.ListN.{get_or-map}
use Rattle.place_heap.specs.declared.key.Key.{Key}
use Rattle.place_heap.specs.Order.{Item, first_of as first_item}
use Rattle.place_heap.specs.Held.{Held, list_of}
use Rattle.host_heap.proofs.Books.{keys-differ}
use Rattle.plain_sets.specs.Ordered.{firsts}
use Rattle.plain_sets.proofs.OrderLaws.{all_weaker}
use Rattle.plain_sets.proofs.OrderSame.{ordered-sorted}
use Rattle.plain_sets.proofs.FirstLaws.{firsts-all}
use Rattle.plain_sets.proofs.MapMembers.{same_some}
use Rattle.homa_plain.specs.Grants.{chosen_by}
use Rattle.homa_plain.specs.declared.id.HostId.{HostId}
use Rattle.homa_grants.specs.Entries.{Entry, entry_key, entry_peer, entries_of}
use Rattle.homa_grants.specs.Books.{Book, IsSound, IsWithin}
use Rattle.homa_grants.specs.Heaps.{slot_item, slot_items, peer_item, AreKept}
use Rattle.place_heap.specs.Heaps.{no_heap}
use Rattle.homa_grants.proofs.EntryLaws.{all-at, filter-passed}

-- what holds of all holds of the first k
take-all : {X : Type 0} (P : X → Type 0) (k : ℕ) (xs : List X) → AllByRecursion P xs → AllByRecursion P (take k xs)
take-all P zero xs all = tt
take-all P (suc k) [] all = tt
take-all P (suc k) (x ∷ xs) all = (all.0, take-all P k xs all.1)

-- another number isn't
other_number : (m n : ℕ) → not (eqb m n) ≡ true → eqb n m ≡ false
other_number m n h = grind (arith, nat_tests)

-- the first message of each peer is the first in the heap of that peer
all-first : (es : List Entry) → AllByRecursion (λ e. first_item (slot_items e.peer es) ≡ Some (slot_item e)) (firsts entry_peer es)
unfolding firsts
all-first [] = tt
all-first (x ∷ xs) = (
  ap (λ b. first_item (map slot_item (cond b (x ∷ entries_of x.peer xs) (entries_of x.peer xs)))) (eq-eqb x.peer x.peer refl),
  filter-passed (λ e. first_item (slot_items e.peer (x ∷ xs)) ≡ Some (slot_item e)) (λ e. not (eqb e.peer x.peer)) (firsts entry_peer xs)
      (all_weaker (λ e. first_item (slot_items e.peer xs) ≡ Some (slot_item e))
      (λ e. not (eqb e.peer x.peer) ≡ true → first_item (slot_items e.peer (x ∷ xs)) ≡ Some (slot_item e))
      (λ e is other. ap (λ b. first_item (map slot_item (cond b (x ∷ entries_of e.peer xs) (entries_of e.peer xs))))
      (other_number e.peer x.peer other) ∙ is) (firsts entry_peer xs) (all-first xs)),
)

-- no message
abbrev pub no_entry : Entry
no_entry = record { slot = 0; peer = 0; remaining = 0; order = 0 }

-- the messages that are chosen of those in order
abbrev pub chosen_of : Book → List Entry
chosen_of b = take b.most (firsts entry_peer b.entries)

-- they are those of the choice
pub chosen_is : (b : Book) → IsSound b → chosen_by entry_peer entry_key b.most b.entries ≡ chosen_of b
chosen_is b sound =
    ap (λ es. take b.most (firsts entry_peer es)) (ordered-sorted entry_key b.entries sound.in_order (keys-differ entry_key b.entries sound.orders))

-- they are at most 7
pub few_chosen : (b : Book) → length (chosen_of b) ≤ b.most
few_chosen b = omega (arith, length-take b.most (firsts entry_peer b.entries))

module _ {heaps : List Held} {peers : Held} {peer_of : List (Option HostId)} {b : Book} (kept : AreKept heaps peers peer_of b)
    (items : List Item) (taken : items ≡ take b.most (list_of peers)) where
  -- the first peers are those of the chosen messages
  pub items_are : items ≡ map peer_item (chosen_of b)
  items_are = taken ∙ ap (take b.most) kept.first.list ∙ take-map peer_item b.most (firsts entry_peer b.entries)

  module _ (i : ℕ) (inside : i < length items) where
    -- the message that is chosen there
    abbrev pub chosen_at : Entry
    chosen_at = get_or (chosen_of b) i no_entry

    -- it is one of them
    is_chosen : i < length (chosen_of b)
    is_chosen = omega (arith, inside, ap length items_are, length-map (chosen_of b) peer_item)

    -- its peer stands there
    peer_is : (get_or items i (peer_item no_entry)).0 ≡ chosen_at.peer
    peer_is = ap (λ l. (get_or l i (peer_item no_entry)).0) items_are ∙ ap (λ (x : Item). x.0) (get_or-map peer_item (chosen_of b) i no_entry)

    -- and has a heap
    pub peer_in : (get_or items i (peer_item no_entry)).0 < length heaps
    peer_in =
        let all = take-all (IsWithin b.slots b.hosts) b.most (firsts entry_peer b.entries)
        (firsts-all entry_peer (IsWithin b.slots b.hosts) b.entries kept.sound.within) in
        omega (arith, peer_is, (all-at (IsWithin b.slots b.hosts) (chosen_of b) i no_entry all is_chosen).peer, kept.hosts)

    -- there is room for one more
    pub has_room : (told : List ℕ) → told ≡ map (λ e. e.slot) (take i (chosen_of b)) → length told < 8
    has_room told is =
        omega (
          arith,
          ap length is,
          length-map (take i (chosen_of b)) (λ (e : Entry). e.slot),
          length-take i (chosen_of b),
          is_chosen,
          few_chosen b,
          kept.sound.few,
        )

    module _ (heap : Held) (reads : heap ≡ get_or heaps (get_or items i (peer_item no_entry)).0 no_heap) where
      -- its first message is that which is chosen
      pub first_is : first_item (list_of heap) ≡ Some (slot_item chosen_at)
      first_is =
          let own = (kept.heap chosen_at.peer (subst (λ p. p < b.hosts) peer_is (omega (arith, peer_in, kept.hosts)))).list in
          let all = take-all (λ e. first_item (slot_items e.peer b.entries) ≡ Some (slot_item e)) b.most (firsts entry_peer b.entries) (all-first b.entries) in
          ap (λ h. first_item (list_of h)) reads
          ∙ ap (λ p. first_item (list_of (get_or heaps p no_heap))) peer_is ∙ ap first_item own
          ∙ all-at (λ e. first_item (slot_items e.peer b.entries) ≡ Some (slot_item e)) (chosen_of b) i no_entry all is_chosen

      -- one more of the chosen messages is told
      pub told_more : (told : List ℕ) (slot : ℕ) (key : Key) → told ≡ map (λ e. e.slot) (take i (chosen_of b)) → first_item (list_of heap) ≡ Some (slot, key)
          → told ++ slot ∷ [] ≡ map (λ e. e.slot) (take (i + 1) (chosen_of b))
      told_more told slot key is first =
          let slot_is : slot ≡ chosen_at.slot = ap (λ (x : Item). x.0) (same_some (slot, key) (slot_item chosen_at) (sym first ∙ first_is)) in
          (λ j. is j ++ slot_is j ∷ []) ∙ sym (map_more (λ (e : Entry). e.slot) (chosen_of b) i no_entry is_chosen)

  -- after the last all are told
  pub told_all : (i : ℕ) → length items ≤ i → take i (chosen_of b) ≡ chosen_of b
  told_all i done = take_all i (chosen_of b) (omega (arith, done, ap length items_are, length-map (chosen_of b) peer_item))
