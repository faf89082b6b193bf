-- The messages of a book, where that of one slot changes.
use Rattle.std.proofs.Common.{◌≡◌, ◌≢◌, ℕ, ◌<◌, Bool, true, false, not, cond, eqb, List, [], ◌∷◌, Option, Some, None, map, refl, sym, ap, ◌∙◌, arith}
use Rattle.std.specs.List.{AllByRecursion}
use Rattle.std.specs.Option.{option_map}
use Rattle.std.proofs.lemmas.Bool.{eqb-true, eq-eqb, true≢false}
use Rattle.std.proofs.lemmas.Bool.Decides.{nat_tests}
use Rattle.place_heap.specs.declared.key.Key.{Key}
use Rattle.place_heap.specs.Order.{placed as item_placed, replaced}
use Rattle.host_heap.proofs.Books.{placed-items, without-items, key-differs, keys-differ, others-left, free-others, filter-in_order, filter-differ}
use Rattle.host_heap.proofs.Books.{placed-differ}
use Rattle.plain_sets.specs.Ordered.{placed, IsInOrder, DiffersFrom, SendersDiffer}
use Rattle.plain_sets.proofs.OrderLaws.{all_weaker, placed-all, sorted-placed}
use Rattle.plain_sets.proofs.OrderSame.{everywhere, filter-all}
use Rattle.homa_grants.specs.Entries.{Entry, entry_key, entries_of, without, entry_of, placed_if, IsOwnOrder}
use Rattle.homa_grants.specs.Books.{IsWithin}
use Rattle.homa_grants.specs.Heaps.{slot_item, slot_items, message_at}
use Rattle.homa_grants.proofs.EntryLaws.{filter-swap, filter-within, find-filter, placed-kept, placed-gone, find-placed_other, find-placed_same}
use Rattle.homa_grants.proofs.EntryLaws.{none-left, entry_of-without}
use Rattle.homa_grants.proofs.FirstChanges.{others}

-- the new messages are the old ones, of which that of a slot, which is of this peer, has this key, or is gone
pub record IsPut (slots hosts : ℕ) (old new : List Entry) (slot peer : ℕ) (key : Option Key) : Type 0 where
  pub in_order : IsInOrder entry_key new
  pub slots_differ : SendersDiffer (λ e. e.slot) new
  pub orders : SendersDiffer (λ e. e.order) new
  pub within : AllByRecursion (IsWithin slots hosts) new
  pub mine : slot_items peer new ≡ replaced slot key (slot_items peer old)
  pub other_peers : (q : ℕ) → q ≢ peer → entries_of q new ≡ entries_of q old
  pub rest : others peer new ≡ others peer old
  pub found : entry_of slot new ≡ option_map (λ k. message_at peer (slot, k)) key
  pub not_found : (s : ℕ) → s ≢ slot → entry_of s new ≡ entry_of s old

-- a number that is one isn't another
other_test : (a b c : ℕ) → eqb a b ≡ true → b ≢ c → eqb a c ≡ false
other_test a b c e ne = grind (arith, nat_tests)

-- where a test may not hold its denial does
denied : (b : Bool) → (b ≡ true → ⊥) → not b ≡ true
denied true never = absurd (never refl)
denied false never = refl

-- the denial of a test that holds doesn't
not_denied : {P : Type 0} (b : Bool) → b ≡ true → not b ≡ true → P
not_denied b e h = absurd (true≢false (sym h ∙ ap not e))

-- each message of a slot is of the peer that its first one is of, where slots differ
pub all_mine : (slot peer : ℕ) (es : List Entry) → SendersDiffer (λ e. e.slot) es → ((e : Entry) → entry_of slot es ≡ Some e → e.peer ≡ peer)
    → AllByRecursion (λ e. e.slot ≡ slot → e.peer ≡ peer) es
all_mine slot peer [] differ = λ same. tt
all_mine slot peer (e ∷ es) differ =
    elim (eqb e.slot slot) as
    (λ b. eqb e.slot slot ≡ b → ((f : Entry) → cond b (Some e) (entry_of slot es) ≡ Some f → f.peer ≡ peer) → (e.slot ≡ slot → e.peer ≡ peer)
    × AllByRecursion (λ e. e.slot ≡ slot → e.peer ≡ peer) es) [
      | true ↦ λ h same. (
        λ _. same e refl,
        all_weaker (λ (y : Entry). e.slot ≢ y.slot) (λ (y : Entry). y.slot ≡ slot → y.peer ≡ peer)
            (λ y ne is. absurd (ne (eqb-true e.slot slot h ∙ sym is))) es differ.0,
      )
      | false ↦ λ h same. (λ is. absurd (true≢false (sym (eq-eqb e.slot slot is) ∙ h)), all_mine slot peer es differ.1 same)
    ] refl

module _ (slots hosts : ℕ) (es : List Entry) (slot peer : ℕ) (up : IsInOrder entry_key es) (slots_differ : SendersDiffer (λ e. e.slot) es)
    (orders : SendersDiffer (λ e. e.order) es)
    (within : AllByRecursion (IsWithin slots hosts) es) (mine : AllByRecursion (λ e. e.slot ≡ slot → e.peer ≡ peer) es) where
  -- whether a message is of another slot
  abbrev other_slot : Entry → Bool
  other_slot e = not (eqb e.slot slot)

  -- a message of another peer is of another slot
  apart : (t : Entry → Bool) → ((e : Entry) → t e ≡ true → e.peer ≡ peer → ⊥) → AllByRecursion (λ e. t e ≡ true → other_slot e ≡ true) es
  apart t never = all_weaker (λ (e : Entry). e.slot ≡ slot → e.peer ≡ peer) (λ (e : Entry). t e ≡ true → other_slot e ≡ true)
      (λ e own h. denied (eqb e.slot slot) (λ is. never e h (own (eqb-true e.slot slot is)))) es mine

  -- the messages of another peer stay
  other_stays : (q : ℕ) → q ≢ peer → entries_of q (without slot es) ≡ entries_of q es
  other_stays q ne = filter-within (λ e. eqb e.peer q) other_slot es (apart (λ e. eqb e.peer q) (λ e h is. ne (sym (eqb-true e.peer q h) ∙ is)))

  -- and all together
  rest_stays : others peer (without slot es) ≡ others peer es
  rest_stays = filter-within (λ e. not (eqb e.peer peer)) other_slot es
      (apart (λ e. not (eqb e.peer peer)) (λ e h is. not_denied (eqb e.peer peer) (eq-eqb e.peer peer is) h))

  -- the messages of this peer
  mine_without : slot_items peer (without slot es) ≡ replaced slot None (slot_items peer es)
  mine_without = ap (map slot_item) (filter-swap (λ e. eqb e.peer peer) other_slot es) ∙ sym (without-items slot_item slot (entries_of peer es))

  -- another slot's message stays
  found_other : (s : ℕ) → s ≢ slot → entry_of s (without slot es) ≡ entry_of s es
  found_other s ne =
      find-filter (λ e. eqb e.slot s) other_slot es
      (everywhere (λ e. eqb e.slot s ≡ true → other_slot e ≡ true) (λ e h. ap not (other_test e.slot s slot h ne)) es)

  -- the message of the slot is gone
  pub put_none : IsPut slots hosts es (without slot es) slot peer None
  put_none = record {
    in_order = filter-in_order entry_key other_slot es up;
    slots_differ = filter-differ (λ e. e.slot) other_slot es slots_differ;
    orders = filter-differ (λ e. e.order) other_slot es orders;
    within = filter-all (IsWithin slots hosts) other_slot es within;
    mine = mine_without;
    other_peers = other_stays;
    rest = rest_stays;
    found = entry_of-without slot es;
    not_found = found_other;
  }

  module _ (key : Key) (slot_in : slot < slots) (peer_in : peer < hosts) (own : IsOwnOrder slot key.second es) where
    -- the message with its new key
    abbrev now : Entry
    now = message_at peer (slot, key)

    -- the order of the message is none of the others'
    order_differs : AllByRecursion (λ y. y.order ≢ key.second) (without slot es)
    order_differs = free-others (λ (y : Entry). y.slot) (λ y. y.order) slot key.second es own

    -- nor is its key
    key_differs : DiffersFrom entry_key now (without slot es)
    key_differs = key-differs entry_key now (without slot es) order_differs

    -- the message of the slot has this key
    pub put_some : IsPut slots hosts es (placed entry_key now (without slot es)) slot peer (Some key)
    put_some =
        let w : List Entry = without slot es in
        let none = put_none in
        record {
          in_order = sorted-placed entry_key now w none.in_order;
          slots_differ = placed-differ (λ e. e.slot) entry_key now w (others-left (λ (e : Entry). e.slot) slot es) none.slots_differ;
          orders = placed-differ (λ e. e.order) entry_key now w order_differs none.orders;
          within = placed-all entry_key (IsWithin slots hosts) now w (record { slot = slot_in; peer = peer_in }) none.within;
          mine =
              ap (map slot_item)
              (placed-kept entry_key (λ e. eqb e.peer peer) now w (eq-eqb peer peer refl) none.in_order (keys-differ entry_key w none.orders))
              ∙ sym (placed-items slot_item now (entries_of peer w)
              (filter-all (λ y. entry_key now ≢ entry_key y) (λ e. eqb e.peer peer) w key_differs)) ∙ ap (item_placed (slot, key)) mine_without;
          other_peers =
              λ q ne. placed-gone entry_key (λ e. eqb e.peer q) now w (other_test peer peer q (eq-eqb peer peer refl) (λ e. ne (sym e))) ∙ other_stays q ne;
          rest = placed-gone entry_key (λ e. not (eqb e.peer peer)) now w (ap not (eq-eqb peer peer refl)) ∙ rest_stays;
          found = find-placed_same entry_key (λ e. eqb e.slot slot) now w (eq-eqb slot slot refl) (none-left slot es);
          not_found = λ s ne. find-placed_other entry_key (λ e. eqb e.slot s) now w (other_test slot slot s (eq-eqb slot slot refl) (λ e. ne (sym e)))
              ∙ found_other s ne;
        }

  -- the message of the slot has this key, or is gone
  pub put_if : (key : Option Key) → slot < slots → peer < hosts → ((k : Key) → key ≡ Some k → IsOwnOrder slot k.second es)
      → IsPut slots hosts es (placed_if (option_map (λ k. message_at peer (slot, k)) key) (without slot es)) slot peer key
  put_if None slot_in peer_in own = put_none
  put_if (Some key) slot_in peer_in own = put_some key slot_in peer_in (own key refl)
