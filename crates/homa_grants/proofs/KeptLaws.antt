-- A book that is kept in its heaps and its table.
use Rattle.std.proofs.Common.{◌≡◌, ℕ, ◌<◌, eqb, List, length, map, Option, Some, None, IsSome, get_or, set, refl, sym, ap, subst, ◌∙◌, arith}
use Rattle.std.proofs.Common.{length-set, ⊎_elim}
use Rattle.std.specs.List.{AllByRecursion, Contains}
use Rattle.std.specs.Option.{option_map}
use Rattle.std.proofs.lemmas.Bool.{cases_eq, eqb-true}
use Rattle.std.proofs.lemmas.List.{get_or-set_same, get_or-set_other, get_or_read}
use Rattle.place_heap.specs.declared.key.Key.{Key}
use Rattle.place_heap.specs.Order.{key_in, first_of as first_item, replaced}
use Rattle.place_heap.specs.Held.{Held, list_of}
use Rattle.plain_sets.proofs.OrderLaws.{all_weaker}
use Rattle.homa_plain.specs.declared.id.HostId.{HostId}
use Rattle.homa_grants.specs.Entries.{Entry, entry_of, IsOwnOrder}
use Rattle.homa_grants.specs.Books.{Book, IsWithin}
use Rattle.homa_grants.specs.Heaps.{slot_item, slot_items, peer_items, message_at, messages, host_of, IsHeapOf, AreKept}
use Rattle.place_heap.specs.Heaps.{no_heap}
use Rattle.plain_sets.proofs.OrderFirst.{all_from}
use Rattle.plain_sets.proofs.MapMembers.{same_some}
use Rattle.homa_grants.proofs.EntryLaws.{found-passes, same_number}
use Rattle.homa_grants.proofs.HeapItems.{key_in-slot_items}
use Rattle.homa_grants.proofs.FirstChanges.{peer_items-changed}
use Rattle.homa_grants.proofs.ViewLaws.{messages-same}
use Rattle.homa_grants.proofs.PutLaws.{IsPut}

-- the host of a message is its peer
host_with : (slot peer : ℕ) (key : Option Key)
    → option_map (λ _. record { 0 = peer }) key ≡ option_map host_of (option_map (λ k. message_at peer (slot, k)) key)
host_with slot peer None = refl
host_with slot peer (Some key) = refl

-- a message's host is its peer
some_host : (o : Option Entry) (host : HostId) → option_map host_of o ≡ Some host → (e : Entry) × (o ≡ Some e) × (e.peer ≡ host.0)
some_host None host e = absurd (cc e)
some_host (Some e) host is = (e, refl, ap (λ (h : HostId). h.0) (same_some (host_of e) host is))

-- a message that is there
some_entry : (o : Option Entry) → IsSome o → (e : Entry) × (o ≡ Some e)
some_entry None has = absurd (cc has)
some_entry (Some e) has = (e, refl)

-- what is there isn't missing
pub not_none : {X : Type 0} (o : Option X) → IsSome o → o ≡ None → ⊥
not_none None has is = cc has
not_none (Some x) has is = cc is

-- without a host there is no message
no_host : (o : Option Entry) → option_map host_of o ≡ None → o ≡ None
no_host None is = refl
no_host (Some e) is = absurd (cc is)

-- the message of a slot, which is of a peer
pub record IsFound (b : Book) (slot peer : ℕ) : Type 0 where
  pub entry : Entry
  pub found : entry_of slot b.entries ≡ Some entry
  pub listed : Contains b.entries entry
  pub peer_is : entry.peer ≡ peer
  pub slot_is : entry.slot ≡ slot
  pub slot_in : slot < b.slots
  pub peer_in : peer < b.hosts

-- what heaps, a table and a number of messages are seen as
abbrev pub seen : List Held → List (Option HostId) → ℕ → Book
seen heaps peer_of most = record { slots = length peer_of; hosts = length heaps; most = most; entries = messages heaps }

-- a book that is kept, by the name that the code has for it
pub kept_as : {heaps : List Held} {peers : Held} {peer_of : List (Option HostId)} {a b : Book} → a ≡ b → AreKept heaps peers peer_of a
    → AreKept heaps peers peer_of b
kept_as {heaps = heaps} {peers = peers} {peer_of = peer_of} same kept = subst (AreKept heaps peers peer_of) same kept

module _ {heaps : List Held} {peers : Held} {peer_of : List (Option HostId)} {b : Book} (kept : AreKept heaps peers peer_of b) where
  -- the heaps of a kept book are seen as that book
  pub kept_view : (most : ℕ) → most ≡ b.most → seen heaps peer_of most ≡ b
  kept_view most most_is =
      let within : AllByRecursion (λ e. e.peer < length heaps) b.entries =
      all_weaker (IsWithin b.slots b.hosts) (λ (e : Entry). e.peer < length heaps) (λ e w. omega (arith, w.peer, kept.hosts)) b.entries kept.sound.within in
      let same = messages-same heaps b.entries kept.sound.in_order kept.sound.orders within (λ p inside. (kept.heap p (omega (arith, kept.hosts))).list) in
      λ i. record { slots = kept.slots i; hosts = kept.hosts i; most = most_is i; entries = same i }

  -- so they keep what they are seen as
  pub view_kept : (most : ℕ) → most ≡ b.most → AreKept heaps peers peer_of (seen heaps peer_of most)
  view_kept most most_is = subst (AreKept heaps peers peer_of) (sym (kept_view most most_is)) kept

  -- a peer in the table has the message of the slot
  pub in_table : (slot : ℕ) (read : Option HostId) (host : HostId) → slot < b.slots → read ≡ get_or peer_of slot read → read ≡ Some host → IsFound b slot host.0
  in_table slot read host inside reads is =
      let some = some_host (entry_of slot b.entries) host
      (sym (kept.table slot inside) ∙ sym (get_or_read peer_of slot read (omega (arith, inside, kept.slots)) reads None) ∙ is) in
      let facts = found-passes (IsWithin b.slots b.hosts) (λ e. eqb e.slot slot) b.entries some.0 kept.sound.within some.1 in
      record {
        entry = some.0;
        found = some.1;
        listed = (found-passes (Contains b.entries) (λ e. eqb e.slot slot) b.entries some.0 (all_from (Contains b.entries) b.entries (λ e c. c)) some.1).0;
        peer_is = some.2;
        slot_is = eqb-true some.0.slot slot facts.1;
        slot_in = inside;
        peer_in = subst (λ p. p < b.hosts) some.2 facts.0.peer;
      }

  -- no peer in the table, no message of the slot
  pub not_in_table : (slot : ℕ) (read : Option HostId) → slot < b.slots → read ≡ get_or peer_of slot read → read ≡ None → entry_of slot b.entries ≡ None
  not_in_table slot read inside reads is =
      no_host (entry_of slot b.entries) (sym (kept.table slot inside) ∙ sym (get_or_read peer_of slot read (omega (arith, inside, kept.slots)) reads None) ∙ is)

  -- a slot that has a message is one of the book's
  pub slot_within : (slot : ℕ) → IsSome (entry_of slot b.entries) → slot < b.slots
  slot_within slot has =
      let some = some_entry (entry_of slot b.entries) has in
      let facts = found-passes (IsWithin b.slots b.hosts) (λ e. eqb e.slot slot) b.entries some.0 kept.sound.within some.1 in
      subst (λ s. s < b.slots) (eqb-true some.0.slot slot facts.1) facts.0.slot

  module _ {slot peer : ℕ} (message : IsFound b slot peer) where
    -- the order of a message is its own
    pub own_order : IsOwnOrder slot message.entry.order b.entries
    own_order = all_from (λ e. e.order ≡ message.entry.order → e.slot ≡ slot) b.entries (λ e c same.
        ap (λ (x : Entry). x.slot) (same_number (λ e. e.order) b.entries e message.entry kept.sound.orders c message.listed same) ∙ message.slot_is)

    -- the message that is found is of this peer
    pub own_peer : (e : Entry) → entry_of slot b.entries ≡ Some e → e.peer ≡ peer
    own_peer e is = ap (λ (x : Entry). x.peer) (same_some e message.entry (sym is ∙ message.found)) ∙ message.peer_is

    module _ (heap : Held) (reads : heap ≡ get_or heaps peer no_heap) where
      -- the heap that is read is that of the peer
      heap_is : IsHeapOf heap b.slots (slot_items peer b.entries)
      heap_is = subst (λ h. IsHeapOf h b.slots (slot_items peer b.entries)) (sym reads) (kept.heap peer message.peer_in)

      -- it has a place for the slot
      pub slot_fits : slot < length heap.cells
      slot_fits = omega (arith, message.slot_in, heap_is.cap)

      -- where the key of the message stands
      pub own_key : key_in slot (list_of heap) ≡ Some (record { first = message.entry.remaining; second = message.entry.order })
      own_key = ap (key_in slot) heap_is.list ∙ key_in-slot_items slot peer b.entries message.entry message.found message.peer_is

  module _ (slot peer : ℕ) (key : Option Key) (new : List Entry) (put : IsPut b.slots b.hosts b.entries new slot peer key) (slot_in : slot < b.slots)
      (peer_in : peer < b.hosts)
      (heap peers' : Held) (host : Option HostId) (first : Option Key)
      (list : list_of heap ≡ replaced slot key (list_of (get_or heaps peer no_heap))) (cap : length heap.cells ≡ length (get_or heaps peer no_heap).cells)
      (first_is : first ≡ option_map (λ i. i.1) (first_item (list_of heap)))
      (list' : list_of peers' ≡ replaced peer first (list_of peers)) (cap' : length peers'.cells ≡ length peers.cells)
      (host_is : host ≡ option_map (λ _. record { 0 = peer }) key) where
    -- the book with these messages
    abbrev put_book : Book
    put_book = record b { entries = new }

    -- the heap of the peer holds its messages
    own_list : list_of heap ≡ slot_items peer new
    own_list = list ∙ ap (replaced slot key) (kept.heap peer peer_in).list ∙ sym put.mine

    -- and each heap
    heap_at : (q : ℕ) → q < b.hosts → IsHeapOf (get_or (set heaps peer heap) q no_heap) b.slots (slot_items q new)
    heap_at q inside =
        ⊎_elim (λ e. subst (λ n. IsHeapOf (get_or (set heaps peer heap) n no_heap) b.slots (slot_items n new)) (sym e)
        (subst (λ h. IsHeapOf h b.slots (slot_items peer new)) (sym (get_or-set_same heaps peer heap no_heap (omega (arith, peer_in, kept.hosts))))
        (record { cap = cap ∙ (kept.heap peer peer_in).cap; list = own_list })))
        (λ ne. subst (λ h. IsHeapOf h b.slots (slot_items q new)) (sym (get_or-set_other heaps peer q heap no_heap ne))
        (record { cap = (kept.heap q inside).cap; list = (kept.heap q inside).list ∙ ap (map slot_item) (sym (put.other_peers q ne)) })) (cases_eq q peer)

    -- the heap over the peers holds their first messages
    peers_list : list_of peers' ≡ peer_items new
    peers_list =
        list' ∙ ap (λ k. replaced peer k (list_of peers)) (first_is ∙ ap (λ l. option_map (λ i. i.1) (first_item l)) own_list)
        ∙ ap (replaced peer (option_map (λ i. i.1) (first_item (slot_items peer new)))) kept.first.list
        ∙ sym (peer_items-changed peer b.entries new put.in_order put.orders put.rest)

    -- the table has the peer of each slot
    table_at : (s : ℕ) → s < b.slots → get_or (set peer_of slot host) s None ≡ option_map host_of (entry_of s new)
    table_at s inside =
        ⊎_elim (λ e. subst (λ n. get_or (set peer_of slot host) n None ≡ option_map host_of (entry_of n new)) (sym e)
        (get_or-set_same peer_of slot host None (omega (arith, slot_in, kept.slots)) ∙ host_is ∙ host_with slot peer key
        ∙ ap (option_map host_of) (sym put.found)))
        (λ ne. get_or-set_other peer_of slot s host None ne ∙ kept.table s inside ∙ ap (option_map host_of) (sym (put.not_found s ne))) (cases_eq s slot)

    -- the new heaps and the new table keep the book with these messages
    pub kept_put : AreKept (set heaps peer heap) peers' (set peer_of slot host) put_book
    kept_put = record {
      sound =
          record { in_order = put.in_order; slots = put.slots_differ; orders = put.orders; within = put.within; some = kept.sound.some; few = kept.sound.few };
      hosts = length-set heaps peer heap ∙ kept.hosts;
      slots = length-set peer_of slot host ∙ kept.slots;
      heap = heap_at;
      first = record { cap = cap' ∙ kept.first.cap; list = peers_list };
      table = table_at;
    }
