-- How the messages of a book lie in heaps.
use Rattle.std.specs.Prelude.{◌≡◌, ℕ, suc, ◌<◌, List, [], ◌∷◌, ◌++◌, length, map, Option, None, slice_index_or}
use Rattle.std.specs.Option.{option_map}
use Rattle.place_heap.specs.Order.{Item}
use Rattle.place_heap.specs.Held.{Held, list_of}
use Rattle.place_heap.specs.Heaps.{no_heap}
use Rattle.plain_sets.specs.Ordered.{ordered, firsts}
use Rattle.homa_plain.specs.declared.id.HostId.{HostId}
use Rattle.homa_grants.specs.Entries.{Entry, entry_key, entry_peer, entries_of, entry_of}
use Rattle.homa_grants.specs.Books.{Book, IsSound}

-- the slot of a message under its key
abbrev pub slot_item : Entry → Item
slot_item e = (e.slot, record { first = e.remaining; second = e.order })

-- the peer of a message under its key
abbrev pub peer_item : Entry → Item
peer_item e = (e.peer, record { first = e.remaining; second = e.order })

-- the slots of a peer's messages, in order
abbrev pub slot_items : ℕ → List Entry → List Item
slot_items peer entries = map slot_item (entries_of peer entries)

-- the peers under the keys of their first messages, in order
abbrev pub peer_items : List Entry → List Item
peer_items entries = map peer_item (firsts entry_peer entries)

-- the messages of a heap, which are of this peer
abbrev pub message_at : ℕ → Item → Entry
message_at peer item = record { slot = item.0; peer = peer; remaining = item.1.first; order = item.1.second }

-- the messages of all heaps, the first of which is this peer's
abbrev pub messages_from : ℕ → List Held → List Entry
messages_from peer [] = []
messages_from peer (heap ∷ heaps) = map (message_at peer) (list_of heap) ++ messages_from (suc peer) heaps

-- the messages of all heaps, in order
unfoldable pub messages : List Held → List Entry
messages heaps = ordered entry_key (messages_from 0 heaps)

-- the peer of a message as a host
abbrev pub host_of : Entry → HostId
host_of e = record { 0 = e.peer }

-- a heap with these items, whose numbers are below a bound
pub record IsHeapOf (heap : Held) (bound : ℕ) (items : List Item) : Type 0 where
  pub cap : length heap.cells ≡ bound
  pub list : list_of heap ≡ items

-- heaps, one over their peers, and a table of the peers of the slots stand for a book
pub record AreKept (heaps : List Held) (peers : Held) (peer_of : List (Option HostId)) (b : Book) : Type 0 where
  pub sound : IsSound b
  pub hosts : length heaps ≡ b.hosts
  pub slots : length peer_of ≡ b.slots
  pub heap : (peer : ℕ) → peer < b.hosts → IsHeapOf (slice_index_or heaps peer no_heap) b.slots (slot_items peer b.entries)
  pub first : IsHeapOf peers b.hosts (peer_items b.entries)
  pub table : (slot : ℕ) → slot < b.slots → slice_index_or peer_of slot None ≡ option_map host_of (entry_of slot b.entries)
