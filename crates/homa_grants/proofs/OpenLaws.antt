-- A book without messages.
use Rattle.std.proofs.Common.{◌≡◌, ℕ, zero, suc, ◌≤◌, List, [], length, map, get_or, replicate, Option, None, refl, sym, ap, ◌∙◌, arith}
use Rattle.std.specs.List.{AllByRecursion}
use Rattle.std.proofs.lemmas.List.{length-replicate}
use Rattle.place_heap.specs.Held.{Held}
use Rattle.plain_sets.proofs.FirstLaws.{firsts-nil}
use Rattle.homa_plain.specs.declared.id.HostId.{HostId}
use Rattle.homa_grants.specs.Entries.{entry_peer}
use Rattle.homa_grants.specs.Books.{Book}
use Rattle.homa_grants.specs.Heaps.{peer_item, IsHeapOf, AreKept}
use Rattle.place_heap.specs.Heaps.{no_heap, IsEmpty}
use Rattle.homa_grants.proofs.EntryLaws.{all-at}

-- no host
abbrev pub none : Option HostId
none = None

-- no slot stands under a peer
get_or-none : (n i : ℕ) → get_or (replicate n none) i none ≡ none
get_or-none zero i = refl
get_or-none (suc n) zero = refl
get_or-none (suc n) (suc i) = get_or-none n i

-- a book without messages
abbrev pub empty_book : ℕ → ℕ → ℕ → Book
empty_book slots hosts most = record { slots = slots; hosts = hosts; most = most; entries = [] }

-- empty heaps keep it
pub kept_empty : (slots hosts most : ℕ) (heaps : List Held) (peers : Held) → 1 ≤ most → most ≤ 7 → length heaps ≡ hosts
    → AllByRecursion (IsEmpty slots) heaps → IsHeapOf peers hosts []
    → AreKept heaps peers (replicate slots none) (empty_book slots hosts most)
kept_empty slots hosts most heaps peers some few count empty first = record {
  sound = record { in_order = tt; slots = tt; orders = tt; within = tt; some = some; few = few };
  hosts = count;
  slots = length-replicate slots none;
  heap = λ p inside. let at = all-at (IsEmpty slots) heaps p no_heap empty (omega (arith, inside, count)) in record { cap = at.cells; list = at.list };
  first = record { cap = first.cap; list = first.list ∙ ap (map peer_item) (sym (firsts-nil entry_peer)) };
  table = λ s inside. get_or-none slots s;
}
