-- The first of the messages that may be sent.
use Rattle.std.proofs.Common.{◌≡◌, ◌↔◌, List, [], ◌∷◌, IsNone, IfSome, ℕ, ◌<◌, map, refl, sym, ap, ◌∙◌}
use Rattle.std.specs.Option.{option_map}
use Rattle.std.specs.List.{AllByRecursion}
use Rattle.plain_sets.specs.Ordered.{first_of, IsInOrder, SendersDiffer}
use Rattle.plain_sets.proofs.OrderSame.{ordered-sorted}
use Rattle.homa_plain.specs.SentNext.{least}
use Rattle.place_heap.specs.Order as heap
use Rattle.place_heap.specs.Order.{Item}
use Rattle.host_heap.proofs.Books.{keys-differ}
use Rattle.homa_pacer.specs.Pace.{ready_key, ready_of}

-- the slot of the first item is that of the least message
pub least-first : (xs : List Item) → IsInOrder ready_key (map ready_of xs) → SendersDiffer (λ r. r.order) (map ready_of xs)
    → option_map (λ (x : Item). x.0) (heap.first_of xs) ≡ option_map (λ r. r.slot) (least ready_key (map ready_of xs))
least-first xs up differ =
    by xs ∙ ap (λ l. option_map (λ r. r.slot) (first_of l))
    (sym (ordered-sorted ready_key (map ready_of xs) up (keys-differ ready_key (map ready_of xs) differ))) where
      by : (xs : List Item) → option_map (λ (x : Item). x.0) (heap.first_of xs) ≡ option_map (λ r. r.slot) (first_of (map ready_of xs))
      by [] = refl
      by (x ∷ xs) = refl

-- there is none exactly where there is no message
pub none-first : (xs : List Item) → IsNone (option_map (λ (x : Item). x.0) (heap.first_of xs)) ↔ (map ready_of xs ≡ [])
none-first [] = (λ _. refl, λ _. refl)
none-first (x ∷ xs) = (λ h. absurd cc, λ h. absurd cc)

-- and else its slot is below the number of slots
pub within-first : (slots : ℕ) (xs : List Item) → AllByRecursion (λ r. r.slot < slots) (map ready_of xs)
    → IfSome (option_map (λ (x : Item). x.0) (heap.first_of xs)) (λ slot. slot < slots)
within-first slots [] within = tt
within-first slots (x ∷ xs) within = within.0
