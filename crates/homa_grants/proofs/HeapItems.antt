-- The messages of a peer in its heap.
use Rattle.std.proofs.Common.{◌≡◌, ℕ, true, false, cond, eqb, List, [], ◌∷◌, map, Some, refl, ap, ◌∙◌}
use Rattle.std.proofs.lemmas.Bool.{eq-eqb}
use Rattle.place_heap.specs.Order.{key_in}
use Rattle.plain_sets.proofs.MapMembers.{same_some}
use Rattle.homa_grants.specs.Entries.{Entry, entries_of, entry_of}
use Rattle.homa_grants.specs.Heaps.{slot_item, slot_items}

-- the key of a message in the heap of its peer
pub key_in-slot_items : (slot peer : ℕ) (es : List Entry) (e : Entry) → entry_of slot es ≡ Some e → e.peer ≡ peer
    → key_in slot (slot_items peer es) ≡ Some (record { first = e.remaining; second = e.order })
key_in-slot_items slot peer [] e = λ is mine. absurd (cc is)
key_in-slot_items slot peer (x ∷ xs) e =
    elim (eqb x.slot slot) as (λ b. eqb x.slot slot ≡ b → cond b (Some x) (entry_of slot xs) ≡ Some e → e.peer ≡ peer
    → key_in slot (map slot_item (cond (eqb x.peer peer) (x ∷ entries_of peer xs) (entries_of peer xs))) ≡ Some
    (record { first = e.remaining; second = e.order })) [
      | true ↦ λ h is mine.
          let same : x ≡ e = same_some x e is in
          ap (λ b. key_in slot (map slot_item (cond b (x ∷ entries_of peer xs) (entries_of peer xs))))
          (eq-eqb x.peer peer (ap (λ (y : Entry). y.peer) same ∙ mine))
          ∙ ap (λ b. cond b (Some (record { first = x.remaining; second = x.order })) (key_in slot (slot_items peer xs))) h
          ∙ ap (λ (y : Entry). Some (record { first = y.remaining; second = y.order })) same
      | false ↦ λ h is mine. elim (eqb x.peer peer) as
          (λ b. key_in slot (map slot_item (cond b (x ∷ entries_of peer xs) (entries_of peer xs))) ≡ Some (record { first = e.remaining; second = e.order })) [
            | true ↦ ap (λ b. cond b (Some (record { first = x.remaining; second = x.order })) (key_in slot (slot_items peer xs))) h
                ∙ key_in-slot_items slot peer xs e is mine
            | false ↦ key_in-slot_items slot peer xs e is mine
          ]
    ] refl
