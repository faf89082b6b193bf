-- The list of a heap that doesn't hold a slot.
use Rattle.std.proofs.Common.{◌≡◌, ℕ, true, false, cond, eqb, List, [], ◌∷◌, Some, None, refl, ap}
use Rattle.place_heap.specs.Order.{Item, without, key_in}

-- nothing is taken out where the slot has no key
pub none_out : (slot : ℕ) (xs : List Item) → key_in slot xs ≡ None → without slot xs ≡ xs
none_out slot [] = λ e. refl
none_out slot (x ∷ xs) =
    elim (eqb x.0 slot) as (λ b. cond b (Some x.1) (key_in slot xs) ≡ None → cond b (without slot xs) (x ∷ without slot xs) ≡ x ∷ xs) [
      | true ↦ λ e. cc
      | false ↦ λ e. ap (λ l. x ∷ l) (none_out slot xs e)
    ]
