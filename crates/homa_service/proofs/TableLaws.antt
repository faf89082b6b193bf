-- A host's place after a replacement, for callers.
use Rattle.std.proofs.Common.{◌≡◌, ◌↔◌, ℕ, zero, suc, ◌-◌, ◌<◌, List, [], ◌∷◌, length, refl, sym, subst, true≢false, arith, Option, Result, Ok, Err}
use Rattle.std.proofs.Common.{OnOk, OnErr, IsErr, IsSome, slice_set}
use Rattle.std.proofs.lemmas.Option.{slice_get-get_or}
use Rattle.homa_service.specs.Table.{place_of, last_of}

module _ {A : Type 0} where
  -- some have a last one
  last_some : (xs : List A) → (xs ≡ [] → ⊥) → IsSome (last_of xs)
  last_some [] h = absurd (h (λ _. []))
  last_some (x ∷ xs) h =
      let within : length (x ∷ xs) - 1 < length (x ∷ xs) = omega arith in
      subst IsSome (sym (slice_get-get_or (x ∷ xs) (length (x ∷ xs) - 1) x within)) refl

  -- a full place in which something else is put is full
  full_set : (places : List (Option A)) (host : ℕ) (o : Option A) → IsSome (place_of places host) → IsSome o → IsSome (place_of (slice_set places host o) host)
  full_set [] host o h s = absurd (true≢false (sym h))
  full_set (p ∷ places) zero o h s = s
  full_set (p ∷ places) (suc host) o h s = full_set places host o h s

  -- a host's place is full after a replacement too, whether there was a spare or none
  pub full-replaced : {T E : Type 0} (result : Result T E) (old new : List (Option A)) (spares : List A) (host : ℕ) → IsErr result ↔ (spares ≡ [])
      → OnOk result (new ≡ slice_set old host (last_of spares)) → OnErr result (new ≡ old) → IsSome (place_of old host) → IsSome (place_of new host)
  full-replaced (Ok x) old new spares host none ok err h =
      subst (λ (places : List (Option A)). IsSome (place_of places host)) (sym ok)
      (full_set old host (last_of spares) h (last_some spares (λ e. true≢false (sym (none.1 e)))))
  full-replaced (Err x) old new spares host none ok err h = subst (λ (places : List (Option A)). IsSome (place_of places host)) (sym err) h
