-- Hosts that have done nothing, one after the other.
use Rattle.std.proofs.Common.{◌≡◌, ◌<◌, ℕ, zero, suc, ◌+◌, List, [], ◌∷◌, ◌++◌, length, get_or, refl, sym, ap, ◌∙◌, arith}
use Rattle.std.specs.Prelude.{map, take}
use Rattle.homa_plain.specs.declared.settings.Settings.{Settings}
use Rattle.homa_plain.specs.Host.{new_host}
use Rattle.homa_plain.specs.World.{new_hosts}
use Rattle.host_view.specs.Seen.{Seen}
use Rattle.host_table.specs.Staged.{known, known_in, known_first}

one_more : (s : Settings) (n i : ℕ) (incs : List ℕ) (d : ℕ) → i < length incs
    → map (known_in s) (new_hosts s n (take (suc i) incs)) ≡ map (known_in s) (new_hosts s n (take i incs))
    ++ known_in s (new_host s (record { 0 = n + i }) (get_or incs i d) 0) ∷ []
one_more s n i [] d l = absurd (omega (arith, l))
one_more s n zero (inc ∷ incs) d l = ap (λ m. known_in s (new_host s (record { 0 = m }) inc 0) ∷ []) (omega (arith))
one_more s n (suc i) (inc ∷ incs) d l =
    ap (λ ks. known_in s (new_host s (record { 0 = n }) inc 0) ∷ ks) (one_more s (suc n) i incs d (omega (arith, l))
    ∙ ap (λ m. map (known_in s) (new_hosts s (suc n) (take i incs)) ++ known_in s (new_host s (record { 0 = m }) (get_or incs i d) 0) ∷ []) (omega (arith)))

-- one more host behind the first ones
pub first_more : (s : Settings) (incs : List ℕ) (i : ℕ) (hosts : List Seen) (h : Seen) → i < length incs
    → map known hosts ≡ known_first s (take i incs) → known h ≡ known_in s (new_host s (record { 0 = i }) (get_or incs i 0) 0)
    → map known (hosts ++ h ∷ []) ≡ known_first s (take (i + 1) incs)
first_more s incs i hosts h l before is =
    let here : i ≡ 0 + i = omega (arith) in
    let next : suc i ≡ i + 1 = omega (arith) in
    map-one hosts ∙ ap (λ k. map known hosts ++ k ∷ []) is ∙ ap (λ ks. ks ++ known_in s (new_host s (record { 0 = i }) (get_or incs i 0) 0) ∷ []) before
    ∙ ap (λ m. known_first s (take i incs) ++ known_in s (new_host s (record { 0 = m }) (get_or incs i 0) 0) ∷ []) here
    ∙ sym (one_more s 0 i incs 0 l) ∙ ap (λ n. known_first s (take n incs)) next where
      map-one : (xs : List Seen) → map known (xs ++ h ∷ []) ≡ map known xs ++ known h ∷ []
      map-one [] = refl
      map-one (x ∷ xs) = ap (λ ks. known x ∷ ks) (map-one xs)
