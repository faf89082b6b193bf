-- The bytes of a list that aren't missing, as a map, and the plain incoming message with these bytes.
use Rattle.std.proofs.Common.{◌≡◌, ℕ, ◌+◌, ◌-◌, ◌≤◌, Bool, true, false, not, ◌&&◌, cond, ltb, leb, List, length, refl, sym, ap, ◌∙◌, arith, None, inl, inr}
use Rattle.std.specs.Option.{is_some}
use Rattle.std.specs.List.{slice_get}
use Rattle.std.specs.Ordering.{nat_cmp}
use Rattle.std.specs.Cmp.{nat_cmp_total}
use Rattle.std.specs.FinMap.{nat_cmp-IsAntisymmetric}
use Rattle.std.proofs.lemmas.Bool.{lt-ltb, ltb-true, cases_lt, and_parts, true≢false}
use Rattle.std.proofs.lemmas.Option.{slice_get_past}
use Rattle.plain_sets.specs.Maps.{empty, get, insert_all, len, key_set}
use Rattle.plain_sets.specs.Numbers.{Numbers, has, IsBelow, missing}
use Rattle.plain_sets.proofs.MapLaws.{get-empty, get-retain}
use Rattle.plain_sets.proofs.SpreadLaws.{get-insert_all, is_some-slice_get}
use Rattle.plain_sets.proofs.KeySets.{has-key_set, len-key_set}
use Rattle.plain_sets.proofs.NumberLaws.{same_numbers}
use Rattle.plain_sets.proofs.CountLaws.{len-missing, has-missing}
use Rattle.homa_plain.proofs.PartSets.{range_in}
use Rattle.homa_in.specs.Part.{known}

-- the bytes of a list under their numbers
get-all : (bytes : List ℕ) (q : ℕ) → get (insert_all empty 0 bytes) q ≡ slice_get bytes q
get-all bytes q = get-insert_all empty 0 bytes q ∙ pick (leb 0 q && ltb q (0 + length bytes)) refl where
  pick : (b : Bool) → (leb 0 q && ltb q (0 + length bytes)) ≡ b → cond b (slice_get bytes (q - 0)) (get {R = nat_cmp} empty q) ≡ slice_get bytes q
  pick true e = let same : q - 0 ≡ q = omega arith in ap (slice_get bytes) same
  pick false e =
      let past : length bytes ≤ q = elim (cases_lt q (length bytes)) [
        | inl h ↦ absurd (true≢false (sym (range_in 0 (0 + length bytes) q (omega arith) (omega arith)) ∙ e))
        | inr h ↦ h
      ] in
      get-empty nat_cmp q ∙ sym (slice_get_past bytes q past)

module _ (bytes : List ℕ) (m : Numbers) where
  -- the byte of a number
  pub get-known : (q : ℕ) → get (known bytes m) q ≡ cond (has m q) None (slice_get bytes q)
  unfolding known
  get-known q =
      get-retain nat_cmp_total (insert_all empty 0 bytes) (λ x. not (has m x)) q (λ x t. ap (λ y. not (has m y)) (sym (nat_cmp-IsAntisymmetric q x t)))
      ∙ turned (has m q) ∙ ap (λ o. cond (has m q) None o) (get-all bytes q) where
        turned : (b : Bool) → cond (not b) (get (insert_all empty 0 bytes) q) None ≡ cond b None (get (insert_all empty 0 bytes) q)
        turned true = refl
        turned false = refl

  -- a number has arrived where it isn't missing and below the length
  pub has-known : (q : ℕ) → has (key_set (known bytes m)) q ≡ (not (has m q) && ltb q (length bytes))
  has-known q = has-key_set (known bytes m) q ∙ ap is_some (get-known q) ∙ there (has m q) where
    there : (b : Bool) → is_some (cond b None (slice_get bytes q)) ≡ (not b && ltb q (length bytes))
    there true = refl
    there false = is_some-slice_get bytes q

  module _ (n : ℕ) (long : length bytes ≡ n) (below : IsBelow m n) where
    -- what has arrived is below the length
    pub below-known : IsBelow (key_set (known bytes m)) n
    below-known x e = omega (arith, ltb-true x (length bytes) (and_parts (not (has m x)) (ltb x (length bytes)) (sym (has-known x) ∙ e)).1)

    -- what hasn't is missing
    pub missing-known : missing (key_set (known bytes m)) n ≡ m
    missing-known =
        same_numbers _ _
        (λ q. has-missing (key_set (known bytes m)) n q ∙ ap (λ b. ltb q n && not b) (has-known q ∙ ap (λ k. not (has m q) && ltb q k) long)
        ∙ turned q (has m q) refl) where
          neither : (t : Bool) → (t && not t) ≡ false
          neither true = refl
          neither false = refl

          turned : (q : ℕ) (b : Bool) → has m q ≡ b → (ltb q n && not (not b && ltb q n)) ≡ b
          turned q true e = ap (λ t. t && true) (lt-ltb q n (below q e))
          turned q false e = neither (ltb q n)

    -- the bytes that have arrived and those that are missing are all
    pub len-known : len (known bytes m) + len m ≡ n
    len-known = omega (arith, len-key_set (known bytes m), len-missing (key_set (known bytes m)) n below-known, ap len missing-known)
