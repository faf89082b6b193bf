-- What a piece does to a part of which bytes are missing.
use Rattle.std.proofs.Common.{◌≡◌, ◌<◌, ◌≤◌, ℕ, ◌+◌, min, suc, unwrap_or, nat_cmp, Bool, true, false, ◌&&◌, ltb, List, [], ◌∷◌, length, refl, sym, ap}
use Rattle.std.proofs.Common.{subst, ◌∙◌, arith, inl, inr}
use Rattle.std.proofs.lemmas.Bool.{eq-eqb, ne_eqb, cases_lt, true≢false, lt-ltb, and_parts}
use Rattle.std.specs.Cmp.{nat_cmp_total}
use Rattle.plain_sets.specs.Maps.{len, empty, checked, retain, insert_all, key_set}
use Rattle.plain_sets.specs.Ranges.{is_between}
use Rattle.plain_sets.specs.Numbers.{IsBelow, with_range}
use Rattle.plain_sets.proofs.MapLaws.{get-empty, list-retain, empty_of_len}
use Rattle.plain_sets.proofs.KeySets.{len-key_set, len-insert_all}
use Rattle.plain_sets.proofs.WholeLaws.{values-insert_all_empty}
use Rattle.plain_sets.proofs.CountLaws.{len-below, len-set_of_range}
use Rattle.homa_plain.specs.declared.id.HostId.{HostId}
use Rattle.homa_plain.specs.Incoming.{Incoming, opened, arrived, remaining, with_bytes, new_bytes, first_known, leaves_too_many_gaps, is_whole, message}
use Rattle.homa_plain.proofs.ArrivalLaws.{below-with_bytes, remaining-with_bytes, whole-gaps}
use Rattle.msg_pool.specs.Pool.{Pool, Held, IsLeaseOf}
use Rattle.homa_in.specs.Part.{Part, seen, unarrived, IsIn}
use Rattle.homa_in.specs.Accepts.{completes}

-- where a piece makes a message whole, no gap is left
pub whole-few : (p : Incoming) (a : ℕ) (xs : List ℕ) → IsBelow (arrived p) p.length → a + length xs ≤ p.length → is_whole (with_bytes p a xs) ≡ true
    → leaves_too_many_gaps p a xs ≡ false
whole-few p a xs below fits whole = ap (λ rs. ltb 64 (length rs)) (whole-gaps (with_bytes p a xs) (below-with_bytes p a xs below fits) whole)

-- what is complete is whole
pub completes-whole : (p : Incoming) (a : ℕ) (xs : List ℕ) → completes p a xs ≡ true → is_whole (with_bytes p a xs) ≡ true
completes-whole p a xs e = (and_parts (ltb 0 (new_bytes p a xs)) (is_whole (with_bytes p a xs)) e).1

-- a message of which bytes are missing isn't whole
pub missing-open : (p : Incoming) → 0 < remaining p → is_whole p ≡ false
missing-open p h = ne_eqb (len p.bytes) p.length (λ e. absurd (omega arith))

pub open-missing : (p : Incoming) → IsBelow (arrived p) p.length → is_whole p ≡ false → 0 < remaining p
open-missing p below e =
    let most : len p.bytes ≤ p.length = omega (arith, len-key_set p.bytes, len-below (arrived p) p.length below) in
    elim (cases_lt (len p.bytes) p.length) [
      | inl h ↦ omega arith
      | inr h ↦ absurd (true≢false (sym (eq-eqb (len p.bytes) p.length (omega arith)) ∙ e))
    ]

-- where bytes were missing and a piece doesn't complete the message, some still are
pub not_complete : (p : Incoming) (a : ℕ) (xs : List ℕ) → IsBelow (arrived p) p.length → a + length xs ≤ p.length → 0 < remaining p
    → completes p a xs ≡ false → is_whole (with_bytes p a xs) ≡ false
not_complete p a xs below fits some e =
    let sum = remaining-with_bytes p a xs below fits in
    elim (cases_lt 0 (new_bytes p a xs)) [
      | inl h ↦ sym (ap (λ b. b && is_whole (with_bytes p a xs)) (lt-ltb 0 (new_bytes p a xs) h)) ∙ e
      | inr h ↦ missing-open (with_bytes p a xs) (omega arith)
    ]

-- ---- a part that was just opened under a new lease

module _ (mid : Pool) (part : Part) (peer : HostId) (n order unsched granted : ℕ) (lease : Held) (is : part ≡ unarrived peer n order granted lease) where
  pub begun_in : IsLeaseOf mid lease → lease.len ≡ n → IsIn mid part
  begun_in leased long = subst (IsIn mid) (sym is) (record { lease = leased; length = long })

  pub begun_seen : seen mid part ≡ opened peer n order granted → granted ≡ min n unsched → seen mid part ≡ opened peer n order unsched
  begun_seen e g =
      let same : min n granted ≡ min n unsched = omega arith in
      e ∙ ap (λ k. record { peer = peer; length = n; order = order; granted = k; bytes = empty }) same

  pub begun_short : 0 < n → 0 < len part.missing
  begun_short some = omega (arith, ap (λ (x : Part). len x.missing) is, len-set_of_range 0 n)

  pub begun_lease : part.lease ≡ lease
  begun_lease = ap (λ (x : Part). x.lease) is

-- ---- a message whose bytes are one piece

-- there are enough where there aren't too few
pub enough_if : (n m : ℕ) → (m < n → false ≡ true) → n ≤ m
enough_if n m h = elim (cases_lt m n) [ inl l ↦ absurd (true≢false (sym (h l))) | inr r ↦ r ]

-- where nothing is known the bytes of a list are its own
all_new : (a : ℕ) (xs : List ℕ) → first_known empty a xs ≡ xs
all_new a [] = refl
all_new a (x ∷ xs) = ap (λ o. unwrap_or o x ∷ first_known empty (suc a) xs) (get-empty nat_cmp a) ∙ ap (λ ys. x ∷ ys) (all_new (suc a) xs)

-- of nothing nothing is kept
none_kept : (f : ℕ → Bool) → retain (empty {X = ℕ} {R = nat_cmp}) f ≡ empty
unfolding empty len
none_kept f = empty_of_len (retain empty f) (ap length (list-retain nat_cmp_total empty f))

-- nothing has no keys
no_keys : key_set (empty {X = ℕ} {R = nat_cmp}) ≡ empty
unfolding empty key_set checked
no_keys = refl

-- so the bytes of the first piece are its own
first_new : (xs : List ℕ) → first_known (retain empty (is_between 0 (0 + length xs))) 0 xs ≡ xs
first_new xs = ap (λ known. first_known known 0 xs) (none_kept (is_between 0 (0 + length xs))) ∙ all_new 0 xs

-- its bytes are those of the piece
pub message_at_once : (peer : HostId) (n order unsched : ℕ) (xs : List ℕ) → message (with_bytes (opened peer n order unsched) 0 xs) ≡ xs
message_at_once peer n order unsched xs = values-insert_all_empty 0 (first_known (retain empty (is_between 0 (0 + length xs))) 0 xs) ∙ first_new xs

-- and none is missing
pub whole_at_once : (peer : HostId) (order unsched : ℕ) (xs : List ℕ) → is_whole (with_bytes (opened peer (length xs) order unsched) 0 xs) ≡ true
whole_at_once peer order unsched xs =
    let known = first_known (retain empty (is_between 0 (0 + length xs))) 0 xs in
    eq-eqb (len (insert_all empty 0 known)) (length xs)
    (omega (
      arith,
      len-insert_all empty 0 known,
      ap (λ s. len (with_range s 0 (0 + length known))) no_keys,
      len-set_of_range 0 (0 + length known),
      ap length (first_new xs),
    ))
