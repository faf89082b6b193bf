-- What stands before the first line feed of some bytes.
use Rattle.std.proofs.Common.{◌≡◌, ◌<◌, ◌≤◌, ℕ, ◌+◌, ◌==◌, true, suc, min, List, ◌∷◌, length, take, drop, get_or, sym, ap, subst, ◌∙◌, drop-cons}
use Rattle.std.proofs.Common.{add-one, arith}
use Rattle.std.proofs.lemmas.Bool.{eqb-true}
use Rattle.std.proofs.lemmas.List.{take-take, get_or-take, length-take, length-take-le}
use Rattle.memchr.specs.Find.{Nowhere, NoneBefore, Passes, is_byte}
use Rattle.homa_plain.specs.Input.{has_no_feed}
use Rattle.text_lines.proofs.Feeds.{has_no_feed-nowhere}

-- no line feed stands among the first n bytes
pub none_among : (bytes : List ℕ) (n : ℕ) → n ≤ length bytes → Nowhere (Passes (is_byte 10) (take n bytes)) 0 (length (take n bytes))
    → has_no_feed (take (length (take n bytes)) bytes) ≡ true
none_among bytes n fits none =
    rw (length-take-le n bytes fits) (has_no_feed-nowhere (take n bytes) (λ k l e. none k (omega arith) l e))

-- the first line feed of the first n bytes stands behind i bytes
module _ (bytes : List ℕ) (n i : ℕ)
    (first : NoneBefore (Passes (is_byte 10) (take n bytes)) 0 (length (take n bytes)) i × Passes (is_byte 10) (take n bytes) i) where
  pub feed_within : (i < n) × (i < length bytes)
  feed_within = (omega (arith, first.0.high, length-take n bytes), omega (arith, first.0.high, length-take n bytes))

  pub none_before : has_no_feed (take i bytes) ≡ true
  none_before =
      let short = length-take-le i (take n bytes) (omega (arith, first.0.high)) in
      subst (λ (xs : List ℕ). has_no_feed xs ≡ true) (take-take i n bytes (omega (arith, feed_within.0)))
      (has_no_feed-nowhere (take i (take n bytes)) (λ k l e.
      let below : k < i = omega (arith, short) in
      first.0.before k (omega arith) below (subst (λ (b : ℕ). b == 10 ≡ true) (get_or-take i (take n bytes) k 0 below) e)))

  pub feed_at : drop i bytes ≡ 10 ∷ drop (i + 1) bytes
  feed_at =
      let is : get_or bytes i 0 ≡ 10 = sym (get_or-take n bytes i 0 feed_within.0) ∙ eqb-true _ 10 first.1 in
      rw add-one (drop-cons bytes i 0 feed_within.1 ∙ ap (λ (b : ℕ). b ∷ drop (suc i) bytes) is)

-- how many bytes of a front there are
pub front_within : (bytes : List ℕ) (n : ℕ) → length (take n bytes) ≤ length bytes
front_within bytes n = omega (arith, length-take n bytes)

pub front_most : (bytes : List ℕ) (n most : ℕ) → n ≤ most → length (take n bytes) ≤ most
front_most bytes n most few = omega (arith, few, length-take n bytes)

pub front_all : (bytes : List ℕ) (n most : ℕ) → n ≡ min (length bytes) most → length (take n bytes) ≡ min (length bytes) most
front_all bytes n most is = omega (arith, is, length-take n bytes)
