-- A word without its leading zeros.
use Rattle.std.proofs.Common.{◌≡◌, ◌∙◌, sym, ap, subst, ℕ, suc, ◌+◌, ◌*◌, ◌%◌, ◌^◌, ◌<◌, ◌≤◌, arith}
use Rattle.std.proofs.Math.Nat.{mul-le-mul_right, mul-lt-mul_of_pos_right, mod-eq_of_lt}
use Rattle.std.proofs.lemmas.Nat.{leading_top, pow-add, pow_pos}
use Rattle.std.specs.Int.Count.{count_leading_zeros}

-- its highest bit is set then
pub normal : (word : ℕ) → 0 < word → word < 2 ^ 32
    → (2 ^ 31 ≤ word * 2 ^ count_leading_zeros 32 word) × (word * 2 ^ count_leading_zeros 32 word < 2 ^ 32)
normal word some small =
    let top = leading_top 32 word some small in
    let z : ℕ = count_leading_zeros 32 word in
    let e : top.0 + z ≡ 31 = omega (arith, top.1) in
    let e' : suc top.0 + z ≡ 32 = omega (arith, top.1) in
    let whole : 2 ^ top.0 * 2 ^ z ≡ 2 ^ 31 = sym (pow-add 2 top.0 z) ∙ ap (λ n. 2 ^ n) e in
    let more : 2 ^ suc top.0 * 2 ^ z ≡ 2 ^ 32 = sym (pow-add 2 (suc top.0) z) ∙ ap (λ n. 2 ^ n) e' in (
      subst (λ n. n ≤ word * 2 ^ z) whole (mul-le-mul_right (2 ^ z) top.2),
      subst (λ n. word * 2 ^ z < n) more (mul-lt-mul_of_pos_right top.3 (pow_pos z)),
    )

-- as a number of 64 bits it is the same
pub shifted : (word same : ℕ) → same ≡ word → 0 < word → word < 2 ^ 32
    → same * 2 ^ count_leading_zeros 32 word % 18446744073709551616 ≡ word * 2 ^ count_leading_zeros 32 word
shifted word same is some small =
    let top = normal word some small in
    rw is (mod-eq_of_lt (omega (arith, top.1)))
