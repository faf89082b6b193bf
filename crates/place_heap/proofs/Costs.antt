-- How many levels a heap has.
use Rattle.std.proofs.Common.{◌≡◌, ℕ, zero, suc, ◌+◌, ◌*◌, ◌/◌, ◌^◌, ◌<◌, ◌≤◌, true, sym, ap, ◌∙◌, arith, pow-suc}
use Rattle.std.specs.Prelude.{if◌then◌else◌, ◌==◌}
use Rattle.std.proofs.lemmas.Bool.Decides.{nat_tests}
use native.Mathlib.Nat.{mul_assoc, mul-le-mul_right}
use Rattle.place_heap.specs.Order.{digits, bits}
use Rattle.place_heap.proofs.Before.{either}
use Rattle.place_heap.specs.Sifted.{parent}

-- what the test for zero says
zero_from : (n : ℕ) → (n == 0) ≡ true → n ≡ 0
zero_from n e = grind (arith, nat_tests)

-- the same with a limit on the digits
below_digits : (most n : ℕ) → n ≤ most → n < 2 ^ digits most n
below_digits zero n small = omega arith
below_digits (suc most) n small =
    either (n == 0)
    (λ e. let k : digits (suc most) n ≡ 0 = ap (λ t. if t then 0 else 1 + digits most (n / 2)) e in rw k (omega (arith, zero_from n e)))
    (λ e.
    let k : digits (suc most) n ≡ suc (digits most (n / 2)) = ap (λ t. if t then 0 else 1 + digits most (n / 2)) e ∙ omega arith in
    rw k (omega (arith, below_digits most (n / 2) (omega arith), pow-suc 2 (digits most (n / 2)))))

-- a number is below the power of its digits
pub below_bits : (n : ℕ) → n < 2 ^ bits n
unfolding bits
below_bits n = below_digits n n (omega arith)

-- one level up costs nine steps
pub level_up : (i steps had c : ℕ) → 0 < i → i < 2 ^ c → steps + 9 * c ≤ had → (d : ℕ) × (parent i < 2 ^ d) × (steps + 9 + 9 * d ≤ had)
level_up i steps had zero pos small cost = absurd (omega (arith, small))
level_up i steps had (suc d) pos small cost = (d, omega (arith, pow-suc 2 d), omega arith)

-- one level down costs ten steps
pub level_down : (i k len steps had c : ℕ) → 2 * i < k → k < len → len < (i + 1) * 2 ^ c → steps + 10 * c ≤ had
    → (d : ℕ) × (len < (k + 1) * 2 ^ d) × (steps + 10 + 10 * d ≤ had)
level_down i k len steps had zero deep inside small cost = absurd (omega arith)
level_down i k len steps had (suc d) deep inside small cost =
    let double : 2 ^ suc d ≡ 2 * 2 ^ d = omega (arith, pow-suc 2 d) in
    let same : (i + 1) * 2 ^ suc d ≡ (i + 1) * 2 * 2 ^ d = ap (λ n. (i + 1) * n) double ∙ sym (mul_assoc (i + 1) 2 (2 ^ d)) in
    let most : (i + 1) * 2 * 2 ^ d ≤ (k + 1) * 2 ^ d = mul-le-mul_right (2 ^ d) (omega arith) in
    (d, omega arith, omega arith)

-- how deep a place may be
pub deep_from : (from len b : ℕ) → len < 2 ^ b → len < (from + 1) * 2 ^ b
deep_from from len b small = let most : 1 * 2 ^ b ≤ (from + 1) * 2 ^ b = mul-le-mul_right (2 ^ b) (omega arith) in omega arith
