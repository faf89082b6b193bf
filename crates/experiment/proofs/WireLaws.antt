-- The bytes that messages of each length have on the wire together, without a sum over the lengths.
use Rattle.std.proofs.Common.{◌≡◌, ◌∙◌, refl, sym, ap, ℕ, zero, suc, ◌+◌, ◌-◌, ◌*◌, ◌/◌, ◌%◌, ◌^◌, ◌<◌, ◌≤◌, inl, inr, arith}
use Rattle.std.specs.Int.{div_ceil}
use Rattle.std.proofs.Math.Nat.{mul-div_cancel, mul-div-le, mod-lt, div-le_self, mod-le, mul-le-mul_left}
use Rattle.std.proofs.lemmas.Nat.{div-mul-add, mod-mul-add, div-add-mod', mul-le}
use Rattle.std.proofs.lemmas.Bool.{cases_lt}
use Rattle.experiment.specs.Wires.{Cut, wire, wire_up_to}

-- the sum of the numbers from 1 to n
triangle : ℕ → ℕ
triangle zero = 0
triangle (suc n) = triangle n + suc n

-- the pieces of messages of each length from 1 to n
pieces : ℕ → ℕ → ℕ
pieces p zero = 0
pieces p (suc n) = pieces p n + div_ceil (suc n) p

twice : (n : ℕ) → triangle n * 2 ≡ n * (n + 1)
unfolding triangle
twice zero = refl
twice (suc n) = omega (arith, twice n)

half : (p n : ℕ) → p * n * (n + 1) / 2 ≡ p * triangle n
half p n =
    let more : p * (triangle n * 2) ≡ p * (n * (n + 1)) = ap (λ m. p * m) (twice n) in
    let e : p * n * (n + 1) ≡ p * triangle n * 2 = omega (arith, more) in
    rw e (mul-div_cancel (p * triangle n) (let two : 0 < 2 = omega arith in two))

half_of : (n : ℕ) → n * (n + 1) / 2 ≡ triangle n
half_of n = let e : n * (n + 1) ≡ triangle n * 2 = sym (twice n) in rw e (mul-div_cancel (triangle n) (let two : 0 < 2 = omega arith in two))

-- the pieces of a length that isn't whole, and of one that is
ceil_within : (p w r : ℕ) → suc r < p → div_ceil (suc (w * p + r)) p ≡ w + 1
ceil_within p w r less =
    let n : suc (w * p + r) ≡ w * p + suc r = omega arith in
    rw (n, div-mul-add w p (suc r) less, mod-mul-add w p (suc r) less) (omega arith)

ceil_whole : (p w r : ℕ) → suc r ≡ p → div_ceil (suc (w * p + r)) p ≡ w + 1
ceil_whole p w r whole =
    let some : 0 < p = omega arith in
    let n : suc (w * p + r) ≡ (w + 1) * p + 0 = omega arith in
    rw (n, div-mul-add (w + 1) p 0 some, mod-mul-add (w + 1) p 0 some) (omega arith)

-- the pieces of messages of each length, by whole pieces
abbrev by_pieces : ℕ → ℕ → ℕ
by_pieces p n = p * triangle (n / p) + n % p * (n / p + 1)

by_parts : (p w r : ℕ) → r < p → by_pieces p (w * p + r) ≡ p * triangle w + r * (w + 1)
by_parts p w r less = rw (div-mul-add w p r less, mod-mul-add w p r less) refl

one_more : (p w r : ℕ) → r < p → by_pieces p (suc (w * p + r)) ≡ by_pieces p (w * p + r) + div_ceil (suc (w * p + r)) p
unfolding triangle
one_more p w r less = elim (cases_lt (suc r) p) [
  | inl within ↦ (
      let n : suc (w * p + r) ≡ w * p + suc r = omega arith in
      let e = by_parts p w (suc r) within in
      let now : by_pieces p (suc (w * p + r)) ≡ p * triangle w + suc r * (w + 1) = ap (by_pieces p) n ∙ e in
      omega (arith, now, by_parts p w r less, ceil_within p w r within)
      )
  | inr past ↦ (
      let whole : suc r ≡ p = omega arith in
      let some : 0 < p = omega arith in
      let n : suc (w * p + r) ≡ suc w * p + 0 = omega arith in
      let now : by_pieces p (suc (w * p + r)) ≡ p * triangle (suc w) + 0 * (suc w + 1) = ap (by_pieces p) n ∙ by_parts p (suc w) 0 some in
      let times : p * (w + 1) ≡ suc r * (w + 1) = ap (λ m. m * (w + 1)) (sym whole) in
      omega (arith, now, by_parts p w r less, ceil_whole p w r whole, times)
      )
]

pieces_are : (p n : ℕ) → 0 < p → pieces p n ≡ by_pieces p n
unfolding pieces triangle
pieces_are p zero some =
    let none : 0 * p + 0 ≡ 0 = omega arith in
    let e : by_pieces p 0 ≡ p * triangle 0 + 0 * (0 + 1) = ap (by_pieces p) (sym none) ∙ by_parts p 0 0 some in
    omega (arith, e)
pieces_are p (suc n) some =
    let e : n / p * p + n % p ≡ n = div-add-mod' n p in
    let step = one_more p (n / p) (n % p) (mod-lt n some) in
    let here : by_pieces p (suc n) ≡ by_pieces p n + div_ceil (suc n) p = rw e at step in
    omega (arith, here, pieces_are p n some)

wires_are : (f : Cut) (n : ℕ) → wire_up_to f n ≡ triangle n + pieces f.piece n * f.frame
unfolding wire_up_to pieces triangle
wires_are f zero = omega arith
wires_are f (suc n) = omega (arith, wires_are f n)

pub closed : (f : Cut) (n : ℕ) → 0 < f.piece
    → n * (n + 1) / 2 + (f.piece * (n / f.piece) * (n / f.piece + 1) / 2 + n % f.piece * (n / f.piece + 1)) * f.frame ≡ wire_up_to f n
closed f n some = rw (half_of n, half f.piece (n / f.piece), ← pieces_are f.piece n some) (sym (wires_are f n))

-- all of it fits 128 bits
pub fits : (p n frame : ℕ) → 0 < p → n < 2 ^ 32 → frame < 2 ^ 32
    → n * (n + 1) / 2 + (p * (n / p) * (n / p + 1) / 2 + n % p * (n / p + 1)) * frame < 2 ^ 128
fits p n frame some small frame_small =
    let whole : p * (n / p) ≤ n = mul-div-le n p in
    let w : n / p ≤ n = div-le_self n p in
    let r : n % p ≤ n = mod-le n p in
    let a : p * (n / p) * (n / p + 1) ≤ 2 ^ 32 * 2 ^ 32 = mul-le (p * (n / p)) (n / p + 1) (2 ^ 32) (2 ^ 32) (omega arith) (omega arith) in
    let b : n % p * (n / p + 1) ≤ 2 ^ 32 * 2 ^ 32 = mul-le (n % p) (n / p + 1) (2 ^ 32) (2 ^ 32) (omega arith) (omega arith) in
    let c : n * (n + 1) ≤ 2 ^ 32 * 2 ^ 32 = mul-le n (n + 1) (2 ^ 32) (2 ^ 32) (omega arith) (omega arith) in
    let d : (p * (n / p) * (n / p + 1) / 2 + n % p * (n / p + 1)) * frame ≤ 2 ^ 65 * 2 ^ 32
    = mul-le (p * (n / p) * (n / p + 1) / 2 + n % p * (n / p + 1)) frame (2 ^ 65) (2 ^ 32) (omega arith) (omega arith) in
    omega arith

-- ---- bounds

ceil_most : (n p : ℕ) → 0 < p → div_ceil n p ≤ n
ceil_most n p some =
    let e : n / p * p + n % p ≡ n = div-add-mod' n p in
    let whole : n / p * 1 ≤ n / p * p = mul-le-mul_left (n / p) some in
    omega (arith, e, whole)

wire_most : (cut : Cut) (n : ℕ) → 0 < cut.piece → cut.frame ≤ 10044 → n ≤ 1000000 → wire cut n ≤ 17179869184
wire_most cut n some frame few =
    let pieces : div_ceil n cut.piece ≤ 1000000 = omega (arith, ceil_most n cut.piece some) in
    omega (arith, mul-le (div_ceil n cut.piece) cut.frame 1000000 10044 pieces frame)

up_to_most : (cut : Cut) (low k : ℕ) → 0 < cut.piece → cut.frame ≤ 10044 → low + k ≤ 1000000
    → wire_up_to cut (low + k) ≤ wire_up_to cut low + k * 17179869184
unfolding wire_up_to
up_to_most cut low zero some frame few =
    let none : low + 0 ≡ low = omega arith in
    omega (arith, ap (wire_up_to cut) none)
up_to_most cut low (suc k) some frame few =
    let next : low + suc k ≡ suc (low + k) = omega arith in
    let last = wire_most cut (suc (low + k)) some frame (omega arith) in
    omega (arith, ap (wire_up_to cut) next, last, up_to_most cut low k some frame (omega arith))

-- the wire bytes of the lengths between two ones
pub between_most : (cut : Cut) (low high : ℕ) → 0 < cut.piece → cut.frame ≤ 10044 → low ≤ high → high ≤ 1000000
    → wire_up_to cut high - wire_up_to cut low ≤ (high - low) * 17179869184
between_most cut low high some frame below few =
    let e : low + (high - low) ≡ high = omega arith in
    omega (arith, ap (wire_up_to cut) e, up_to_most cut low (high - low) some frame (omega arith))
