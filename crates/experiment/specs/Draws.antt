-- What is drawn: words of a generator, as parts of a number.
use Rattle.std.specs.Prelude.{ℕ, ◌+◌, ◌-◌, ◌*◌, ◌/◌, ◌%◌, ◌^◌, max, nat_lt, Bool, slice_index, bit_xor}
use Rattle.std.specs.Int.{w32, leading_zeros}
use Rattle.rand_pcg.specs.Lcg.{Lcg, started, increment_of}
use Rattle.rand_pcg.specs.Pcg.{multiplier_64, pcg32}
use Rattle.experiment.specs.declared.draws.PacketName.{PacketName}
use Rattle.experiment.specs.declared.draws.TheConstants.{LN, LN2}

-- a number below n, and the generator after it
abbrev pub below : ℕ → Lcg → ℕ × Lcg
below n g = let word = pcg32 g in (word.0 * n / 2 ^ 32, word.1)

-- whether one of so many parts of a million was drawn
abbrev pub is_in : ℕ → Lcg → Bool × Lcg
is_in parts g = let d = below 1000000 g in (nat_lt d.0 parts, d.1)

-- 2^16 times the natural logarithm of m / 2^31, where m is at least 2^31 and below 2^32: a table has it at each 64th, and between
-- two of its entries it rises along a line
abbrev pub ln_of : ℕ → ℕ
ln_of m =
    let place = (m - 2 ^ 31) / 2 ^ 25 in
    let rest = (m - 2 ^ 31) % 2 ^ 25 in
    slice_index LN place + (slice_index LN (place + 1) - slice_index LN place) * rest / 2 ^ 25

-- 2^16 times the natural logarithm of word / 2^32, without its sign
abbrev pub minus_ln : ℕ → ℕ
minus_ln word = let zeros = leading_zeros w32 word in (zeros + 1) * LN2 - ln_of (word * 2 ^ zeros)

-- a span that is exponential with this mean; the word 0 counts as 1
abbrev pub exponential : ℕ → Lcg → ℕ × Lcg
exponential mean g = let word = pcg32 g in (mean * minus_ln (max word.0 1) / 2 ^ 16, word.1)

-- a number of 64 bits from another one: the finish of SplitMix64 (Steele, Lea, Flood, "Fast splittable pseudorandom number generators")
abbrev pub mixed : ℕ → ℕ
mixed n =
    let a = (n + 0x9e3779b97f4a7c15) % 2 ^ 64 in
    let b = bit_xor a (a / 2 ^ 30) * 0xbf58476d1ce4e5b9 % 2 ^ 64 in
    let c = bit_xor b (b / 2 ^ 27) * 0x94d049bb133111eb % 2 ^ 64 in
    bit_xor c (c / 2 ^ 31)

-- the generator of a packet in the run of a seed: what it draws goes by the packet's name alone
abbrev pub named : ℕ → PacketName → Lcg
named seed name =
    let call = name.call * 2 ^ 32 + name.kind in
    let piece = name.offset * 2 ^ 32 + name.times in
    started 64 multiplier_64 (mixed (bit_xor (mixed (bit_xor seed (mixed call))) piece)) (increment_of 64 3)
