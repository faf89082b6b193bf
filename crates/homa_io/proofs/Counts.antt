-- A count of faults that stays in a first step.
use Rattle.std.proofs.Common.{◌≡◌, ◌≤◌, ℕ, subst}
use Rattle.homa_io.specs.Outside.{HasRisen}

-- and rises in the next
pub risen_behind : (a b c : ℕ) → b ≡ a → HasRisen b c → HasRisen a c
risen_behind a b c same risen = subst (λ (k : ℕ). HasRisen k c) same risen

-- and doesn't fall in the next
pub kept_behind : (a b c : ℕ) → b ≡ a → b ≤ c → a ≤ c
kept_behind a b c same up = subst (λ (k : ℕ). k ≤ c) same up
