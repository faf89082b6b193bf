-- How many settings are told.
use Rattle.std.proofs.Common.{◌≡◌, ℕ, ◌==◌, Bool, true, false, refl, sym, ◌∙◌, arith}
use Rattle.std.specs.Prelude.{if◌then◌else◌}
use Rattle.std.proofs.lemmas.Bool.Decides.{nat_tests}
use Rattle.homa_plain.specs.declared.settings.Settings.{Settings}
use Rattle.homa_plain.specs.Text.{told_numbers}

by_no : (n k : ℕ) (t : Bool) (a b : ℕ) → (n == k) ≡ t → (n ≡ k → ⊥) → (if t then a else b) ≡ b
by_no n k true a b e other = absurd (other (grind (arith, nat_tests)))
by_no n k false a b e other = refl

by_yes : (n k : ℕ) (t : Bool) (a b : ℕ) → (n == k) ≡ t → n ≡ k → (if t then a else b) ≡ a
by_yes n k true a b e is = refl
by_yes n k false a b e is = absurd (grind (arith, nat_tests))

-- `wire` has another value than the usual one
pub told_all : (s : Settings) → (s.wire ≡ 1 → ⊥) → 15 ≡ told_numbers s
told_all s other = sym (by_no s.wire 1 (s.wire == 1) _ 15 refl other)

-- it has that, and `skew` too
pub told_thirteen : (s : Settings) → s.wire ≡ 1 → s.skew ≡ 0 → 13 ≡ told_numbers s
told_thirteen s wire skew = sym (by_yes s.wire 1 (s.wire == 1) _ 15 refl wire ∙ by_yes s.skew 0 (s.skew == 0) 13 14 refl skew)

-- `skew` alone has another
pub told_fourteen : (s : Settings) → s.wire ≡ 1 → (s.skew ≡ 0 → ⊥) → 14 ≡ told_numbers s
told_fourteen s wire skew = sym (by_yes s.wire 1 (s.wire == 1) _ 15 refl wire ∙ by_no s.skew 0 (s.skew == 0) 13 14 refl skew)
