-- Lengths that are drawn one after the other.
use Rattle.std.proofs.Common.{◌≡◌, ◌∙◌, refl, sym, ap, ℕ, suc, ◌+◌, ◌-◌, ◌*◌, ◌/◌, ◌<◌, ◌≤◌, List, arith}
use Rattle.std.proofs.Math.Nat.{div-le_of_le-mul}
use Rattle.rand_pcg.specs.Lcg.{Lcg}
use Rattle.experiment.specs.declared.steps.Step.{Step}
use Rattle.experiment.specs.Wires.{Cut, wire}
use Rattle.experiment.specs.Tables.{length_drawn, after_lengths, wires_drawn}

after-suc : (n : ℕ) (steps : List Step) (g : Lcg) → after_lengths (suc n) steps g ≡ after_lengths n steps (length_drawn steps g).1
unfolding after_lengths
after-suc n steps g = refl

pub after-none : (n : ℕ) (steps : List Step) (g : Lcg) → n ≡ 0 → after_lengths n steps g ≡ g
unfolding after_lengths
after-none n steps g none = rw none refl

wires-suc : (cut : Cut) (n : ℕ) (steps : List Step) (g : Lcg)
    → wires_drawn cut (suc n) steps g ≡ wire cut (length_drawn steps g).0 + wires_drawn cut n steps (length_drawn steps g).1
unfolding wires_drawn
wires-suc cut n steps g = refl

pub wires-none : (cut : Cut) (n : ℕ) (steps : List Step) (g : Lcg) → n ≡ 0 → wires_drawn cut n steps g ≡ 0
unfolding wires_drawn
wires-none cut n steps g none = rw none refl

module _ (steps : List Step) (g : Lcg) (n i length : ℕ) (next : Lcg) (less : i < n) (drawn : (length, next) ≡ length_drawn steps g) where
  one_less : n - i ≡ suc (n - (i + 1))
  one_less = omega (arith, less)

  pub after_on : after_lengths (n - i) steps g ≡ after_lengths (n - (i + 1)) steps next
  after_on =
      ap (λ m. after_lengths m steps g) one_less ∙ after-suc (n - (i + 1)) steps g
      ∙ ap (λ (d : ℕ × Lcg). after_lengths (n - (i + 1)) steps d.1) (sym drawn)

  pub wires_on : (cut : Cut) → wires_drawn cut (n - i) steps g ≡ wire cut length + wires_drawn cut (n - (i + 1)) steps next
  wires_on cut =
      ap (λ m. wires_drawn cut m steps g) one_less ∙ wires-suc cut (n - (i + 1)) steps g
      ∙ ap (λ (d : ℕ × Lcg). wire cut d.0 + wires_drawn cut (n - (i + 1)) steps d.1) (sym drawn)

-- a mean is at most the most of what it is of
pub mean_most : (sum n : ℕ) → 0 < n → sum ≤ n * 17179869184 → sum * 1000 / n ≤ 17179869184000
mean_most sum n some most = div-le_of_le-mul n (omega (arith, most))
