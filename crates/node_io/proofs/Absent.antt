-- A set in which no host is.
use Rattle.std.proofs.Common.{◌≡◌, ℕ, zero, suc, false, replicate, slice_index_or, refl}

pub nowhere : (n i : ℕ) → slice_index_or (replicate n false) i false ≡ false
nowhere zero i = refl
nowhere (suc n) zero = refl
nowhere (suc n) (suc i) = nowhere n i
