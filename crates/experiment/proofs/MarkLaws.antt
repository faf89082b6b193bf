-- The last call of a list.
use Rattle.std.proofs.Common.{◌≡◌, refl, suc, ◌-◌, ◌<◌, List, [], ◌∷◌, length, get_or, arith}
use Rattle.experiment.specs.declared.marks.ListedCall.{ListedCall}
use Rattle.experiment.specs.Marks.{last_at}

pub last_get : (calls : List ListedCall) (d : ListedCall) → 0 < length calls → (get_or calls (length calls - 1) d).at ≡ last_at calls
last_get [] d some = absurd (omega arith)
last_get (c ∷ []) d some = refl
last_get (c ∷ e ∷ calls) d some =
    let before : length (c ∷ e ∷ calls) - 1 ≡ suc (length (e ∷ calls) - 1) = omega arith in
    rw before (last_get (e ∷ calls) d (omega arith))
