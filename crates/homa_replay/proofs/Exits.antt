-- What the exit of a `?` returns.
use Rattle.std.proofs.Common.{◌≡◌, Result, Ok, Err, sym, ◌∙◌, subst}
use Rattle.std.specs.Prelude.{true, IfErr, IsErrAnd, IsErrOf}
use Rattle.std.proofs.lemmas.Result.{err_from_is_err_and}
use Rattle.homa_replay.specs.declared.stop.Stop.{Stop}
use Rattle.homa_replay.specs.declared.stop.Stop.TheVariants.{Read, Write, NoMemory}
use Rattle.homa_replay.specs.Stops.{prints_all}

-- why it stopped
pub err_if : {A : Type 0} (r : Result A Stop) (stop : Stop) (q : Stop → Type 0) → IsErrAnd r (λ y. y ≡ stop) → q stop → IfErr r q
err_if r stop q h k = let e = err_from_is_err_and r h in subst (λ x. IfErr x q) (sym e.1) (subst q (sym e.2) k)

-- it is this one
pub stop_of : {A : Type 0} (r : Result A Stop) (stop other : Stop) → IsErrAnd r (λ y. y ≡ stop) → stop ≡ other → IsErrAnd r (λ y. y ≡ other)
stop_of (Ok x) stop other h e = h
stop_of (Err y) stop other h e = h ∙ e

-- where whole lines were printed the sink didn't fail
pub not_written : {A : Type 0} (r : Result A Stop) (stop : Stop) → r ≡ Err stop → prints_all stop ≡ true → IsErrOf r Write → ⊥
not_written r Read e k h = let same = sym e ∙ h in absurd cc
not_written r Write e k h = absurd cc
not_written r NoMemory e k h = let same = sym e ∙ h in absurd cc

-- nor did it where there was an answer
pub answered : {A : Type 0} (r : Result A Stop) (x : A) → r ≡ Ok x → IsErrOf r Write → ⊥
answered r x e h = let same = sym e ∙ h in absurd cc
