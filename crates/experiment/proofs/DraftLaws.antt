-- What a part of what was said became.
use Rattle.std.proofs.Common.{ap, Result, Ok, Err}
use Rattle.experiment.specs.declared.fault.Refusal.{Refusal}
use Rattle.experiment.specs.declared.fault.LineStop.{LineStop}
use Rattle.experiment.specs.declared.fault.LineStop.TheVariants.{NoMemory, Refused}
use Rattle.experiment.specs.Grammar.{◌>>=◌}
use Rattle.experiment.specs.Sizes.{IsAfter}

-- a part changed, and the whole with it
pub after_part : {S T : Type 0} (due : Result S Refusal) (f : S → T) (r : Result (Unit {0}) LineStop) (s : S) → IsAfter due r s
    → IsAfter (due >>= λ x. Ok (f x)) r (f s)
after_part due f (Ok done) s e = ap (λ d. d >>= λ x. Ok (f x)) e
after_part due f (Err NoMemory) s e = tt
after_part due f (Err (Refused refusal)) s e = ap (λ d. d >>= λ x. Ok (f x)) e
