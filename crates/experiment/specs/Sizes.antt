-- The table that lines say so far.
use Rattle.std.specs.Prelude.{◌≡◌, ℕ, ◌-◌, nat_lt, if◌then◌else◌, Option, None, Some, Result, Ok, Err, List, [], ◌∷◌, ◌++◌, length}
use Rattle.experiment.specs.declared.fault.Refusal.{Refusal}
use Rattle.experiment.specs.declared.fault.Wrong.TheVariants.{NotAbove, Steps}
use Rattle.experiment.specs.declared.fault.LineStop.{LineStop}
use Rattle.experiment.specs.declared.fault.LineStop.TheVariants.{NoMemory, Refused}
use Rattle.experiment.specs.declared.sizes.Sizes.{Sizes}
use Rattle.experiment.specs.declared.steps.Step.{Step}
use Rattle.experiment.specs.Grammar.{◌>>=◌, refused}
use Rattle.experiment.specs.Tables.{last_upto, steps_of, rows_of}

-- the steps, the number of the workload if it is one of the five, and the sum of the shares of `cumulative` lines
pub record Sizing : Type 0 where
  pub steps : List Step
  pub numbered : Option ℕ
  pub summed : ℕ

abbrev pub sizing : Sizes → Sizing
sizing s = record { steps = s.workload; numbered = s.numbered; summed = s.summed }

-- what a line made of what was said, or why it is refused; without memory it may be anything
abbrev pub IsAfter : {S : Type 0} → Result S Refusal → Result (Unit {0}) LineStop → S → Type 0
IsAfter due (Ok done) new = due ≡ Ok new
IsAfter due (Err NoMemory) new = Unit {0}
IsAfter due (Err (Refused refusal)) new = due ≡ Err refusal

-- one of the five workloads
abbrev pub numbered : ℕ → Sizing
numbered n = record { steps = steps_of 0 (rows_of n); numbered = Some n; summed = 0 }

-- the greatest length of a table of one's own, or 0
abbrev pub above_by : Option ℕ → List Step → ℕ
above_by None steps = last_upto steps
above_by (Some n) steps = 0

abbrev pub above : Sizing → ℕ
above s = above_by s.numbered s.steps

-- one step more, which is the first where the table was one of the five
abbrev pub stepped_by : Option ℕ → Sizing → Step → Result Sizing Refusal
stepped_by None s step = if nat_lt (length s.steps) 4000 then Ok (record s { steps = s.steps ++ step ∷ [] }) else refused 1 Steps
stepped_by (Some n) s step = Ok (record { steps = step ∷ []; numbered = None; summed = s.summed })

abbrev pub stepped : Sizing → Step → Result Sizing Refusal
stepped s step = stepped_by s.numbered s step

-- `size UPTO SHARE`
abbrev pub sized : Sizing → (upto share : ℕ) → Result Sizing Refusal
sized s upto share = if nat_lt (above s) upto then stepped s (record { above = above s; upto = upto; share = share }) else refused 2 NotAbove

-- `length BYTES SHARE`
abbrev pub lengthened : Sizing → (upto share : ℕ) → Result Sizing Refusal
lengthened s upto share = if nat_lt (above s) upto then stepped s (record { above = upto - 1; upto = upto; share = share }) else refused 2 NotAbove

-- so many of a million requests are up to a length
abbrev pub summed_to : Sizing → (upto sum : ℕ) → Result Sizing Refusal
summed_to s upto sum = stepped s (record { above = above s; upto = upto; share = sum - s.summed }) >>= λ t. Ok (record t { summed = sum })

-- `cumulative UPTO MILLIONTHS`
abbrev pub cumulated : Sizing → (upto sum : ℕ) → Result Sizing Refusal
cumulated s upto sum =
    if nat_lt (above s) upto then (if nat_lt s.summed sum then summed_to s upto sum else refused 3 NotAbove) else refused 2 NotAbove
