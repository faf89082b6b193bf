-- The call that runs in a step.
use Rattle.std.specs.Prelude.{Option, None, Some, List, [], ◌∷◌}
use Rattle.std.specs.Option.{option_or, option_map}
use Rattle.homa_plain.specs.declared.id.CallId.{CallId}
use Rattle.homa_plain.specs.Host.{Told}
use Rattle.homa_plain.specs.Steps.{Asked, asked_in}
use Rattle.host_view.specs.declared.mark.Mark.{Mark}
use Rattle.host_view.specs.declared.mark.Mark.TheVariants.{Ran}

-- the call that runs with this mark
abbrev pub ran_by : Mark → Option CallId
ran_by (Ran id service hold) = Some id
ran_by mark = None

-- the call that runs with these marks: the first, and a step has at most one
abbrev pub ran_in : List Mark → Option CallId
ran_in [] = None
ran_in (mark ∷ marks) = option_or (ran_by mark) (ran_in marks)

-- the call that what is told begins to serve
abbrev pub served_in : List Told → Option CallId
served_in told = option_map (λ (asked : Asked). asked.id) (asked_in told)
