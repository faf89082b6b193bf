-- The steps of a schedule that are left, from where its reader stands.
use Rattle.std.specs.Prelude.{ℕ, ◌+◌, None, Some, List, [], ◌∷◌}
use Rattle.homa_plain.specs.declared.fault.ScriptFault.{ScriptFault}
use Rattle.homa_plain.specs.Script.{Step, Steps, steps_from}
use Rattle.script_lines.specs.Place.{Place, lines_left}

-- the steps that are left, where these bytes still come
abbrev pub steps_left : Place → List ℕ → Steps
steps_left place more = steps_from place.limit place.read (place.number + 1) (lines_left place more)

-- a step in front of the others
abbrev pub step_first : Step → Steps → Steps
step_first step rest = record { steps = step ∷ rest.steps; refused = rest.refused }

-- the input ends
abbrev pub no_steps : Steps
no_steps = record { steps = []; refused = None }

-- the next line with words is refused
abbrev pub refused_at : ℕ → ScriptFault → Steps
refused_at line fault = record { steps = []; refused = Some (record { line = line; fault = fault }) }
