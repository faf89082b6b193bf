use Rattle.std.proofs.Common.{◌≡◌, ◌++◌, take}
use Rattle.std.specs.Prelude.{string_bytes}
use Rattle.std.specs.List.{flat_map}
use Rattle.simulate.specs.Rows.{next_part}
use Rattle.simulate.proofs.rows.add_others.Given as goal

-- that of the columns so far was added
abbrev pub invariant-loop-column : goal.invariant-loop-column
invariant-loop-column l = string_bytes l.text ≡ string_bytes l.fn.text ++ flat_map (next_part l.form) (take l.column-index l.columns)
