-- A place had a row, or has one.
use Rattle.homa_plain.specs.Timers.{Place}
use Rattle.host_view.specs.Seen.{Seen}
use Rattle.host_view.specs.Follow.{has_row}
use Rattle.std.specs.Prelude.{◌⊎◌}

-- the place had this row before a change, or has it after the change
abbrev pub Stood : Place → Seen → Seen → Type 0
Stood place old new = has_row old place ⊎ has_row new place
