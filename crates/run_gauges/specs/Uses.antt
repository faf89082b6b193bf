-- How a receiver's link is used.
use Rattle.std.specs.Prelude.{ℕ, Bool, true, false}
use Rattle.run_gauges.specs.declared.spans.Use.{Use}
use Rattle.run_gauges.specs.declared.spans.Use.TheVariants.{Taken, Withheld, Coming, Unsent, Empty}

-- a number where something holds, and else nothing
abbrev pub part : Bool → ℕ → ℕ
part true n = n
part false n = 0

abbrev pub is_taken : Use → Bool
is_taken Taken = true
is_taken Withheld = false
is_taken Coming = false
is_taken Unsent = false
is_taken Empty = false

abbrev pub is_withheld : Use → Bool
is_withheld Taken = false
is_withheld Withheld = true
is_withheld Coming = false
is_withheld Unsent = false
is_withheld Empty = false

abbrev pub is_coming : Use → Bool
is_coming Taken = false
is_coming Withheld = false
is_coming Coming = true
is_coming Unsent = false
is_coming Empty = false

abbrev pub is_unsent : Use → Bool
is_unsent Taken = false
is_unsent Withheld = false
is_unsent Coming = false
is_unsent Unsent = true
is_unsent Empty = false

abbrev pub is_empty : Use → Bool
is_empty Taken = false
is_empty Withheld = false
is_empty Coming = false
is_empty Unsent = false
is_empty Empty = true

-- idle while bytes of a message aren't granted
abbrev pub is_wasted : Use → Bool → Bool
is_wasted Taken short = false
is_wasted Withheld short = true
is_wasted Coming short = short
is_wasted Unsent short = short
is_wasted Empty short = short
