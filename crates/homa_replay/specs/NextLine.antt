-- What came next of a schedule.
use Rattle.std.specs.Prelude.{ℕ, ◌+◌, ◌*◌, Bool, true, false, List}
use Rattle.homa_plain.specs.Script.{Given, GivenEvent, GivenTicks}
use Rattle.homa_script.specs.declared.next.Next.{Next}
use Rattle.homa_script.specs.declared.next.Next.TheVariants.{Event, Ticks, End}

-- what a line stands for, with these bytes beside it; the end stands for no ticks
abbrev pub given_of : Next → List ℕ → Given
given_of (Event event) bytes = GivenEvent event bytes
given_of (Ticks n) bytes = GivenTicks n
given_of End bytes = GivenTicks 0

-- whether the end of the schedule came
abbrev pub is_end : Next → Bool
is_end (Event event) = false
is_end (Ticks n) = false
is_end End = true

-- how many events a line has
abbrev pub line_events : ℕ → Next → ℕ
line_events hosts (Event event) = 1
line_events hosts (Ticks n) = n * (hosts + 1)
line_events hosts End = 0
