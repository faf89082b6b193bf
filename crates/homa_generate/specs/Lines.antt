-- The lines of a generated schedule.
use Rattle.std.specs.Prelude.{◌≤◌, []}
use Rattle.homa_plain.specs.declared.event.Event.TheVariants as event
use Rattle.homa_plain.specs.Script.{Given, GivenEvent, GivenTicks, counting}
use Rattle.homa_generate.specs.declared.lines.Line.{Line}
use Rattle.homa_generate.specs.declared.lines.Line.TheVariants.{Tick, Deliver, Call}

-- what a line stands for
abbrev pub given_of : Line → Given
given_of Tick = GivenTicks 1
given_of (Deliver number) = GivenEvent (event.Deliver number) []
given_of (Call t) = GivenEvent (event.Call t.client t.server t.number) (counting 0 t.len)

-- a request is at most so long
abbrev pub IsShort : Line → Type 0
IsShort (Call t) = t.len ≤ 100000
IsShort line = Unit {0}
