use Rattle.std.proofs.Common.{◌≡◌, true, false}
use Rattle.script_tests.proofs.schedules.events_of.Given as goal

-- the reader goes on
abbrev pub invariant-loop-events : goal.invariant-loop-events
invariant-loop-events l = record { started : l.reader.started ≡ true; not_ended : l.reader.ended ≡ false }
