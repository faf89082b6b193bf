-- A reader's fields, as contracts see them.
use Rattle.std.specs.Prelude.{◌≡◌, ◌≤◌, Bool, true, false, Option, None, Some, take, length, vec_capacity}
use Rattle.text_lines.specs.Lines.{reading}
use Rattle.script_lines.specs.declared.stop.ScriptStop.{ScriptStop}
use Rattle.script_lines.specs.Place.{place_of, IsCounted}
use Rattle.homa_script.specs.declared.reader.Stage.{Stage}
use Rattle.homa_script.specs.declared.reader.Stage.TheVariants.{Opened, Started, Ended, Stopped}
use Rattle.homa_script.specs.declared.reader.Reader.TheInside.{Inside}
use Rattle.homa_script.specs.Script.{Script}

-- whether `settings` was called
abbrev pub is_started : Stage → Bool
is_started Opened = false
is_started Started = true
is_started Ended = true
is_started (Stopped stop) = true

-- whether the end was answered
abbrev pub is_ended : Stage → Bool
is_ended Opened = false
is_ended Started = false
is_ended Ended = true
is_ended (Stopped stop) = false

-- the first stop, if there was one
abbrev pub stop_of : Stage → Option ScriptStop
stop_of Opened = None
stop_of Started = None
stop_of Ended = None
stop_of (Stopped stop) = Some stop

-- what contracts see of the fields
abbrev pub script_of : Inside → Script
script_of r = record {
  place = place_of (reading r.lines);
  operand = take r.len r.operand.items;
  started = is_started r.stage;
  ended = is_ended r.stage;
  stopped = stop_of r.stage;
}

-- there is room for a line and its bytes, and lines are counted while more may come
pub record IsSound (r : Inside) : Type 0 where
  pub room : 1050000 ≤ vec_capacity r.operand
  pub fits : r.len ≤ length r.operand.items
  pub most : r.len ≤ 1050000
  pub longest : (reading r.lines).longest ≡ 2100000
  pub opening : r.stage ≡ Opened → IsCounted (place_of (reading r.lines))
  pub going : r.stage ≡ Started → IsCounted (place_of (reading r.lines))
