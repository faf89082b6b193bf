-- What a reader of a schedule gives at a call: its settings, or what comes next behind them.
use Rattle.std.specs.Prelude.{◌≡◌, ℕ, true, false, Option, None, Some, Result, Ok, Err, List, IfOk}
use Rattle.std.specs.Result.{result_err}
use Rattle.homa_plain.specs.declared.fault.ScriptFault.{ScriptFault}
use Rattle.homa_plain.specs.declared.settings.Settings.{Settings}
use Rattle.homa_plain.specs.Settings.{IsValid}
use Rattle.script_lines.specs.declared.stop.ScriptStop.{ScriptStop}
use Rattle.script_lines.specs.declared.stop.ScriptStop.TheVariants.{Read, Fault}
use Rattle.script_lines.specs.Place.{IsCounted}
use Rattle.homa_script.specs.declared.next.Next.{Next}
use Rattle.homa_script.specs.Script.{Script, IsOpening, IsNext, IsInRange, IsOn, is_end}
use Rattle.homa_replay.specs.declared.stop.Stop.{Stop}

-- the reader's answer: to the reader a read failed where its source stopped, whatever stopped it
abbrev pub answer_of : {A : Type 0} → Result (Result A ScriptFault) Stop → Result A ScriptStop
answer_of (Ok (Ok part)) = Ok part
answer_of (Ok (Err fault)) = Err (Fault fault)
answer_of (Err stop) = Err (Read (record {}))

-- lines may follow
pub record IsGoing (reader : Script) : Type 0 where
  pub started : reader.started ≡ true
  pub not_ended : reader.ended ≡ false
  pub running : reader.stopped ≡ None

-- the settings are those of the bytes, and lines may follow
pub record GivesSettings (old new : Script) (left left_then : Option (List ℕ)) (answer : Result Settings ScriptStop) : Type 0 where
  pub read : (bytes : List ℕ) → left ≡ Some bytes → IsOpening old.place.limit new.place bytes left_then answer
  pub stopped : new.stopped ≡ result_err answer
  pub valid : IfOk answer IsValid
  pub not_ended : new.ended ≡ false
  pub counted : IfOk answer (λ settings. IsCounted new.place)

-- the next line, or the end, is that of the bytes
pub record GivesNext (old new : Script) (left left_then : Option (List ℕ)) (answer : Result Next ScriptStop) : Type 0 where
  pub read : (bytes : List ℕ) → left ≡ Some bytes → IsNext old.place new.place new.operand bytes left_then answer
  pub stopped : new.stopped ≡ result_err answer
  pub ended : new.ended ≡ is_end answer
  pub range : IfOk answer IsInRange
  pub on : IfOk answer (IsOn old.place new.place)
