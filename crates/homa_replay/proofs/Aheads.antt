-- What a source that writes what is held before each read has its reader answer.
use Rattle.std.proofs.Common.{◌≡◌, false, None, Some, Result, Ok, Err, refl, subst, arith}
use Rattle.homa_io.specs.Outside.{HasRisen}
use Rattle.script_lines.specs.declared.stop.ScriptStop.{ScriptStop}
use Rattle.script_lines.specs.declared.stop.ScriptStop.TheVariants.{Read, Fault}
use Rattle.script_lines.specs.Stops.{has_failed_read}
use Rattle.homa_replay.specs.declared.stop.Stop.{Stop}
use Rattle.homa_replay.specs.declared.stop.Stop.TheVariants as stop
use Rattle.homa_replay.specs.Ahead.{Counts, IsStop, IsHeeded}

-- it counts the fault that stops it
counted : (a b : Counts) (why : Stop) → IsStop a b (Some why) → HasRisen a.own b.own
counted a b stop.Read h = h.3
counted a b stop.Write h = h.2
counted a b stop.NoMemory h = absurd h

-- where it stopped, a read failed for its reader
pub failed_read : {A : Type 0} (a b : Counts) (why : Stop) (answer : Result A ScriptStop) → IsHeeded a b None → b.stop ≡ Some why → a.own ≡ 0
    → (has_failed_read answer ≡ false → b.own ≡ a.own) → answer ≡ Err (Read (record {}))
failed_read a b why (Ok part) h e none f =
    let risen = counted a b why (subst (IsStop a b) e h) in let same = f refl in absurd (omega (arith, risen, same, none))
failed_read a b why (Err (Fault fault)) h e none f =
    let risen = counted a b why (subst (IsStop a b) e h) in let same = f refl in absurd (omega (arith, risen, same, none))
failed_read a b why (Err (Read failed)) h e none f = refl
