-- What a line stands for, as the definitions have it.
use Rattle.std.specs.Prelude.{ℕ, ◌≤◌, Result, Ok, Err, Option, None, Some, List, [], take}
use Rattle.homa_plain.specs.declared.event.Event.{Event}
use Rattle.homa_plain.specs.declared.fault.ScriptFault.{ScriptFault}
use Rattle.homa_plain.specs.Script as script
use Rattle.homa_script.specs.declared.event.Given.{Given}
use Rattle.homa_script.specs.declared.event.Given.TheVariants as given
use Rattle.homa_script.specs.declared.event.EventWord.{EventWord}
use Rattle.homa_script.specs.declared.event.EventWord.TheVariants as word
use Rattle.homa_script.specs.declared.opening.OpeningLine.{OpeningLine}
use Rattle.homa_script.specs.declared.opening.OpeningLine.TheVariants as line

-- the first word of a line behind `go`, as the definitions have it
abbrev pub word_seen : EventWord → script.EventWord
word_seen word.Call = script.CallWord
word_seen word.Deliver = script.DeliverWord
word_seen word.Clock = script.ClockWord
word_seen word.Turn = script.TurnWord
word_seen word.Tick = script.TickWord
word_seen word.Restart = script.RestartWord
word_seen word.Inject = script.InjectWord
word_seen word.Shift = script.ShiftWord

-- an event with its bytes, which stand in front of these, or ticks
abbrev pub given_seen : Given → List ℕ → script.Given
given_seen (given.Event event len) out = script.GivenEvent event (take len out)
given_seen (given.Ticks n) out = script.GivenTicks n

-- the same where a line was read, else why it is refused
abbrev pub given_of : Result Given ScriptFault → List ℕ → Result script.Given ScriptFault
given_of (Ok given) out = Ok (given_seen given out)
given_of (Err fault) out = Err fault

-- an event without bytes, or why its line is refused
abbrev pub bare_of : Result Event ScriptFault → Result script.Given ScriptFault
bare_of (Ok event) = Ok (script.GivenEvent event [])
bare_of (Err fault) = Err fault

-- so many ticks, or why their line is refused
abbrev pub ticks_of : Result ℕ ScriptFault → Result script.Given ScriptFault
ticks_of (Ok n) = Ok (script.GivenTicks n)
ticks_of (Err fault) = Err fault

-- so many bytes stand beside an event at most, and ticks are 1 to 100,000
abbrev pub IsWithin : Given → ℕ → Type 0
IsWithin (given.Event event len) most = len ≤ most
IsWithin (given.Ticks n) most = (1 ≤ n) × (n ≤ 100000)

-- a line behind `go`, or why it is refused
abbrev pub phrase_given : Result (Option Given) ScriptFault → List ℕ → Result script.Phrase ScriptFault
phrase_given (Ok None) out = Ok script.Blank
phrase_given (Ok (Some given)) out = Ok (script.Happens (given_seen given out))
phrase_given (Err fault) out = Err fault

-- a line before `go`, or `go` itself
abbrev pub line_seen : OpeningLine → script.Phrase
line_seen line.Blank = script.Blank
line_seen (line.Setting name n) = script.SettingIs name n
line_seen line.Go = script.Go

-- such a line, or why it is refused
abbrev pub line_of : Result OpeningLine ScriptFault → Result script.Phrase ScriptFault
line_of (Ok line) = Ok (line_seen line)
line_of (Err fault) = Err fault
