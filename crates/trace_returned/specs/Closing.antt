-- What a closed block has is what is due in it.
use Rattle.std.specs.Prelude.{◌≡◌, true}
use Rattle.homa_plain.specs.Entries.{PlainEntry}
use Rattle.trace_rules.specs.Lines.{closes}
use Rattle.trace_rules.specs.View.{View}
use Rattle.trace_rules.specs.Laws.{SameCalls}

-- Forgotten. In a closed block exactly the call fails as forgotten of which an UNKNOWN that counts says so: all of the law fails but what it says of timeouts.
abbrev pub Forgotten : View → PlainEntry → Type 0
Forgotten v line = closes line ≡ true → SameCalls v.here.forgotten v.now.due.forgotten

-- runs, done calls and forgotten ones
abbrev pub Closed : View → PlainEntry → Type 0
Closed v line =
    closes line ≡ true → SameCalls v.here.runs v.now.due.runs × SameCalls v.here.dones v.now.due.dones × SameCalls v.here.forgotten v.now.due.forgotten
