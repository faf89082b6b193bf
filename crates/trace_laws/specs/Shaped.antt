-- What it is for the shape to hold of every trace.
use Rattle.std.specs.Prelude.{◌≡◌, ℕ, true, List, [], ◌∷◌, ◌++◌}
use Rattle.homa_plain.specs.declared.settings.Settings.{Settings}
use Rattle.homa_plain.specs.Entries.{PlainEntry, PlainRefused, IsCause}
use Rattle.trace_rules.specs.Lines.{is_last}
use Rattle.homa_plain.specs.Rules.{Answer}
use Rattle.homa_plain.specs.Replay.{Happening}
use Rattle.trace_rules.specs.View.{View, at_start}
use Rattle.trace_rules.specs.Laws.{Holds}
use Rattle.trace_steps.specs.Always.{IsOpening, trace}

-- where a line refuses one, it may be refused for this
abbrev pub HasCause : PlainEntry → Type 0
HasCause (PlainRefused line fault) = IsCause fault
HasCause line = Unit {0}

-- A law holds of every trace, alone and with a last line behind it; where that refuses a line, for a cause that refuses one.
abbrev pub HoldsWithCause : (View → PlainEntry → Type 0) → Type 0
HoldsWithCause law =
    (s : Settings) (incs : List ℕ) (clock boxes : ℕ) (answers : List Answer) (events : List Happening)
    → IsOpening s incs clock boxes
    → Holds law (at_start clock) (trace s incs clock boxes answers events)
    × ((line : PlainEntry) → is_last line ≡ true → HasCause line → Holds law (at_start clock) (trace s incs clock boxes answers events ++ line ∷ []))
