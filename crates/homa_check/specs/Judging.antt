-- A line is judged before it is taken, and after that.
use Rattle.std.specs.Prelude.{Bool, true, not, if◌then◌else◌, Option, None, Some}
use Rattle.homa_plain.specs.Entries.{PlainEntry, PlainSend}
use Rattle.trace_rules.specs.View.{View}
use Rattle.trace_rules.specs.Judge.{Clause, ShapeClause, OnceClause, ReturnedClause, HandedUpClause, FailsClause, GrantingClause, has_shape, runs_once}
use Rattle.trace_rules.specs.Judge.{returns_answer, hands_up, fails_in_time, is_allowed}

-- a GRANT is one that its host may send
abbrev pub is_allowed_line : View → PlainEntry → Bool
is_allowed_line v (PlainSend number from to inc role id level body payload) = is_allowed v from to role id body
is_allowed_line v line = true

-- the first clause that fails at a line, windows aside, which are tested after it
abbrev pub judged_before : View → PlainEntry → Option Clause
judged_before v line =
    if not (has_shape v line) then Some ShapeClause
    else if not (runs_once v line) then Some OnceClause
    else if not (returns_answer v line) then Some ReturnedClause
    else if not (hands_up v line) then Some HandedUpClause
    else if not (fails_in_time v line) then Some FailsClause
    else if not (is_allowed_line v line) then Some GrantingClause
    else None
