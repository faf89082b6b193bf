-- What is printed of a generated run: its schedule, and the summary of its trace.
use Rattle.std.specs.Prelude.{ℕ, ◌==◌, Bool, true, false, List, [], ◌∷◌, ◌++◌, length, filter, codes}
use Rattle.std.specs.List.{flat_map}
use Rattle.std.specs.Fmt.{decimal}
use Rattle.homa_plain.specs.declared.settings.Settings.{Settings}
use Rattle.homa_plain.specs.declared.event.Event.{Event}
use Rattle.homa_plain.specs.declared.event.Event.TheVariants as event
use Rattle.homa_plain.specs.declared.packet.Kind.{Kind}
use Rattle.homa_plain.specs.declared.entry.Why.TheVariants.{Timeout, Forgotten}
use Rattle.homa_plain.specs.Settings.{usual}
use Rattle.homa_plain.specs.Kinds.{kinds, body_kind, kind_number, kind_name}
use Rattle.homa_plain.specs.Entries.{PlainEntry, PlainCall, PlainDeliver, PlainClock, PlainSend, PlainRun, PlainDone, PlainFail}
use Rattle.homa_plain.specs.Rules.{Answer}
use Rattle.homa_plain.specs.Script.{Given, GivenEvent, GivenTicks, event_text, settings_text}
use Rattle.homa_plain.specs.Text.{line_of_words, host_word}
use Rattle.generated_runs.specs.Rounds.{Generated, first_generated, rounds}

-- the settings of generated runs: the usual ones with 32 hosts
abbrev pub generated_settings : Settings
generated_settings = record usual { hosts = 32 }

-- how many rounds a generated run has at most
abbrev pub most_rounds : ℕ
most_rounds = 100000

-- the run of a seed and so many calls, where the services answer so and there are so many boxes
abbrev pub generated : ℕ → ℕ → ℕ → List Answer → Generated
generated seed calls boxes answers = rounds most_rounds generated_settings (first_generated generated_settings seed calls boxes answers)

-- ---- the schedule

-- a call's request has counting bytes, and is printed by their number
abbrev pub call_text : Event → List ℕ → List ℕ
call_text (event.Call client server service) bytes =
    line_of_words (codes "call" ∷ host_word client ∷ host_word server ∷ decimal service ∷ (codes "*" ++ decimal (length bytes)) ∷ [])
call_text e bytes = event_text e bytes

-- the line of an event, or of one tick
abbrev pub given_text : Given → List ℕ
given_text (GivenEvent e bytes) = call_text e bytes
given_text (GivenTicks n) = codes "tick\n"

-- the schedule of a generated run: its settings, `go`, and its lines
abbrev pub schedule_text : Settings → Generated → List ℕ
schedule_text s g = settings_text s ++ flat_map given_text g.lines

-- ---- the summary

-- how many entries pass a test
abbrev pub count_of : (PlainEntry → Bool) → List PlainEntry → ℕ
count_of is told = length (filter is told)

-- a `run` line
abbrev pub is_run : PlainEntry → Bool
is_run (PlainRun host id service request response hold) = true
is_run e = false

-- a `done` line
abbrev pub is_done : PlainEntry → Bool
is_done (PlainDone id bytes) = true
is_done e = false

-- a `fail` line of a call whose cause is `Timeout`
abbrev pub is_timeout : PlainEntry → Bool
is_timeout (PlainFail id Timeout) = true
is_timeout e = false

-- a `fail` line of a call whose cause is `Forgotten`
abbrev pub is_forgotten : PlainEntry → Bool
is_forgotten (PlainFail id Forgotten) = true
is_forgotten e = false

-- a `deliver` line
abbrev pub is_deliver : PlainEntry → Bool
is_deliver (PlainDeliver packet) = true
is_deliver e = false

-- a `clock` line
abbrev pub is_clock : PlainEntry → Bool
is_clock (PlainClock tick) = true
is_clock e = false

-- a `call` line
abbrev pub is_call : PlainEntry → Bool
is_call (PlainCall id server service bytes) = true
is_call e = false

-- a `send` line of a packet of this kind
abbrev pub is_kind : Kind → PlainEntry → Bool
is_kind kind (PlainSend number from to inc role id level what payload) = kind_number (body_kind what) == kind_number kind
is_kind kind e = false

-- a count with its name, as a line
abbrev pub summary_line : List ℕ → ℕ → List ℕ
summary_line name n = line_of_words (name ∷ decimal n ∷ [])

-- the counts of the lines of a trace, each with its name: those of packets stand last, kind by kind
abbrev pub summary_text : List PlainEntry → List ℕ
summary_text told =
    summary_line (codes "calls") (count_of is_call told)
    ++ summary_line (codes "runs") (count_of is_run told)
    ++ summary_line (codes "done") (count_of is_done told)
    ++ summary_line (codes "timeout") (count_of is_timeout told)
    ++ summary_line (codes "forgotten") (count_of is_forgotten told)
    ++ summary_line (codes "deliver") (count_of is_deliver told)
    ++ summary_line (codes "clock") (count_of is_clock told)
    ++ flat_map (λ kind. summary_line (kind_name kind) (count_of (is_kind kind) told)) kinds
