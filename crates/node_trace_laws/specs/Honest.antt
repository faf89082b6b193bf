-- What a node's trace obeys, where its net hands up what the node's hosts sent: the law, stated; it is proved in this crate.
use Rattle.std.specs.Prelude.{◌≡◌, ℕ, ◌==◌, ◌&&◌, ◌||◌, Bool, true, not, is_some, Option, None, Some, List, [], ◌∷◌, ◌++◌, take}
use Rattle.std.specs.List.{AllByRecursion, list_any}
use Rattle.homa_plain.specs.declared.id.HostId.{HostId}
use Rattle.homa_plain.specs.declared.settings.Settings.{Settings}
use Rattle.homa_plain.specs.Wire.{packet_in, spelling}
use Rattle.homa_plain.specs.Entries.{PlainEntry, PlainSettings, PlainClock, PlainSend, PlainRecv}
use Rattle.homa_plain.specs.Rules.{Answer}
use Rattle.homa_plain.specs.Script.{most_bytes}
use Rattle.trace_rules.specs.View.{nothing_seen}
use Rattle.trace_rules.specs.Laws.{Holds}
use Rattle.trace_rules.specs.Judge.{Obeys, first_broken}
use Rattle.node_runs.specs.Script.{Setup, Calls, Opened, opening}
use Rattle.node_runs.specs.Course.{Receive, AreTicks, End, Run, node_run}
use Rattle.node_runs.specs.Recorder.{Kept, Notes, no_notes, is_same, in_life, sent_packet, keeps}
use Rattle.node_runs.specs.Texts.{entries, end_entry}
use Rattle.node_runs.specs.Replayed.{NoneStrange, IsAnswer}

-- ---- what was sent, by the lines of a trace

-- the clock's tick, the settings and all datagrams that were sent, with one more line
unfoldable pub noted : Notes → PlainEntry → Notes
noted n (PlainSettings s) = record n { settings = Some s }
noted n (PlainClock now) = record n { tick = now }
noted n (PlainSend number from to inc role id level body payload) =
    keeps n.settings number from to (λ (s : Settings). spelling s.wire (sent_packet s n.tick inc role id level body) payload) n
noted n line = n

-- ---- an honest net

-- a datagram may still come: with version 1 for `life` ticks, with version 2 for ever
abbrev pub may_come : Settings → ℕ → Kept → Bool
may_come s now d = not (s.wire == 1) || in_life s now d

-- a datagram was sent to a host from another, and may still come
abbrev pub was_sent : Settings → Notes → HostId → HostId → List ℕ → Bool
was_sent s n host from bytes = list_any (λ (d : Kept). is_same host from bytes d && may_come s n.tick d) n.datagrams

-- one that comes is no packet, or was sent; none comes before the settings were told
abbrev pub is_honest_by : Option Settings → Notes → HostId → HostId → List ℕ → Bool
is_honest_by None n host from bytes = true
is_honest_by (Some s) n host from bytes = not (is_some (packet_in s.wire bytes)) || was_sent s n host from bytes

-- a line tells of no packet that the net made up, or held back for too long
abbrev pub is_honest : Notes → PlainEntry → Bool
is_honest n (PlainRecv host from bytes) = is_honest_by n.settings n host from bytes
is_honest n line = true

-- nor does any of these
abbrev pub AreHonest : Notes → List PlainEntry → Type 0
AreHonest n [] = Unit {0}
AreHonest n (line ∷ lines) = (is_honest n line ≡ true) × AreHonest (noted n line) lines

-- ---- the law

-- the lines of a run, the last one among them where the run has an end
abbrev pub last_line : Option End → List PlainEntry
last_line None = []
last_line (Some end) = end_entry end ∷ []

abbrev pub lines : Run → List PlainEntry
lines run = entries run.reports ++ last_line run.end

-- it is so of each run of a node whose script is opened, whatever its services answer, its clock gives and its net hands up
abbrev pub OfEveryRun : (Run → Type 0) → Type 0
OfEveryRun so =
    (bytes : List ℕ) (setup : Setup) (calls : Calls) (answers : List Answer) (ticks : List ℕ) (receives : List Receive)
    → opening most_bytes bytes ≡ Opened setup calls → AllByRecursion IsAnswer answers → AreTicks 0 ticks
    → so (node_run bytes answers ticks receives)

-- Where a node's net was honest in the first n lines of its trace, these have the shape and obey all five laws. A host elsewhere sends nothing in the
-- run; so no packet that comes from there is honest.
abbrev pub NodeTracesObey : Type 0
NodeTracesObey = OfEveryRun (λ run. (n : ℕ) → AreHonest no_notes (take n (lines run)) → Holds Obeys nothing_seen (take n (lines run)))

-- so a judge of all its lines finds none that breaks a law, where the net was honest in all
abbrev pub NoneIsBroken : Type 0
NoneIsBroken = OfEveryRun (λ run. AreHonest no_notes (lines run) → first_broken (lines run) ≡ None)

-- ---- what a recorder takes for strange

-- where nothing of a run is strange to a recorder, the net was honest in all its lines
abbrev pub UsualIsHonest : Type 0
UsualIsHonest = OfEveryRun (λ run. NoneStrange no_notes run.reports → AreHonest no_notes (lines run))
