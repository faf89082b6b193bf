-- What the replay of a recording gives: its law, stated; it is proved in node_laws.
use Rattle.std.specs.Prelude.{◌≡◌, ◌≤◌, ◌<◌, ℕ, ◌*◌, Bool, true, false, None, Some, List, [], ◌∷◌, filter, replicate, length}
use Rattle.std.specs.List.{AllByRecursion}
use Rattle.homa_plain.specs.declared.event.Event.{Event}
use Rattle.homa_plain.specs.declared.event.Event.TheVariants as event
use Rattle.homa_plain.specs.declared.settings.Settings.{Settings}
use Rattle.homa_plain.specs.Bytes.{IsBytes}
use Rattle.homa_plain.specs.Wire.{Between}
use Rattle.homa_plain.specs.Entries.{PlainEntry, PlainSettings, PlainDeliver, PlainClock, PlainInject, PlainRecv}
use Rattle.homa_plain.specs.Rules.{Answer}
use Rattle.homa_plain.specs.World.{new_world}
use Rattle.homa_plain.specs.Replay.{Happening, Run, carried}
use Rattle.homa_plain.specs.Script.{most_bytes}
use Rattle.node_runs.specs.Script.{Place, Local, Remote, Setup, Calls, Opened, opening}
use Rattle.node_runs.specs.Course.{Report, Tells, Receive, AreTicks, AreReceived, Ended, node_run}
use Rattle.node_runs.specs.Recorder.{Notes, no_notes, events, kept}
use Rattle.node_runs.specs.Observed.{observed, never}
use Rattle.node_runs.specs.Texts.{entries, recorded}
use Rattle.homa_plain.specs.Limits.{longest_hold, longest_message}

-- ---- what is compared

-- the events for these reports
abbrev pub recorded_events : Notes → List Report → List Happening
recorded_events notes reports = (observed events kept never notes reports).told

-- no report is of a foreign datagram
abbrev pub NoneStrange : Notes → List Report → Type 0
NoneStrange notes reports = (recorded notes reports).is_cut ≡ false

-- an entry of a host: a recording has the clock's ticks one by one, and has other lines for the arrival of a datagram
abbrev pub is_of_host : PlainEntry → Bool
is_of_host (PlainClock tick) = false
is_of_host (PlainDeliver packet) = false
is_of_host (PlainInject host bytes) = false
is_of_host (PlainRecv host from bytes) = false
is_of_host entry = true

-- the entries of hosts among these, in order
abbrev pub of_hosts : List PlainEntry → List PlainEntry
of_hosts told = filter is_of_host told

-- a report of settings
abbrev pub is_settings : Report → Bool
is_settings (Tells (PlainSettings s)) = true
is_settings report = false

-- no report is of settings
abbrev pub NoSettings : List Report → Type 0
NoSettings [] = Unit {0}
NoSettings (report ∷ reports) = (is_settings report ≡ false) × NoSettings reports

-- the settings are reported first, and only there
pub record BeginsWith (s : Settings) (reports : List Report) : Type 0 where
  pub later : List Report
  pub first : reports ≡ Tells (PlainSettings s) ∷ later
  pub only : NoSettings later

-- an event that a recorder may print: its hosts are two of 32 at most, its packet is one of so many that were sent,
-- and its bytes are those of a message or of a datagram
abbrev pub IsRecorded : ℕ → Event → List ℕ → Type 0
IsRecorded packets (event.Call client server service) bytes =
    (client.0 < 32) × (server.0 < 32) × (service < 256) × IsBytes bytes × (length bytes ≤ longest_message)
IsRecorded packets (event.Deliver number) bytes = (number < packets) × (bytes ≡ [])
IsRecorded packets event.Clock bytes = bytes ≡ []
IsRecorded packets (event.Turn host) bytes = (host.0 < 32) × (bytes ≡ [])
IsRecorded packets (event.Inject host) bytes = (host.0 < 32) × IsBytes bytes × (length bytes ≤ 1500)
IsRecorded packets (event.Restart host) bytes = ⊥
IsRecorded packets (event.Shift host lead) bytes = ⊥

-- each of these events is one that a recorder may print
abbrev pub AreRecorded : ℕ → List Happening → Type 0
AreRecorded packets es = AllByRecursion (λ (e : Happening). IsRecorded packets e.event e.bytes) es

-- ---- the law

-- the host is local, in incarnation 1
abbrev pub IsHere : Place → Type 0
IsHere (Local inc port) = inc ≡ 1
IsHere (Remote port) = ⊥

-- whether a service may answer so: 1 to 1,000,000 bytes, held back for at most 1,000,000 ticks
abbrev pub IsAnswer : Answer → Type 0
IsAnswer answer = Between 1 longest_message (length answer.bytes) × IsBytes answer.bytes × (answer.hold ≤ longest_hold)

-- the replay of these events, with this trace, has these entries of hosts, and nothing was refused
abbrev pub RepeatsBy : Run → Settings → List PlainEntry → Type 0
RepeatsBy run s told = (run.fault ≡ None) × (of_hosts (PlainSettings s ∷ run.told) ≡ of_hosts told)

-- If all hosts of a node are local with incarnation 1, and its run has no foreign datagram, the replay of its
-- recording gives the entries of the run's hosts, except those of the clock and of datagrams that arrive.
abbrev pub RecordingsRepeat : Type 0
RecordingsRepeat =
    (bytes : List ℕ) (setup : Setup) (calls : Calls) (answers : List Answer) (ticks : List ℕ) (receives : List Receive) (boxes : ℕ)
    → opening most_bytes bytes ≡ Opened setup calls → AllByRecursion IsHere setup.places
    → AllByRecursion IsAnswer answers → AreTicks 0 ticks
    → let s = setup.settings in
    let reports = (node_run bytes answers ticks receives).reports in
    NoneStrange no_notes reports
    → RepeatsBy (carried s (new_world s (replicate s.hosts 1) 0 boxes answers) (recorded_events no_notes reports)) s (entries reports)

-- the reports of such a run have the settings first, and only there
abbrev pub SettingsFirst : Type 0
SettingsFirst =
    (bytes : List ℕ) (setup : Setup) (calls : Calls) (answers : List Answer) (ticks : List ℕ) (receives : List Receive)
    → opening most_bytes bytes ≡ Opened setup calls → AllByRecursion IsHere setup.places
    → AllByRecursion IsAnswer answers → AreTicks 0 ticks
    → let reports = (node_run bytes answers ticks receives).reports in
    NoneStrange no_notes reports → BeginsWith setup.settings reports

-- each event that is recorded of such a run has its numbers in range: it sends at most 64 packets an event
abbrev pub EventsFit : Type 0
EventsFit =
    (bytes : List ℕ) (setup : Setup) (calls : Calls) (answers : List Answer) (ticks : List ℕ) (receives : List Receive)
    → opening most_bytes bytes ≡ Opened setup calls → AllByRecursion IsHere setup.places
    → AllByRecursion IsAnswer answers → AreTicks 0 ticks → AreReceived receives
    → let reports = (node_run bytes answers ticks receives).reports in
    NoneStrange no_notes reports
    → AreRecorded (64 * length (recorded_events no_notes reports)) (recorded_events no_notes reports)

-- a run ends after the most loop turns that its script allows, or before
abbrev pub TurnsFit : Type 0
TurnsFit =
    (bytes : List ℕ) (setup : Setup) (calls : Calls) (answers : List Answer) (ticks : List ℕ) (receives : List Receive) (turns : ℕ)
    → opening most_bytes bytes ≡ Opened setup calls
    → (node_run bytes answers ticks receives).end ≡ Some (Ended turns)
    → turns ≤ 1000000000
