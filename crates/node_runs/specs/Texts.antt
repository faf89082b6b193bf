-- What a node prints of its run, and what a recorder prints of it.
use Rattle.std.specs.Prelude.{ℕ, Bool, if◌then◌else◌, Option, None, Some, List, [], ◌∷◌, ◌++◌, codes, length, take}
use Rattle.std.specs.Fmt.{decimal}
use Rattle.std.specs.Option.{option_map}
use Rattle.homa_plain.specs.Entries.{PlainEntry, PlainSend, PlainFinished, PlainRefused, PlainStalled}
use Rattle.homa_plain.specs.Text.{line_of_words, line_text}
use Rattle.node_runs.specs.Course.{Report, Tells, Turning, Datagram, End, Ended, RefusedAt, StalledAt, Run}
use Rattle.node_runs.specs.Recorder.{Notes, no_notes, strange, told, kept}
use Rattle.node_runs.specs.Observed.{Observed, observed, never, same_notes}

-- ---- a node

-- the entries of a run
abbrev pub entries : List Report → List PlainEntry
entries [] = []
entries (Tells entry ∷ reports) = entry ∷ entries reports
entries (Turning host ∷ reports) = entries reports

-- the entry of an end
abbrev pub end_entry : End → PlainEntry
end_entry (Ended turns) = PlainFinished turns
end_entry (RefusedAt line fault) = PlainRefused line fault
end_entry (StalledAt turns now) = PlainStalled turns now

-- the last line of a run, where it has an end
abbrev pub last_text : (End → List ℕ) → Option End → List ℕ
last_text text None = []
last_text text (Some end) = text end

-- what a node prints of a report: the line of an entry; nothing for a turn that begins
abbrev pub printed : Report → List ℕ
printed (Tells entry) = line_text entry
printed (Turning host) = []

-- what a node prints of its run
unfoldable pub node_text : Run → List ℕ
node_text run =
    (observed (λ (notes : Notes) (report : Report). printed report) same_notes never no_notes run.reports).told
    ++ last_text (λ (end : End). line_text (end_entry end)) run.end

-- ---- a recording

-- what a recorder prints of reports, up to the first of a foreign datagram, of which it prints a line too
abbrev pub recorded : Notes → List Report → Observed ℕ
recorded notes reports = observed told kept strange notes reports

-- the last line of a recording: a comment if the run ended, otherwise as a node prints it
abbrev pub recorded_end : End → List ℕ
recorded_end (Ended turns) = line_of_words (codes "#" ∷ codes "ok" ∷ decimal turns ∷ [])
recorded_end end = line_text (end_entry end)

-- a recording with its last line, unless it was cut
abbrev pub with_end : Observed ℕ → Option End → List ℕ
with_end recording end = if recording.is_cut then recording.told else recording.told ++ last_text recorded_end end

-- what a recorder prints of a run
unfoldable pub recording_text : Run → List ℕ
recording_text run = with_end (recorded no_notes run.reports) run.end

-- ---- what the net is given, and the status

-- the number of the packet that a report shows as sent
abbrev pub sent_number : Report → List ℕ
sent_number (Tells (PlainSend number from to inc role id level body payload)) = number ∷ []
sent_number report = []

-- the datagrams that the net got with so many reports:
-- all of the run, or those up to the first report of a foreign datagram
unfoldable pub sent_by : (Notes → Report → Notes) → (Notes → Report → Bool) → Notes → Run → List Datagram
sent_by kept strange notes run = take (length (observed (λ (n : Notes) (report : Report). sent_number report) kept strange notes run.reports).told) run.sent

-- the datagrams of a run that is recorded
abbrev pub recorded_sent : Run → List Datagram
recorded_sent run = sent_by kept strange no_notes run

-- the status of an end
abbrev pub end_status : End → ℕ
end_status (Ended turns) = 0
end_status (RefusedAt line fault) = 2
end_status (StalledAt turns now) = 7

-- the status of a run, if it has an end
abbrev pub node_status : Run → Option ℕ
node_status run = option_map end_status run.end

-- the status of a recording: 8 if a datagram was foreign
abbrev pub recording_status : Run → Option ℕ
recording_status run = if (recorded no_notes run.reports).is_cut then Some 8 else node_status run
