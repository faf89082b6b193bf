-- What is printed of a recording, and what the net took and gave meanwhile.
use Rattle.std.specs.Prelude.{◌≡◌, ◌⊎◌, ℕ, true, false, Option, Some, List, [], ◌∷◌, ◌++◌}
use Rattle.homa_io.specs.Outside.{appended}
use Rattle.homa_plain.specs.Entries.{PlainEntry}
use Rattle.homa_plain.specs.Rules.{Answer}
use Rattle.homa_plain.specs.Script.{most_bytes}
use Rattle.node_runs.specs.Script.{opening}
use Rattle.node_runs.specs.Course.{Report, Receive, node_run, most_received}
use Rattle.node_runs.specs.Acts.{opened_acts, node_acts}
use Rattle.node_runs.specs.Recorder.{no_notes}
use Rattle.node_runs.specs.Texts.{recorded, recording_text, recording_status, recorded_sent}
use Rattle.node_turns.specs.Told.{listed, Hears, HasDoneFront}
use Rattle.node_output.specs.Traces.{Around, IsGiven, IsEndCut, IsBrokenOff, recording_telling}
use Rattle.node_output.specs.declared.recording_end.Recorded.{Recorded}
use Rattle.node_output.specs.declared.recording_end.Recorded.TheVariants.{Done, Refused, Stalled, Stranger, WriteFailed}

module _ (may_tell : List PlainEntry → Type 0) where
  -- the run of these bytes was recorded whole, with this status and no foreign datagram; no receive is left, and the net took the run's datagrams
  pub record IsWhole (bytes : List ℕ) (old new : Around) (status : ℕ) : Type 0 where
    pub answers : List Answer
    pub ticks : List ℕ
    pub gave : List Receive
    pub from : IsGiven may_tell old new answers ticks gave (node_run bytes answers ticks gave).reports
    pub status_is : recording_status (node_run bytes answers ticks gave) ≡ Some status
    pub used : (node_run bytes answers ticks gave).left ≡ []
    pub text : new.taken ≡ appended old.taken (recording_text (node_run bytes answers ticks gave))
    pub took : new.sent ≡ listed old.sent (node_run bytes answers ticks gave).sent
    pub acted : new.acts ≡ listed old.acts (node_acts bytes (node_run bytes answers ticks gave))

  -- A datagram of the run is foreign: the recording up to the first such one was printed, with it, and the net took the datagrams up to there.
  -- The run begins with these reports, and the last of them is that datagram. The answers are in their `run` lines, and the services allow them.
  pub record IsCutShort (bytes : List ℕ) (old new : Around) : Type 0 where
    pub answers : List Answer
    pub ticks : List ℕ
    pub gave : List Receive
    pub reports : List Report
    pub more : List Report
    pub begins : (node_run bytes answers ticks gave).reports ≡ reports ++ more
    pub before : List Report
    pub last : Report
    pub split : reports ≡ before ++ last ∷ []
    pub usual : (recorded no_notes before).is_cut ≡ false
    pub strange : (recorded no_notes reports).is_cut ≡ true
    pub from : IsGiven may_tell old new answers ticks gave reports
    pub status_is : recording_status (node_run bytes answers ticks gave) ≡ Some 8
    pub text : new.taken ≡ appended old.taken (recording_text (node_run bytes answers ticks gave))
    pub took : new.sent ≡ listed old.sent (recorded_sent (node_run bytes answers ticks gave))
    pub done : HasDoneFront (listed old.acts (opened_acts (opening most_bytes bytes))) new.acts (Hears most_received) reports

  -- what was recorded, by how it ended; with a fault, or without memory, a prefix of it; after the end only the sink can fail
  abbrev pub HasRecorded : List ℕ → Option (List ℕ) → Around → Around → Recorded → Type 0
  HasRecorded bytes left old new Done = IsWhole bytes old new 0 × (left ≡ Some [])
  HasRecorded bytes left old new Refused = IsWhole bytes old new 2
  HasRecorded bytes left old new Stalled = IsWhole bytes old new 7
  HasRecorded bytes left old new Stranger = IsCutShort bytes old new
  HasRecorded bytes left old new WriteFailed =
      IsBrokenOff may_tell recording_telling bytes left old new ⊎ IsEndCut may_tell recording_telling bytes old new
  HasRecorded bytes left old new broken = IsBrokenOff may_tell recording_telling bytes left old new
