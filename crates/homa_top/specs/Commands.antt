-- What the commands beside `replay` print, by their status.
use Rattle.std.specs.Prelude.{◌≡◌, ◌≢◌, ◌≤◌, ◌⊎◌, ℕ, true, Option, Some, List, []}
use Rattle.homa_io.specs.Outside.{appended, TookFront, IsAtEnd}
use Rattle.homa_plain.specs.declared.fault.LineFault.{LineFault}
use Rattle.homa_plain.specs.Settings.{usual}
use Rattle.homa_plain.specs.Entries.{PlainEntry}
use Rattle.trace_rules.specs.Judge.{Clause}
use Rattle.homa_plain.specs.Quiet.{IsQuiet}
use Rattle.homa_plain.specs.Answers.{shown}
use Rattle.homa_plain.specs.Rules.{Answer}
use Rattle.node_runs.specs.Course.{Receive, AreTicks, AreReceived, Ended, RefusedAt, StalledAt, node_run}
use Rattle.node_runs.specs.Texts.{entries}
use Rattle.homa_node.specs.Served.{AreGiven}
use Rattle.node_output.specs.Traces.{Around, IsWhole, IsBrokenOff, IsEndCut, node_telling, recording_telling}
use Rattle.node_output.specs.Recorded as recording
use Rattle.check_verdict.specs.Text.{IsTrace, IsNoTrace}
use Rattle.check_verdict.specs.Verdict as verdict
use Rattle.check_verdict.specs.Verdict.{verdict_of}
use Rattle.homa_check.specs.Checks.{verdict_text, IsCutShort}
use Rattle.generated_runs.specs.Rounds.{Generated}
use Rattle.homa_generate.specs.Made.{Run, IsMade, IsPartMade}
use Rattle.quiet_call.specs.Text.{bound, quiet_text}
use Rattle.homa_top.specs.declared.exit.ExitStatus.{ExitStatus}
use Rattle.homa_top.specs.declared.exit.ExitStatus.TheVariants.{Done, Refused, ReadFailed, WriteFailed, NoMemory, Stalled, Stranger}
use Rattle.homa_top.specs.Exits.{is_broken_off}

-- the status is that of the end, of a fault of the sink, or of missing memory
abbrev pub IsWritten : ExitStatus → Type 0
IsWritten status = (status ≡ Done) ⊎ (status ≡ WriteFailed) ⊎ (status ≡ NoMemory)

-- a text of a generated run was printed; with another status than `Done`, a prefix of it
pub record HasMade (run : Run) (text : Generated → List ℕ) (old new : Option (List ℕ)) (allowed : List PlainEntry → Type 0) (status : ExitStatus) : Type 0 where
  pub written : IsWritten status
  pub whole : status ≡ Done → IsMade run text old new allowed
  pub front : is_broken_off status ≡ true → IsPartMade run text old new allowed

-- the quiet call is done in this round, at the latest in the round of the bound, and its line was printed
pub record IsCounted (n m : ℕ) (old new : Option (List ℕ)) : Type 0 where
  pub rounds : ℕ
  pub quiet : IsQuiet usual n m rounds
  pub within : rounds ≤ bound n m
  pub printed : new ≡ appended old (quiet_text n m rounds)

-- the line of the quiet call was printed; with another status than `Done`, a prefix of it
pub record HasCounted (n m : ℕ) (old new : Option (List ℕ)) (status : ExitStatus) : Type 0 where
  pub written : IsWritten status
  pub whole : status ≡ Done → IsCounted n m old new
  pub front : is_broken_off status ≡ true → (rounds : ℕ) → IsQuiet usual n m rounds → TookFront old new (quiet_text n m rounds)

-- ---- `check`

-- the verdict that every line obeys all laws was printed, and the input was read to its end
pub record IsYes (bytes : List ℕ) (left old new : Option (List ℕ)) : Type 0 where
  pub lines : ℕ
  pub trace : IsTrace bytes lines
  pub printed : new ≡ appended old (verdict_text (verdict.Yes lines))
  pub to_end : IsAtEnd left

-- the verdict was printed that names the first line that breaks a law, and the first clause that fails there
pub record IsNo (bytes : List ℕ) (old new : Option (List ℕ)) : Type 0 where
  pub line : ℕ
  pub clause : Clause
  pub fails : IsNoTrace bytes line clause
  pub printed : new ≡ appended old (verdict_text (verdict.No line clause))

-- the verdict on these bytes was printed; with the status of a fault or of missing memory, a prefix of it.
-- If reading failed, perhaps within a line, the whole lines that arrived obey all laws.
pub record HasJudged (bytes : List ℕ) (left old new : Option (List ℕ)) (status : ExitStatus) : Type 0 where
  pub yes : status ≡ Done → IsYes bytes left old new
  pub no : status ≡ Refused → IsNo bytes old new
  pub front : is_broken_off status ≡ true → TookFront old new (verdict_text (verdict_of bytes))
  pub cut : status ≡ ReadFailed → IsCutShort bytes left

-- ---- `node`

module _ (may_tell : List PlainEntry → Type 0) where
  -- the run came to the end after so many loop turns: its text was printed, and the script was read to its end
  pub record HasEnded (bytes : List ℕ) (left : Option (List ℕ)) (old new : Around) : Type 0 where
    pub turns : ℕ
    pub whole : IsWhole may_tell bytes old new (Ended turns)
    pub to_end : left ≡ Some []

  -- this is the first line that is refused: the text of the run up to it was printed
  pub record HasRefused (bytes : List ℕ) (old new : Around) : Type 0 where
    pub line : ℕ
    pub fault : LineFault
    pub whole : IsWhole may_tell bytes old new (RefusedAt line fault)

  -- the run took its last loop turn before the clock reached the end: its text was printed
  pub record HasStalled (bytes : List ℕ) (old new : Around) : Type 0 where
    pub turns : ℕ
    pub now : ℕ
    pub whole : IsWhole may_tell bytes old new (StalledAt turns now)

  -- the text of the node's run was printed; with the status of a fault or of missing memory, a prefix of it.
  -- After the end only the sink can fail.
  pub record HasRun (bytes : List ℕ) (left : Option (List ℕ)) (old new : Around) (status : ExitStatus) : Type 0 where
    pub ended : status ≡ Done → HasEnded bytes left old new
    pub refused : status ≡ Refused → HasRefused bytes old new
    pub stalled : status ≡ Stalled → HasStalled bytes old new
    pub front : is_broken_off status ≡ true → IsBrokenOff may_tell node_telling bytes left old new ⊎ IsEndCut may_tell node_telling bytes old new
    pub midst : is_broken_off status ≡ true → status ≢ WriteFailed → IsBrokenOff may_tell node_telling bytes left old new

  -- no line of the script is refused, whatever the services answer, and whatever ticks and datagrams clock and net give
  abbrev pub IsNeverRefused : List ℕ → Option (List ℕ) → Type 0
  IsNeverRefused bytes held = (answers : List Answer) (ticks : List ℕ) (gave : List Receive) (line : ℕ) (fault : LineFault)
      → AreGiven held ticks → AreTicks 0 ticks → AreReceived gave → shown (entries (node_run bytes answers ticks gave).reports) ≡ answers
      → may_tell (entries (node_run bytes answers ticks gave).reports)
      → (node_run bytes answers ticks gave).end ≡ Some (RefusedAt line fault) → ⊥

-- ---- `record`

module _ (may_tell : List PlainEntry → Type 0) where
  -- The recording of the node's run was printed. The status is that of the run's end; with `Done` the script was read to its end.
  -- With `Stranger` it is the recording up to the foreign datagram; with the status of a fault or of missing memory, a prefix of it.
  pub record HasRecorded (bytes : List ℕ) (left : Option (List ℕ)) (old new : Around) (status : ExitStatus) : Type 0 where
    pub ended : status ≡ Done → recording.IsWhole may_tell bytes old new 0 × (left ≡ Some [])
    pub refused : status ≡ Refused → recording.IsWhole may_tell bytes old new 2
    pub stalled : status ≡ Stalled → recording.IsWhole may_tell bytes old new 7
    pub stranger : status ≡ Stranger → recording.IsCutShort may_tell bytes old new
    pub front : is_broken_off status ≡ true → IsBrokenOff may_tell recording_telling bytes left old new ⊎ IsEndCut may_tell recording_telling bytes old new
    pub midst : is_broken_off status ≡ true → status ≢ WriteFailed → IsBrokenOff may_tell recording_telling bytes left old new
