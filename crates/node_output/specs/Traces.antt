-- What is printed of a node's run, and what the net took and gave meanwhile.
use Rattle.std.specs.Prelude.{◌≡◌, ◌⊎◌, ℕ, Bool, Option, Some, Result, Ok, Err, List, [], ◌++◌}
use Rattle.homa_io.specs.Outside.{appended, TookFront}
use Rattle.homa_plain.specs.Answers.{shown}
use Rattle.homa_plain.specs.Entries.{PlainEntry}
use Rattle.homa_plain.specs.Rules.{Answer}
use Rattle.node_runs.specs.Course.{Report, Datagram, Receive, AreReceived, AreTicks, End, Run, node_run, most_received}
use Rattle.homa_plain.specs.Script.{most_bytes}
use Rattle.node_runs.specs.Script.{opening}
use Rattle.node_runs.specs.Acts.{Act, opened_acts, node_acts}
use Rattle.node_runs.specs.Recorder.{Notes, no_notes, told, kept, strange}
use Rattle.node_runs.specs.Observed.{never, same_notes}
use Rattle.node_runs.specs.Texts.{entries, printed, node_text, recording_text, recorded_sent}
use Rattle.node_turns.specs.Told.{listed, ListedFront, Hears, AreBroken}
use Rattle.homa_node.specs.Served.{AreGiven}
use Rattle.node_output.specs.declared.trace_end.NodeEnd.{NodeEnd}
use Rattle.node_output.specs.declared.trace_end.NodeEnd.TheVariants.{Ended, Refused, Stalled}
use Rattle.node_output.specs.declared.trace_end.Broken.{Broken}
use Rattle.node_output.specs.declared.trace_end.Broken.TheVariants.{Write}
use Rattle.node_output.specs.TraceEnds.{end_seen}

-- what the sink took, what the net did, took and gave, and the ticks that the clock is to give, if they are observable
pub record Around : Type 0 where
  pub taken : Option (List ℕ)
  pub acts : Option (List Act)
  pub sent : Option (List Datagram)
  pub gave : Option (List Receive)
  pub ticks : Option (List ℕ)

abbrev pub around : Option (List ℕ) → Option (List Act) → Option (List Datagram) → Option (List Receive) → Option (List ℕ) → Around
around taken acts sent gave ticks = record { taken = taken; acts = acts; sent = sent; gave = gave; ticks = ticks }

-- if the run came to its last tick, the input was read to its end
abbrev pub IsReadOut : NodeEnd → Option (List ℕ) → Type 0
IsReadOut (Ended turns) left = left ≡ Some []
IsReadOut (Refused line fault) left = Unit {0}
IsReadOut (Stalled turns now) left = Unit {0}

-- These reports of a run have the answers in their `run` lines, which the services allow, and the ticks and receives that clock and net gave, if
-- these are observable. What was received is bytes, at most 1,500 at once.
pub record IsGiven (may_tell : List PlainEntry → Type 0) (old new : Around) (answers : List Answer) (ticks : List ℕ) (gave : List Receive)
    (reports : List Report) : Type 0 where
  pub given : new.gave ≡ listed old.gave gave
  pub received : AreReceived gave
  pub ticked : AreGiven old.ticks ticks
  pub rises : AreTicks 0 ticks
  pub shows : shown (entries reports) ≡ answers
  pub allowed : may_tell (entries reports)

-- a run begins with these reports; a prefix of its text was printed, and the net took a prefix of the datagrams that it is to take
pub record IsFrontOf (text_of : Run → List ℕ) (sent_of : Run → List Datagram) (run : Run) (reports : List Report) (old new : Around) : Type 0 where
  pub more : List Report
  pub begins : run.reports ≡ reports ++ more
  pub text : TookFront old.taken new.taken (text_of run)
  pub took : ListedFront old.sent new.sent (sent_of run)

-- what an observer reports, and what is printed and taken of a run: its trace and datagrams, or its recording and the datagrams up to a foreign one
pub record Telling : Type 0 where
  pub told : Notes → Report → List ℕ
  pub kept : Notes → Report → Notes
  pub strange : Notes → Report → Bool
  pub text_of : Run → List ℕ
  pub sent_of : Run → List Datagram

-- the reports of a node, and what is printed and taken of them
abbrev pub node_telling : Telling
node_telling = record { told = λ notes report. printed report; kept = same_notes; strange = never; text_of = node_text; sent_of = λ run. run.sent }

-- the reports of a recording, and what is printed and taken of them
abbrev pub recording_telling : Telling
recording_telling = record { told = told; kept = kept; strange = strange; text_of = recording_text; sent_of = recorded_sent }

-- what is printed of a run, by what is reported
module _ (may_tell : List PlainEntry → Type 0) (t : Telling) where
  -- the run of these bytes came to this end and left no receive, and the net took its datagrams; the sink took a prefix of the text
  pub record IsEndCut (bytes : List ℕ) (old new : Around) : Type 0 where
    pub answers : List Answer
    pub ticks : List ℕ
    pub gave : List Receive
    pub end : End
    pub from : IsGiven may_tell old new answers ticks gave (node_run bytes answers ticks gave).reports
    pub ended : (node_run bytes answers ticks gave).end ≡ Some end
    pub used : (node_run bytes answers ticks gave).left ≡ []
    pub text : TookFront old.taken new.taken (t.text_of (node_run bytes answers ticks gave))
    pub took : new.sent ≡ listed old.sent (node_run bytes answers ticks gave).sent
    pub acted : new.acts ≡ listed old.acts (node_acts bytes (node_run bytes answers ticks gave))

  -- Some of the bytes arrived. The output is a prefix of the text of each run that begins so: of every input that begins with these bytes, whatever
  -- is answered, read and received later. Or no byte is left, and it is a prefix of the text of their run. The net bound and routed hosts; all of
  -- them, if anything was reported. Then it did the first of what the reports ask for (`AreBroken`), and nothing of a step after the first one
  -- that wasn't reported whole.
  pub record IsBrokenOff (bytes : List ℕ) (left : Option (List ℕ)) (old new : Around) : Type 0 where
    pub came : List ℕ
    pub rest : List ℕ
    pub split : bytes ≡ came ++ rest
    pub has_left : left ≡ Some rest
    pub answers : List Answer
    pub ticks : List ℕ
    pub gave : List Receive
    pub reports : List Report
    pub from : IsGiven may_tell old new answers ticks gave reports
    pub first : List Act
    pub unconnected : List Act
    pub connected : opened_acts (opening most_bytes bytes) ≡ first ++ unconnected
    pub all_first : (unconnected ≡ []) ⊎ (new.taken ≡ old.taken)
    pub broken : AreBroken t.told t.kept t.strange old.taken no_notes new.taken (listed old.acts first) new.acts (Hears most_received) reports
    pub front : ((more : List ℕ) (later : List Answer) (on : List ℕ) (next : List Receive)
        → IsFrontOf t.text_of t.sent_of (node_run (came ++ more) (answers ++ later) (ticks ++ on) (gave ++ next)) reports old new)
        ⊎ ((rest ≡ []) × ((later : List Answer) (on : List ℕ) (next : List Receive)
        → IsFrontOf t.text_of t.sent_of (node_run came (answers ++ later) (ticks ++ on) (gave ++ next)) reports old new))

module _ (may_tell : List PlainEntry → Type 0) where
  -- the run of these bytes came to this end and left no receive; its whole text was printed, and the net took its datagrams
  pub record IsWhole (bytes : List ℕ) (old new : Around) (end : End) : Type 0 where
    pub answers : List Answer
    pub ticks : List ℕ
    pub gave : List Receive
    pub from : IsGiven may_tell old new answers ticks gave (node_run bytes answers ticks gave).reports
    pub ended : (node_run bytes answers ticks gave).end ≡ Some end
    pub used : (node_run bytes answers ticks gave).left ≡ []
    pub text : new.taken ≡ appended old.taken (node_text (node_run bytes answers ticks gave))
    pub took : new.sent ≡ listed old.sent (node_run bytes answers ticks gave).sent
    pub acted : new.acts ≡ listed old.acts (node_acts bytes (node_run bytes answers ticks gave))

  -- what was printed; after the end only the sink can fail
  abbrev pub IsPrinted : List ℕ → Option (List ℕ) → Around → Around → Result NodeEnd Broken → Type 0
  IsPrinted bytes left old new (Ok end) = IsWhole bytes old new (end_seen end) × IsReadOut end left
  IsPrinted bytes left old new (Err Write) = IsBrokenOff may_tell node_telling bytes left old new ⊎ IsEndCut may_tell node_telling bytes old new
  IsPrinted bytes left old new (Err broken) = IsBrokenOff may_tell node_telling bytes left old new
