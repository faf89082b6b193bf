-- What a node's run printed and which count of faults rose, by the status.
use Rattle.std.proofs.Common.{◌≡◌, ◌≢◌, inl, ℕ, Option, Result, Ok, Err, List, refl, ap}
use Rattle.homa_io.specs.Outside.{HasRisen}
use Rattle.homa_plain.specs.Entries.{PlainEntry}
use Rattle.node_turns.specs.Faults.{Counts}
use Rattle.node_output.specs.declared.trace_end.NodeEnd.{NodeEnd}
use Rattle.node_output.specs.declared.trace_end.NodeEnd.TheVariants as end
use Rattle.node_output.specs.declared.trace_end.Broken.{Broken}
use Rattle.node_output.specs.declared.trace_end.Broken.TheVariants as broken
use Rattle.node_output.specs.TraceEnds.{HaveFaults}
use Rattle.node_output.specs.Traces.{Around, IsPrinted}
use Rattle.homa_top.specs.declared.exit.ExitStatus.{ExitStatus}
use Rattle.homa_top.specs.declared.exit.ExitStatus.TheVariants.{Done, NoCommand, Refused, ReadFailed, WriteFailed, NoMemory, NetFailed, Stalled, Stranger}
use Rattle.homa_top.specs.Exits.{status_of_node}
use Rattle.homa_top.specs.Commands.{HasRun}
use Rattle.homa_top.specs.Faults.{HaveStatus}

-- the text of the run was printed, or a front of it
module _ (may_tell : List PlainEntry → Type 0) (bytes : List ℕ) (left : Option (List ℕ)) (old new : Around) where
  pub has_run : (answer : Result NodeEnd Broken) → IsPrinted may_tell bytes left old new answer → HasRun may_tell bytes left old new (status_of_node answer)
  has_run (Ok (end.Ended turns)) p = record {
    ended = λ _. record { turns = turns; whole = p.0; to_end = p.1 };
    refused = λ e. absurd cc;
    stalled = λ e. absurd cc;
    front = λ e. absurd cc;
    midst = λ e. absurd cc;
  }
  has_run (Ok (end.Refused line fault)) p = record {
    ended = λ e. absurd cc;
    refused = λ _. record { line = line; fault = fault; whole = p.0 };
    stalled = λ e. absurd cc;
    front = λ e. absurd cc;
    midst = λ e. absurd cc;
  }
  has_run (Ok (end.Stalled turns now)) p = record {
    ended = λ e. absurd cc;
    refused = λ e. absurd cc;
    stalled = λ _. record { turns = turns; now = now; whole = p.0 };
    front = λ e. absurd cc;
    midst = λ e. absurd cc;
  }
  has_run (Err broken.Read) p = record
      { ended = λ e. absurd cc; refused = λ e. absurd cc; stalled = λ e. absurd cc; front = λ _. inl p; midst = λ _ _. p }
  has_run (Err broken.Write) p = record
      { ended = λ e. absurd cc; refused = λ e. absurd cc; stalled = λ e. absurd cc; front = λ _. p; midst = λ _ never. absurd (never refl) }
  has_run (Err broken.Net) p = record
      { ended = λ e. absurd cc; refused = λ e. absurd cc; stalled = λ e. absurd cc; front = λ _. inl p; midst = λ _ _. p }
  has_run (Err broken.NoMemory) p = record
      { ended = λ e. absurd cc; refused = λ e. absurd cc; stalled = λ e. absurd cc; front = λ _. inl p; midst = λ _ _. p }

-- nothing is strange to a node
pub is_usual : (answer : Result NodeEnd Broken) → status_of_node answer ≢ Stranger
is_usual (Ok (end.Ended turns)) = λ e. cc
is_usual (Ok (end.Refused line fault)) = λ e. cc
is_usual (Ok (end.Stalled turns now)) = λ e. cc
is_usual (Err broken.Read) = λ e. cc
is_usual (Err broken.Write) = λ e. cc
is_usual (Err broken.Net) = λ e. cc
is_usual (Err broken.NoMemory) = λ e. cc

-- no node has the status of words that are no command
pub is_command : (answer : Result NodeEnd Broken) → status_of_node answer ≢ NoCommand
is_command (Ok (end.Ended turns)) = λ e. cc
is_command (Ok (end.Refused line fault)) = λ e. cc
is_command (Ok (end.Stalled turns now)) = λ e. cc
is_command (Err broken.Read) = λ e. cc
is_command (Err broken.Write) = λ e. cc
is_command (Err broken.Net) = λ e. cc
is_command (Err broken.NoMemory) = λ e. cc

module _ (old new : Counts) where
  pub no_fault : (status : ExitStatus) → new ≡ old → status ≢ ReadFailed → status ≢ WriteFailed → status ≢ NetFailed → HaveStatus old new status
  no_fault status same no_read no_write no_net = record {
    read = λ e. absurd (no_read e);
    read_fault = λ ne. absurd (ne (ap (λ (c : Counts). c.source) same));
    write = λ e. absurd (no_write e);
    write_fault = λ ne. absurd (ne (ap (λ (c : Counts). c.sink) same));
    net = λ e. absurd (no_net e);
    net_fault = λ ne. absurd (ne (ap (λ (c : Counts). c.net) same));
  }

  pub read_failed : HasRisen old.source new.source × (new.net ≡ old.net) × (new.sink ≡ old.sink) → HaveStatus old new ReadFailed
  read_failed h = record {
    read = λ _. h.0;
    read_fault = λ _. refl;
    write = λ e. absurd cc;
    write_fault = λ ne. absurd (ne h.2);
    net = λ e. absurd cc;
    net_fault = λ ne. absurd (ne h.1);
  }

  pub write_failed : HasRisen old.sink new.sink × (new.source ≡ old.source) × (new.net ≡ old.net) → HaveStatus old new WriteFailed
  write_failed h = record {
    read = λ e. absurd cc;
    read_fault = λ ne. absurd (ne h.1);
    write = λ _. h.0;
    write_fault = λ _. refl;
    net = λ e. absurd cc;
    net_fault = λ ne. absurd (ne h.2);
  }

  pub net_failed : HasRisen old.net new.net × (new.source ≡ old.source) × (new.sink ≡ old.sink) → HaveStatus old new NetFailed
  net_failed h = record {
    read = λ e. absurd cc;
    read_fault = λ ne. absurd (ne h.1);
    write = λ e. absurd cc;
    write_fault = λ ne. absurd (ne h.2);
    net = λ _. h.0;
    net_fault = λ _. refl;
  }

  pub have_status : (answer : Result NodeEnd Broken) → HaveFaults old new answer → HaveStatus old new (status_of_node answer)
  have_status (Ok (end.Ended turns)) same = no_fault Done same (λ e. cc) (λ e. cc) (λ e. cc)
  have_status (Ok (end.Refused line fault)) same = no_fault Refused same (λ e. cc) (λ e. cc) (λ e. cc)
  have_status (Ok (end.Stalled turns now)) same = no_fault Stalled same (λ e. cc) (λ e. cc) (λ e. cc)
  have_status (Err broken.Read) h = read_failed h
  have_status (Err broken.Write) h = write_failed h
  have_status (Err broken.Net) h = net_failed h
  have_status (Err broken.NoMemory) same = no_fault NoMemory same (λ e. cc) (λ e. cc) (λ e. cc)
