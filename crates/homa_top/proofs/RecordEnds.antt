-- What a recording printed and which count of faults rose, by the status.
use Rattle.std.proofs.Common.{◌≡◌, ◌≢◌, ◌⊎◌, inl, inr, ℕ, Bool, false, true, Option, None, Some, List, refl}
use Rattle.std.specs.Prelude.{if◌then◌else◌}
use Rattle.std.specs.Option.{option_map}
use Rattle.homa_plain.specs.Entries.{PlainEntry}
use Rattle.homa_plain.specs.declared.fault.LineFault.{LineFault}
use Rattle.node_runs.specs.Course.{End, Ended, RefusedAt, StalledAt}
use Rattle.node_runs.specs.Texts.{end_status}
use Rattle.node_turns.specs.Faults.{Counts}
use Rattle.node_output.specs.Traces.{Around, IsBrokenOff, IsEndCut, recording_telling}
use Rattle.node_output.specs.declared.recording_end.Recorded.{Recorded}
use Rattle.node_output.specs.declared.recording_end.Recorded.TheVariants as how
use Rattle.node_output.specs.RecordingEnds.{HaveFaults}
use Rattle.node_output.specs.Recorded as recording
use Rattle.homa_top.specs.declared.exit.ExitStatus.{ExitStatus}
use Rattle.homa_top.specs.declared.exit.ExitStatus.TheVariants.{Done, NoCommand, Refused, ReadFailed, WriteFailed, NoMemory, NetFailed, Stalled, Stranger}
use Rattle.homa_top.specs.Exits.{status_of_recorded}
use Rattle.homa_top.specs.Commands.{HasRecorded, IsNeverRefused}
use Rattle.homa_top.specs.Faults.{HaveStatus}
use Rattle.homa_top.proofs.NodeEnds.{no_fault, read_failed, write_failed, net_failed}

-- the recording was printed, or a front of it
module _ (may_tell : List PlainEntry → Type 0) (bytes : List ℕ) (left : Option (List ℕ)) (old new : Around) where
  broken_off : (status : ExitStatus) → status ≢ Done → status ≢ Refused → status ≢ Stalled → status ≢ Stranger
      → IsBrokenOff may_tell recording_telling bytes left old new ⊎ IsEndCut may_tell recording_telling bytes old new
      → (status ≢ WriteFailed → IsBrokenOff may_tell recording_telling bytes left old new) → HasRecorded may_tell bytes left old new status
  broken_off status done refused stalled stranger p q = record {
    ended = λ e. absurd (done e);
    refused = λ e. absurd (refused e);
    stalled = λ e. absurd (stalled e);
    stranger = λ e. absurd (stranger e);
    front = λ _. p;
    midst = λ _ never. q never;
  }

  pub has_recorded : (answer : Recorded) → recording.HasRecorded may_tell bytes left old new answer
      → HasRecorded may_tell bytes left old new (status_of_recorded answer)
  has_recorded how.Done p = record {
    ended = λ _. p;
    refused = λ e. absurd cc;
    stalled = λ e. absurd cc;
    stranger = λ e. absurd cc;
    front = λ e. absurd cc;
    midst = λ e. absurd cc;
  }
  has_recorded how.Refused p = record {
    ended = λ e. absurd cc;
    refused = λ _. p;
    stalled = λ e. absurd cc;
    stranger = λ e. absurd cc;
    front = λ e. absurd cc;
    midst = λ e. absurd cc;
  }
  has_recorded how.Stalled p = record {
    ended = λ e. absurd cc;
    refused = λ e. absurd cc;
    stalled = λ _. p;
    stranger = λ e. absurd cc;
    front = λ e. absurd cc;
    midst = λ e. absurd cc;
  }
  has_recorded how.Stranger p = record {
    ended = λ e. absurd cc;
    refused = λ e. absurd cc;
    stalled = λ e. absurd cc;
    stranger = λ _. p;
    front = λ e. absurd cc;
    midst = λ e. absurd cc;
  }
  has_recorded how.ReadFailed p = broken_off ReadFailed (λ e. cc) (λ e. cc) (λ e. cc) (λ e. cc) (inl p) (λ _. p)
  has_recorded how.WriteFailed p = broken_off WriteFailed (λ e. cc) (λ e. cc) (λ e. cc) (λ e. cc) p (λ never. absurd (never refl))
  has_recorded how.NetFailed p = broken_off NetFailed (λ e. cc) (λ e. cc) (λ e. cc) (λ e. cc) (inl p) (λ _. p)
  has_recorded how.NoMemory p = broken_off NoMemory (λ e. cc) (λ e. cc) (λ e. cc) (λ e. cc) (inl p) (λ _. p)

-- no recording has the status of words that are no command
pub is_command : (answer : Recorded) → status_of_recorded answer ≢ NoCommand
is_command how.Done = λ e. cc
is_command how.Refused = λ e. cc
is_command how.Stalled = λ e. cc
is_command how.Stranger = λ e. cc
is_command how.ReadFailed = λ e. cc
is_command how.WriteFailed = λ e. cc
is_command how.NetFailed = λ e. cc
is_command how.NoMemory = λ e. cc

module _ (old new : Counts) where
  pub have_status : (answer : Recorded) → HaveFaults old new answer → HaveStatus old new (status_of_recorded answer)
  have_status how.Done same = no_fault old new Done same (λ e. cc) (λ e. cc) (λ e. cc)
  have_status how.Refused same = no_fault old new Refused same (λ e. cc) (λ e. cc) (λ e. cc)
  have_status how.Stalled same = no_fault old new Stalled same (λ e. cc) (λ e. cc) (λ e. cc)
  have_status how.Stranger same = no_fault old new Stranger same (λ e. cc) (λ e. cc) (λ e. cc)
  have_status how.NoMemory same = no_fault old new NoMemory same (λ e. cc) (λ e. cc) (λ e. cc)
  have_status how.ReadFailed h = read_failed old new h
  have_status how.WriteFailed h = write_failed old new h
  have_status how.NetFailed h = net_failed old new h

-- ---- what keeps a recording whose script is never refused from its end

record IsRefusedAt (o : Option End) : Type 0 where
  line : ℕ
  fault : LineFault
  is : o ≡ Some (RefusedAt line fault)

refused_end : (cut : Bool) (o : Option End) → (if cut then Some 8 else option_map end_status o) ≡ Some 2 → IsRefusedAt o
refused_end true o e = absurd (let other : Some 8 ≡ Some 2 = e in cc)
refused_end false None e = absurd cc
refused_end false (Some (Ended turns)) e = absurd (let other : Some 0 ≡ Some 2 = e in cc)
refused_end false (Some (RefusedAt line fault)) e = record { line = line; fault = fault; is = refl }
refused_end false (Some (StalledAt turns now)) e = absurd (let other : Some 7 ≡ Some 2 = e in cc)

pub completed : (may_tell : List PlainEntry → Type 0) (bytes : List ℕ) (left : Option (List ℕ)) (old new : Around) (status : ExitStatus)
    → HasRecorded may_tell bytes left old new status → IsNeverRefused may_tell bytes old.ticks → status ≢ NoCommand → status ≢ ReadFailed
    → status ≢ WriteFailed → status ≢ NetFailed
    → (status ≡ Done) ⊎ (status ≡ Stalled) ⊎ (status ≡ Stranger) ⊎ (status ≡ NoMemory)
completed may_tell bytes left old new Done run never command read write net = inl refl
completed may_tell bytes left old new NoCommand run never command read write net = absurd (command refl)
completed may_tell bytes left old new Refused run never command read write net =
    let w = run.refused refl in
    let r = refused_end _ _ w.status_is in
    absurd (never w.answers w.ticks w.gave r.line r.fault w.from.ticked w.from.rises w.from.received w.from.shows w.from.allowed r.is)
completed may_tell bytes left old new ReadFailed run never command read write net = absurd (read refl)
completed may_tell bytes left old new WriteFailed run never command read write net = absurd (write refl)
completed may_tell bytes left old new NoMemory run never command read write net = inr (inr (inr refl))
completed may_tell bytes left old new NetFailed run never command read write net = absurd (net refl)
completed may_tell bytes left old new Stalled run never command read write net = inr (inl refl)
completed may_tell bytes left old new Stranger run never command read write net = inr (inr (inl refl))
