-- What a recorder prints of events, and what comes of a report.
use Rattle.std.specs.Prelude.{◌≡◌, ◌≤◌, ℕ, ◌+◌, ◌==◌, true, false, if◌then◌else◌, Option, None, Some, Result, Ok, Err, List, [], OnOk, OnErr}
use Rattle.std.specs.List.{flat_map}
use Rattle.homa_io.specs.Outside.{appended, HasRisen, TookFront}
use Rattle.homa_plain.specs.declared.id.HostId.{HostId}
use Rattle.homa_plain.specs.declared.packet.Packet.{Packet}
use Rattle.homa_plain.specs.declared.event.Event.TheVariants as event
use Rattle.homa_plain.specs.declared.settings.Settings.{Settings}
use Rattle.homa_plain.specs.Script.{event_text}
use Rattle.homa_plain.specs.Replay.{Happening}
use Rattle.homa_plain.specs.Entries.{PlainRecv}
use Rattle.node_runs.specs.Course.{Report, Tells}
use Rattle.node_runs.specs.Recorder.{Notes, Kind, Sent, Junk, Strange, stranger_text, told, kept, strange}
use Rattle.node_io.specs.declared.observer.SeenFault.{SeenFault}
use Rattle.node_io.specs.declared.observer.SeenFault.TheVariants.{Stranger}
use Rattle.node_io.specs.Observer.{IsComing, OnWrite, UnlessWrite, OnStranger}

-- only a datagram that comes is strange
pub strange_comes : (n : Notes) (report : Report) → strange n report ≡ true → IsComing report
strange_comes n (Tells (PlainRecv host from bytes)) e = tt
strange_comes n report e = absurd cc

-- the lines of events
abbrev pub texts : List Happening → List ℕ
texts hs = flat_map (λ (h : Happening). event_text h.event h.bytes) hs

-- the line of the event that stands for a datagram that comes, or of a stranger
abbrev pub kind_text : HostId → HostId → List ℕ → Option Kind → List ℕ
kind_text host from bytes None = []
kind_text host from bytes (Some (Sent number)) = event_text (event.Deliver number) []
kind_text host from bytes (Some Junk) = event_text (event.Inject host) bytes
kind_text host from bytes (Some Strange) = stranger_text host from bytes

-- the answer to a datagram that comes
abbrev pub strange_answer : Option Kind → Result (Unit {0}) SeenFault
strange_answer None = Ok tt
strange_answer (Some (Sent number)) = Ok tt
strange_answer (Some Junk) = Ok tt
strange_answer (Some Strange) = Err Stranger

-- a packet that is sent at this tick, by its host's own clock
abbrev pub dated : Settings → ℕ → Packet → Packet
dated s tick p = record p { at = if s.wire == 1 then 0 else tick + s.skew }

-- what comes of a report
pub record Sees (report : Report) (old_taken new_taken : Option (List ℕ)) (old_faults new_faults : ℕ) (old new : Notes)
    (result : Result (Unit {0}) SeenFault) : Type 0 where
  pub is_told : OnOk result (new_taken ≡ appended old_taken (told old report))
  pub is_kept : OnOk result (new ≡ kept old report)
  pub usual : OnOk result (strange old report ≡ false)
  pub err : OnErr result (TookFront old_taken new_taken (told old report))
  pub stranger : OnStranger result (strange old report ≡ true)
  pub stranger_told : OnStranger result (new_taken ≡ appended old_taken (told old report))
  pub stranger_kept : OnStranger result (new ≡ old)
  pub risen : OnWrite result (HasRisen old_faults new_faults)
  pub quiet : UnlessWrite result (new_faults ≡ old_faults)
  pub never_falls : old_faults ≤ new_faults
