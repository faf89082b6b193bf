-- Entries whose bytes are lists: what the definitions of traces and their laws speak of.
use Rattle.std.specs.Prelude.{ℕ, List, Bool, true, false}
use Rattle.homa_plain.specs.declared.id.CallId.{CallId}
use Rattle.homa_plain.specs.declared.id.HostId.{HostId}
use Rattle.homa_plain.specs.declared.packet.Role.{Role}
use Rattle.homa_plain.specs.declared.packet.Body.{Body}
use Rattle.homa_plain.specs.declared.packet.Cutoffs.{Cutoffs}
use Rattle.homa_plain.specs.declared.settings.Settings.{Settings as TheSettings}
use Rattle.homa_plain.specs.declared.fault.LineFault.{LineFault}
use Rattle.homa_plain.specs.declared.fault.LineFault.TheVariants.{World}
use Rattle.homa_plain.specs.declared.fault.WorldFault.{WorldFault}
use Rattle.homa_plain.specs.declared.fault.WorldFault.TheVariants.{NoMemory}
use Rattle.homa_plain.specs.declared.entry.Why.{Why}
use Rattle.homa_plain.specs.declared.entry.Entry.{Entry}
use Rattle.homa_plain.specs.declared.entry.Entry.TheVariants as entry

-- an entry of a trace: the settings, an event, something that a step did, or the end
pub data PlainEntry : Type 0 where
  PlainSettings : (settings : TheSettings) → PlainEntry
  PlainCall : (id : CallId) (server : HostId) (service : ℕ) (bytes : List ℕ) → PlainEntry
  PlainDeliver : (packet : ℕ) → PlainEntry
  PlainClock : (tick : ℕ) → PlainEntry
  PlainRestart : (host : HostId) (inc : ℕ) → PlainEntry
  PlainInject : (host : HostId) (bytes : List ℕ) → PlainEntry
  PlainShift : (host : HostId) (n : ℕ) → PlainEntry
  PlainJunk : (host : HostId) → PlainEntry
  PlainStale : (host : HostId) (at now : ℕ) → PlainEntry
  PlainSend : (number : ℕ) (from to : HostId) (inc : ℕ) (role : Role) (id : CallId) (level : ℕ) (body : Body) (payload : List ℕ) → PlainEntry
  PlainRun : (host : HostId) (id : CallId) (service : ℕ) (request response : List ℕ) (hold : ℕ) → PlainEntry
  PlainDone : (id : CallId) (bytes : List ℕ) → PlainEntry
  PlainFail : (id : CallId) (why : Why) → PlainEntry
  PlainDrop : (host : HostId) (id : CallId) → PlainEntry
  PlainGaps : (host : HostId) (id : CallId) → PlainEntry
  PlainBury : (host : HostId) (id : CallId) (until : ℕ) → PlainEntry
  PlainFree : (host : HostId) (id : CallId) → PlainEntry
  PlainFullRows : (host : HostId) (id : CallId) (rows limit : ℕ) → PlainEntry
  PlainFullPages : (host : HostId) (id : CallId) (need free : ℕ) → PlainEntry
  PlainBalance : (host : HostId) (cutoffs : Cutoffs) → PlainEntry
  PlainRecv : (host from : HostId) (bytes : List ℕ) → PlainEntry
  PlainFinished : (n : ℕ) → PlainEntry
  PlainRefused : (line : ℕ) (fault : LineFault) → PlainEntry
  PlainStalled : (turns now : ℕ) → PlainEntry

-- an entry of the code, with the bytes that it borrows
abbrev pub plain : Entry → PlainEntry
plain (entry.Settings settings) = PlainSettings settings
plain (entry.Call id server service bytes) = PlainCall id server service bytes.now
plain (entry.Deliver packet) = PlainDeliver packet
plain (entry.Clock tick) = PlainClock tick
plain (entry.Restart host inc) = PlainRestart host inc
plain (entry.Inject host bytes) = PlainInject host bytes.now
plain (entry.Shift host n) = PlainShift host n
plain (entry.Junk host) = PlainJunk host
plain (entry.Stale host at now) = PlainStale host at now
plain (entry.Send number from to inc role id level body payload) = PlainSend number from to inc role id level body payload.now
plain (entry.Run host id service request response hold) = PlainRun host id service request.now response.now hold
plain (entry.Done id bytes) = PlainDone id bytes.now
plain (entry.Fail id why) = PlainFail id why
plain (entry.Drop host id) = PlainDrop host id
plain (entry.Gaps host id) = PlainGaps host id
plain (entry.Bury host id until) = PlainBury host id until
plain (entry.Free host id) = PlainFree host id
plain (entry.FullRows host id rows limit) = PlainFullRows host id rows limit
plain (entry.FullPages host id need free) = PlainFullPages host id need free
plain (entry.Balance host cutoffs) = PlainBalance host cutoffs
plain (entry.Recv host from bytes) = PlainRecv host from bytes.now
plain (entry.Finished n) = PlainFinished n
plain (entry.Refused line fault) = PlainRefused line fault
plain (entry.Stalled turns now) = PlainStalled turns now

-- out of memory refuses no line; each other cause may
abbrev pub IsCause : LineFault → Type 0
IsCause (World NoMemory) = ⊥
IsCause fault = Unit {0}

-- whether a fault is out of memory
abbrev pub is_memory : WorldFault → Bool
is_memory NoMemory = true
is_memory other = false
