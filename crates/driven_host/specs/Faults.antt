-- Why no step begins: the first cause in the order of the tests.
use Rattle.std.specs.Prelude.{◌^◌, ◌==◌, ◌||◌, ℕ, nat_lt, nat_le, if◌then◌else◌, Option, Some, None}
use Rattle.plain_sets.specs.Maps.{len}
use Rattle.homa_plain.specs.declared.id.HostId.{HostId}
use Rattle.homa_plain.specs.Calls.{is_host}
use Rattle.homa_plain.specs.Host.{pages_for}
use Rattle.homa_plain.specs.Limits.{last_host_tick, longest_message}
use Rattle.host_view.specs.Seen.{Seen}
use Rattle.driven_host.specs.declared.faults.StepFault.{StepFault}
use Rattle.driven_host.specs.declared.faults.StepFault.TheVariants.{NoHost, Spent, Back, Empty, TooLong, TooManyPages, CallsFull}

-- the first of two causes, if there is one
abbrev pub first_cause : Option StepFault → Option StepFault → Option StepFault
first_cause (Some fault) next = Some fault
first_cause None next = next

-- why a host that began so many steps may begin none at this tick of its own clock
abbrev pub begin_fault : Seen → ℕ → ℕ → Option StepFault
begin_fault h steps now =
    if nat_lt last_host_tick now || nat_le (2 ^ 56) steps then Some Spent
    else if nat_lt now h.host.last then Some Back
    else None

-- why none that has to do with this host
abbrev pub peer_fault : Seen → ℕ → HostId → ℕ → Option StepFault
peer_fault h steps peer now =
    if nat_le h.settings.hosts peer.0 || is_host peer h.host.id then Some NoHost
    else begin_fault h steps now

-- why no host with so many pages takes a message of so many bytes
abbrev pub length_fault : ℕ → ℕ → Option StepFault
length_fault bytes pages =
    if nat_lt longest_message bytes then Some TooLong
    else if nat_lt pages (pages_for bytes) then Some TooManyPages
    else None

-- why a call with a request of so many bytes isn't even tried
abbrev pub request_fault : Seen → ℕ → HostId → ℕ → ℕ → Option StepFault
request_fault h steps server bytes now =
    first_cause (peer_fault h steps server now) (
    if bytes == 0 then Some Empty
    else first_cause (length_fault bytes h.settings.pages) (if nat_le h.settings.calls (len h.host.clients) then Some CallsFull else None))

-- why a call with a request of so many bytes can't be made
abbrev pub call_fault : Seen → ℕ → HostId → ℕ → ℕ → Option StepFault
call_fault h steps server bytes now =
    first_cause (request_fault h steps server bytes now) (if nat_le 4294967295 h.host.seq then Some Spent else None)

-- why a datagram isn't delivered with an answer of so many bytes, or with none, of no bytes
abbrev pub delivery_fault : Seen → ℕ → HostId → ℕ → ℕ → Option StepFault
delivery_fault h steps from bytes now = first_cause (peer_fault h steps from now) (length_fault bytes h.settings.pages)
