-- Whom a net knows, and what it gives of what is queued.
use Rattle.std.specs.Prelude.{ℕ, ◌&&◌, not, Bool, if◌then◌else◌, Option, None, Some, List, [], ◌∷◌, ◌++◌}
use Rattle.homa_plain.specs.declared.id.HostId.{HostId}
use Rattle.homa_plain.specs.Calls.{is_host}
use Rattle.node_runs.specs.Course.{Datagram, Arrival, Receive}
use Rattle.node_runs.specs.Acts.{Act, sents, gives}
use Rattle.node_io.specs.declared.net.Got.{Got}
use Rattle.node_io.specs.declared.net.Got.TheVariants as got

-- what a receive gave, whose datagram stands in a frame of these bytes
abbrev pub arrival_of : Got → List ℕ → Option Arrival
arrival_of (got.Frame from) bytes = Some (record { from = from; bytes = bytes })
arrival_of got.Nothing bytes = None

-- a receive for a host, which gave this
abbrev pub receive_of : HostId → Got → List ℕ → Receive
receive_of host got bytes = record { host = host; got = arrival_of got bytes }

-- a fact of the sender, where a datagram was given
abbrev pub IfFrom : Got → (HostId → Type 0) → Type 0
IfFrom (got.Frame from) fact = fact from
IfFrom got.Nothing fact = Unit {0}

-- whether a host takes datagrams from a sender: one that is known, and isn't the host itself
abbrev pub is_welcome : (HostId → Bool) → HostId → HostId → Bool
is_welcome known host from = known from && not (is_host from host)

-- what a host receives of what is queued: the oldest datagram for it from a sender that is welcome
abbrev pub next_arrival : (HostId → Bool) → HostId → List Datagram → Option Arrival
next_arrival known host [] = None
next_arrival known host (d ∷ ds) =
    if is_host d.to host && is_welcome known host d.from then Some (record { from = d.from; bytes = d.bytes }) else next_arrival known host ds

-- and what stays queued: that datagram goes, and so do those for this host before it
abbrev pub left_queued : (HostId → Bool) → HostId → List Datagram → List Datagram
left_queued known host [] = []
left_queued known host (d ∷ ds) =
    if is_host d.to host
    then (if is_welcome known host d.from then ds else left_queued known host ds)
    else d ∷ left_queued known host ds

-- a list with one thing more, where it is told
abbrev pub added : {A : Type 0} → Option (List A) → A → Option (List A)
added None x = None
added (Some xs) x = Some (xs ++ x ∷ [])

-- the datagrams that were sent among the things that a net did, where it tells them
abbrev pub sent_in : Option (List Act) → Option (List Datagram)
sent_in None = None
sent_in (Some acts) = Some (sents acts)

-- what its receives gave
abbrev pub given_in : Option (List Act) → Option (List Receive)
given_in None = None
given_in (Some acts) = Some (gives acts)

-- what stays queued, where that is told
abbrev pub if_queued : (HostId → Bool) → HostId → Option (List Datagram) → Option (List Datagram)
if_queued known host None = None
if_queued known host (Some queue) = Some (left_queued known host queue)

-- a datagram from one host to another
abbrev pub datagram_of : HostId × HostId × List ℕ → Datagram
datagram_of d = record { from = d.0; to = d.1; bytes = d.2 }
