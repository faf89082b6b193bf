-- What a host holds, and what its rules print and send.
use Rattle.std.specs.Prelude.{ℕ, suc, ◌+◌, ◌-◌, ◌/◌, ◌%◌, ◌==◌, not, ◌&&◌, Bool, nat_lt, if◌then◌else◌, Option, None, Some, List, [], ◌∷◌, replicate}
use Rattle.std.specs.Prelude.{slice_index_or, slice_set}
use Rattle.std.specs.List.{sum_by}
use Rattle.plain_sets.specs.Maps.{empty, remove, values}
use Rattle.homa_plain.specs.declared.id.CallId.{CallId}
use Rattle.homa_plain.specs.declared.id.HostId.{HostId}
use Rattle.homa_plain.specs.declared.packet.Cutoffs.{Cutoffs}
use Rattle.homa_plain.specs.declared.settings.Settings.{Settings}
use Rattle.homa_plain.specs.Cutoffs.{first_cutoffs, noted, balanced}
use Rattle.homa_plain.specs.Incoming.{Incoming}
use Rattle.homa_plain.specs.Entries.{PlainEntry, PlainBalance}
use Rattle.homa_plain.specs.Packets.{Packet, send_line}
use Rattle.homa_plain.specs.Rows.{ClientRow, ServerRow, State, Receiving, Held, Replying, Buried, RowsOf}

-- what a host knows of the lengths of the messages that it opened
pub record Tuning : Type 0 where
  pub own : Cutoffs  -- the cutoffs that it tells its senders
  pub lengths : List ℕ  -- the lengths of the last 256
  pub opened : ℕ  -- how many it opened

-- a peer's cutoffs, and the incarnation of the peer that told them
pub record PeerCutoffs : Type 0 where
  pub inc : ℕ
  pub cutoffs : Cutoffs

-- a host: its name and incarnation, its clock and credit, what it knows of its peers, and its rows
pub record Host : Type 0 where
  pub id : HostId
  pub inc : ℕ
  pub seq : ℕ  -- the sequence number of its next call
  pub order : ℕ  -- the number of whatever is opened next
  pub credit : ℕ  -- how many payload bytes it may send before its credit is filled up again
  pub refilled : ℕ  -- when that was done last
  pub last : ℕ  -- its own clock at its last step, and during a step
  pub tuning : Tuning
  pub peers : List PeerCutoffs  -- of each host
  pub finished : List (List (ℕ × ℕ))  -- for each host as a server, the calls that are done and of which it wasn't told, the oldest first
  pub clients : RowsOf ClientRow
  pub servers : RowsOf ServerRow

-- a host that has done nothing, in this incarnation; its own clock stood at `last` at its last step
abbrev pub new_host : Settings → HostId → ℕ → ℕ → Host
new_host s id inc last = record {
  id = id;
  inc = inc;
  seq = 0;
  order = 0;
  credit = s.rate;
  refilled = 0;
  last = last;
  tuning = record { own = first_cutoffs s.overcommit; lengths = []; opened = 0 };
  peers = replicate s.hosts (record { inc = 0; cutoffs = first_cutoffs s.overcommit });
  finished = replicate s.hosts [];
  clients = empty;
  servers = empty;
}

-- the cutoffs that a host holds for a peer
abbrev pub peer_cutoffs : Settings → Host → HostId → PeerCutoffs
peer_cutoffs s h peer = slice_index_or h.peers peer.0 (record { inc = 0; cutoffs = first_cutoffs s.overcommit })

-- the finished calls of a server that the host hasn't acknowledged yet
abbrev pub finished_at : Host → HostId → List (ℕ × ℕ)
finished_at h peer = slice_index_or h.finished peer.0 []

-- the host with these finished calls of a server, which it hasn't acknowledged yet
abbrev pub with_finished : HostId → List (ℕ × ℕ) → Host → Host
with_finished peer calls h = record h { finished = slice_set h.finished peer.0 calls }

-- ---- pages

-- how many pages of 4096 bytes a message takes while it arrives
-- A rule of this project, as are pages themselves.
abbrev pub pages_for : ℕ → ℕ
pages_for n = (n + 4095) / 4096

-- the pages of a response at its client, once it was opened
abbrev pub part_pages : Option Incoming → ℕ
part_pages None = 0
part_pages (Some part) = pages_for part.length

-- the pages of a request at its server, while it arrives
abbrev pub state_pages : State → ℕ
state_pages (Receiving service part base count) = pages_for part.length
state_pages (Held response release) = 0
state_pages (Replying response out order base count) = 0
state_pages (Buried until) = 0

-- the pages that the messages of all calls but one leave free
abbrev pub free_beside : Settings → Host → CallId → ℕ
free_beside s h id =
    s.pages
    - (sum_by (λ (r : ClientRow). part_pages r.part) (values (remove h.clients id))
    + sum_by (λ (r : ServerRow). state_pages r.state) (values (remove h.servers id)))

-- ---- what a step prints and sends

-- what a step did: an entry of the trace, or a packet that it sent
pub data Told : Type 0 where
  Says : (entry : PlainEntry) → Told
  Sends : (packet : Packet) → Told

-- the packets that were sent, in order
abbrev pub packets_in : List Told → List Packet
packets_in [] = []
packets_in (Says entry ∷ told) = packets_in told
packets_in (Sends packet ∷ told) = packet ∷ packets_in told

-- the entries, where the packets have the numbers from n on
abbrev pub entries_from : ℕ → List Told → List PlainEntry
entries_from n [] = []
entries_from n (Says entry ∷ told) = entry ∷ entries_from n told
entries_from n (Sends packet ∷ told) = send_line n packet ∷ entries_from (suc n) told

-- ---- lengths and cutoffs

-- a message of n bytes is opened: its length is noted
abbrev pub counted : Tuning → ℕ → Tuning
counted t n = record t { lengths = noted t.lengths n; opened = t.opened + 1 }

-- whether the cutoffs are computed anew: after each `rebalance` messages, while versions are left
-- A rule of this project.
abbrev pub is_balance_due : Settings → Tuning → Bool
is_balance_due s t = not (s.rebalance == 0) && t.opened % s.rebalance == 0 && nat_lt t.own.version 65535

-- the cutoffs are computed anew from the last lengths, and have the next version
abbrev pub rebalanced : Settings → Tuning → Tuning
rebalanced s t = record t { own = balanced s.overcommit s.unsched (t.own.version + 1) t.lengths }

-- what a host knows after it opened a message of n bytes, and what it prints of that
pub record Tuned : Type 0 where
  pub tuning : Tuning
  pub told : List Told

-- opens a message of n bytes; if the cutoffs are computed anew, a `balance` line says so
unfoldable pub tuned : Settings → HostId → Tuning → ℕ → Tuned
tuned s host t n =
    let u = counted t n in
    if is_balance_due s u
    then record { tuning = rebalanced s u; told = Says (PlainBalance host (rebalanced s u).own) ∷ [] }
    else record { tuning = u; told = [] }
