-- To whom a host's rows and its packets go.
use Rattle.std.specs.Prelude.{◌≡◌, ◌<◌, ℕ, Some}
use Rattle.std.specs.List.{AllByRecursion}
use Rattle.plain_sets.specs.Maps.{get}
use Rattle.homa_plain.specs.declared.id.CallId.{CallId}
use Rattle.homa_plain.specs.declared.id.HostId.{HostId}
use Rattle.homa_plain.specs.Packets.{Packet, receiver}
use Rattle.homa_plain.specs.Rows.{ClientRow, ServerRow}
use Rattle.homa_plain.specs.Host.{Host, packets_in}
use Rattle.homa_plain.specs.Work.{Work}

-- the servers of the calls that a host makes, and the clients of those that it serves, are such hosts
pub record IsAmong (such : HostId → Type 0) (h : Host) : Type 0 where
  pub clients : (q : CallId) (r : ClientRow) → get h.clients q ≡ Some r → such r.server
  pub servers : (q : CallId) (row : ServerRow) → get h.servers q ≡ Some row → such q.client

-- and so are those to whom a step's packets go; behind it so many calls were made
pub record IsAmongStep (such : HostId → Type 0) (seq : ℕ) (work : Work) : Type 0 where
  pub among : IsAmong such work.host
  pub sent : AllByRecursion (λ (p : Packet). such (receiver p)) (packets_in work.told)
  pub calls : work.host.seq ≡ seq

-- one of so many hosts
abbrev pub IsBelow : ℕ → HostId → Type 0
IsBelow hosts h = h.0 < hosts
