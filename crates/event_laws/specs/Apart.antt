-- No host sends to itself.
use Rattle.std.specs.Prelude.{◌≡◌, ◌≢◌, Some}
use Rattle.std.specs.List.{AllByRecursion}
use Rattle.plain_sets.specs.Maps.{get}
use Rattle.homa_plain.specs.declared.id.CallId.{CallId}
use Rattle.homa_plain.specs.declared.id.HostId.{HostId}
use Rattle.homa_plain.specs.Packets.{Packet, receiver}
use Rattle.homa_plain.specs.Rows.{ClientRow, ServerRow}
use Rattle.homa_plain.specs.Host.{Host, packets_in}
use Rattle.homa_plain.specs.Work.{Work}

-- no row is of a call of the host to itself
pub record IsApart (id : HostId) (h : Host) : Type 0 where
  pub clients : (q : CallId) (r : ClientRow) → get h.clients q ≡ Some r → r.server ≢ id
  pub servers : (q : CallId) (row : ServerRow) → get h.servers q ≡ Some row → q.client ≢ id

-- and no packet of a step comes to its sender
pub record IsApartStep (id : HostId) (work : Work) : Type 0 where
  pub apart : IsApart id work.host
  pub sent : AllByRecursion (λ (p : Packet). receiver p ≢ id) (packets_in work.told)
