-- How a host's parts are its plain host, and what holds of them between two calls.
use Rattle.std.specs.Prelude.{◌≡◌, ◌≤◌, Option, None}
use Rattle.plain_sets.specs.Maps.{get}
use Rattle.homa_plain.specs.declared.id.CallId.{CallId}
use Rattle.homa_plain.specs.Host.{Host}
use Rattle.homa_plain.specs.Timers.{Place, OfClient, OfServer}
use Rattle.step_laws.specs.StepLaws.{HasOwnOrders}
use Rattle.msg_pool.specs.Pool.{leased_pages}
use Rattle.homa_in.specs.Part.{Part}
use Rattle.homa_in.specs.Pooled.{AreIn}
use Rattle.host_places.specs.Mapped.{mapped}
use Rattle.host_places.specs.Placed.{Placed, ArePlaced}
use Rattle.homa_client.specs.Held.{HeldRow}
use Rattle.homa_client.specs.AtTable.{seen_rows, part_at}
use Rattle.homa_server.specs.Held.{HeldServer}
use Rattle.homa_server.specs.Table.{seen_servers, request_at}
use Rattle.host_state.specs.Control.{IsSound}
use Rattle.host_books.specs.Pages.{row_pages}
use Rattle.host_books.specs.Duties.{HaveRoom, AreBooked}
use Rattle.host_view.specs.Seen.{Seen}
use Rattle.host_laws.specs.Peers.{KnowsPeers}
use Rattle.homa_host.specs.declared.parts.HostParts.{HostParts}

-- the plain host
abbrev pub host_of : HostParts → Host
host_of c = record {
  id = c.control.id;
  inc = c.control.inc;
  seq = c.clients.seq;
  order = c.order;
  credit = c.books.pacer.credit;
  refilled = c.books.pacer.refilled;
  last = c.control.last;
  tuning = c.control.tuning;
  peers = c.control.peers;
  finished = c.control.finished;
  clients = seen_rows c.pool c.clients.rows;
  servers = seen_servers c.pool c.servers.rows;
}

-- what the host is seen as
abbrev pub seen_of : HostParts → Seen
seen_of c = record {
  settings = c.control.settings;
  host = host_of c;
  client_places = mapped (λ (x : Placed HeldRow). x.place) c.clients.rows;
  server_places = mapped (λ (x : Placed HeldServer). x.place) c.servers.rows;
  marks = c.control.marks;
}

-- the parts of its rows: the responses of its calls, and the requests that it serves
abbrev pub part_in : HostParts → Place → Option Part
part_in c (OfClient id) = part_at c.clients.rows id
part_in c (OfServer id) = request_at c.servers.rows id

-- the tables and the control are those of one host
pub record AreOne (c : HostParts) : Type 0 where
  pub client : c.clients.host ≡ c.control.id
  pub life : c.clients.inc ≡ c.control.inc
  pub client_settings : c.clients.settings ≡ c.control.settings
  pub server : c.servers.host ≡ c.control.id
  pub server_settings : c.servers.settings ≡ c.control.settings

-- The parts stand in the pool, and nothing else does; the books hold exactly what the rows say.
pub record IsKept (c : HostParts) : Type 0 where
  pub control : IsSound c.control
  pub one : AreOne c
  pub own : HasOwnOrders (host_of c)
  pub known : KnowsPeers c.control.settings (host_of c)
  pub foreign : (id : CallId) → id.client ≡ c.control.id → get (host_of c).servers id ≡ None  -- it serves no call of its own
  pub opened : c.control.tuning.opened ≤ c.order
  pub parts : AreIn c.pool (part_in c)
  pub pages : c.pool.pages ≡ c.control.settings.pages
  pub leased : leased_pages c.pool.leases ≡ row_pages (host_of c)
  pub client_places : ArePlaced c.control.settings.calls c.clients.rows
  pub server_places : ArePlaced c.control.settings.served c.servers.rows
  pub room : HaveRoom c.control.settings c.books
  pub booked : AreBooked (seen_of c) c.books
