-- The books when they follow a change of a server's row.
use Rattle.std.specs.Prelude.{◌≡◌, ◌+◌, ◌^◌, ◌<◌, ℕ, IfSome, IsSome, Option, Some, None}
use Rattle.homa_plain.specs.declared.id.CallId.{CallId}
use Rattle.msg_pool.specs.Pool.{Pool}
use Rattle.homa_in.specs.Pooled.{AreIn}
use Rattle.host_places.specs.Placed.{StandsAt, spot_at}
use Rattle.homa_server.specs.Held.{HeldServer, seen_server}
use Rattle.homa_server.specs.Table.{Servers, request_at}
use Rattle.host_books.specs.declared.books.Books.{Books}
use Rattle.host_books.specs.declared.books.Arrival.{Arrival}
use Rattle.host_books.specs.Duties.{noted, AreOwn, HaveRoom}
use Rattle.host_books.specs.Duty.{no_duties, server_duty, followed}
use Rattle.homa_server.specs.declared.answers.ServerAct.{ServerAct}
use Rattle.homa_server.specs.declared.answers.ServerAct.TheVariants as act
use Rattle.homa_host.specs.Outcomes.{IfStays, IfChanged}
use Rattle.homa_host.specs.declared.outcome.Change.{Change}
use Rattle.homa_host.specs.declared.outcome.Change.TheVariants.{Nothing, Stays, Goes}

-- the row that stands at a place may have in the books what it has, where the requests stand in this pool
pub record MayStayServer (t : Servers) (calls : ℕ) (b : Books) (place : ℕ) : Type 0 where
  pub id : CallId
  pub row : HeldServer
  pub pool : Pool
  pub stands : StandsAt t.rows id place row
  pub inside : AreIn pool (request_at t.rows)
  pub peer : IfSome (server_duty t.settings (seen_server pool row)).arrival (λ (a : Arrival). a.peer.0 < t.settings.hosts)
  pub own : AreOwn b (calls + place) (server_duty t.settings (seen_server pool row))

-- the books can follow a change of a server's row, whose slots stand behind `base` others
pub record CanFollowServer (t : Servers) (base : ℕ) (b : Books) (change : Change) : Type 0 where
  pub stands : IfStays change (λ place. IsSome (spot_at t.rows place))
  pub may : IfStays change (MayStayServer t base b)
  pub room : HaveRoom t.settings b
  pub calls : base ≡ t.settings.calls
  pub within : IfChanged change (λ place. place < t.settings.served)
  pub small : base + t.settings.served < 2 ^ 32

-- the books that followed
abbrev pub FollowedServer : Servers → ℕ → Change → Books → Books → Type 0
FollowedServer t calls Nothing old new = new ≡ old
FollowedServer t calls (Stays place) old new = (id : CallId) (r : HeldServer) (pool : Pool) → StandsAt t.rows id place r → AreIn pool (request_at t.rows)
    → new ≡ followed (calls + place) (server_duty t.settings (seen_server pool r)) old
FollowedServer t calls (Goes place) old new = new ≡ followed (calls + place) no_duties old

-- the books that followed a row in which nothing new arrives: what arrives stays as it is booked
abbrev pub WentOnServer : Servers → ℕ → ℕ → Books → Books → Type 0
WentOnServer t calls place old new = (id : CallId) (r : HeldServer) (pool : Pool) → StandsAt t.rows id place r → AreIn pool (request_at t.rows)
    → new ≡ record (followed (calls + place) (server_duty t.settings (seen_server pool r)) old) { grants = old.grants; changed = noted (calls + place) old }

-- what became of the row at a place that acted, and how many order numbers it took
abbrev pub server_act_change : ServerAct → ℕ → Change
server_act_change (act.Resend from to) place = Stays place
server_act_change (act.Drop id) place = Goes place
server_act_change act.Release place = Stays place
server_act_change act.NeedAck place = Stays place
server_act_change (act.Bury id until) place = Stays place
server_act_change (act.Free id) place = Goes place

-- how many messages a row's act opens: the one response that was held back
abbrev pub server_act_orders : ServerAct → ℕ
server_act_orders (act.Resend from to) = 0
server_act_orders (act.Drop id) = 0
server_act_orders act.Release = 1
server_act_orders act.NeedAck = 0
server_act_orders (act.Bury id until) = 0
server_act_orders (act.Free id) = 0

-- what an ACK did to the row at a place, which is buried up to a tick
abbrev pub acked_change : Option (ℕ × ℕ) → Change
acked_change None = Nothing
acked_change (Some x) = Stays x.0
