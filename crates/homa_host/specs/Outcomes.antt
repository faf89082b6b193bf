-- What the tables' answers have a host do.
use Rattle.std.specs.Prelude.{◌≡◌, ◌+◌, ◌<◌, ◌==◌, IfSome, IsSome, ℕ, Bool, true, false, if◌then◌else◌, Option, None, Some}
use Rattle.homa_plain.specs.declared.packet.Body.{Body}
use Rattle.homa_plain.specs.declared.packet.Body.TheVariants as body
use Rattle.host_books.specs.declared.books.Books.{Books}
use Rattle.host_books.specs.declared.books.Arrival.{Arrival}
use Rattle.host_books.specs.Duties.{noted, AreOwn, HaveRoom}
use Rattle.host_books.specs.Duty.{no_duties, client_duty, followed}
use Rattle.homa_plain.specs.declared.id.CallId.{CallId}
use Rattle.msg_pool.specs.Pool.{Pool}
use Rattle.host_places.specs.Placed.{StandsAt, spot_at}
use Rattle.homa_in.specs.Pooled.{IsInPool}
use Rattle.homa_client.specs.Held.{HeldRow, seen_row}
use Rattle.homa_client.specs.AtTable.{Clients}
use Rattle.homa_client.specs.declared.answers.ClientAct.{ClientAct}
use Rattle.homa_client.specs.declared.answers.ClientAct.TheVariants as act
use Rattle.homa_client.specs.declared.answers.ClientDid.{ClientDid}
use Rattle.homa_client.specs.declared.answers.ClientDid.TheVariants as client
use Rattle.homa_server.specs.declared.answers.ServerDid.{ServerDid}
use Rattle.homa_server.specs.declared.answers.ServerDid.TheVariants as server
use Rattle.homa_host.specs.declared.outcome.Change.{Change}
use Rattle.homa_host.specs.declared.outcome.Change.TheVariants.{Nothing, Stays, Goes}
use Rattle.homa_host.specs.declared.outcome.PieceHead.{PieceHead}

-- ---- pieces

-- what a packet's piece tells of its message: how long it is, and in a first piece the version of the cutoffs
abbrev pub head_in : Body → Option PieceHead
head_in (body.Data size offset version service ack) = Some (record { length = size; version = if offset == 0 then Some version else None })
head_in what = None

-- how long the message of a piece is
abbrev pub length_in : Option PieceHead → ℕ
length_in None = 0
length_in (Some h) = h.length

-- the version of the cutoffs in a first piece
abbrev pub version_in : Option PieceHead → Option ℕ
version_in None = None
version_in (Some h) = h.version

-- ---- which row changed

-- a row that stays at a place, if there is one
abbrev pub slot_change : Option ℕ → Change
slot_change None = Nothing
slot_change (Some slot) = Stays slot

-- what became of the row that an answer of a client's table is about
abbrev pub client_change : ClientDid → Change
client_change client.Nothing = Nothing
client_change (client.Touched slot) = Stays slot
client_change (client.Opened slot) = Stays slot
client_change (client.Done slot id opened) = Goes slot
client_change (client.Full slot id need free) = Stays slot
client_change (client.Gaps slot id) = Stays slot
client_change (client.Busy slot) = Stays slot
client_change client.Ack = Nothing
client_change (client.Forgotten slot id) = Goes slot

-- the same of a client's row whose timer was due
abbrev pub client_act_change : ℕ → ClientAct → Change
client_act_change slot (act.Resend from to) = Stays slot
client_act_change slot (act.Timeout q) = Goes slot

-- what became of the row that an answer of a server's table is about
abbrev pub server_change : ServerDid → Change
server_change server.Nothing = Nothing
server_change (server.Touched slot) = Stays slot
server_change (server.Opened slot) = Stays slot
server_change (server.Ran slot opened hold) = Stays slot
server_change (server.FullRows rows) = Nothing
server_change (server.FullPages need free) = Nothing
server_change (server.Gaps slot) = Stays slot
server_change (server.Busy slot) = Stays slot
server_change (server.Unknown slot) = slot_change slot

-- ---- order numbers

-- one where this is so
abbrev pub one_if : Bool → ℕ
one_if true = 1
one_if false = 0

-- how many order numbers an answer of a client's table takes: one where a message was opened
abbrev pub client_orders : ClientDid → ℕ
client_orders client.Nothing = 0
client_orders (client.Touched slot) = 0
client_orders (client.Opened slot) = 1
client_orders (client.Done slot id opened) = one_if opened
client_orders (client.Full slot id need free) = 0
client_orders (client.Gaps slot id) = 0
client_orders (client.Busy slot) = 0
client_orders client.Ack = 0
client_orders (client.Forgotten slot id) = 0

-- the same of a server's table: one where a request was opened, and one where its response goes out at once
abbrev pub server_orders : ServerDid → ℕ
server_orders server.Nothing = 0
server_orders (server.Touched slot) = 0
server_orders (server.Opened slot) = 1
server_orders (server.Ran slot opened hold) = one_if opened + one_if (hold == 0)
server_orders (server.FullRows rows) = 0
server_orders (server.FullPages need free) = 0
server_orders (server.Gaps slot) = 0
server_orders (server.Busy slot) = 0
server_orders (server.Unknown slot) = 0

-- ---- by what changed

-- this holds of the place of a row that stays
abbrev pub IfStays : Change → (ℕ → Type 0) → Type 0
IfStays Nothing P = Unit {0}
IfStays (Stays slot) P = P slot
IfStays (Goes slot) P = Unit {0}

-- this holds of the place of a row that changed, whether or not it stays
abbrev pub IfChanged : Change → (ℕ → Type 0) → Type 0
IfChanged Nothing P = Unit {0}
IfChanged (Stays slot) P = P slot
IfChanged (Goes slot) P = P slot

-- this holds of the place of a client's row that was touched, and no more
abbrev pub IfTouched : ClientDid → (ℕ → Type 0) → Type 0
IfTouched client.Nothing P = Unit {0}
IfTouched (client.Touched slot) P = P slot
IfTouched (client.Opened slot) P = Unit {0}
IfTouched (client.Done slot id opened) P = Unit {0}
IfTouched (client.Full slot id need free) P = Unit {0}
IfTouched (client.Gaps slot id) P = Unit {0}
IfTouched (client.Busy slot) P = Unit {0}
IfTouched client.Ack P = Unit {0}
IfTouched (client.Forgotten slot id) P = Unit {0}

-- the same of a server's row
abbrev pub IfServerTouched : ServerDid → (ℕ → Type 0) → Type 0
IfServerTouched server.Nothing P = Unit {0}
IfServerTouched (server.Touched slot) P = P slot
IfServerTouched (server.Opened slot) P = Unit {0}
IfServerTouched (server.Ran slot opened hold) P = Unit {0}
IfServerTouched (server.FullRows rows) P = Unit {0}
IfServerTouched (server.FullPages need free) P = Unit {0}
IfServerTouched (server.Gaps slot) P = Unit {0}
IfServerTouched (server.Busy slot) P = Unit {0}
IfServerTouched (server.Unknown slot) P = Unit {0}

-- ---- what the books owe

-- the row that stands at a place may have in the books what it has, where its part stands in this pool
pub record MayStayClient (t : Clients) (b : Books) (slot : ℕ) : Type 0 where
  pub id : CallId
  pub row : HeldRow
  pub pool : Pool
  pub stands : StandsAt t.rows id slot row
  pub inside : IsInPool pool row.part
  pub peer : IfSome (client_duty t.settings (seen_row pool row)).arrival (λ (a : Arrival). a.peer.0 < t.settings.hosts)
  pub own : AreOwn b slot (client_duty t.settings (seen_row pool row))

-- the books can follow a change of a client's row
pub record CanFollowClient (t : Clients) (b : Books) (change : Change) : Type 0 where
  pub stands : IfStays change (λ slot. IsSome (spot_at t.rows slot))
  pub may : IfStays change (MayStayClient t b)
  pub room : HaveRoom t.settings b
  pub within : IfChanged change (λ slot. slot < t.settings.calls)

-- the books when they followed a change of a client's row
abbrev pub FollowedClient : Clients → Change → Books → Books → Type 0
FollowedClient t Nothing old new = new ≡ old
FollowedClient t (Stays slot) old new = (id : CallId) (r : HeldRow) (pool : Pool) → StandsAt t.rows id slot r → IsInPool pool r.part
    → new ≡ followed slot (client_duty t.settings (seen_row pool r)) old
FollowedClient t (Goes slot) old new = new ≡ followed slot no_duties old

-- the books when they followed a client's row in which nothing new arrives: what arrives stays as it is booked
abbrev pub WentOnClient : Clients → ℕ → Books → Books → Type 0
WentOnClient t slot old new = (id : CallId) (r : HeldRow) (pool : Pool) → StandsAt t.rows id slot r → IsInPool pool r.part
    → new ≡ record (followed slot (client_duty t.settings (seen_row pool r)) old) { grants = old.grants; changed = noted slot old }
