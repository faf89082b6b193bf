-- The table of the calls that a host serves, and what its calls do.
use Rattle.std.specs.Prelude.{◌≡◌, ◌+◌, ℕ, Option, None, IsSome, List, [], refl}
use Rattle.std.specs.Option.{option_map, option_map_or, option_and_then}
use Rattle.std.specs.Coded.{Coded, code_by, coded×}
use Rattle.plain_sets.specs.Maps.{get, len}
use Rattle.homa_plain.specs.declared.id.CallId.{CallId}
use Rattle.homa_plain.specs.declared.id.HostId.{HostId}
use Rattle.homa_plain.specs.contracts.id.HostId as host_id
use Rattle.homa_plain.specs.declared.packet.Body.{Body}
use Rattle.homa_plain.specs.declared.packet.Role.{Role}
use Rattle.homa_plain.specs.declared.settings.Settings.{Settings}
use Rattle.homa_plain.specs.contracts.settings.Settings as settings
use Rattle.homa_plain.specs.Settings.{IsValid}
use Rattle.homa_plain.specs.Packets.{Packet}
use Rattle.homa_plain.specs.Rows.{ServerRow, RowsOf, set_row}
use Rattle.homa_plain.specs.Rules.{Moment, Answer}
use Rattle.homa_plain.specs.AtServer.{server_gets}
use Rattle.msg_pool.specs.Pool.{Pool, free_pages}
use Rattle.homa_in.specs.Part.{Part}
use Rattle.homa_in.specs.Pooled.{Moves, pages_of}
use Rattle.host_places.specs.Mapped.{mapped}
use Rattle.host_places.specs.Placed.{Placed, Table, Changed, rows_code}
use Rattle.homa_server.specs.Held.{HeldServer, server_code, seen_server, state_part, response_in}
use Rattle.homa_in.specs.Pieces.{piece_in, moment_with}
use Rattle.homa_server.specs.Answers.{IsAnswered, IsSlotOf, slot_in, slot_if, is_for, IfRan}
use Rattle.homa_server.specs.declared.answers.ServerDid.{ServerDid}

-- the rows of a server at their places, by their calls
abbrev pub ServerRows : Type 0
ServerRows = RowsOf (Placed HeldServer)

-- a server's table
pub record Servers : Type 0 where
  pub host : HostId  -- the server
  pub settings : Settings
  pub rows : ServerRows

-- a table is stored as the tuple of its fields
abbrev pub servers_code : Coded Servers
servers_code =
    code_by (HostId × (Settings × ServerRows)) (coded× host_id.the_row.coded (coded× settings.the_row.coded (rows_code server_code)))
    (λ t. (t.host, (t.settings, t.rows))) (λ c. record { host = c.0; settings = c.1.0; rows = c.1.1 }) (λ _. refl)

-- the plain rows that the rows are with their pool
abbrev pub seen_servers : Pool → ServerRows → RowsOf ServerRow
seen_servers pool rows = mapped (λ (x : Placed HeldServer). seen_server pool x.row) rows

-- the plain row of a call, if it has one
abbrev pub server_at : Pool → ServerRows → CallId → Option ServerRow
server_at pool rows id = option_map (λ (x : Placed HeldServer). seen_server pool x.row) (get rows id)

-- the part of a call's request, if it arrives
abbrev pub request_at : ServerRows → CallId → Option Part
request_at rows id = option_and_then (λ (x : Placed HeldServer). state_part x.row.state) (get rows id)

-- the response in a call's row, or nothing
abbrev pub response_at : ServerRows → CallId → List ℕ
response_at rows id = option_map_or (λ (x : Placed HeldServer). response_in x.row.state) (get rows id) []

-- the place of a call's row
abbrev pub slot_at : ServerRows → CallId → Option ℕ
slot_at rows id = option_map (λ (x : Placed HeldServer). x.place) (get rows id)

-- what holds of each table
pub record IsTable (s : Settings) (t : Table HeldServer) : Type 0 where
  pub valid : IsValid s
  pub room : t.room ≡ s.served

-- ---- what a call does

-- A call's plain row became this one, or went, and of the pool only its own part changed. All other plain rows and their places stay.
pub record ServerMoved (id : CallId) (old : Servers) (pool : Pool) (new : Servers) (pool' : Pool) (row : Option ServerRow) : Type 0 where
  pub here : server_at pool' new.rows id ≡ row
  pub rows : seen_servers pool' new.rows ≡ set_row (seen_servers pool old.rows) id row
  pub changed : Changed id old.rows new.rows
  pub moves : Moves pool (request_at old.rows id) pool' (request_at new.rows id)
  pub kept : new ≡ record old { rows = new.rows }

-- what a rule for a call's row is given
abbrev pub server_moment : Servers → ℕ → ℕ → Pool → CallId → Moment
server_moment t now order pool id = moment_with t.host now order (free_pages pool + pages_of (request_at t.rows id)) (len t.rows)

-- a packet of a call that says this
abbrev pub packet_of : CallId → Body → List ℕ → Role → HostId → ℕ → ℕ → ℕ → Packet
packet_of id what payload role server inc at level =
    record { role = role; id = id; server = server; inc = inc; at = at; level = level; body = what; payload = payload }

-- the place of the row that a packet is for, if there is one
abbrev pub slot_for : ServerRows → Packet → Option ℕ
slot_for rows p = option_and_then (λ (x : Placed HeldServer). slot_if (is_for p.body x.row.state) x.place) (get rows p.id)

-- A packet of a client was taken by the table: for each answer of the service that is the response in the row, if the
-- service ran, the plain rule did what is answered. Where the service ran, it was allowed to answer so. Where the call has
-- a row, the answer names its place exactly if the packet is for it, and else nothing changed.
pub record Served (old : Servers) (pool : Pool) (p : Packet) (now order : ℕ) (new : Servers) (pool' : Pool) (told : List ℕ)
    (allowed : List ℕ → List ℕ → ℕ → Type 0) (answer : ServerDid) : Type 0 where
  pub did : let m = server_moment old now order pool p.id in
      IsAnswered old.settings m p.id (piece_in p.body p.payload) (λ (a : Answer). server_gets old.settings m p a (server_at pool old.rows p.id))
      (server_at pool' new.rows p.id) (response_at new.rows p.id) told answer
  pub ran : IfRan answer (λ hold. allowed told (response_at new.rows p.id) hold)
  pub slot : IsSlotOf (slot_at new.rows p.id) answer
  pub named : IsSome (get old.rows p.id) → slot_in answer ≡ slot_for old.rows p
  pub same : slot_in answer ≡ None → (new ≡ old) × (pool' ≡ pool)
  pub moved : ServerMoved p.id old pool new pool' (server_at pool' new.rows p.id)
