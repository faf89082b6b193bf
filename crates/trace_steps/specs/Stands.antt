-- One call, as it stands at its client and at one host, in a world and by the lines that were told of it.
use Rattle.std.specs.Prelude.{ℕ, ◌==◌, ◌&&◌, ◌||◌, Bool, false, nat_lt, Option, None, Some, ◌++◌, length, slice_set}
use Rattle.plain_sets.specs.Maps.{get}
use Rattle.homa_plain.specs.declared.id.CallId.{CallId}
use Rattle.homa_plain.specs.declared.id.HostId.{HostId}
use Rattle.homa_plain.specs.Rows.{ClientRow, ServerRow, State}
use Rattle.homa_plain.specs.Host.{Host, packets_in, entries_from}
use Rattle.homa_plain.specs.Work.{Work}
use Rattle.homa_plain.specs.World.{World, host_at, stamped}
use Rattle.step_moves.specs.Worlds.{at_host}
use Rattle.trace_rules.specs.View.{Called, View, has_run}
use Rattle.trace_rules.specs.Seen.{seen_all}

-- a call at its client, and at a host that may be its server
pub record Stand : Type 0 where
  pub clock : ℕ  -- the world's
  pub last : ℕ  -- the host's last tick: its own clock at its last step
  pub old : Bool  -- the call's name was used, or is below one that was used
  pub called : Option Called  -- the `call` line
  pub client : Option ClientRow
  pub server : Option State  -- at the host
  pub ran : Bool  -- at the host, in its present life

-- the call with another row at its client, or none
abbrev pub with_client : Stand → Option ClientRow → Stand
with_client v o = record v { client = o }

-- the call with another state at the host, or none, and with whether it ran there
abbrev pub with_server : Stand → Option State → Bool → Stand
with_server v o ran = record v { server = o; ran = ran }

-- how far a server is with a call, if it has a row of it
abbrev pub state_of : Option ServerRow → Option State
state_of None = None
state_of (Some row) = Some row.state

-- whether a call has an incarnation below its client's, or that one and a number below its client's next
abbrev pub is_old : CallId → Host → Bool
is_old id h = nat_lt id.inc h.inc || (id.inc == h.inc && nat_lt id.seq h.seq)

-- a call's row at its client
abbrev pub client_row : World → CallId → Option ClientRow
client_row w q = at_host None (λ h. get h.clients q) (host_at w q.client)

-- its state at a host
abbrev pub server_state : World → CallId → HostId → Option State
server_state w q n = at_host None (λ h. state_of (get h.servers q)) (host_at w n)

-- the call in a world, by what the lines say
abbrev pub stand : World → View → CallId → HostId → Stand
stand w v q n = record {
  clock = w.clock;
  last = at_host 0 (λ h. h.last) (host_at w n);
  old = at_host false (is_old q) (host_at w q.client);
  called = get v.calls q;
  client = client_row w q;
  server = server_state w q n;
  ran = has_run v n q;
}

-- ---- within a step

-- the world in the midst of a host's step
abbrev pub put : World → HostId → Work → World
put w host work = record w { hosts = slice_set w.hosts host.0 work.host; packets = w.packets ++ stamped w.clock (packets_in work.told) }

-- what the lines say there, behind those that said v
abbrev pub said_so_far : World → View → Work → View
said_so_far w v work = seen_all v (entries_from (length w.packets) work.told)

-- the call there
abbrev pub amid : World → View → HostId → Work → CallId → HostId → Stand
amid w v host work q n = stand (put w host work) (said_so_far w v work) q n
