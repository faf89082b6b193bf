-- What the lines of a trace say: calls and packets, incarnations and clocks, and what has arrived of each message.
-- Nothing here knows of a host's rows or timers.
use Rattle.std.specs.Prelude.{ℕ, zero, suc, ◌+◌, ◌==◌, ◌&&◌, Bool, false, nat_lt, nat_le, Option, None, unwrap_or, List, [], length, slice_get}
use Rattle.std.specs.Option.{option_map_or}
use Rattle.std.specs.List.{list_any}
use Rattle.std.specs.Ordering.{nat_cmp}
use Rattle.plain_sets.specs.Maps.{Map, empty, get}
use Rattle.homa_plain.specs.declared.id.CallId.{CallId}
use Rattle.homa_plain.specs.declared.id.HostId.{HostId}
use Rattle.homa_plain.specs.declared.packet.Role.{Role}
use Rattle.homa_plain.specs.declared.packet.Body.{Body}
use Rattle.homa_plain.specs.declared.packet.Body.TheVariants as body
use Rattle.homa_plain.specs.declared.settings.Settings.{Settings}
use Rattle.homa_plain.specs.Settings.{usual}
use Rattle.homa_plain.specs.Wire.{is_client, is_server}
use Rattle.homa_plain.specs.Calls.{is_host, call_cmp, is_call}
use Rattle.trace_rules.specs.Parts.{Parts}

-- ---- what is kept of lines

-- a call, as its `call` line shows it
pub record Called : Type 0 where
  pub server : HostId
  pub service : ℕ
  pub request : List ℕ

-- a packet: from whom to whom, and what it says
pub record Sent : Type 0 where
  pub from : HostId
  pub to : HostId
  pub inc : ℕ  -- the sender's incarnation
  pub role : Role
  pub id : CallId
  pub body : Body
  pub payload : List ℕ

-- a run, as its `run` line shows it, and the life of the host in which it ran; lives are counted from 0
pub record Ran : Type 0 where
  pub host : HostId
  pub life : ℕ
  pub id : CallId
  pub response : List ℕ

-- calls that ran, that are done, and that failed because their server ran and forgot them
pub record Ends : Type 0 where
  pub runs : List CallId
  pub dones : List CallId
  pub forgotten : List CallId

-- no call of any kind
abbrev pub no_ends : Ends
no_ends = record { runs = []; dones = []; forgotten = [] }

-- what depends on the packets that were delivered
pub record Progress : Type 0 where
  pub came : Option Sent  -- the packet with whose delivery the block begins
  pub due : Ends  -- what is due in the block because of it
  pub live : Map call_cmp ℕ  -- the live calls, and of each the greatest incarnation of the packets that counted for it, 0 at first
  pub requests : Parts  -- the request parts at the calls' servers
  pub responses : Parts  -- the response parts of the live calls
  pub resends : Map call_cmp (List ℕ)  -- of each call the ticks of its RESENDs since its last renewal, the latest first

-- nothing yet
abbrev pub no_progress : Progress
no_progress = record { came = None; due = no_ends; live = empty; requests = empty; responses = empty; resends = empty }

-- what the lines up to some line say
pub record View : Type 0 where
  pub settings : Settings  -- those of the first line
  pub place : ℕ  -- how many lines there were
  pub ended : Bool  -- whether one of them was a last line
  pub tick : ℕ  -- that of the last `clock` line
  pub leads : Map nat_cmp ℕ  -- of each host the number of its last `shift` line
  pub firsts : Map nat_cmp ℕ  -- of each host the incarnation of its first `send` line, where that stands before all its `restart` lines
  pub restarts : Map nat_cmp (List ℕ)  -- of each host the incarnations of its `restart` lines, in order
  pub calls : Map call_cmp Called  -- the `call` lines
  pub packets : List Sent  -- the packets that were sent, by their numbers
  pub runs : List Ran  -- the `run` lines, the latest first
  pub here : Ends  -- the `run` and `done` lines of the block, and its `fail` lines of calls that failed as forgotten
  pub now : Progress
  pub if_refused : Progress  -- the same, if the block's delivery is answered by `full` or `gaps`
  pub if_stale : Progress  -- the same, if it is answered by `stale`

-- what is known before the first line, if the clock begins at this tick
abbrev pub at_start : ℕ → View
at_start tick =
    record {
      settings = usual;
      place = 0;
      ended = false;
      tick = tick;
      leads = empty;
      firsts = empty;
      restarts = empty;
      calls = empty;
      packets = [];
      runs = [];
      here = no_ends;
      now = no_progress;
      if_refused = no_progress;
      if_stale = no_progress;
    }

-- what is known before the first line, if the clock begins at 0
abbrev pub nothing_seen : View
nothing_seen = at_start 0

-- ---- clocks and lives

-- the tick by a host's own clock: that of the world's clock, and the host's lead
abbrev pub own_tick : View → HostId → ℕ
own_tick v host = v.tick + unwrap_or (get v.leads host.0) v.settings.skew

-- the incarnations of a host's lives but the first
abbrev pub restarts_of : View → HostId → List ℕ
restarts_of v host = unwrap_or (get v.restarts host.0) []

-- the life in which a host is: how often it restarted
abbrev pub life : View → HostId → ℕ
life v host = length (restarts_of v host)

-- the incarnation of a host in one of its lives, if the lines show it
abbrev pub incarnation : View → HostId → ℕ → Option ℕ
incarnation v host zero = get v.firsts host.0
incarnation v host (suc n) = slice_get (restarts_of v host) n

-- ---- calls

-- whether a host is a call's server
abbrev pub is_server_of : View → CallId → HostId → Bool
is_server_of v id host = option_map_or (λ c. is_host c.server host) (get v.calls id) false

-- whether a call has a `run` line at a host in this life of the host
abbrev pub has_run : View → HostId → CallId → Bool
has_run v host id = list_any (λ r. is_call r.id id && is_host r.host host && r.life == life v host) v.runs

-- whether a packet counts for its live call: it came from the call's server to its client, and none of a later incarnation did before
abbrev pub counts : View → Progress → Sent → Bool
counts v m p =
    is_server p.role && is_host p.to p.id.client && is_server_of v p.id p.from
    && option_map_or (λ latest. nat_le latest p.inc) (get m.live p.id) false

-- whether a packet is a piece of a call's request of n bytes, with the last of them
abbrev pub has_last : CallId → ℕ → Sent → Body → Bool
has_last id n p (body.Data size offset version service ack) = is_client p.role && is_call p.id id && nat_lt offset n && nat_le n (offset + length p.payload)
has_last id n p other = false

-- whether the last byte of a call's request was sent
abbrev pub sent_last : View → CallId → Bool
sent_last v id = option_map_or (λ c. list_any (λ p. has_last id (length c.request) p p.body) v.packets) (get v.calls id) false

-- the ticks of a call's RESENDs since its last renewal, the latest first
abbrev pub resends_of : Progress → CallId → List ℕ
resends_of m id = unwrap_or (get m.resends id) []
