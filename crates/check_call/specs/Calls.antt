-- What is kept of a call, and what a delivery does to it.
use Rattle.std.specs.Prelude.{◌≡◌, ℕ, ◌+◌, ◌==◌, ◌&&◌, Bool, false, nat_le, if◌then◌else◌, Option, None, Some, unwrap_or, IfSome, [], ◌∷◌, length}
use Rattle.std.specs.Option.{option_map_or}
use Rattle.std.specs.List.{list_any}
use Rattle.plain_sets.specs.Maps.{get}
use Rattle.homa_plain.specs.declared.id.CallId.{CallId}
use Rattle.homa_plain.specs.declared.id.HostId.{HostId}
use Rattle.homa_plain.specs.declared.packet.Role.{Role}
use Rattle.homa_plain.specs.declared.packet.Role.TheVariants.{Client, Server}
use Rattle.homa_plain.specs.Wire.{is_server}
use Rattle.homa_plain.specs.Calls.{is_host}
use Rattle.trace_rules.specs.View.{Called, Sent, Ends, View, has_run}
use Rattle.trace_rules.specs.Parts as plain
use Rattle.check_call.specs.Spots as spots
use Rattle.check_call.specs.declared.call.Call.{Call}
use Rattle.check_call.specs.declared.call.Lives.{Lives}
use Rattle.check_call.specs.declared.call.Delivered.{Delivered}
use Rattle.check_call.specs.declared.part.Arrival.{Arrival}
use Rattle.check_call.specs.declared.packet.Packet.{Packet}
use Rattle.check_call.specs.declared.spot.Spot.{Spot}
use Rattle.check_call.specs.Kept.{Beside, StandsFor, IsPlain, packet_of}

-- what rests on deliveries, in these lives of a call's client and its server
abbrev pub spot_in : Call → Lives → Spot
spot_in c l = record {
  live = if c.lives.client == l.client then c.spot.live else None;
  request = if c.lives.server == l.server then c.spot.request else None;
  response = if c.lives.client == l.client then c.spot.response else None;
  resends = c.spot.resends;
}

-- what a call's spots stand beside
abbrev pub beside : HostId → ℕ → Call → Beside
beside client gap c = record { client = client; server = c.server; asked = c.asked; answered = c.answered; gap = gap }

-- its `call` line
abbrev pub called_of : Call → Called
called_of c = record { server = c.server; service = c.service; request = c.request.items }

-- it ran in this life of its server
abbrev pub ran_in : Call → ℕ → Bool
ran_in c life = list_any (λ r. r.life == life) c.runs.items

-- the part is plain that bytes belong to which this side of the call sends
abbrev pub IsSettled : Role → Spot → Type 0
IsSettled Client k = IfSome k.request IsPlain
IsSettled Server k = IfSome k.response IsPlain

-- a packet counts for a call of this server that is live in so far
abbrev pub counts_for : HostId → Packet → Option ℕ → Bool
counts_for server packet live =
    is_server packet.role && is_host packet.to packet.id.client && is_host server packet.from
    && option_map_or (λ latest. nat_le latest packet.inc) live false

-- what is due of a call
abbrev pub ends_of : CallId → Bool → Bool → Bool → Ends
ends_of id runs done forgotten = record {
  runs = if runs then id ∷ [] else [];
  dones = if done then id ∷ [] else [];
  forgotten = if forgotten then id ∷ [] else [];
}

-- what a delivery leaves: what rests on it, what does if it is refused, and what is due in either case
pub record Leaves (b : Beside) (id : CallId) (d : Delivered) (s t : spots.Spot) (ends ends_then : Ends) : Type 0 where
  pub now : StandsFor b d.now s
  pub refused : StandsFor b d.refused t
  pub due : ends ≡ ends_of id d.runs d.done d.forgotten
  pub due_then : ends_then ≡ ends_of id false false d.forgotten

-- a packet of this call is delivered at a line that stands behind lines that said v
pub record IsDelivery (v : View) (c : Call) (k : Packet) (p : Sent) (at : ℕ) (lives : Lives) (free : ℕ) : Type 0 where
  pub packet : k ≡ packet_of p
  pub called : get v.calls p.id ≡ Some (called_of c)
  pub size : c.size ≡ length c.request.items
  pub ran : has_run v c.server p.id ≡ ran_in c lives.server
  pub place : v.place ≡ at
  pub unsched : v.settings.unsched ≡ free

-- bytes come: at a line that stands behind so many lines, the first of them has this number, and so many bytes of a message need no grant
abbrev pub more_of : HostId → HostId → Arrival → ℕ → Option plain.Part → plain.Part
more_of host peer a length before = plain.grown a.place a.offset (a.offset + a.len) (unwrap_or before (plain.opened host peer length a.unsched))
