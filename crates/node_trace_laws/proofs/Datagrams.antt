-- A line that tells of a datagram by its bytes says what one says that delivers the packet by its number, or that injects it where it is none.
use Rattle.std.proofs.Common.{◌≡◌, ℕ, zero, suc, ◌+◌, false, ◌||◌, Option, Some, None, List, [], ◌∷◌, refl, ap, subst}
use Rattle.std.specs.Prelude.{slice_get}
use Rattle.std.specs.List.{AllByRecursion}
use Rattle.std.specs.Option.{option_map}
use Rattle.homa_plain.specs.declared.id.HostId.{HostId}
use Rattle.homa_plain.specs.declared.packet.Body.{Body}
use Rattle.homa_plain.specs.declared.packet.Packet.{Packet as WirePacket}
use Rattle.homa_plain.specs.declared.packet.Role.{Role}
use Rattle.homa_plain.specs.declared.packet.Role.TheVariants.{Client, Server}
use Rattle.homa_plain.specs.declared.settings.Settings.{Settings}
use Rattle.homa_plain.specs.Entries.{PlainDeliver, PlainInject, PlainRecv}
use Rattle.homa_plain.specs.Packets.{receiver, packet_between}
use Rattle.trace_rules.specs.View.{View, Sent}
use Rattle.trace_rules.specs.Seen.{seen, begun, received, delivery, delivered}
use Rattle.homa_plain.specs.Wire.{packet_in}
use Rattle.homa_plain.specs.World.{World, SentPacket, is_late}
use Rattle.trace_steps.specs.Told.{sent_of}
use Rattle.step_moves.proofs.Hosts.{some_is, none_some}
use Rattle.node_runs.specs.Course.{Arrival, packet_from}

pub all_get : {A : Type 0} (P : A → Type 0) (xs : List A) (n : ℕ) (x : A) → AllByRecursion P xs → slice_get xs n ≡ Some x → P x
all_get P [] n x all e = absurd (none_some x e)
all_get P (y ∷ xs) zero x all e = subst P (some_is y x e) all.0
all_get P (y ∷ xs) (suc n) x all e = all_get P xs n x all.1 e

-- ---- the same view

pub seen_packet : (v : View) (host from : HostId) (bytes : List ℕ) (n : ℕ) → delivery v (PlainRecv host from bytes) ≡ delivery v (PlainDeliver n)
    → seen v (PlainRecv host from bytes) ≡ seen v (PlainDeliver n)
unfolding seen
seen_packet v host from bytes n e = ap (λ (o : Option Sent). record (delivered (begun v) o) { place = v.place + 1; ended = v.ended || false }) e

pub seen_junk : (v : View) (host from : HostId) (bytes : List ℕ) → packet_in v.settings.wire bytes ≡ None
    → seen v (PlainRecv host from bytes) ≡ seen v (PlainInject host bytes)
unfolding seen
seen_junk v host from bytes e =
    ap (λ (o : Option (WirePacket × List ℕ)). record (delivered (begun v) (received host from o)) { place = v.place + 1; ended = v.ended || false }) e

-- a datagram's packet by its bytes, and by the rules
received_of : (role : Role) (level sender inc seq at : ℕ) (what : Body) (payload : List ℕ) (from to : HostId)
    → let w : WirePacket = record { role = role; level = level; sender = sender; inc = inc; seq = seq; at = at; body = what } in
    received to from (Some (w, payload)) ≡ Some (sent_of (packet_between from to w payload))
received_of Client level sender inc seq at what payload from to = refl
received_of Server level sender inc seq at what payload from to = refl

pub received_is : (from to : HostId) (o : Option (WirePacket × List ℕ)) → received to from o ≡ option_map sent_of (packet_from from to o)
received_is from to None = refl
received_is from to (Some (w, payload)) = received_of w.role w.level w.sender w.inc w.seq w.at w.body payload from to

-- ---- a datagram that comes

-- it is a packet that was sent, and that isn't late
pub record IsPacket (s : Settings) (w : World) (id : HostId) (a : Arrival) : Type 0 where
  pub number : ℕ
  pub sent : SentPacket
  pub at : slice_get w.packets number ≡ Some sent
  pub early : is_late s w sent.tick ≡ false
  pub is : packet_from a.from id (packet_in s.wire a.bytes) ≡ Some sent.packet
  pub to : receiver sent.packet ≡ id

-- it is none
abbrev pub IsJunk : Settings → Arrival → Type 0
IsJunk s a = packet_in s.wire a.bytes ≡ None
