-- No row of a host is of a call to itself, and no packet of its steps comes to it.
use Rattle.std.proofs.Common.{◌≡◌, ℕ, ◌≤◌, Option, List}
use Rattle.std.specs.Prelude.{◌≢◌}
use Rattle.std.specs.Option.{IfSome}
use Rattle.homa_plain.specs.declared.id.HostId.{HostId}
use Rattle.homa_plain.specs.declared.settings.Settings.{Settings}
use Rattle.homa_plain.specs.Packets.{Packet, sender, receiver}
use Rattle.homa_plain.specs.Host.{Host, new_host}
use Rattle.homa_plain.specs.Rules.{Answer}
use Rattle.homa_plain.specs.Work.{Work}
use Rattle.homa_plain.specs.Steps.{call_step, arrival_step, turn_step}
use Rattle.step_moves.specs.Worlds.{HasOwnName}
use Rattle.event_laws.specs.Among.{IsAmong, IsAmongStep}
use Rattle.event_laws.specs.Apart.{IsApart, IsApartStep}
use Rattle.event_laws.proofs.Among.{call_among, arrival_among, turn_among}
use Rattle.event_laws.proofs.Among as among

module _ (s : Settings) (id : HostId) where
  -- the other hosts
  abbrev Other : HostId → Type 0
  Other h = h ≢ id

  with_others : (h : Host) → IsApart id h → IsAmong Other h
  with_others h a = record { clients = a.clients; servers = a.servers }

  apart_step : (seq : ℕ) (work : Work) → IsAmongStep Other seq work → IsApartStep id work
  apart_step seq work k = record { apart = record { clients = k.among.clients; servers = k.among.servers }; sent = k.sent }

  pub call_apart : (h : Host) (now : ℕ) (server : HostId) (service : ℕ) (request : List ℕ) → HasOwnName id h → IsApart id h → server ≢ id
      → IsApartStep id (call_step s h now server service request)
  call_apart h now server service request name apart other =
      apart_step _ _ (call_among s id Other h now server service request name (with_others h apart) other)

  pub arrival_apart : (h : Host) (now : ℕ) (o : Option Packet) (answer : Answer) → HasOwnName id h → IsApart id h
      → IfSome o (λ p. (receiver p ≡ id) × (sender p ≢ id)) → IsApartStep id (arrival_step s h now o answer)
  arrival_apart h now o answer name apart at = apart_step _ _ (arrival_among s id Other h now o answer name (with_others h apart) at)

  pub turn_apart : 1 ≤ s.resend → (h : Host) (now : ℕ) → HasOwnName id h → IsApart id h → IsApartStep id (turn_step s h now)
  turn_apart resend h now name apart = apart_step _ _ (turn_among s id Other resend h now name (with_others h apart))

  pub new_apart : (inc last : ℕ) → IsApart id (new_host s id inc last)
  new_apart inc last = let a = among.new_among s id Other inc last in record { clients = a.clients; servers = a.servers }
