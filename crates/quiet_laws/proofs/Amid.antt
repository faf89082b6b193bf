-- The world in the midst of a round.
use Rattle.std.proofs.Common.{◌≡◌, ℕ, ◌+◌, ◌-◌, ◌*◌, ◌<◌, ◌≤◌, ◌⊎◌, inl, inr, ◌&&◌, false, List, [], ◌∷◌, ◌++◌, length, ap, ◌∙◌, arith, cond}
use Rattle.std.specs.Prelude.{nat_lt, ◌==◌, map, min}
use Rattle.std.proofs.lemmas.Bool.{le-ltb}
use Rattle.homa_plain.specs.declared.packet.Role.{Role}
use Rattle.homa_plain.specs.declared.packet.Role.TheVariants.{Client, Server}
use Rattle.homa_plain.specs.declared.settings.Settings.{Settings}
use Rattle.homa_plain.specs.Packets.{Packet}
use Rattle.homa_plain.specs.Host.{Host}
use Rattle.homa_plain.specs.Rules.{Answer}
use Rattle.homa_plain.specs.OldPackets.{is_stale}
use Rattle.homa_plain.specs.World.{World, SentPacket}
use Rattle.homa_plain.specs.Script.{counting}
use Rattle.homa_plain.specs.Quiet.{Round, round}
use Rattle.quiet_laws.specs.Flows.{flows}
use Rattle.quiet_laws.specs.Hosts.{the_call, server_id, ours, IsOurs}
use Rattle.quiet_laws.proofs.Stands.{Times, IsSender, IsReceiver}
use Rattle.quiet_laws.proofs.Worlds.{world_by}

-- ---- packets under way

-- sent in the last tick or in this one
pub record IsNew (s : Settings) (clock : ℕ) (x : SentPacket) : Type 0 where
  pub ours : IsOurs s (x.tick + s.skew) x.packet
  pub young : clock ≤ x.tick + 1

abbrev pub AreNew : Settings → ℕ → List SentPacket → Type 0
AreNew s clock [] = Unit {0}
AreNew s clock (x ∷ xs) = IsNew s clock x × AreNew s clock xs

pub as_ours : (s : Settings) (now : ℕ) (p : Packet) → IsOurs s now p → p ≡ ours p.role p.at p.level p.body p.payload
as_ours s now p o =
    ap (λ i. record { role = p.role; id = i; server = p.server; inc = p.inc; at = p.at; level = p.level; body = p.body; payload = p.payload }) o.id
    ∙ ap (λ i. record { role = p.role; id = the_call; server = i; inc = p.inc; at = p.at; level = p.level; body = p.body; payload = p.payload }) o.server
    ∙ ap (λ i. record { role = p.role; id = the_call; server = server_id; inc = i; at = p.at; level = p.level; body = p.body; payload = p.payload }) o.inc

-- it isn't too old
pub not_stale : (s : Settings) (clock : ℕ) (x : SentPacket) → 1 ≤ s.life → (s.wire ≡ 1) ⊎ (s.wire ≡ 2) → IsNew s clock x
    → is_stale s (clock + s.skew) x.packet ≡ false
not_stale s clock x life wire new = by wire where
  by : (s.wire ≡ 1) ⊎ (s.wire ≡ 2) → is_stale s (clock + s.skew) x.packet ≡ false
  by (inl e) = ap (λ v. (v == 2) && nat_lt (x.packet.at + s.life + 2 * s.skew) (clock + s.skew)) e
  by (inr e) =
      let sent : x.packet.at ≡ x.tick + s.skew = new.ours.at ∙ ap (λ v. cond (v == 1) 0 (x.tick + s.skew)) e in
      ap (λ v. (v == 2) && nat_lt (x.packet.at + s.life + 2 * s.skew) (clock + s.skew)) e
      ∙ le-ltb (x.packet.at + s.life + 2 * s.skew) (clock + s.skew) (omega (arith, sent, life, new.young))

-- ---- the statements

abbrev pub packets_of : List SentPacket → List Packet
packets_of xs = map (λ (x : SentPacket). x.packet) xs

-- what the service is still to answer
abbrev pub answers_by : Role → ℕ → List Answer
answers_by Client m = record { bytes = counting 0 m; hold = 0 } ∷ []
answers_by Server m = []

-- In the midst of a round, `end` bytes being sent and `told` being granted when it began: what is to be delivered in it
-- goes there, and what was sent in it goes on from there.
pub record Amid (role : Role) (s : Settings) (n m clock delivered end told : ℕ) (pending : List SentPacket) (w : World) : Type 0 where
  pub here : ℕ
  pub top : ℕ
  pub may : ℕ
  pub given : ℕ
  pub at_sender : Times
  pub at_receiver : Times
  pub sender : Host
  pub receiver : Host
  pub old : List SentPacket
  pub fresh : List SentPacket
  pub spares : ℕ
  pub is : w ≡ world_by role s clock spares sender receiver (old ++ (pending ++ fresh)) (answers_by role m)
  pub so_many : length old ≡ delivered
  pub sends : IsSender role s n top may at_sender sender
  pub gets : IsReceiver role s n here given at_receiver receiver
  pub new : AreNew s clock pending
  pub newer : AreNew s (clock + 1) fresh  -- sent at this tick, so new at the next one too
  pub first : flows n role here may (packets_of pending) end told
  pub then_ : flows n role end told (packets_of fresh) top given
  pub sent : top ≤ may
  pub granted : given ≤ n
  pub missing : here < n
  pub ahead : 0 < here → min n (here + s.window) ≤ given
  pub some : 1 ≤ given
  -- the timers
  pub sender_ok : (clock + s.skew ≤ at_sender.base + 1) ⊎ (may < told)
  pub receiver_ok : (clock + s.skew ≤ at_receiver.base + 1) ⊎ (here < end)
  pub sender_anew : end < top → clock + s.skew ≤ at_sender.base
  pub receiver_anew : told < given → clock + s.skew ≤ at_receiver.base
  pub sender_last : at_sender.refilled ≤ clock + s.skew
  pub receiver_last : at_receiver.refilled ≤ clock + s.skew

-- at a round's beginning nothing is fresh, and something is under way
pub record Begins (role : Role) (s : Settings) (n m clock measure : ℕ) (r : Round) : Type 0 where
  pub end : ℕ
  pub told : ℕ
  pub pending : List SentPacket
  pub amid : Amid role s n m clock r.delivered end told pending r.world
  pub nothing : amid.fresh ≡ []
  pub way : (amid.here < end) ⊎ (amid.may < told)
  pub is : measure ≡ amid.here + min amid.top (amid.here + 1)

-- the request in progress after r rounds, or the response, whose measure goes on from 2 * n
abbrev pub Goes : (s : Settings) (n m r x : ℕ) → Type 0
Goes s n m r x = Begins Client s n m r x (round s n m r) ⊎ ((2 * n ≤ x) × Begins Server s m m r (x - 2 * n) (round s n m r))
