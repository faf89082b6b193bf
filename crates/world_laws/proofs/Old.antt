-- Packets that are too old.
use Rattle.std.proofs.Common.{◌≡◌, ◌<◌, ◌≤◌, ℕ, ◌+◌, ◌*◌, Bool, true, false, Some, refl, sym, ap, ◌∙◌, arith}
use Rattle.std.specs.Prelude.{◌==◌, ◌&&◌, nat_lt, slice_index_or}
use Rattle.homa_plain.specs.declared.id.HostId.{HostId}
use Rattle.homa_plain.specs.declared.settings.Settings.{Settings}
use Rattle.homa_plain.specs.Settings.{accepted_life, band}
use Rattle.homa_plain.specs.Packets.{Packet}
use Rattle.homa_plain.specs.Host.{Host}
use Rattle.homa_plain.specs.Rules.{Answer}
use Rattle.homa_plain.specs.OldPackets.{is_stale}
use Rattle.homa_plain.specs.Steps.{arrival_step}
use Rattle.homa_plain.specs.World.{World, SentPacket, own_clock, is_late}

life_two : (s : Settings) → s.wire ≡ 2 → accepted_life s ≡ s.life + 4 * s.skew
life_two s e = rw e refl

pub stale : (s : Settings) (w : World) (sent : SentPacket) (id : HostId) → s.wire ≡ 2 → sent.packet.at ≤ sent.tick + band s
    → sent.tick + accepted_life s < w.clock → is_stale s (own_clock w id) sent.packet ≡ true
stale s w sent id e dated old =
    let two = life_two s e in
    let first : (s.wire == 2) ≡ true = ap (λ (n : ℕ). n == 2) e in
    let lead = slice_index_or w.leads id.0 0 in
    let second : nat_lt (sent.packet.at + s.life + 2 * s.skew) (w.clock + lead) ≡ true = grind (arith, two, dated, old) in
    ap (λ (b : Bool). b && nat_lt (sent.packet.at + s.life + 2 * s.skew) (w.clock + lead)) first ∙ second

-- a stale packet's arrival shows its clock alone
pub same_step : (s : Settings) (h : Host) (now : ℕ) (p q : Packet) (a b : Answer) → p.at ≡ q.at
    → is_stale s now p ≡ true → arrival_step s h now (Some p) a ≡ arrival_step s h now (Some q) b
unfolding arrival_step
same_step s h now p q a b e old =
    let other : is_stale s now q ≡ true = ap (λ (t : ℕ). s.wire == 2 && nat_lt (t + s.life + 2 * s.skew) now) (sym e) ∙ old in
    rw (old, other, e) refl

later : (one : Bool) (most m n : ℕ) → m ≤ n → (one && nat_lt most m) ≡ true → (one && nat_lt most n) ≡ true
later true most m n h e = grind (arith, h, e)
later false most m n h e = e

pub late : (s : Settings) (v w : World) (tick : ℕ) → v.clock ≤ w.clock → is_late s v tick ≡ true → is_late s w tick ≡ true
late s v w tick on is = later (s.wire == 1) (tick + s.life) v.clock w.clock on is
