-- Each step of the world is one in time.
use Rattle.std.proofs.Common.{◌≡◌, ℕ, ◌+◌, ◌*◌, ◌≤◌, ◌⊎◌, inl, inr, Bool, true, false, ◌&&◌, cond, Some, ap, arith}
use Rattle.std.specs.Prelude.{◌==◌}
use Rattle.std.proofs.lemmas.Bool.{ltb-false, eq-eqb, false≢true, cases_lt}
use Rattle.homa_plain.specs.declared.id.HostId.{HostId}
use Rattle.homa_plain.specs.declared.settings.Settings.{Settings}
use Rattle.homa_plain.specs.Settings.{IsValid, accepted_life}
use Rattle.homa_plain.specs.Host.{Host}
use Rattle.homa_plain.specs.OldPackets.{is_stale}
use Rattle.homa_plain.specs.World.{World, SentPacket, host_at, own_clock, is_late}
use Rattle.step_moves.specs.Worlds.{IsFresh, IsTimed, IsDated, HasClocks}

-- ---- what valid settings say

pub wire_of : (s : Settings) → IsValid s → (s.wire ≡ 1) ⊎ (s.wire ≡ 2)
wire_of s v = by_number s.wire v.in_range.2.2.2.2.2.2.2.2.2.2.2.2.2.2.0 v.in_range.2.2.2.2.2.2.2.2.2.2.2.2.2.2.1 where
  by_number : (n : ℕ) → 1 ≤ n → n ≤ 2 → (n ≡ 1) ⊎ (n ≡ 2)
  by_number n from to = elim (cases_lt n 2) as (λ _. (n ≡ 1) ⊎ (n ≡ 2)) [
    | inl less ↦ inl (omega (arith, from, less))
    | inr more ↦ inr (omega (arith, to, more))
  ]

pub resend_of : (s : Settings) → IsValid s → 1 ≤ s.resend
resend_of s v = v.in_range.2.2.2.2.2.2.0

pub seg_of : (s : Settings) → IsValid s → 1 ≤ s.seg
seg_of s v = v.in_range.2.0

-- ---- a host acts by its own clock

pub timed : (s : Settings) (w : World) (id : HostId) (h : Host) → HasClocks s w → host_at w id ≡ Some h → IsTimed s w id h (own_clock w id)
timed s w id h k stands = record { stands = stands; from = omega arith; within = omega (arith, k.lead id); last = k.last id h stands }

-- ---- a packet that is neither late nor stale may still be taken

wire_one : (s : Settings) (b : Bool) → (s.wire == 1) ≡ b → accepted_life s ≡ cond b s.life (s.life + 4 * s.skew)
wire_one s b e = ap (λ x. cond x s.life (s.life + 4 * s.skew)) e

and_second : (a b : Bool) → a ≡ true → (a && b) ≡ false → b ≡ false
and_second true b e f = f
and_second false b e f = absurd (false≢true e)

pub fresh : (s : Settings) (w : World) (sent : SentPacket) (now : ℕ) → IsValid s → IsDated s sent → w.clock ≤ now → is_late s w sent.tick ≡ false
    → is_stale s now sent.packet ≡ false → IsFresh s w sent
fresh s w sent now valid dated from late stale = by_wire (wire_of s valid) where
  by_wire : (s.wire ≡ 1) ⊎ (s.wire ≡ 2) → IsFresh s w sent
  by_wire (inl one) =
      let test : (s.wire == 1) ≡ true = eq-eqb s.wire 1 one in
      let in_time : w.clock ≤ sent.tick + s.life = ltb-false (sent.tick + s.life) w.clock (and_second (s.wire == 1) _ test late) in
      omega (arith, in_time, wire_one s true test)
  by_wire (inr two) =
      let test : (s.wire == 2) ≡ true = eq-eqb s.wire 2 two in
      let not_one : (s.wire == 1) ≡ false = ap (λ (n : ℕ). n == 1) two in
      let in_time : now ≤ sent.packet.at + s.life + 2 * s.skew = ltb-false (sent.packet.at + s.life + 2 * s.skew) now (and_second (s.wire == 2) _ test stale) in
      omega (arith, in_time, dated, from, wire_one s false not_one)
