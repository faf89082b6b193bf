-- The packets of a step, as the world keeps them.
use Rattle.std.proofs.Common.{◌≡◌, ℕ, suc, ◌+◌, false, List, [], ◌∷◌, refl, ap, arith}
use Rattle.std.specs.Prelude.{map}
use Rattle.homa_plain.specs.declared.settings.Settings.{Settings}
use Rattle.homa_plain.specs.Packets.{Packet}
use Rattle.homa_plain.specs.Host.{Sends, packets_in, entries_from}
use Rattle.homa_plain.specs.World.{stamped}
use Rattle.homa_plain.specs.Steps.{has_run}
use Rattle.homa_plain.specs.Quiet.{has_done}
use Rattle.quiet_laws.specs.Hosts.{AreOurs}
use Rattle.quiet_laws.proofs.Amid.{AreNew, packets_of}

pub packets_in-sends : (ps : List Packet) → packets_in (map Sends ps) ≡ ps
packets_in-sends [] = refl
packets_in-sends (p ∷ ps) = ap (λ x. p ∷ x) (packets_in-sends ps)

pub sends-quiet : (k : ℕ) (ps : List Packet) → has_done (entries_from k (map Sends ps)) ≡ false
sends-quiet k [] = refl
sends-quiet k (p ∷ ps) = sends-quiet (suc k) ps

pub packets_of-stamped : (tick : ℕ) (ps : List Packet) → packets_of (stamped tick ps) ≡ ps
packets_of-stamped tick [] = refl
packets_of-stamped tick (p ∷ ps) = ap (λ x. p ∷ x) (packets_of-stamped tick ps)

pub stamped_new : (s : Settings) (clock : ℕ) (ps : List Packet) → AreOurs s (clock + s.skew) ps → AreNew s clock (stamped clock ps)
stamped_new s clock [] a = tt
stamped_new s clock (p ∷ ps) a = (record { ours = a.0; young = omega arith }, stamped_new s clock ps a.1)

-- a tick later they are still new, where they were sent at this one
pub new_next : (s : Settings) (clock : ℕ) (ps : List Packet) → AreOurs s (clock + s.skew) ps → AreNew s (clock + 1) (stamped clock ps)
new_next s clock [] a = tt
new_next s clock (p ∷ ps) a = (record { ours = a.0; young = omega arith }, new_next s clock ps a.1)

pub runs-sends : (ps : List Packet) → has_run (map Sends ps) ≡ false
runs-sends [] = refl
runs-sends (p ∷ ps) = runs-sends ps
