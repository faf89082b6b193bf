-- What is shown as a frame's level is the level of its packet.
use Rattle.std.proofs.Common.{◌≡◌, ℕ, List, refl}
use Rattle.homa_plain.specs.declared.packet.Packet.{Packet}
use Rattle.homa_plain.specs.Wire.{spelling}
use Rattle.homa_c.specs.Shown.{shown_level}

pub level_of_packet : (wire : ℕ) (p : Packet) (payload : List ℕ) → shown_level (spelling wire p payload) ≡ p.level
level_of_packet wire p payload = refl
