-- What stays and what is lost as packets go on.
use Rattle.std.specs.Prelude.{◌≡◌}
use Rattle.packet_network.specs.declared.paths.PacketPaths.{PacketPaths}

-- as many of a million are lost, and as many come twice
pub record IsAsGiven (before after : PacketPaths) : Type 0 where
  pub loss : after.network.loss ≡ before.network.loss
  pub repeat : after.network.repeat ≡ before.network.repeat

-- no packet is lost or comes twice if none of a million is or does
pub record IsLossless (before after : PacketPaths) : Type 0 where
  pub lost : before.network.loss ≡ 0 → after.flow.census.fates.lost ≡ before.flow.census.fates.lost
  pub repeated : before.network.repeat ≡ 0 → after.flow.census.fates.repeated ≡ before.flow.census.fates.repeated
