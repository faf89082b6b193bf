-- Room for fewer packets.
use Rattle.std.proofs.Common.{◌≤◌, ℕ, arith}
use Rattle.world_packets.specs.declared.packets.Packets.{Packets}
use Rattle.world_packets.specs.All.{HasRoomFor}

pub less_room : (p : Packets) (m n : ℕ) → m ≤ n → HasRoomFor p n → HasRoomFor p m
less_room p m n h r = record {
  room = record { recs = omega (arith, h, r.room.recs); bytes = omega (arith, h, r.room.bytes) };
  small = omega (arith, h, r.small);
  few = omega (arith, h, r.few);
}
