-- What is drawn of a packet.
use Rattle.std.specs.Prelude.{ℕ, ◌+◌, ◌*◌, ◌/◌}
use Rattle.experiment.specs.declared.draws.PacketName.{PacketName}
use Rattle.experiment.specs.Draws.{named, is_in, below}
use Rattle.packet_network.specs.declared.chance.Chance.{Chance}

-- Whether a packet is lost, whether it comes twice, and its jitter in whole nanoseconds: three draws by its name, in this order.
abbrev pub drawn : (seed : ℕ) → PacketName → (loss repeat jitter : ℕ) → Chance
drawn seed name loss repeat jitter =
    let lost = is_in loss (named seed name) in
    let repeated = is_in repeat lost.1 in
    let late = below (jitter / 1000 + 1) repeated.1 in record { is_lost = lost.0; is_repeated = repeated.0; late = late.0 * 1000 }
