-- Something is kept of each packet.
use Rattle.homa_world.proofs.LookLaws.{packets_count}
use Rattle.homa_world.proofs.world.World.packets.Goals as goal

pub returns : goal.returns
returns g c = packets_count c.args.self.now c.self.inside.parts c.self.view_is c.count.result c.count.ensures
