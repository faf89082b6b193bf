-- One of the stage's hosts.
use Rattle.homa_world.proofs.LookLaws.{host_settings, host_stands}
use Rattle.homa_world.proofs.world.World.host.Goals as goal

pub returns-clause-settings : goal.returns-clause-settings
returns-clause-settings g c = host_settings _ c.args.self.now c.self.inside.parts c.self.view_is c.self.invariant c.args.host c.host.result.now c.host.ensures

pub returns-clause-host : goal.returns-clause-host
returns-clause-host g c = host_stands _ c.args.self.now c.self.inside.parts c.self.view_is c.self.invariant c.args.host c.host.result.now c.host.ensures
