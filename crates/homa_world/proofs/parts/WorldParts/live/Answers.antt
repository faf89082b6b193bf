-- A host's own count.
use Rattle.std.proofs.Common.{sym, subst}
use Rattle.homa_world.proofs.LookLaws.{IsLive}
use Rattle.homa_world.proofs.EventLaws.{host_there}
use Rattle.homa_world.proofs.parts.WorldParts.live.Goals as goal

pub returns : goal.returns
returns g c =
    λ w stands. subst (λ o. IsLive o c.live.result) (sym (host_there c.args.self.now c.args.host c.host.result.now w stands c.host.ensures)) c.live.ensures
