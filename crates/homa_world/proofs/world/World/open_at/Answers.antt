use Rattle.homa_world.proofs.FirstLaws.{first_allows}
use Rattle.homa_world.proofs.world.World.open_at.Goals as goal

pub returns-clause-allows : goal.returns-clause-allows
returns-clause-allows g c =
    first_allows _ _ c.in_ok-open.field-0 c.args.settings.now c.args.services.items c.in_ok-open.ensures.seated.seats
    c.in_ok-open.ensures.seated.spares
