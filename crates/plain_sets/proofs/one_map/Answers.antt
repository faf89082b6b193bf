use Rattle.plain_sets.proofs.MapLaws.{same_map}
use Rattle.plain_sets.proofs.one_map.Goals as goal

pub returns : goal.returns
returns g c same m n alike = same_map g.met.K.Ord.total same m n alike
