use Rattle.std.proofs.Common.{◌∙◌}
use Rattle.host_places.proofs.SpotLaws.{len-is, rows_placed}
use Rattle.host_places.proofs.table.Rows.len.Goals as goal

pub returns-clause-len : goal.returns-clause-len
returns-clause-len g c = rw (← c.self.view_is) (c.len.ensures.len ∙ len-is c.self.inside.places c.self.inside.spots.items c.self.invariant.0)

pub returns-clause-placed : goal.returns-clause-placed
returns-clause-placed g c = rw (← c.self.view_is) (rows_placed c.self.inside.places c.self.inside.spots.items c.self.invariant.0)
