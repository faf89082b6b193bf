-- The wire bytes of each length have a bound.
use Rattle.std.proofs.Common.{rules}
use Rattle.experiment.specs.Wires.{cut_of}
use Rattle.experiment.proofs.WireLaws.{between_most}
use Rattle.experiment.proofs.framing.Framing.wire_between.Goals as goal

pub returns-clause-most : goal.returns-clause-most
returns-clause-most c = λ few.
    rw (c.saturating_sub.ensures, c.wire_up_to.ensures, c.wire_up_to-2.ensures)
    (between_most (cut_of c.args.self.now) c.args.low c.args.high (search rules) (search rules) c.requires few)
