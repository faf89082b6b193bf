-- The sum over the lengths is that of triangles.
use Rattle.std.proofs.Common.{rules}
use Rattle.std.proofs.Math.Facts.{Fits-of_lt}
use Rattle.experiment.specs.Wires.{cut_of}
use Rattle.experiment.proofs.WireLaws.{closed, fits}
use Rattle.experiment.proofs.framing.Framing.wire_up_to.Goals as goal

pub overflow_add-result-2 : goal.overflow_add-result-2
overflow_add-result-2 c =
    rw (c.from-n.ensures, c.from-piece.ensures, c.from.ensures)
    (Fits-of_lt (fits c.args.self.now.piece c.args.n c.args.self.now.frame (search rules) (search rules) (search rules)))

pub returns : goal.returns
returns c = rw (c.from-n.ensures, c.from-piece.ensures, c.from.ensures) (closed (cut_of c.args.self.now) c.args.n (search rules))
