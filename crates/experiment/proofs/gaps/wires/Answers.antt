-- One length less is left.
use Rattle.std.proofs.Common.{◌-◌, arith}
use Rattle.experiment.specs.Wires.{cut_of}
use Rattle.experiment.proofs.LengthLaws.{wires_on, wires-none}
use Rattle.experiment.proofs.gaps.wires.Goals as goal

pub lengths-preserved : goal.lengths-preserved
lengths-preserved c =
    let more = wires_on c.args.workload.now c.lengths.draws c.args.n c.lengths.counter c.draw-length.result c.draw-length.new.draws c.lengths-test.true
    c.draw-length.ensures.drawn (cut_of c.args.framing.now) in
    record {
      sum = omega (arith, more, c.lengths.invariant.sum, c.wire-more.ensures.wire);
      most = omega (arith, c.lengths.invariant.most, c.wire-more.ensures.most c.draw-length.ensures.most);
    }

pub returns-clause-sum : goal.returns-clause-sum
returns-clause-sum c =
    let none =
    wires-none (cut_of c.args.framing.now) (c.args.n - c.lengths.counter) c.args.workload.now c.lengths.draws (omega (arith, c.lengths-test.false)) in
    omega (arith, none, c.lengths.invariant.sum)
