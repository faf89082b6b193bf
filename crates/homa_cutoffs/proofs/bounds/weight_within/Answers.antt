use Rattle.std.proofs.Common.{arith}
use Rattle.homa_cutoffs.proofs.Weights.{next-small, weight-small}
use Rattle.homa_cutoffs.proofs.bounds.weight_within.Goals as goal

pub overflow_add-sum : goal.overflow_add-sum
overflow_add-sum c =
    omega (
      arith,
      c.min.ensures,
      c.from-sum.ensures,
      next-small c.args.unsched c.args.most c.loop-n.sum c.in-Some.n.now c.loop-n.n-iterator c.next.new.self c.args.lengths.now.items
          c.in-Some.ensures.steps c.if-n-most.true c.loop-n.invariant c.requires (omega arith),
    )

pub returns-clause-small : goal.returns-clause-small
returns-clause-small c =
    omega (arith, rw c.in-None.ensures.steps.0 at c.loop-n.invariant, weight-small c.args.unsched c.args.most c.args.lengths.now.items c.requires (omega arith))
