use Rattle.std.proofs.Common.{ap, arith}
use Rattle.plain_sets.specs.Ranges.{width_of}
use Rattle.range_set.proofs.Walks.{no_range, next, width-kept, apart_next}
use Rattle.range_set.proofs.kept.width.Goals as goal

pub overflow_add-total : goal.overflow_add-total
overflow_add-total c =
    omega (
      arith,
      width-kept c.args.kept.now c.requires,
      ap width_of (next c.args.kept.now c.loop-range.range-index no_range c.loop-range-test.true),
      c.loop-range.invariant.so_far,
    )

pub loop-range-preserved : goal.loop-range-preserved
loop-range-preserved c =
    let e = next c.args.kept.now c.loop-range.range-index no_range c.loop-range-test.true in
    record {
      so_far = omega (arith, ap width_of e, c.loop-range.invariant.so_far);
      apart = (apart_next _ _ _ e c.loop-range.invariant.apart).1;
    }
