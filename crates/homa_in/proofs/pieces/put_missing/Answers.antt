-- One more range of missing bytes is filled in.
use Rattle.std.proofs.Common.{◌+◌, List, ℕ, length, sym, subst, arith}
use Rattle.homa_in.specs.Filled.{IsFilled}
use Rattle.homa_in.proofs.FillLaws.{next_is, filled_more}
use Rattle.homa_in.proofs.pieces.put_missing.Goals as goal

pub loop-from-preserved : goal.loop-from-preserved
loop-from-preserved c =
    let inv = c.loop-from.invariant in
    let within = c.in-Some.ensures.within in
    let next =
    next_is c.args.missing.now c.loop-from.from (c.args.offset + length c.args.bytes.now) (c.in-Some.first, c.in-Some.after) c.in-Some.ensures.value in
    record {
      low = omega (arith, inv.low, within.0, within.1);
      high = within.2;
      filled = subst (λ (xs : List ℕ). IsFilled c.args.missing.now c.args.offset c.in-Some.after c.args.bytes.now c.args.scratch.now xs) (sym c.put.ensures)
          (filled_more c.args.missing.now c.args.offset c.loop-from.from c.in-Some.first c.in-Some.after c.args.bytes.now c.args.scratch.now
          c.loop-from.scratch inv.filled inv.low within.0 within.1 within.2 c.requires.fits next.none next.all);
    }
