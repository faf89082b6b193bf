use Rattle.std.proofs.Common.{arith, refl}
use Rattle.written_lines.proofs.Texts.{part_on}
use Rattle.homa_text.proofs.Calls.{calls-more}
use Rattle.homa_text.proofs.frequent_lines.add_calls.Goals as goal

pub loop-inc-preserved : goal.loop-inc-preserved
loop-inc-preserved g c = record {
  texts =
      part_on _ _ _ _ _ _ c.loop-inc.invariant.texts (part_on _ _ _ _ _ _ c.add.ensures.items c.add_call.ensures.items refl)
      (calls-more _ _ _ c.loop-inc-test.true);
  len = omega arith;
}
