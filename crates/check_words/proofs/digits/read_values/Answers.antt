use Rattle.std.proofs.Common.{arith, ◌∙◌}
use Rattle.check_words.proofs.DigitLaws.{all_more, greater_is, values_more}
use Rattle.check_words.proofs.digits.read_values.Goals as goal

pub loop-i-preserved : goal.loop-i-preserved
loop-i-preserved c =
    let greatest = c.max-greatest.ensures ∙ greater_is c.loop-i.greatest c.value-value.result in
    record {
      values =
          values_more c.args.word.now c.loop-i.values c.loop-i.i c.loop-i.greatest c.value-value.result c.max-greatest.result (omega arith)
          (omega arith) greatest c.value-value.ensures c.loop-i.invariant.values;
      all =
          all_more c.loop-i.values c.loop-i.i c.loop-i.greatest c.value-value.result c.max-greatest.result (omega arith) greatest
          c.loop-i.invariant.all;
    }
