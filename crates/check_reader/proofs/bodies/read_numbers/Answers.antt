use Rattle.std.proofs.Common.{◌^◌, ◌∙◌, sym, length, arith}
use Rattle.std.proofs.lemmas.List.{length-set}
use Rattle.check_words.specs.Fields.{number_at}
use Rattle.check_words.specs.FieldsLeft.{left}
use Rattle.check_reader.proofs.Times.{times-more, times-none, times-all}
use Rattle.check_reader.proofs.bodies.read_numbers.Goals as goal

pub returns-in_err-value-clause-value : goal.returns-in_err-value-clause-value
returns-in_err-value-clause-value c =
    let f = c.from_residual.ensures in
    rw f (sym (c.loop-n.invariant.value ∙ times-none (number_at (2 ^ 32)) c.loop-n.numbers (length c.loop-n.numbers) c.loop-n.n-index
    (left c.loop-n.rest) (omega arith) (sym c.in_err-value.ensures.value)))

pub loop-n-preserved : goal.loop-n-preserved
loop-n-preserved c = record {
  value =
      rw length-set (c.loop-n.invariant.value
      ∙ times-more (number_at (2 ^ 32)) c.loop-n.numbers c.loop-n.n-index c.in_ok-value.value (left c.loop-n.rest) (left c.in_ok-value.behind)
      (omega arith) (sym c.in_ok-value.ensures.value));
  shorter = omega (arith, c.in_ok-value.ensures.shorter);
}

pub returns-clause-value : goal.returns-clause-value
returns-clause-value c =
    sym (c.loop-n.invariant.value ∙ times-all (number_at (2 ^ 32)) c.loop-n.numbers c.loop-n.n-index (left c.loop-n.rest) (omega arith))
