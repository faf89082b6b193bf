use Rattle.std.proofs.Common.{◌∙◌, sym, ap, length, [], ◌∷◌, arith, length-append}
use Rattle.check_words.specs.FieldsLeft.{left}
use Rattle.check_reader.proofs.Times.{is_next, is_last, calls_in-more, calls_in-none, calls_in-over, calls_in-all}
use Rattle.check_reader.proofs.bodies.read_calls.Goals as goal

pub returns-then-calls-eq4 : goal.returns-then-calls-eq4
returns-then-calls-eq4 c =
    sym (c.loop-word.invariant.value
    ∙ calls_in-over c.loop-word.more (left c.loop-word.rest) c.in-Some.word.now (left c.in-Some.behind)
    (omega (arith, ap length c.calls.ensures.calls)) (is_next _ _ _ c.in-Some.ensures.word))

pub returns-in_err-inc : goal.returns-in_err-inc
returns-in_err-inc c =
    let f = c.from_residual.ensures in
    f
    ∙ sym (c.loop-word.invariant.value
    ∙ calls_in-none c.loop-word.more (left c.loop-word.rest) c.in-Some.word.now (left c.in-Some.behind)
    (omega (arith, ap length c.calls.ensures.calls)) (is_next _ _ _ c.in-Some.ensures.word) c.in_err-inc.ensures)

pub loop-word-preserved : goal.loop-word-preserved
loop-word-preserved c = record {
  value =
      rw c.push.ensures (c.loop-word.invariant.value
      ∙ calls_in-more c.loop-word.more (c.in_ok-inc.inc, c.in_ok-inc.seq) (left c.loop-word.rest) c.in-Some.word.now (left c.in-Some.behind)
      (omega (arith, ap length c.calls.ensures.calls)) (is_next _ _ _ c.in-Some.ensures.word) c.in_ok-inc.ensures);
  few = omega (arith, ap length c.calls.ensures.calls, ap length c.push.ensures, length-append c.loop-word.more ((c.in_ok-inc.inc, c.in_ok-inc.seq) ∷ []));
}

pub returns : goal.returns
returns c =
    sym (c.loop-word.invariant.value ∙ calls_in-all c.loop-word.more (left c.loop-word.rest) (is_last (left c.loop-word.rest) c.in_default.ensures.word))
