-- Each step of a table is good, and what is left is reached in one of those that are left.
use Rattle.std.proofs.Common.{◌≡◌, ◌∙◌, refl, sym, ap, ◌+◌, ◌*◌, ◌<◌, get_or, drop, arith}
use Rattle.std.proofs.lemmas.List.Sums.{sum_by-drop_more}
use Rattle.experiment.specs.declared.steps.Step.{Step}
use Rattle.std.proofs.lemmas.Nat.{mul-le}
use Rattle.experiment.specs.Tables.{shares}
use Rattle.experiment.proofs.StepLaws.{good_at, upto_within, is_last, no_step}
use Rattle.experiment.proofs.DrawLaws.{reached_on}
use Rattle.experiment.proofs.steps.bound.Goals as goal

pub length_in-requires-clause-rises : goal.length_in-requires-clause-rises
length_in-requires-clause-rises c = (good_at c.args.steps.now c.loop-step.step-index c.requires.table c.loop-step-test.true).rises

pub length_in-requires-clause-most : goal.length_in-requires-clause-most
length_in-requires-clause-most c = (good_at c.args.steps.now c.loop-step.step-index c.requires.table c.loop-step-test.true).most

pub length_in-requires-clause-share : goal.length_in-requires-clause-share
length_in-requires-clause-share c =
    let g = good_at c.args.steps.now c.loop-step.step-index c.requires.table c.loop-step-test.true in
    rw (c.from-in-loop-step.ensures, c.from-in-loop-step-2.ensures) (mul-le _ c.args.parts 1000000 1000 g.share_most c.requires.most)

pub returns-then-left-share-clause-most : goal.returns-then-left-share-clause-most
returns-then-left-share-clause-most c =
    let within = upto_within c.args.steps.now c.loop-step.step-index c.requires.table c.loop-step-test.true in
    omega (arith, within, c.length_in.ensures.upto)

pub returns-then-left-share-clause-last : goal.returns-then-left-share-clause-last
returns-then-left-share-clause-last c = λ whole.
    let steps = c.args.steps.now in
    let i = c.loop-step.step-index in
    let product : c.from-in-loop-step.result * c.from-in-loop-step-2.result ≡ (get_or steps i no_step).share * c.args.parts
    = rw (c.from-in-loop-step.ensures, c.from-in-loop-step-2.ensures) refl in
    let left = c.loop-step.invariant.last whole in
    let last = is_last steps i c.args.parts c.requires.table c.loop-step-test.true (omega arith) (omega (arith, left, product, c.if-left-share.true)) in
    let all : shares (drop i steps) * c.args.parts ≡ (get_or steps i no_step).share * c.args.parts = ap (λ n. n * c.args.parts) last.1 in
    c.length_in.ensures.last (omega (arith, left, product, all)) ∙ last.0

pub loop-step-preserved : goal.loop-step-preserved
loop-step-preserved c =
    let steps = c.args.steps.now in
    let i = c.loop-step.step-index in
    let product : c.from-in-loop-step.result * c.from-in-loop-step-2.result ≡ (get_or steps i no_step).share * c.args.parts
    = rw (c.from-in-loop-step.ensures, c.from-in-loop-step-2.ensures) refl in
    let past : (get_or steps i no_step).share * c.args.parts < c.loop-step.left = omega (arith, product, c.if-left-share.false) in
    let split : shares (drop i steps) * c.args.parts ≡ ((get_or steps i no_step).share + shares (drop (i + 1) steps)) * c.args.parts
    = ap (λ n. n * c.args.parts) (sum_by-drop_more (λ (s : Step). s.share) steps i no_step c.loop-step-test.true) in
    record {
      same = rw product (sym (reached_on steps c.args.parts c.loop-step.left i c.loop-step-test.true past) ∙ c.loop-step.invariant.same);
      some = omega (arith, past, product);
      within = omega (arith, product, split, c.loop-step.invariant.within);
      last = λ whole. omega (arith, past, product, split, c.loop-step.invariant.last whole);
    }
