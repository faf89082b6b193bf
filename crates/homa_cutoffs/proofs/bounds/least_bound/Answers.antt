use Rattle.std.proofs.Common.{◌≡◌, ◌≤◌, true, inr, refl, ◌∙◌, arith}
use Rattle.homa_plain.specs.Cutoffs.{has_share}
use Rattle.homa_cutoffs.proofs.Weights.{IsShareTest, share-passes, passes-share, greatest-passes}
use Rattle.homa_cutoffs.proofs.Candidates.{lowest-first, lowest-next, lowest-is}
use Rattle.homa_cutoffs.proofs.bounds.least_bound.Goals as goal
use Rattle.homa_cutoffs.proofs.bounds.least_bound.Goals.{else-n-least-via-then-n-least+else-share-from-2, else-n-least-via-else-n-least}

pub returns-then-share-from : goal.returns-then-share-from
returns-then-share-from c =
    let test : IsShareTest c.args.m c.args.unsched c.args.lengths.now.items c.args.j 0 c.from.result c.weight_within.result c.from-2.result
    c.weight_within-2.result =
    record {
      within = c.requires.within;
      parts_are = c.from.ensures;
      whole_is = c.weight_within.ensures.weight;
      of_is = c.from-2.ensures;
      part_is = c.weight_within-2.ensures.weight;
    } in
    lowest-is c.args.m c.args.unsched c.args.lengths.now.items _ c.args.j 0 c.requires.part
    (share-passes _ _ _ _ _ _ _ _ _ test c.if-share-from.true) (λ _. refl) refl (λ _ _ _. inr (omega arith))

pub loop-n-init : goal.loop-n-init
loop-n-init c = record {
  passes = greatest-passes c.args.m c.args.unsched c.args.lengths.now.items c.args.j c.requires.part c.requires.within;
  lowest = lowest-first (has_share c.args.m c.args.unsched c.args.lengths.now.items c.args.j) c.args.lengths.now.items c.into_iter-n-iterator.result 1000000
      (c.into_iter-n-iterator.ensures.into_iter_gives ∙ c.iter-n-items.ensures.rest);
}

pub loop-n-preserved-then-share-from-2 : goal.loop-n-preserved-then-share-from-2
loop-n-preserved-then-share-from-2 c =
    let test : IsShareTest c.args.m c.args.unsched c.args.lengths.now.items c.args.j c.in-Some.n.now c.from.result c.weight_within.result
    c.from-then-n-least.result c.weight_within-then-n-least.result =
    record {
      within = c.requires.within;
      parts_are = c.from.ensures;
      whole_is = c.weight_within.ensures.weight;
      of_is = c.from-then-n-least.ensures;
      part_is = c.weight_within-then-n-least.ensures.weight;
    } in
    record {
      passes = share-passes _ _ _ _ _ _ _ _ _ test c.if-share-from-2.true;
      lowest = lowest-next (has_share c.args.m c.args.unsched c.args.lengths.now.items c.args.j) c.args.lengths.now.items c.loop-n.n-iterator
          c.next.new.self c.in-Some.n.now c.loop-n.least c.in-Some.n.now c.in-Some.ensures.steps (omega arith) (λ _. omega arith) c.loop-n.invariant.lowest;
    }

pub loop-n-preserved : goal.loop-n-preserved
loop-n-preserved c =
    let here : has_share c.args.m c.args.unsched c.args.lengths.now.items c.args.j c.in-Some.n.now ≡ true → c.loop-n.least ≤ c.in-Some.n.now =
    elim c.else-n-least.branch [
      | else-n-least-via-then-n-least+else-share-from-2 w ↦ λ passes.
          let test : IsShareTest c.args.m c.args.unsched c.args.lengths.now.items c.args.j c.in-Some.n.now c.from.result c.weight_within.result
          w.from-then-n-least.result w.weight_within-then-n-least.result =
          record {
            within = c.requires.within;
            parts_are = c.from.ensures;
            whole_is = c.weight_within.ensures.weight;
            of_is = w.from-then-n-least.ensures;
            part_is = w.weight_within-then-n-least.ensures.weight;
          } in
          absurd (omega (arith, passes-share _ _ _ _ _ _ _ _ _ test passes, w.if-share-from-2.false))
      | else-n-least-via-else-n-least w ↦ λ _. w.if-n-least.false
    ] in
    record {
      passes = c.loop-n.invariant.passes;
      lowest = lowest-next (has_share c.args.m c.args.unsched c.args.lengths.now.items c.args.j) c.args.lengths.now.items c.loop-n.n-iterator
          c.next.new.self c.in-Some.n.now c.loop-n.least c.loop-n.least c.in-Some.ensures.steps (omega arith) here c.loop-n.invariant.lowest;
    }

pub returns : goal.returns
returns c =
    let test : IsShareTest c.args.m c.args.unsched c.args.lengths.now.items c.args.j 0 c.from.result c.weight_within.result c.from-2.result
    c.weight_within-2.result =
    record {
      within = c.requires.within;
      parts_are = c.from.ensures;
      whole_is = c.weight_within.ensures.weight;
      of_is = c.from-2.ensures;
      part_is = c.weight_within-2.ensures.weight;
    } in
    lowest-is c.args.m c.args.unsched c.args.lengths.now.items c.loop-n.n-iterator c.args.j c.loop-n.least c.requires.part c.loop-n.invariant.passes
    (λ passes. absurd (omega (arith, passes-share _ _ _ _ _ _ _ _ _ test passes, c.if-share-from.false))) c.in-None.ensures.steps.0 c.loop-n.invariant.lowest
