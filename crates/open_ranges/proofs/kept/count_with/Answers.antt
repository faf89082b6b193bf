use Rattle.std.proofs.Common.{arith}
use Rattle.std.proofs.lemmas.List.{take_rest}
use Rattle.open_ranges.proofs.Walks.{apart_drop, width_drop, fewer, fewer-joined, width-touched}
use Rattle.open_ranges.proofs.kept.count_with.Goals as goal

pub absorb-covered-requires-clause-apart : goal.absorb-covered-requires-clause-apart
absorb-covered-requires-clause-apart c =
    rw (take_rest c.args.kept.now c.count_below.result) (apart_drop c.count_below.result 0 c.args.kept.now c.requires.kept.apart)

pub absorb-covered-requires-clause-few : goal.absorb-covered-requires-clause-few
absorb-covered-requires-clause-few c =
    rw (take_rest c.args.kept.now c.count_below.result) (omega (arith, width_drop c.count_below.result c.args.kept.now, fewer _ _ c.requires.kept))

pub overflow_sub-result : goal.overflow_sub-result
overflow_sub-result c =
    let all = take_rest c.args.kept.now c.count_below.result in
    (width-touched c.args.kept.now c.count_below.result c.absorb-covered.result.1 c.args.count c.args.a c.args.b c.absorb-covered.result.0.from
    c.absorb-covered.result.0.to c.absorb-covered.result.2
    (c.count_below.ensures.copied c.args.b) (rw (← all) c.absorb-covered.ensures.added) (rw (← all) c.absorb-covered.ensures.covered) c.requires.kept.total).0

pub overflow_add-result : goal.overflow_add-result
overflow_add-result c =
    let all = take_rest c.args.kept.now c.count_below.result in
    let is =
    (width-touched c.args.kept.now c.count_below.result c.absorb-covered.result.1 c.args.count c.args.a c.args.b c.absorb-covered.result.0.from
    c.absorb-covered.result.0.to c.absorb-covered.result.2
    (c.count_below.ensures.copied c.args.b) (rw (← all) c.absorb-covered.ensures.added) (rw (← all) c.absorb-covered.ensures.covered)
    c.requires.kept.total).1 in
    omega (arith, is, fewer-joined c.args.kept.now c.args.count c.args.a c.args.b c.requires.rising (omega arith) c.requires.kept)

pub returns : goal.returns
returns c =
    let all = take_rest c.args.kept.now c.count_below.result in
    (width-touched c.args.kept.now c.count_below.result c.absorb-covered.result.1 c.args.count c.args.a c.args.b c.absorb-covered.result.0.from
    c.absorb-covered.result.0.to c.absorb-covered.result.2
    (c.count_below.ensures.copied c.args.b) (rw (← all) c.absorb-covered.ensures.added) (rw (← all) c.absorb-covered.ensures.covered) c.requires.kept.total).1
