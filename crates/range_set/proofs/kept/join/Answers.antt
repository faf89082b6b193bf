use Rattle.std.proofs.Common.{◌≡◌, [], ◌∷◌, ◌++◌, take, drop, length, ◌-◌, refl, sym, ap, ◌∙◌}
use Rattle.std.proofs.lemmas.List.{take_rest}
use Rattle.plain_sets.specs.Ranges.{absorbed}
use Rattle.range_set.specs.Kept.{plain}
use Rattle.range_set.proofs.Walks.{in_three}
use Rattle.range_set.proofs.kept.join.Goals as goal

pub returns : goal.returns
returns c =
    let below = take c.count_below.result c.args.kept.now in
    let rest = drop c.count_below.result c.args.kept.now in
    let above = drop c.absorb-touched.result.1 rest in
    let all : take (length c.split_at.result.1.now - c.absorb-touched.result.1) (drop c.absorb-touched.result.1 c.split_at.result.1.now) ≡ above =
    take_rest c.split_at.result.1.now c.absorb-touched.result.1 ∙ ap (drop c.absorb-touched.result.1) c.split_at.ensures.back in
    let items : c.append-2.new.out.items ≡ (below ++ c.absorb-touched.result.0 ∷ []) ++ above =
    c.append-2.ensures ∙ ap (λ ys. c.push.new.self.items ++ ys) all
    ∙ ap (λ ys. ys ++ above)
    (c.push.ensures.items ∙ ap (λ ys. ys ++ c.absorb-touched.result.0 ∷ []) (c.append.ensures ∙ rw (c.new-out.ensures, c.split_at.ensures.front) refl)) in
    let added : absorbed c.args.a c.args.b (plain rest) ≡ plain (c.absorb-touched.result.0 ∷ above) =
    rw (← c.split_at.ensures.back) c.absorb-touched.ensures.added in
    ap plain items ∙ in_three below above c.absorb-touched.result.0 ∙ ap (λ ys. plain below ++ ys) (sym added) ∙ sym (c.count_below.ensures.copied c.args.b)
