use Rattle.std.proofs.Common.{◌≡◌, ◌+◌, leb, min}
use Rattle.std.specs.List.{filter, fold}
use Rattle.homa_plain.specs.Cutoffs.{weight_up_to}
use Rattle.homa_cutoffs.proofs.bounds.weight_within.Given as goal

abbrev pub invariant-loop-n : goal.invariant-loop-n
invariant-loop-n l =
    fold (λ s n. s + min n l.unsched) l.sum (filter (λ n. leb n l.most) l.n-iterator) ≡ weight_up_to l.unsched l.lengths.items l.most
