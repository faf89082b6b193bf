-- One more is due, at a moment that isn't over.
use Rattle.std.proofs.Common.{rules, ◌≤◌, ◌∷◌, ℕ, map, subst, sym, IsPermutation, arith}
use Rattle.std.specs.BinaryHeap.{heap_items}
use Rattle.std.specs.declared.cmp.Reverse.{Reverse}
use Rattle.std.proofs.lemmas.List.Sorted.{All-permutation, IsPermutation-map}
use Rattle.std.proofs.lemmas.List.Elements.{All-cons}
use Rattle.network_parts.specs.declared.agenda.Due.{Due}
use Rattle.network_parts.proofs.agenda.Agenda.enter.Goals as goal

pub invariant_of-self-2 : goal.invariant_of-self-2
invariant_of-self-2 g c = (
  c.in_ok-push.ensures.heap_order c.self.invariant.0,
  All-permutation (λ (d : Reverse (Due g.row.T.Denot)). c.self.inside.reached ≤ d.0.at) _ _ c.in_ok-push.ensures.permutation
      (All-cons (λ (d : Reverse (Due g.row.T.Denot)). c.self.inside.reached ≤ d.0.at) _ _ (search rules) c.self.invariant.1),
)

pub returns-clause-entered : goal.returns-clause-entered
returns-clause-entered g c =
    rw (← c.self.view_is)
    (subst (λ (n : ℕ). IsPermutation (record { at = n; number = c.self.inside.entered; what = c.args.what }
    ∷ map (λ (d : Reverse (Due g.row.T.Denot)). d.0) (heap_items c.self.inside.heap))
    (map (λ (d : Reverse (Due g.row.T.Denot)). d.0) (heap_items c.push.new.self)))
    c.max.ensures (IsPermutation-map (λ (d : Reverse (Due g.row.T.Denot)). d.0) _ _ c.in_ok-push.ensures.permutation))
