-- The first of the heap comes out of what was due.
use Rattle.std.specs.declared.cmp.Reverse.{Reverse}
use Rattle.std.proofs.lemmas.List.Sorted.{IsPermutation-map}
use Rattle.network_parts.specs.declared.agenda.Due.{Due}
use Rattle.network_parts.proofs.DueLaws.{first_of}
use Rattle.network_parts.proofs.agenda.Agenda.next.Goals as goal

pub returns-clause-taken : goal.returns-clause-taken
returns-clause-taken g c = rw (← c.self.view_is) (IsPermutation-map (λ (d : Reverse (Due g.row.T.Denot)). d.0) _ _ c.in_ok-due.ensures.permutation)

pub returns-clause-first : goal.returns-clause-first
returns-clause-first g c = first_of c.in_ok-due.field-0 _ (c.in_ok-due.ensures.below_top c.self.invariant.0)
