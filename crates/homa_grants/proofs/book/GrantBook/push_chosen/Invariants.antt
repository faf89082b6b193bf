-- The first of the chosen messages were told.
use Rattle.std.proofs.Common.{◌≡◌, map, take}
use Rattle.homa_grants.proofs.ChoiceWalk.{chosen_of}
use Rattle.homa_grants.proofs.book.GrantBook.push_chosen.Given as goal

abbrev pub invariant-loop-peer : goal.invariant-loop-peer
invariant-loop-peer l = l.out.items ≡ map (λ e. e.slot) (take l.peer-index (chosen_of l.self))
