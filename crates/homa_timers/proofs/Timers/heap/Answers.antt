use Rattle.std.proofs.Common.{map, ap, refl, ◌∙◌}
use Rattle.place_heap.specs.Held.{list_of}
use Rattle.host_heap.proofs.Books.{items-back}
use Rattle.homa_timers.specs.Armed.{Armed, item_of, timer_of}
use Rattle.homa_timers.proofs.Timers.heap.Goals as goal

pub returns-clause-timers : goal.returns-clause-timers
returns-clause-timers c = items-back item_of timer_of (λ _. refl) (list_of c.self.inside.heap) ∙ ap (λ (a : Armed). map item_of a.timers) c.self.view_is
