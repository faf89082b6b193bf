use Rattle.std.proofs.Common.{map, ap, refl, ◌∙◌}
use Rattle.place_heap.specs.Held.{list_of}
use Rattle.host_heap.proofs.Books.{items-back}
use Rattle.homa_pacer.specs.Pace.{Pace, item_of, ready_of}
use Rattle.homa_pacer.proofs.Pacer.heap.Goals as goal

pub returns-clause-ready : goal.returns-clause-ready
returns-clause-ready c = items-back item_of ready_of (λ _. refl) (list_of c.self.inside.heap) ∙ ap (λ (p : Pace). map item_of p.ready) c.self.view_is
