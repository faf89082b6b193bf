-- The first packet of the highest level leaves its queue.
use Rattle.std.proofs.Common.{◌∙◌, arith}
use Rattle.std.proofs.lemmas.List.{map-set}
use Rattle.network_parts.proofs.PortLaws.{level_is}
use Rattle.network_parts.proofs.port.Port.next.Goals as goal

pub returns-clause-first : goal.returns-clause-first
returns-clause-first g c = record {
  rest = c.pop_front.new.self.items;
  inside = c.in_ok-level.ensures.inside;
  first = rw (← c.self.view_is)
      (level_is (λ q. q.items) c.self.inside.levels.items c.in_ok-level.level c.index_mut.result.now
      (omega (arith, c.in_ok-level.ensures.inside, c.self.invariant)) c.index_mut.ensures.value ∙ c.in_ok-waiting.ensures.items);
  highest = c.in_ok-level.ensures.highest;
  others = rw (← c.self.view_is) (map-set (λ q. q.items) c.self.inside.levels.items c.in_ok-level.level c.pop_front.new.self);
}
