-- Each draw follows the one before it.
use Rattle.homa_fabric.proofs.DrawLaws.{drawn_traffic}
use Rattle.homa_fabric.proofs.draws.next_traffic.Goals as goal

pub returns-clause-drawn : goal.returns-clause-drawn
returns-clause-drawn c = drawn_traffic c.args.hosts c.args.random.now (c.draw-client.result, c.draw-client.new.random)
    (c.draw-distance.result, c.draw-distance.new.random) (c.draw-number.result, c.draw-number.new.random) (c.draw-kind.result, c.draw-kind.new.random)
    (c.sized.result, c.sized.new.random) c.draw-client.ensures.drawn c.draw-distance.ensures.drawn c.draw-number.ensures.drawn
    c.draw-kind.ensures.drawn c.sized.ensures.sized
