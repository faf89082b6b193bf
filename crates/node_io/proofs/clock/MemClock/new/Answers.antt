use Rattle.node_io.proofs.Rising.{rises}
use Rattle.node_io.proofs.clock.MemClock.new.Goals as goal

pub invariant_of-result-clause-rises : goal.invariant_of-result-clause-rises
invariant_of-result-clause-rises c = rises c.args.ticks.items c.requires.ticks
