use Rattle.node_rows.proofs.Rising.{GoesOn}
use Rattle.node_rows.proofs.net_file.may_be_given.Given as goal

abbrev pub invariant-loop-tick : goal.invariant-loop-tick
invariant-loop-tick l = GoesOn l.ticks l.tick-index l.last
