-- What stays the same of a node's source, net and observer.
use Rattle.std.specs.Prelude.{ℕ, Result}
use Rattle.node_turns.specs.declared.stop.NodeStop.{NodeStop}
use Rattle.node_turns.specs.Faults.{counts, AreFaults}

-- The source and the observer are the same ones. A fault of the source, the net or the observer was counted exactly where it is why the node stopped.
pub record AreSameEnds {S N O A : Type 0} (unread : S → ℕ) (lost : N → ℕ) (failed : O → ℕ) (is_source : S → S → Type 0) (is_observer : O → O → Type 0)
    (source0 source1 : S) (net0 net1 : N) (observer0 observer1 : O) (r : Result A NodeStop) : Type 0 where
  pub faults : AreFaults (counts (unread source0) (lost net0) (failed observer0)) (counts (unread source1) (lost net1) (failed observer1)) r
  pub same_source : is_source source0 source1
  pub same_observer : is_observer observer0 observer1
