use Rattle.std.proofs.Common.{◌≡◌, take}
use Rattle.std.specs.Prelude.{map}
use Rattle.node_runs.specs.Course.{Tells}
use Rattle.node_turns.specs.Told.{AreTold}
use Rattle.node_turns.proofs.telling.tell_entries.Given as goal

-- so many entries were told
abbrev pub invariant-loop-i : goal.invariant-loop-i
invariant-loop-i g l =
    let o = g.O.Observer in
    record {
      told : AreTold o.told o.kept o.strange (o.taken l.fn.observer) (o.notes l.fn.observer) (o.taken l.observer) (o.notes l.observer)
          (map Tells (take l.i (g.H.LoopHosts.told l.hosts)));
      quiet : o.faults l.observer ≡ o.faults l.fn.observer;
      same : o.is_same l.fn.observer l.observer;
    }
