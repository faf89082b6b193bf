use Rattle.std.proofs.Common.{◌-◌, Ok}
use Rattle.homa_plain.specs.World.{World}
use Rattle.node_runs.specs.Course.{hears}
use Rattle.node_turns.specs.Told.{Hears, AreDone}
use Rattle.node_turns.specs.Acting.{HasActed}
use Rattle.node_turns.specs.Same.{HaveStepped, IsSameOutside}
use Rattle.node_turns.proofs.acts.hears.Given as goal

-- so many datagrams came
abbrev pub invariant-loop-i : goal.invariant-loop-i
invariant-loop-i g l =
    let o = g.O.Observer in
    let n = g.N.Net in
    let h = g.H.LoopHosts in
    record {
      acted : (w : World) → h.stands l.fn.hosts w
          → HasActed (hears (h.settings l.fn.hosts) l.host 64) (hears (h.settings l.fn.hosts) l.host (64 - l.i)) (h.settings l.fn.hosts) w
          (h.stands l.hosts) (h.allows l.fn.hosts) (h.allows l.hosts)
          (AreDone o.told o.kept o.strange (o.taken l.fn.observer) (o.notes l.fn.observer) (o.taken l.observer) (o.notes l.observer)
          (n.acts l.fn.net) (n.acts l.net) (Hears 64) (Hears (64 - l.i))) (n.sent l.fn.net)
          (n.sent l.net) (n.gave l.fn.net) (n.gave l.net);
      stepped : HaveStepped h.settings h.clock h.steps l.fn.hosts l.hosts l.i;
      outside : IsSameOutside {A = Unit {0}} n.known n.faults o.faults o.is_same l.fn.net l.net l.fn.observer l.observer (Ok tt);
    }
