use Rattle.std.proofs.Common.{◌*◌, Ok, drop}
use Rattle.homa_plain.specs.World.{World}
use Rattle.node_runs.specs.Course.{hosts_act}
use Rattle.node_turns.specs.Told.{Hears, AreDone}
use Rattle.node_turns.specs.Acting.{HasActed, with_left}
use Rattle.node_turns.specs.Same.{HaveStepped, IsSameOutside}
use Rattle.node_turns.proofs.acts.hosts_act.Given as goal

-- so many hosts acted
abbrev pub invariant-loop-i : goal.invariant-loop-i
invariant-loop-i g l =
    let o = g.O.Observer in
    let n = g.N.Net in
    let h = g.H.LoopHosts in
    record {
      acted : (w : World) → h.stands l.fn.hosts w
          → HasActed (with_left (hosts_act (h.settings l.fn.hosts) l.locals)) (with_left (hosts_act (h.settings l.fn.hosts) (drop l.i l.locals)))
          (h.settings l.fn.hosts) w (h.stands l.hosts) (h.allows l.fn.hosts) (h.allows l.hosts)
          (AreDone o.told o.kept o.strange (o.taken l.fn.observer) (o.notes l.fn.observer) (o.taken l.observer) (o.notes l.observer)
          (n.acts l.fn.net) (n.acts l.net) (Hears 64) (Hears 64)) (n.sent l.fn.net)
          (n.sent l.net) (n.gave l.fn.net) (n.gave l.net);
      stepped : HaveStepped h.settings h.clock h.steps l.fn.hosts l.hosts (65 * l.i);
      outside : IsSameOutside {A = Unit {0}} n.known n.faults o.faults o.is_same l.fn.net l.net l.fn.observer l.observer (Ok tt);
    }
