use Rattle.std.proofs.Common.{◌≡◌, ◌++◌, length, take}
use Rattle.std.specs.Prelude.{◌||◌, map}
use Rattle.node_runs.specs.Acts.{binds, routes}
use Rattle.node_turns.specs.Told.{listed}
use Rattle.node_script.specs.Setup.{place_seen}
use Rattle.homa_plain.specs.declared.id.HostId.{HostId}
use Rattle.homa_node.proofs.Connecting.{here_below, there_below}
use Rattle.homa_node.proofs.places.connect.Given as goal

-- the local hosts below this one are known
abbrev pub invariant-loop-host : goal.invariant-loop-host
invariant-loop-host g l =
    let n = g.N.Net in
    record {
      known : (h : HostId) → n.known l.net h ≡ here_below l.places l.host h.0;
      acts : n.acts l.net ≡ listed (n.acts l.fn.net) (binds 0 (map place_seen (take l.host l.places)));
      sent : n.sent l.net ≡ n.sent l.fn.net;
      gave : n.gave l.net ≡ n.gave l.fn.net;
      quiet : n.faults l.net ≡ n.faults l.fn.net;
    }

-- and the others below this one
abbrev pub invariant-loop-other : goal.invariant-loop-other
invariant-loop-other g l =
    let n = g.N.Net in
    record {
      known : (h : HostId) → n.known l.net h ≡ (here_below l.places (length l.places) h.0 || there_below l.places l.other h.0);
      acts : n.acts l.net ≡ listed (n.acts l.fn.net) (binds 0 (map place_seen l.places) ++ routes 0 (map place_seen (take l.other l.places)));
      sent : n.sent l.net ≡ n.sent l.fn.net;
      gave : n.gave l.net ≡ n.gave l.fn.net;
      quiet : n.faults l.net ≡ n.faults l.fn.net;
    }
