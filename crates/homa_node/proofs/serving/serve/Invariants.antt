use Rattle.std.proofs.Common.{◌≡◌, ◌≤◌, ◌*◌, ℕ, Some, Ok, List, length}
use Rattle.std.specs.Prelude.{nat_lt}
use Rattle.homa_plain.specs.declared.id.HostId.{HostId}
use Rattle.node_runs.specs.Course.{node_run}
use Rattle.homa_plain.specs.Script.{most_bytes}
use Rattle.node_runs.specs.Script.{opening}
use Rattle.node_runs.specs.Acts.{connects, opened_acts}
use Rattle.node_turns.specs.Told.{listed}
use Rattle.node_script.specs.Heads.{setup_seen}
use Rattle.homa_node.specs.Coming.{calls_ahead, IsOpenAt, IsAllRead, HasRoom}
use Rattle.homa_node.specs.Served.{outside}
use Rattle.homa_node.specs.Ends.{AreSameEnds}
use Rattle.homa_node.specs.Progress.{IsAt, behind_turns}
use Rattle.homa_node.proofs.serving.serve.Given as goal

-- so many loop turns were done
abbrev pub invariant-loop-done : goal.invariant-loop-done
invariant-loop-done g l =
    let o = g.O.Observer in
    let n = g.N.Net in
    let h = g.H.LoopHosts in
    let s = g.S.Source in
    let c = g.C.Clock in
    let setup = setup_seen l.setup in
    record {
      far : (bytes : List ℕ) → s.left l.fn.source ≡ Some bytes
          → IsAt node_run o.told o.kept o.strange (g.H.OpenHosts.are_allowed l.fn.boxes) bytes (s.left l.source)
          (outside (o.taken l.fn.observer) (o.notes l.fn.observer) (listed (n.acts l.fn.net) (connects setup.places)) (n.sent l.fn.net)
          (n.gave l.fn.net) (c.ticks l.fn.clock))
          (outside (o.taken l.observer) (o.notes l.observer) (n.acts l.net) (n.sent l.net) (n.gave l.net) (c.ticks l.clock)) setup (h.stands l.hosts)
          (h.allows l.hosts) l.now (calls_ahead setup l.ahead l.reader) (behind_turns setup l.done l.now);
      opens : (bytes : List ℕ) → s.left l.fn.source ≡ Some bytes → opened_acts (opening most_bytes bytes) ≡ connects setup.places;
      all : (bytes : List ℕ) → s.left l.fn.source ≡ Some bytes → IsAllRead l.ahead (s.left l.source);
      open_at : IsOpenAt l.setup l.ahead l.reader;
      limit : l.reader.place.limit ≤ 68719476736;
      room : HasRoom (2080 * l.done) (h.steps l.hosts) l.ahead l.reader;
      settings : h.settings l.hosts ≡ l.setup.settings;
      now : h.clock l.hosts ≡ l.now;
      last : l.now ≤ c.last l.clock;
      known : (id : HostId) → n.known l.net id ≡ nat_lt id.0 (length l.setup.places.items);
      ends : AreSameEnds {A = Unit {0}} s.faults n.faults o.faults s.is_same o.is_same l.fn.source l.source l.fn.net l.net l.fn.observer l.observer (Ok tt);
    }
