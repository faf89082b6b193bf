use Rattle.std.proofs.Common.{◌≡◌, ℕ, Some, Ok, List}
use Rattle.node_turns.specs.Told.{Hears, AreDone}
use Rattle.node_script.specs.Heads.{setup_seen}
use Rattle.homa_node.specs.Coming.{calls_ahead, IsLooked, IsOpenAt, IsAllRead, HasRoom, lines_ahead}
use Rattle.homa_node.specs.Started.{HasStarted}
use Rattle.homa_node.specs.Ends.{AreSameEnds}
use Rattle.homa_node.proofs.calling.starts.Given as goal

-- so many calls were started, and the next line was read
abbrev pub invariant-calls : goal.invariant-calls
invariant-calls g l =
    let o = g.O.Observer in
    let n = g.N.Net in
    let h = g.H.LoopHosts in
    let s = g.S.Source in
    record {
      started : HasStarted (h.settings l.fn.hosts) (h.stands l.fn.hosts) (h.allows l.fn.hosts) (n.sent l.fn.net) (n.sent l.net) (n.gave l.fn.net)
          (n.gave l.net) (s.left l.fn.source) (s.left l.source) (calls_ahead (setup_seen l.setup) l.fn.ahead l.fn.reader)
          (h.stands l.hosts) (h.allows l.hosts)
          (AreDone o.told o.kept o.strange (o.taken l.fn.observer) (o.notes l.fn.observer) (o.taken l.observer) (o.notes l.observer)
          (n.acts l.fn.net) (n.acts l.net) (Hears 64) (Hears 64))
          (calls_ahead (setup_seen l.setup) l.ahead l.reader);
      all : (bytes : List ℕ) → s.left l.fn.source ≡ Some bytes → IsAllRead l.fn.ahead (Some bytes) → IsAllRead l.ahead (s.left l.source);
      known : IsLooked l.ahead;
      counted : IsOpenAt l.setup l.ahead l.reader;
      limit : l.reader.place.limit ≡ l.fn.reader.place.limit;
      room : (most : ℕ) → HasRoom most (h.steps l.fn.hosts) l.fn.ahead l.fn.reader → HasRoom most (h.steps l.hosts) l.ahead l.reader;
      settings : h.settings l.hosts ≡ h.settings l.fn.hosts;
      clock : h.clock l.hosts ≡ h.clock l.fn.hosts;
      hosts : n.known l.net ≡ n.known l.fn.net;
      ends : AreSameEnds {A = Unit {0}} s.faults n.faults o.faults s.is_same o.is_same l.fn.source l.source l.fn.net l.net l.fn.observer l.observer (Ok tt);
    }

abbrev pub decreases-calls : goal.decreases-calls
decreases-calls g l = lines_ahead l.ahead l.reader
