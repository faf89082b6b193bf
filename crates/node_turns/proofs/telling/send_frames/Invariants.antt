use Rattle.std.proofs.Common.{◌≡◌, take}
use Rattle.std.specs.Prelude.{map}
use Rattle.node_turns.specs.Told.{listed}
use Rattle.node_turns.specs.Acting.{frame_datagram, frame_act}
use Rattle.node_turns.proofs.telling.send_frames.Given as goal

-- so many frames were sent
abbrev pub invariant-loop-i : goal.invariant-loop-i
invariant-loop-i g l =
    let n = g.N.Net in
    record {
      sent : n.sent l.net ≡ listed (n.sent l.fn.net) (map frame_datagram (take l.i (g.H.LoopHosts.frames l.hosts)));
      acts : n.acts l.net ≡ listed (n.acts l.fn.net) (map frame_act (take l.i (g.H.LoopHosts.frames l.hosts)));
      gave : n.gave l.net ≡ n.gave l.fn.net;
      known : n.known l.net ≡ n.known l.fn.net;
      quiet : n.faults l.net ≡ n.faults l.fn.net;
    }
