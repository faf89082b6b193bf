-- How a control's fields are its value.
use Rattle.std.specs.Prelude.{ℕ, List, [], replicate}
use Rattle.homa_plain.specs.declared.id.HostId.{HostId}
use Rattle.homa_plain.specs.declared.packet.Cutoffs.{Cutoffs}
use Rattle.homa_plain.specs.declared.settings.Settings.{Settings}
use Rattle.homa_plain.specs.Cutoffs.{first_cutoffs}
use Rattle.homa_plain.specs.Host.{PeerCutoffs}
use Rattle.host_view.specs.declared.mark.Mark.{Mark}
use Rattle.host_state.specs.Control.{Control}
use Rattle.host_state.specs.declared.cutoffs_packets.Peer.{Peer}

-- what a host remembers of a peer: its cutoffs, and its incarnation when it sent them
abbrev pub peer_of : Peer → PeerCutoffs
peer_of p = record { inc = p.inc; cutoffs = p.cutoffs }

-- what a host has beside its rows, with these values; `lengths` and `opened` are of the messages that it opened
abbrev pub control_by : Settings → HostId → ℕ → ℕ → Cutoffs → List ℕ → ℕ → List PeerCutoffs → List (List (ℕ × ℕ)) → List Mark → Control
control_by s id inc last own lengths opened peers finished marks = record {
  settings = s;
  id = id;
  inc = inc;
  last = last;
  tuning = record { own = own; lengths = lengths; opened = opened };
  peers = peers;
  finished = finished;
  marks = marks;
}

-- what a host has that has done nothing, at a tick of its own clock
abbrev pub new_control : Settings → HostId → ℕ → ℕ → Control
new_control s id inc last =
    control_by s id inc last (first_cutoffs s.overcommit) [] 0 (replicate s.hosts (record { inc = 0; cutoffs = first_cutoffs s.overcommit }))
    (replicate s.hosts []) []
