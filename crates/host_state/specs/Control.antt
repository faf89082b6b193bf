-- What a host has beside its rows: its clock, cutoffs, finished calls, and what its step told so far.
use Rattle.std.specs.Prelude.{◌≡◌, ◌<◌, ◌≤◌, ◌^◌, ◌==◌, if◌then◌else◌, ℕ, List, length}
use Rattle.std.specs.List.{AllByRecursion}
use Rattle.homa_plain.specs.declared.id.HostId.{HostId}
use Rattle.homa_plain.specs.declared.packet.Cutoffs.{Cutoffs}
use Rattle.homa_plain.specs.declared.settings.Settings.{Settings}
use Rattle.homa_plain.specs.declared.id.CallId.{CallId}
use Rattle.homa_plain.specs.declared.packet.Role.{Role}
use Rattle.homa_plain.specs.Packets.{Packet}
use Rattle.homa_plain.specs.Sending.{Content}
use Rattle.homa_plain.specs.Settings.{IsValid}
use Rattle.homa_plain.specs.Wire.{IsCall}
use Rattle.homa_plain.specs.Host.{Tuning, PeerCutoffs, packets_in}
use Rattle.homa_plain.specs.Work.{Work}
use Rattle.host_view.specs.declared.mark.Mark.{Mark}
use Rattle.host_view.specs.declared.outbox.SentFrame.{SentFrame}
use Rattle.host_view.specs.Frames.{frames_of, IsFormed}
use Rattle.host_view.specs.Marks.{marks_from}
use Rattle.homa_plain.specs.Limits.{last_host_tick, longest_message}

-- a host without its rows: settings, name, incarnation, clock, cutoffs, finished calls, and the marks of its step
pub record Control : Type 0 where
  pub settings : Settings
  pub id : HostId
  pub inc : ℕ
  pub last : ℕ  -- its own clock at its last step, and during a step
  pub tuning : Tuning
  pub peers : List PeerCutoffs
  pub finished : List (List (ℕ × ℕ))
  pub marks : List Mark

-- bounds that a packet may carry
pub record AreFit (c : Cutoffs) : Type 0 where
  pub version : c.version < 2 ^ 16
  pub levels : length c.upto ≡ 8
  pub bounds : AllByRecursion (λ bound. bound ≤ longest_message) c.upto

-- what holds between its calls
pub record IsSound (c : Control) : Type 0 where
  pub valid : IsValid c.settings
  pub host : c.id.0 < c.settings.hosts
  pub inc : 1 ≤ c.inc
  pub last : c.last ≤ last_host_tick
  pub own : AreFit c.tuning.own
  pub peers : length c.peers ≡ c.settings.hosts
  pub peer_cutoffs : AllByRecursion (λ p. AreFit p.cutoffs) c.peers
  pub finished : length c.finished ≡ c.settings.hosts
  pub few : AllByRecursion (λ calls. length calls < 5) c.finished
  pub calls : AllByRecursion (AllByRecursion IsCall) c.finished
  pub room : length c.marks ≤ 128

-- in the midst of a step: the plain host has this beside its rows, and these entries and frames so far
pub record IsAt (w : Work) (c : Control) (frames : List SentFrame) : Type 0 where
  pub id : w.host.id ≡ c.id
  pub inc : w.host.inc ≡ c.inc
  pub last : w.host.last ≡ c.last
  pub tuning : w.host.tuning ≡ c.tuning
  pub peers : w.host.peers ≡ c.peers
  pub finished : w.host.finished ≡ c.finished
  pub marked : c.marks ≡ marks_from 0 w.told
  pub sent : frames ≡ frames_of c.settings (packets_in w.told)
  pub formed : AllByRecursion (IsFormed c.settings) (packets_in w.told)

-- a packet of a call, as the control makes it
abbrev pub sent_by : Control → Role → CallId → HostId → Content → Packet
sent_by c role id server content = record {
  role = role;
  id = id;
  server = server;
  inc = c.inc;
  at = if c.settings.wire == 1 then 0 else c.last;
  level = content.level;
  body = content.body;
  payload = content.payload;
}
