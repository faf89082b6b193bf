-- A host in the midst of a step: what it prints and sends, beside the host itself.
use Rattle.std.specs.Prelude.{ℕ, ◌==◌, if◌then◌else◌, List, [], ◌∷◌, ◌++◌}
use Rattle.homa_plain.specs.declared.id.CallId.{CallId}
use Rattle.homa_plain.specs.declared.id.HostId.{HostId}
use Rattle.homa_plain.specs.declared.packet.Role.{Role}
use Rattle.homa_plain.specs.declared.packet.Body.{Body}
use Rattle.homa_plain.specs.declared.settings.Settings.{Settings}
use Rattle.homa_plain.specs.Packets.{Packet}
use Rattle.homa_plain.specs.Host.{Host, Told, Says, Sends}
use Rattle.homa_plain.specs.Rules.{Say, Tells, Posts}
use Rattle.homa_plain.specs.Sending.{Content}

-- a host in the midst of a step, and what it printed and sent so far
pub record Work : Type 0 where
  pub host : Host
  pub told : List Told

-- the host's own clock
abbrev pub now_of : Work → ℕ
now_of w = w.host.last

-- a step begins: from now on the host's own clock at its last step is this one
abbrev pub begun : Host → ℕ → Work
begun h now = record { host = record h { last = now }; told = [] }

-- prints or sends this too, after all that came before
abbrev pub tells : List Told → Work → Work
tells told w = record w { told = w.told ++ told }

-- a packet of a call; with version 1 it doesn't carry the sender's clock
abbrev pub packet_from : Settings → Host → Role → CallId → HostId → Content → Packet
packet_from s h role id server content = record {
  role = role;
  id = id;
  server = server;
  inc = h.inc;
  at = if s.wire == 1 then 0 else h.last;
  level = content.level;
  body = content.body;
  payload = content.payload;
}

-- all packets but pieces of messages go at level 7 and have no payload
abbrev pub bare : Body → Content
bare what = record { level = 7; body = what; payload = [] }

-- a packet that says this of a call, and is no piece of a message, is sent
abbrev pub posts : Settings → Role → CallId → HostId → Body → Work → Work
posts s role id server what w = tells (Sends (packet_from s w.host role id server (bare what)) ∷ []) w

-- carries out what a rule says
abbrev pub said : Settings → Host → Role → CallId → HostId → List Say → List Told
said s h role id server [] = []
said s h role id server (Tells entry ∷ says) = Says entry ∷ said s h role id server says
said s h role id server (Posts what ∷ says) = Sends (packet_from s h role id server (bare what)) ∷ said s h role id server says
