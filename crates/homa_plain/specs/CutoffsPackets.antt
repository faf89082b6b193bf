-- CUTOFFS packets: who sends them, to whom, and which a host keeps. How cutoffs are computed is in `Cutoffs`.
use Rattle.std.specs.Prelude.{ℕ, ◌==◌, ◌&&◌, ◌||◌, Bool, nat_lt, if◌then◌else◌, Option, None, Some, slice_set}
use Rattle.homa_plain.specs.declared.id.CallId.{CallId}
use Rattle.homa_plain.specs.declared.id.HostId.{HostId}
use Rattle.homa_plain.specs.declared.packet.Role.{Role}
use Rattle.homa_plain.specs.declared.packet.Cutoffs.{Cutoffs}
use Rattle.homa_plain.specs.declared.packet.Body.{Body}
use Rattle.homa_plain.specs.declared.packet.Body.TheVariants as body
use Rattle.homa_plain.specs.declared.settings.Settings.{Settings}
use Rattle.homa_plain.specs.Host.{Host, tuned, PeerCutoffs, peer_cutoffs}
use Rattle.homa_plain.specs.Work.{Work, tells, posts}

-- a message was opened: its length is noted, and the cutoffs may be computed anew
abbrev pub notes : Settings → Option ℕ → Work → Work
notes s None w = w
notes s (Some n) w =
    let t = tuned s w.host.id w.host.tuning n in
    tells t.told (record w { host = record w.host { tuning = t.tuning } })

-- a first piece with another version of the cutoffs: its sender gets the present ones
-- A rule of this project; the packet's name, CUTOFFS, is that of the Linux module.
abbrev pub tells_cutoffs : Settings → Role → CallId → HostId → Option ℕ → Work → Work
tells_cutoffs s role id server None w = w
tells_cutoffs s role id server (Some version) w =
    if version == w.host.tuning.own.version then w else posts s role id server (body.Cutoffs w.host.tuning.own) w

-- whether cutoffs are newer than those that the host has: of a later incarnation, or of a later version
-- A rule of this project.
abbrev pub is_newer : ℕ → Cutoffs → PeerCutoffs → Bool
is_newer inc cutoffs held = nat_lt held.inc inc || (held.inc == inc && nat_lt held.cutoffs.version cutoffs.version)

-- the host with these cutoffs of a peer
abbrev pub with_peer : Settings → HostId → PeerCutoffs → Host → Host
with_peer s peer cutoffs h = record h { peers = slice_set h.peers peer.0 cutoffs }

-- a peer's cutoffs arrive
-- A rule of this project.
abbrev pub hears_cutoffs : Settings → HostId → ℕ → Body → Work → Work
hears_cutoffs s peer inc (body.Cutoffs cutoffs) w =
    if is_newer inc cutoffs (peer_cutoffs s w.host peer)
    then record w { host = with_peer s peer (record { inc = inc; cutoffs = cutoffs }) w.host }
    else w
hears_cutoffs s peer inc what w = w
