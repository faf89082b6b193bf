-- Finished calls are acknowledged, five in one ACK, or the oldest by the next request to the same server.
use Rattle.std.specs.Prelude.{ℕ, Bool, true, false, nat_lt, if◌then◌else◌, Option, None, Some, List, [], ◌∷◌, ◌++◌, length}
use Rattle.homa_plain.specs.declared.id.CallId.{CallId}
use Rattle.homa_plain.specs.declared.id.HostId.{HostId}
use Rattle.homa_plain.specs.declared.packet.Role.TheVariants.{Client}
use Rattle.homa_plain.specs.declared.packet.Body.TheVariants as body
use Rattle.homa_plain.specs.declared.settings.Settings.{Settings}
use Rattle.homa_plain.specs.Host.{finished_at, with_finished}
use Rattle.homa_plain.specs.Work.{Work, posts}

-- five finished calls are acknowledged together, in their order
-- A rule of this project; the packet's name, ACK, is that of the Linux module.
abbrev pub acknowledged : Settings → HostId → List (ℕ × ℕ) → Work → Work
acknowledged s server [] w = w
acknowledged s server (call ∷ calls) w =
    if nat_lt (length calls) 4
    then record w { host = with_finished server (call ∷ calls) w.host }
    else posts s Client (record { client = w.host.id; inc = call.0; seq = call.1 }) server (body.Ack calls) (record w { host = with_finished server [] w.host })

-- a call is done: it joins the finished calls of its server
abbrev pub finishes : Settings → CallId → HostId → Bool → Work → Work
finishes s id server false w = w
finishes s id server true w = acknowledged s server (finished_at w.host server ++ (id.inc, id.seq) ∷ []) w

-- the oldest of the finished calls, which a request's piece carries
-- A rule of this project.
abbrev pub oldest : List (ℕ × ℕ) → Option (ℕ × ℕ)
oldest [] = None
oldest (call ∷ calls) = Some call
