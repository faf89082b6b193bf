-- The incoming messages of a host, and the GRANTs that it may send, by the rules of `homa_plain/specs/Grants`.
use Rattle.std.specs.Prelude.{ℕ, suc, ◌+◌, ◌-◌, ◌&&◌, ◌||◌, Bool, false, nat_lt, min, Option, option_and_then, List, [], ◌∷◌}
use Rattle.std.specs.Option.{option_map}
use Rattle.plain_sets.specs.Maps.{len}
use Rattle.homa_plain.specs.declared.id.CallId.{CallId}
use Rattle.homa_plain.specs.declared.packet.Role.TheVariants.{Client, Server}
use Rattle.trace_rules.specs.Granting as plain
use Rattle.trace_rules.specs.Granting.{Arriving}
use Rattle.trace_rules.specs.Judge.{is_grant}
use Rattle.check_call.specs.declared.choice.Message.{Message}
use Rattle.check_call.specs.Calls.{spot_in}
use Rattle.homa_check.specs.declared.grant.Grant.{Grant}
use Rattle.check_lines.specs.declared.trace.Trace.{Trace}
use Rattle.check_lines.specs.Traces.{call_at, lives_in}

-- what the choice sees of a part that arrives
abbrev pub message_of : Arriving → Message
message_of x = record {
  role = x.role;
  id = x.id;
  peer = x.part.peer;
  length = x.part.length;
  arrived = len x.part.arrived;
  granted = x.part.granted;
  order = x.part.order;
}

-- what the choice sees of a call's request, if a part of it is stored
abbrev pub asked_message : Trace → CallId → Option Message
asked_message t q =
    option_and_then (λ c. option_map (λ p. record {
      role = Server;
      id = q;
      peer = q.client;
      length = p.length;
      arrived = p.count;
      granted = p.granted;
      order = p.order;
    }) (spot_in c (lives_in t q c.server)).request) (call_at t q)

-- what the choice sees of a call's response, if a part of it is stored
abbrev pub awaited_message : Trace → CallId → Option Message
awaited_message t q =
    option_and_then (λ c. option_map (λ p. record {
      role = Client;
      id = q;
      peer = c.server;
      length = p.length;
      arrived = p.count;
      granted = p.granted;
      order = p.order;
    }) (spot_in c (lives_in t q c.server)).response) (call_at t q)

-- the end that is granted to a message, if it is chosen
abbrev pub new_end_of : ℕ → Message → ℕ
new_end_of window m = min m.length (m.arrived + window)

-- a GRANT, as the definitions have it
abbrev pub plain_grant : Grant → plain.Grant
plain_grant g = record { to = g.to; role = g.role; id = g.id; offset = g.offset; prio = g.prio }

-- a GRANT is for this message, up to this end, at this priority
abbrev pub is_told_to : ℕ → ℕ → Grant → Message → Bool
is_told_to end prio g m = is_grant (plain_grant g) (record { to = m.peer; role = m.role; id = m.id; offset = end; prio = prio })

-- a GRANT is for this message, which is chosen
abbrev pub is_grant_to : ℕ → ℕ → Grant → Message → Bool
is_grant_to window prio g m = nat_lt m.granted (new_end_of window m) && is_told_to (new_end_of window m) prio g m

-- a GRANT is for one of these messages; the first has rank r of n, and rank r gives the priority n - 1 - r
abbrev pub is_grant_among : ℕ → ℕ → ℕ → Grant → List Message → Bool
is_grant_among window n r g [] = false
is_grant_among window n r g (m ∷ ms) = is_grant_to window (n - 1 - r) g m || is_grant_among window n (suc r) g ms
