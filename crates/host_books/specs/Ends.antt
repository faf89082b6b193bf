-- How a step of a host ends, message by message.
use Rattle.std.specs.Prelude.{ℕ, nat_lt, if◌then◌else◌, List, [], ◌∷◌, length}
use Rattle.homa_plain.specs.declared.settings.Settings.{Settings}
use Rattle.homa_plain.specs.Grants.{new_end}
use Rattle.homa_plain.specs.Sending.{Arriving}
use Rattle.homa_plain.specs.Work.{Work}
use Rattle.homa_plain.specs.Steps.{grants_at}

-- a chosen message is granted to, where its new end exceeds its granted end
abbrev pub grant_to : Settings → Arriving → ℕ → Work → Work
grant_to s a prio w =
    if nat_lt a.message.granted (new_end s.window a.message) then grants_at s a.place (new_end s.window a.message) prio w else w

-- messages are granted to one by one, the last at priority 0
abbrev pub granted_each : Settings → List Arriving → Work → Work
granted_each s [] w = w
granted_each s (a ∷ rest) w = granted_each s rest (grant_to s a (length rest) w)
