-- A host at which each message is granted as far as it may be.
use Rattle.std.specs.Prelude.{List}
use Rattle.homa_plain.specs.declared.settings.Settings.{Settings}
use Rattle.homa_plain.specs.Grants.{Granted, grants}
use Rattle.homa_plain.specs.Host.{Host}
use Rattle.homa_plain.specs.Sending.{Arriving, arrivals}

-- the GRANTs that the end of a step gives to the messages that arrive at this host
abbrev pub due_grants : Settings → Host → List (Granted Arriving)
due_grants s h = grants (λ (a : Arriving). a.message) s.overcommit s.window (arrivals h)
