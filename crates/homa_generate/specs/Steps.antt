-- A step of a round.
use Rattle.homa_plain.specs.declared.settings.Settings.{Settings}
use Rattle.generated_runs.specs.Draws.{next_traffic}
use Rattle.generated_runs.specs.Rounds.{Generated, with_call}

-- the next call is drawn, and made where it may be
abbrev pub one_call : Settings → Generated → Generated
one_call s g = let t = next_traffic s.hosts g.fabric.random in with_call s t.0 (record g { fabric = record g.fabric { random = t.1 } })
