-- The hosts up to here are free.
use Rattle.std.proofs.Common.{◌≡◌, true, take}
use Rattle.std.specs.List.{list_all}
use Rattle.homa_plain.specs.World.{World as PlainWorld}
use Rattle.homa_world.specs.Standing.{StandsFor}
use Rattle.homa_world.proofs.LookLaws.{is_free}
use Rattle.homa_world.proofs.parts.WorldParts.is_idle.Given as goal

abbrev pub invariant-loop-host : goal.invariant-loop-host
invariant-loop-host g l = (w : PlainWorld) → StandsFor l.fn.self w → list_all is_free (take l.host w.hosts) ≡ true
