use Rattle.std.proofs.Common.{◌≡◌, ◌-◌, map, length}
use Rattle.std.specs.List.{All}
use Rattle.node_runs.specs.Script as script
use Rattle.node_script.specs.Setup.{naming_seen}
use Rattle.node_script.specs.Heads.{IsPlaced, places_seen}
use Rattle.node_script.proofs.Placing.{prefixed}
use Rattle.node_script.proofs.head.places_from.Given as goal

-- the places so far, and those to come
abbrev pub invariant-loop-host : goal.invariant-loop-host
invariant-loop-host l = record {
  given : script.places_from 0 l.hosts (map naming_seen l.named)
      ≡ prefixed (places_seen l.places) (script.places_from l.host (l.hosts - l.host) (map naming_seen l.named));
  placed : All IsPlaced l.places.items;
  count : length l.places.items ≡ l.host;
}
