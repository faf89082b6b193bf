use Rattle.std.proofs.Common.{◌≡◌, ◌≤◌, ◌++◌, map, drop}
use Rattle.std.specs.List.{AllByRecursion}
use Rattle.node_runs.specs.Course.{first_inc}
use Rattle.node_script.specs.Setup.{place_seen}
use Rattle.homa_node.proofs.places.first_incs.Given as goal

-- those so far, and those to come
abbrev pub invariant-loop-place : goal.invariant-loop-place
invariant-loop-place l = record {
  incs : l.incs.items ++ map first_inc (map place_seen (drop l.place-index l.places)) ≡ map first_inc (map place_seen l.places);
  lives : AllByRecursion (λ inc. 1 ≤ inc) l.incs.items;
}
