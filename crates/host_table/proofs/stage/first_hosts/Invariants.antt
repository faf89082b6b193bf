use Rattle.std.specs.Prelude.{◌≡◌, map, take}
use Rattle.host_table.specs.Staged.{known, known_first}
use Rattle.host_table.proofs.stage.first_hosts.Given as goal

abbrev pub invariant-loop-id : goal.invariant-loop-id
invariant-loop-id l = map known l.hosts.items ≡ known_first l.fn.settings (take l.id l.fn.incs)
