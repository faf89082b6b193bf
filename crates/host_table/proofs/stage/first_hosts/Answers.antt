use Rattle.std.proofs.Common.{ap, ◌∙◌, arith}
use Rattle.std.specs.Prelude.{map}
use Rattle.host_table.specs.Staged.{known}
use Rattle.host_table.proofs.FirstLaws.{first_more}
use Rattle.host_table.proofs.stage.first_hosts.Goals as goal

pub loop-id-preserved : goal.loop-id-preserved
loop-id-preserved c = ap (map known) c.in_ok-push.ensures.items ∙ first_more c.args.settings.now c.args.incs.now c.loop-id.id c.loop-id.hosts.items
    c.in_ok-open.field-0 (omega (arith, c.loop-id-test.true, c.loop-id.auto.id-end)) c.loop-id.invariant (ap known c.in_ok-open.ensures)
