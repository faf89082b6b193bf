use Rattle.std.proofs.Common.{◌∙◌, sym}
use Rattle.homa_top.proofs.NodeEnds.{has_run, is_command, is_usual, have_status}
use Rattle.homa_top.proofs.commands.put_node.Goals as goal

-- a node's services are ready as a world's are
pub print_node-requires-clause-ready : goal.print_node-requires-clause-ready
print_node-requires-clause-ready g c = record { enough = c.requires.ready.enough; at_most = c.requires.ready.at_most; none = c.requires.ready.none }

pub returns-clause-run : goal.returns-clause-run
returns-clause-run g c = λ bytes had. rw c.status_of_node.ensures (has_run _ bytes _ _ _ c.print_node.result (c.print_node.ensures.printed bytes had))

pub returns-clause-command : goal.returns-clause-command
returns-clause-command g c = λ e. is_command c.print_node.result (sym c.status_of_node.ensures ∙ e)

pub returns-clause-usual : goal.returns-clause-usual
returns-clause-usual g c = λ e. is_usual c.print_node.result (sym c.status_of_node.ensures ∙ e)

pub returns-clause-faults : goal.returns-clause-faults
returns-clause-faults g c = rw c.status_of_node.ensures (have_status _ _ c.print_node.result c.print_node.ensures.faults)
