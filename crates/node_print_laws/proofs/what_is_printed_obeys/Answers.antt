use Rattle.node_print_laws.proofs.Printed.{wholes, parts}
use Rattle.node_print_laws.proofs.what_is_printed_obeys.Goals as goal

pub returns-clause-whole : goal.returns-clause-whole
returns-clause-whole c = wholes

pub returns-clause-parts : goal.returns-clause-parts
returns-clause-parts c = parts
