use Rattle.node_trace_laws.proofs.Taken.{whole_texts, fronts}
use Rattle.node_trace_laws.proofs.what_is_taken_obeys.Goals as goal

pub returns-clause-whole : goal.returns-clause-whole
returns-clause-whole c = whole_texts

pub returns-clause-fronts : goal.returns-clause-fronts
returns-clause-fronts c = fronts
