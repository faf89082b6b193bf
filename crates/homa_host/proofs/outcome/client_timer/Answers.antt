use Rattle.std.proofs.Common.{ap, ◌∙◌}
use Rattle.homa_plain.specs.declared.row.RowFacts.{RowFacts}
use Rattle.host_books.specs.Duty.{timer_duty}
use Rattle.homa_host.proofs.outcome.client_timer.Goals as goal

pub returns : goal.returns
returns c id r pool stands inside =
    c.deadline_of.ensures ∙ ap (λ (f : RowFacts). timer_duty f.order c.deadline.result) (c.row-facts.ensures.facts id r stands)
    ∙ ap (timer_duty r.order) (c.deadline.ensures id r pool stands inside)
