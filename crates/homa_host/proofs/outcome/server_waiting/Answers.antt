use Rattle.std.proofs.Common.{ap, ◌∙◌, cond, Some, None}
use Rattle.std.specs.Option.{option_and_then}
use Rattle.homa_plain.specs.declared.row.OutFacts.{OutFacts}
use Rattle.homa_plain.specs.declared.row.RowFacts.{RowFacts}
use Rattle.homa_host.proofs.ReplyDuty.{waiting_reply}
use Rattle.homa_host.proofs.outcome.server_waiting.Goals as goal

pub returns : goal.returns
returns c id r pool stands are =
    c.waiting_of.ensures
    ∙ ap (λ (f : RowFacts). option_and_then (λ (o : OutFacts). cond o.waiting (Some (record { left = o.left; order = o.order })) None) f.out)
    (c.row-facts.ensures.facts id r stands)
    ∙ waiting_reply pool r.state
