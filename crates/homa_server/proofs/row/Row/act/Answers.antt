use Rattle.homa_server.proofs.row.Row.act.Goals as goal

pub returns-in-Receiving-clause-asks : goal.returns-in-Receiving-clause-asks
returns-in-Receiving-clause-asks c = c.receiving_acts.ensures.asks
