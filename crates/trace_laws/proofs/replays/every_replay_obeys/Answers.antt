use Rattle.trace_laws.proofs.Obeyed.{obeyed, fronts_obeyed, none_broken, told_obeyed}
use Rattle.trace_laws.proofs.replays.every_replay_obeys.Goals as goal

pub returns-clause-obeys : goal.returns-clause-obeys
returns-clause-obeys c = obeyed

pub returns-clause-fronts : goal.returns-clause-fronts
returns-clause-fronts c = fronts_obeyed

pub returns-clause-judged : goal.returns-clause-judged
returns-clause-judged c = none_broken

pub returns-clause-told : goal.returns-clause-told
returns-clause-told c = told_obeyed
