use Rattle.std.proofs.Common.{◌≡◌, sym, ap, subst, ◌∙◌}
use Rattle.homa_plain.specs.Timers.{server_deadline, state_deadline}
use Rattle.homa_in.specs.Pooled.{IsInPool}
use Rattle.homa_server.specs.Held.{HeldServer, state_part, seen_state}
use Rattle.homa_server.specs.Table.{Servers}
use Rattle.homa_server.proofs.StandLaws.{in_pool}
use Rattle.homa_server.proofs.table.ServerTable.deadline.Goals as goal

pub returns : goal.returns
unfolding server_deadline
returns c id r pool stands are =
    let same : c.at.result.now ≡ r = c.at.ensures id r stands in
    c.deadline.ensures pool
    (subst (λ (x : HeldServer). IsInPool pool (state_part x.state)) (sym same) (in_pool c.args.self.now.rows c.args.slot id r stands pool are))
    ∙ ap (λ (x : HeldServer). state_deadline c.self.inside.settings (seen_state pool x.state)) same
    ∙ ap (λ (v : Servers). state_deadline v.settings (seen_state pool r.state)) c.self.view_is
