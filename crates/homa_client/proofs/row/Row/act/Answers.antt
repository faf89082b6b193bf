-- A row that is due wants bytes of the response.
use Rattle.std.proofs.Common.{◌∙◌, sym, refl}
use Rattle.homa_client.specs.Held.{seen_row}
use Rattle.homa_client.proofs.TimerLaws.{due_wants}
use Rattle.homa_client.proofs.row.Row.act.Goals as goal

pub unreachable-requires : goal.unreachable-requires
unreachable-requires c =
    due_wants c.args.settings.now (seen_row c.args.pool.now c.args.self.now) _ c.requires.due
    (sym (c.wanted.ensures.range c.args.settings.now c.args.pool.now refl c.requires.pool) ∙ c.in_default.is)
