use Rattle.std.proofs.Common.{◌≡◌, ℕ, None, Option, sym, ap, subst, ◌∙◌}
use Rattle.std.specs.Option.{option_map}
use Rattle.plain_sets.specs.Maps.{get}
use Rattle.homa_server.specs.Answers.{acked_of}
use Rattle.homa_server.specs.Table.{Servers, server_at, server_moment}
use Rattle.homa_server.proofs.StandLaws.{moved_none}
use Rattle.homa_server.proofs.NewLaws.{acked_none}
use Rattle.homa_server.proofs.table.ServerTable.ack.Goals as goal

pub returns-in_err-slot-clause-acked : goal.returns-in_err-slot-clause-acked
returns-in_err-slot-clause-acked c pool order are =
    let none = subst (λ (v : Servers). get v.rows c.args.id ≡ None) c.self.view_is c.in_err-slot.ensures.absent in
    let m = server_moment c.args.self.now c.args.now order pool c.args.id in
    acked_none c.args.self.now c.args.id none m pool
    ∙ ap (λ (o : Option (ℕ × ℕ)). acked_of m c.args.id (server_at pool c.args.self.now.rows c.args.id) (option_map (λ (x : ℕ × ℕ). x.1) o))
    (sym c.from_residual.ensures)

pub returns-in_err-slot-clause-moved : goal.returns-in_err-slot-clause-moved
returns-in_err-slot-clause-moved c pool are = moved_none c.args.self.now pool c.args.id are
