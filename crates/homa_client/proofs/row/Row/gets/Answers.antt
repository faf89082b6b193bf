use Rattle.std.proofs.Common.{◌∙◌, ap, sym, subst, Option}
use Rattle.homa_plain.specs.AtClient.{refreshed}
use Rattle.homa_in.specs.Part.{Part}
use Rattle.homa_in.specs.Pooled.{Moves}
use Rattle.homa_in.specs.Pieces.{piece_in}
use Rattle.homa_client.proofs.ReceiveLaws.{gave_after}
use Rattle.homa_client.proofs.row.Row.gets.Goals as goal

pub returns-clause-gave : goal.returns-clause-gave
returns-clause-gave c s host rows e =
    let old = c.args.lent.now.pool.now in
    let mid = c.renew.new.pool in
    gave_after s c.args.id c.args.body.now c.args.payload.now (piece_in c.args.body.now c.args.payload.now) host c.args.at.now c.args.at.order rows old mid
    c.answer.new.lent.pool.now c.args.self.now c.refresh.new.self c.answer.new.self c.answer.new.lent.scratch.now c.answer.result _
    (subst (λ (o : Option Part). Moves old c.args.self.now.part mid o) (sym c.refresh.ensures.part) c.renew.ensures.moves)
    (c.refresh.ensures.row mid ∙ ap (refreshed c.args.at.now c.args.body.now) c.renew.ensures.row)
    (c.answer.ensures.gave s host c.args.at.now rows e)
