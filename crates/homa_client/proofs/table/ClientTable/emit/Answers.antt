-- The row at the place sends.
use Rattle.std.proofs.Common.{◌≡◌, ◌∙◌, sym, ap, subst, Some, Option}
use Rattle.homa_in.specs.Part.{Part}
use Rattle.homa_in.specs.Pooled.{Moves}
use Rattle.homa_in.specs.Sends.{IfSent, IsAffordable}
use Rattle.homa_in.proofs.MoveLaws.{still}
use Rattle.homa_client.specs.Held.{HeldRow, seen_row}
use Rattle.homa_client.specs.Gives.{row_emits, row_sends}
use Rattle.homa_client.specs.contracts.table.ClientTable.{the_view}
use Rattle.homa_client.proofs.TableLaws.{table_set, lent, put_same}
use Rattle.homa_client.proofs.table.ClientTable.emit.Goals as goal

pub invariant_of-self : goal.invariant_of-self
invariant_of-self c =
    table_set c.self.inside.host c.self.inside.inc c.self.inside.seq c.self.inside.settings c.self.inside.rows c.self.invariant c.args.slot c.emit.new.self

pub returns-clause-emitted : goal.returns-clause-emitted
returns-clause-emitted c = rw (← c.self.view_is) (λ id r pool stands.
    c.emit.ensures.emitted pool
    ∙ ap (λ (x : HeldRow). row_emits c.self.inside.settings c.args.now c.args.credit (seen_row pool x))
    (lent c.self.inside.rows.room c.self.inside.rows.rows c.row_mut.ensures.placed c.args.slot c.row_mut.result.now c.row_mut.ensures.row id r stands))

pub returns-clause-sent : goal.returns-clause-sent
returns-clause-sent c = rw (← c.self.view_is) (λ id r stands.
    subst (λ (x : HeldRow). IfSent c.emit.result (IsAffordable x.out.length c.self.inside.settings.seg c.args.credit))
    (lent c.self.inside.rows.room c.self.inside.rows.rows c.row_mut.ensures.placed c.args.slot c.row_mut.result.now c.row_mut.ensures.row id r stands)
    c.emit.ensures.sent)

pub returns-clause-row : goal.returns-clause-row
returns-clause-row c = rw (← c.self.view_is) (λ id r pool stands inside.
    let is : c.row_mut.result.now ≡ r =
    lent c.self.inside.rows.room c.self.inside.rows.rows c.row_mut.ensures.placed c.args.slot c.row_mut.result.now c.row_mut.ensures.row id r stands in
    let part : r.part ≡ c.emit.new.self.part = sym (c.emit.ensures.part ∙ ap (λ (x : HeldRow). x.part) is) in
    put_same (the_view c.self.inside) c.self.inside.rows.room c.row_mut.ensures.placed id c.args.slot r c.emit.new.self stands pool _
    (subst (λ (o : Option Part). Moves pool r.part pool o) part (still pool r.part inside))
    (ap Some (c.emit.ensures.row pool ∙ ap (λ (x : HeldRow). row_sends c.self.inside.settings c.args.now (seen_row pool x) c.emit.result) is)))
