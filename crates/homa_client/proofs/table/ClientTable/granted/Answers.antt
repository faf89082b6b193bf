-- The response at the place is granted.
use Rattle.std.proofs.Common.{◌≡◌, ◌∙◌, sym, ap, subst, Some}
use Rattle.homa_plain.specs.Sending.{client_granted}
use Rattle.homa_in.specs.Pooled.{Moves, IsInPool}
use Rattle.homa_client.specs.Held.{HeldRow, seen_row}
use Rattle.homa_client.specs.AtTable.{Clients, MayGrant}
use Rattle.homa_client.specs.contracts.table.ClientTable.{the_view}
use Rattle.homa_client.proofs.TableLaws.{table_set, lent, lent_stands, put_same}
use Rattle.homa_client.proofs.table.ClientTable.granted.Goals as goal

pub granted-requires-clause-part : goal.granted-requires-clause-part
granted-requires-clause-part c =
    let may : MayGrant c.self.inside.rows.rows c.args.slot c.args.offset =
    subst (λ (t : Clients). MayGrant t.rows c.args.slot c.args.offset) (sym c.self.view_is) c.requires.part in
    let at = lent_stands c.self.inside.rows.rows c.args.slot c.row_mut.result.now c.row_mut.ensures.row in
    may at.0 c.row_mut.result.now at.1

pub invariant_of-self : goal.invariant_of-self
invariant_of-self c =
    table_set c.self.inside.host c.self.inside.inc c.self.inside.seq c.self.inside.settings c.self.inside.rows c.self.invariant c.args.slot c.granted.new.self

pub returns : goal.returns
returns c = rw (← c.self.view_is) (λ id r pool stands inside.
    let is : c.row_mut.result.now ≡ r =
    lent c.self.inside.rows.room c.self.inside.rows.rows c.row_mut.ensures.placed c.args.slot c.row_mut.result.now c.row_mut.ensures.row id r stands in
    let moves = c.granted.ensures.moves pool (subst (λ (x : HeldRow). IsInPool pool x.part) (sym is) inside) in
    put_same (the_view c.self.inside) c.self.inside.rows.room c.row_mut.ensures.placed id c.args.slot r c.granted.new.self stands pool _
    (subst (λ (x : HeldRow). Moves pool x.part pool c.granted.new.self.part) is moves)
    (ap Some (c.granted.ensures.row pool ∙ ap (λ (x : HeldRow). client_granted c.args.now c.args.offset (seen_row pool x)) is)))
