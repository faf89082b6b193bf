-- What is read at the place is the row that stands there.
use Rattle.std.proofs.Common.{◌∙◌, sym, ap}
use Rattle.std.specs.Option.{option_map}
use Rattle.homa_plain.specs.declared.id.CallId.{CallId}
use Rattle.homa_client.specs.Held.{HeldRow}
use Rattle.homa_client.proofs.TableLaws.{read}
use Rattle.homa_client.proofs.table.ClientTable.row_at.Goals as goal

pub returns : goal.returns
returns c = rw (← c.self.view_is) (λ id r stands.
    ap (λ (s : CallId × HeldRow). s.1)
    (read c.self.inside.rows.room c.self.inside.rows.rows c.get.ensures.placed c.args.slot (c.in-Some.field-0-0, c.in-Some.row.now)
    (sym c.get.ensures.row ∙ ap (option_map (λ s. (s.0, s.1.now))) c.in-Some.is) id r stands))
