-- The new row stands at a free place, and its call is the next one.
use Rattle.std.proofs.Common.{◌∙◌, ◌<◌, ap, subst, refl}
use Rattle.std.specs.Option.{option_map, option_and_then}
use Rattle.homa_plain.specs.declared.id.CallId.{CallId}
use Rattle.host_places.specs.Placed.{Placed}
use Rattle.host_places.proofs.PlacedLaws.{get-insert_here, changed-new}
use Rattle.homa_client.specs.Held.{HeldRow}
use Rattle.homa_client.specs.contracts.table.ClientTable.{the_view}
use Rattle.homa_client.proofs.TableLaws.{next_none, table_insert, rows_started}
use Rattle.homa_client.proofs.table.ClientTable.start.Goals as goal

pub invariant_of-self : goal.invariant_of-self
invariant_of-self c =
    rw c.insert-slot.ensures.inserted
    (table_insert c.self.inside.host c.self.inside.inc c.self.inside.seq c.self.inside.settings c.self.inside.rows c.self.invariant
    (record { place = c.insert-slot.result; row = c.open-row.result }))

pub returns-clause-started : goal.returns-clause-started
returns-clause-started c =
    let t = the_view c.self.inside in
    let x : Placed HeldRow = record { place = c.insert-slot.result; row = c.open-row.result } in
    let id : CallId = record { client = t.host; inc = t.inc; seq = t.seq } in
    let first = next_none t.host t.inc t.seq t.settings c.self.inside.rows c.self.invariant in
    let row = c.open-row.ensures t.settings refl in
    rw (← c.self.view_is, c.insert-slot.ensures.inserted) (record {
      named = refl;
      first = first;
      rows = λ pool. rows_started t id c.insert-slot.result c.open-row.result c.args.server c.args.number c.args.request.items c.args.now c.args.order pool row;
      changed = changed-new t.rows id x first;
      place = ap (option_map (λ (x : Placed HeldRow). x.place)) (get-insert_here t.rows id x);
      part = ap (option_and_then (λ (x : Placed HeldRow). x.row.part)) (get-insert_here t.rows id x) ∙ ap (λ (r : HeldRow). r.part) row;
      within = subst (λ n. c.insert-slot.result < n) c.self.invariant.room c.insert-slot.ensures.within;
      free = c.insert-slot.ensures.free;
      kept = refl;
    })
