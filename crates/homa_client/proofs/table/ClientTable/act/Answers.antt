-- The row at the place acts, and goes where it gives the call up.
use Rattle.std.proofs.Common.{◌≡◌, ◌∙◌, ℕ, sym, ap, subst, refl, Some, Option}
use Rattle.std.specs.Option.{option_map, IsSome}
use Rattle.plain_sets.specs.Maps.{get, remove}
use Rattle.plain_sets.proofs.MapMembers.{same_some}
use Rattle.homa_plain.specs.declared.id.CallId.{CallId}
use Rattle.homa_plain.specs.Rows.{ClientRow}
use Rattle.homa_plain.specs.Timers.{client_acts}
use Rattle.host_places.specs.Placed.{Placed, StandsAt, ArePlaced, Table, spot_at, set_at}
use Rattle.host_places.proofs.PlacedLaws.{get-remove_here}
use Rattle.homa_in.specs.Pooled.{Moves, AreIn}
use Rattle.homa_in.specs.Pieces.{moment_with}
use Rattle.homa_client.specs.Held.{HeldRow, seen_row}
use Rattle.homa_client.specs.AtTable.{Clients, IsTable, IsCallAt, IsDueAt, HasActed, part_at}
use Rattle.homa_client.specs.Gives.{IsAct, IsLeft, row_left}
use Rattle.homa_client.specs.declared.answers.ClientAct.{ClientAct}
use Rattle.homa_client.specs.contracts.table.ClientTable.{the_view}
use Rattle.homa_client.proofs.TableLaws.{table_set, table_remove, lent, lent_stands, part_stands, put_spot, put_moved, put_in, put_stands, gone_moved}
use Rattle.homa_client.proofs.TableLaws.{gone_in, call_is}
use Rattle.homa_client.proofs.table.ClientTable.act.Goals as goal

pub act-acted-requires-clause-pool : goal.act-acted-requires-clause-pool
act-acted-requires-clause-pool c =
    let are = subst (λ (t : Clients). AreIn c.args.pool.now (part_at t.rows)) (sym c.self.view_is) c.requires.pool in
    let at = lent_stands c.self.inside.rows.rows c.args.slot c.row_mut.result.now c.row_mut.ensures.row in
    part_stands c.args.pool.now c.self.inside.rows.rows are at.0 c.args.slot c.row_mut.result.now at.1

pub act-acted-requires-clause-due : goal.act-acted-requires-clause-due
act-acted-requires-clause-due c =
    let due = subst (λ (t : Clients). IsDueAt t.settings c.args.now c.args.pool.now t.rows c.args.slot) (sym c.self.view_is) c.requires.due in
    let at = lent_stands c.self.inside.rows.rows c.args.slot c.row_mut.result.now c.row_mut.ensures.row in
    due at.0 c.row_mut.result.now at.1

pub remove-requires : goal.remove-requires
remove-requires c =
    let at = lent_stands c.self.inside.rows.rows c.args.slot c.row_mut.result.now c.row_mut.ensures.row in
    let spot =
    put_spot (the_view c.self.inside) c.self.inside.rows.room c.row_mut.ensures.placed at.0 c.args.slot c.row_mut.result.now c.act-acted.new.self at.1 in
    subst (λ (o : Option (CallId × HeldRow)). IsSome o) (sym spot) refl

pub invariant_of-self : goal.invariant_of-self
invariant_of-self c =
    let put = table_set c.self.inside.host c.self.inside.inc c.self.inside.seq c.self.inside.settings c.self.inside.rows c.self.invariant c.args.slot
    c.act-acted.new.self in
    subst (IsTable c.self.inside.host c.self.inside.inc c.self.inside.seq c.self.inside.settings) (sym c.remove.ensures.removed)
    (table_remove c.self.inside.host c.self.inside.inc c.self.inside.seq c.self.inside.settings _ put c.remove.result.0)

pub invariant_of-self-in_default : goal.invariant_of-self-in_default
invariant_of-self-in_default c = table_set c.self.inside.host c.self.inside.inc c.self.inside.seq c.self.inside.settings c.self.inside.rows
    c.self.invariant c.args.slot c.act-acted.new.self

pub returns-in_default-clause-acted : goal.returns-in_default-clause-acted
returns-in_default-clause-acted c =
    let t = the_view c.self.inside in
    let are = subst (λ (t : Clients). AreIn c.args.pool.now (part_at t.rows)) (sym c.self.view_is) c.requires.pool in
    let call = subst (λ (t : Clients). IsCallAt t.rows c.args.slot c.call_at-id.result) (sym c.self.view_is) c.call_at-id.ensures.call in
    rw (← c.self.view_is) (λ id r host order free rows stands.
    let same : c.call_at-id.result ≡ id = call_is c.self.inside.rows.room t.rows c.row_mut.ensures.placed c.args.slot c.call_at-id.result id r call stands in
    let is : c.row_mut.result.now ≡ r =
    lent c.self.inside.rows.room t.rows c.row_mut.ensures.placed c.args.slot c.row_mut.result.now c.row_mut.ensures.row id r stands in
    let moves = subst (λ (x : HeldRow). Moves c.args.pool.now x.part c.act-acted.new.pool c.act-acted.new.self.part) is c.act-acted.ensures.moves in
    let m = moment_with host c.args.now order free rows in
    let did =
    subst (λ (q : CallId). IsAct t.settings m q (client_acts t.settings m q (seen_row c.args.pool.now r)) c.act-acted.result
    × ((client_acts t.settings m q (seen_row c.args.pool.now r)).row ≡ row_left (seen_row c.act-acted.new.pool c.act-acted.new.self) c.act-acted.result)) same
    (subst (λ (x : HeldRow). IsAct t.settings m c.call_at-id.result (client_acts t.settings m c.call_at-id.result (seen_row c.args.pool.now x))
    c.act-acted.result
    × ((client_acts t.settings m c.call_at-id.result (seen_row c.args.pool.now x)).row ≡ row_left
    (seen_row c.act-acted.new.pool c.act-acted.new.self) c.act-acted.result)) is
    (c.act-acted.ensures.did host order free rows)) in (
      did.0,
      put_moved t c.self.inside.rows.room c.row_mut.ensures.placed id c.args.slot r c.act-acted.new.self stands c.args.pool.now c.act-acted.new.pool are moves _
          (sym (did.1 ∙ ap (row_left (seen_row c.act-acted.new.pool c.act-acted.new.self)) c.in_default.is)),
    ))

pub returns-in_default-clause-pool : goal.returns-in_default-clause-pool
returns-in_default-clause-pool c =
    let are = subst (λ (t : Clients). AreIn c.args.pool.now (part_at t.rows)) (sym c.self.view_is) c.requires.pool in
    let at = lent_stands c.self.inside.rows.rows c.args.slot c.row_mut.result.now c.row_mut.ensures.row in
    put_in (the_view c.self.inside) c.self.inside.rows.room c.row_mut.ensures.placed at.0 c.args.slot c.row_mut.result.now c.act-acted.new.self at.1
    c.args.pool.now c.act-acted.new.pool are c.act-acted.ensures.moves

-- the row that gives its call up goes
goes : (t : Clients) (room : ℕ) (placed : ArePlaced room t.rows) (id : CallId) (slot : ℕ) (r new : HeldRow) → StandsAt t.rows id slot r
    → (s : CallId × HeldRow) → spot_at (set_at t.rows slot new) slot ≡ Some s → (after : Table HeldRow)
    → after ≡ record { room = room; rows = remove (set_at t.rows slot new) s.0 } → after ≡ record { room = room; rows = remove (set_at t.rows slot new) id }
goes t room placed id slot r new stands s at after e =
    e ∙ ap (λ (s : CallId × HeldRow). record { room = room; rows = remove (set_at t.rows slot new) s.0 })
    (same_some s (id, new) (sym at ∙ put_spot t room placed id slot r new stands))

pub returns-in-Timeout-clause-acted : goal.returns-in-Timeout-clause-acted
returns-in-Timeout-clause-acted c =
    let t = the_view c.self.inside in
    let are = subst (λ (t : Clients). AreIn c.args.pool.now (part_at t.rows)) (sym c.self.view_is) c.requires.pool in
    let call = subst (λ (t : Clients). IsCallAt t.rows c.args.slot c.call_at-id.result) (sym c.self.view_is) c.call_at-id.ensures.call in
    rw (← c.self.view_is) (λ id r host order free rows stands.
    let same : c.call_at-id.result ≡ id = call_is c.self.inside.rows.room t.rows c.row_mut.ensures.placed c.args.slot c.call_at-id.result id r call stands in
    let is : c.row_mut.result.now ≡ r =
    lent c.self.inside.rows.room t.rows c.row_mut.ensures.placed c.args.slot c.row_mut.result.now c.row_mut.ensures.row id r stands in
    let moves = subst (λ (x : HeldRow). Moves c.args.pool.now x.part c.act-acted.new.pool c.act-acted.new.self.part) is c.act-acted.ensures.moves in
    let m = moment_with host c.args.now order free rows in
    let did =
    subst (λ (q : CallId). IsAct t.settings m q (client_acts t.settings m q (seen_row c.args.pool.now r)) c.act-acted.result
    × ((client_acts t.settings m q (seen_row c.args.pool.now r)).row ≡ row_left (seen_row c.act-acted.new.pool c.act-acted.new.self) c.act-acted.result)) same
    (subst (λ (x : HeldRow). IsAct t.settings m c.call_at-id.result (client_acts t.settings m c.call_at-id.result (seen_row c.args.pool.now x))
    c.act-acted.result
    × ((client_acts t.settings m c.call_at-id.result (seen_row c.args.pool.now x)).row ≡ row_left
    (seen_row c.act-acted.new.pool c.act-acted.new.self) c.act-acted.result)) is
    (c.act-acted.ensures.did host order free rows)) in
    let none = subst (λ (a : ClientAct). IsLeft a c.act-acted.new.self.part) c.in-Timeout.is c.act-acted.ensures.gone in
    let rows_are = goes t c.self.inside.rows.room c.row_mut.ensures.placed id c.args.slot r c.act-acted.new.self stands c.remove.result
    c.remove.ensures.row c.remove.new.self c.remove.ensures.removed in (
      did.0,
      rw rows_are (gone_moved t c.self.inside.rows.room c.row_mut.ensures.placed id c.args.slot r c.act-acted.new.self stands c.args.pool.now
          c.act-acted.new.pool are moves none _
          (sym (did.1 ∙ ap (row_left (seen_row c.act-acted.new.pool c.act-acted.new.self)) c.in-Timeout.is))),
    ))

pub returns-in-Timeout-clause-pool : goal.returns-in-Timeout-clause-pool
returns-in-Timeout-clause-pool c =
    let t = the_view c.self.inside in
    let are = subst (λ (t : Clients). AreIn c.args.pool.now (part_at t.rows)) (sym c.self.view_is) c.requires.pool in
    let at = lent_stands t.rows c.args.slot c.row_mut.result.now c.row_mut.ensures.row in
    let none = subst (λ (a : ClientAct). IsLeft a c.act-acted.new.self.part) c.in-Timeout.is c.act-acted.ensures.gone in
    let rows_are = goes t c.self.inside.rows.room c.row_mut.ensures.placed at.0 c.args.slot c.row_mut.result.now c.act-acted.new.self at.1
    c.remove.result c.remove.ensures.row c.remove.new.self c.remove.ensures.removed in
    rw rows_are (gone_in t c.self.inside.rows.room c.row_mut.ensures.placed at.0 c.args.slot c.row_mut.result.now c.act-acted.new.self at.1
    c.args.pool.now c.act-acted.new.pool are c.act-acted.ensures.moves none)

pub returns-in_default-clause-left : goal.returns-in_default-clause-left
returns-in_default-clause-left c = rw (← c.self.view_is) (λ id r stands.
    let t = the_view c.self.inside in
    let here = ap (option_map (λ (x : Placed HeldRow). seen_row c.act-acted.new.pool x.row))
    (put_stands t c.self.inside.rows.room c.row_mut.ensures.placed id c.args.slot r c.act-acted.new.self stands) in
    subst (λ (a : ClientAct). HasActed a
    (option_map (λ (x : Placed HeldRow). seen_row c.act-acted.new.pool x.row) (get (set_at t.rows c.args.slot c.act-acted.new.self) id)))
    (sym c.in_default.is) (subst (λ (o : Option ClientRow). IsSome o) (sym here) refl))

pub returns-in-Timeout-clause-left : goal.returns-in-Timeout-clause-left
returns-in-Timeout-clause-left c = rw (← c.self.view_is) (λ id r stands.
    let t = the_view c.self.inside in
    let rows_are = goes t c.self.inside.rows.room c.row_mut.ensures.placed id c.args.slot r c.act-acted.new.self stands c.remove.result
    c.remove.ensures.row c.remove.new.self c.remove.ensures.removed in
    let here = ap (option_map (λ (x : Placed HeldRow). seen_row c.act-acted.new.pool x.row))
    (ap (λ (u : Table HeldRow). get u.rows id) rows_are ∙ get-remove_here (set_at t.rows c.args.slot c.act-acted.new.self) id) in
    subst (λ (a : ClientAct). HasActed a (option_map (λ (x : Placed HeldRow). seen_row c.act-acted.new.pool x.row) (get c.remove.new.self.rows id)))
    (sym c.in-Timeout.is) here)
