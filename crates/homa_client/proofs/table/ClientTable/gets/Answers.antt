-- A packet's rule is that of the row of its call.
use Rattle.std.proofs.Common.{◌≡◌, ◌∙◌, ◌&&◌, true, false, not, ltb, sym, ap, subst, refl}
use Rattle.std.specs.Option.{option_map}
use Rattle.plain_sets.specs.Maps.{get}
use Rattle.homa_plain.specs.declared.id.CallId.{CallId}
use Rattle.homa_plain.specs.Calls.{is_host}
use Rattle.host_places.specs.Placed.{StandsAt}
use Rattle.host_places.proofs.PlacedLaws.{some_placed}
use Rattle.homa_in.specs.Pooled.{AreIn}
use Rattle.homa_client.specs.Held.{HeldRow}
use Rattle.homa_client.specs.AtTable.{Clients, part_at}
use Rattle.homa_client.specs.contracts.table.ClientTable.{the_view}
use Rattle.homa_client.proofs.TableLaws.{table_set, lent, lent_stands, part_stands, put_spot}
use Rattle.homa_client.proofs.ReceivedLaws.{from_server, between, received_none, received_other, received_gave, received_in}
use Rattle.homa_client.proofs.table.ClientTable.gets.Goals as goal

pub returns-in_default-clause-received : goal.returns-in_default-clause-received
returns-in_default-clause-received c =
    let are = subst (λ (t : Clients). AreIn c.args.lent.now.pool.now (part_at t.rows)) (sym c.self.view_is) c.requires.pool in
    let t = the_view c.self.inside in
    let p = from_server c.call-id.result c.args.from c.args.packet.now c.args.payload.now in
    rw (← c.self.view_is)
    (between c.args.from c.args.packet.now c.args.payload.now c.call-id.result c.requires.role t c.call-id.ensures
    c.args.lent.now.pool.now c.args.at.now c.args.at.order _ _ _ _
    (received_none t c.args.lent.now.pool.now p c.args.at.now c.args.at.order c.args.lent.now.scratch.now are c.in_default.ensures.absent c.not_live.result
    (λ m. c.not_live.ensures.did m p c.args.lent.now.scratch.now) c.not_live.ensures.slot))

pub returns-then-not-takes-clause-received : goal.returns-then-not-takes-clause-received
returns-then-not-takes-clause-received c =
    let are = subst (λ (t : Clients). AreIn c.args.lent.now.pool.now (part_at t.rows)) (sym c.self.view_is) c.requires.pool in
    let t = the_view c.self.inside in
    let p = from_server c.call-id.result c.args.from c.args.packet.now c.args.payload.now in
    let at = some_placed (get t.rows p.id) c.in-Some.slot (sym c.in-Some.ensures.place) in
    let there : StandsAt c.args.self.now.rows p.id c.in-Some.slot at.0 =
    subst (λ (t : Clients). StandsAt t.rows p.id c.in-Some.slot at.0) c.self.view_is at.1 in
    let refused : false ≡ (is_host c.args.from at.0.server && not (ltb c.args.packet.now.sender at.0.seen)) =
    sym c.if-not-takes.true ∙ c.takes.ensures ∙ ap (λ (r : HeldRow). is_host c.args.from r.server && not (ltb c.args.packet.now.sender r.seen))
    (c.row_at.ensures p.id at.0 there) in
    rw (← c.self.view_is)
    (between c.args.from c.args.packet.now c.args.payload.now c.call-id.result c.requires.role t c.call-id.ensures
    c.args.lent.now.pool.now c.args.at.now c.args.at.order _ _ _ _
    (received_other t c.args.lent.now.pool.now p c.args.at.now c.args.at.order c.args.lent.now.scratch.now are c.in-Some.slot at.0 at.1 refused))

pub gets-did-requires-clause-pool : goal.gets-did-requires-clause-pool
gets-did-requires-clause-pool c =
    let are = subst (λ (t : Clients). AreIn c.args.lent.now.pool.now (part_at t.rows)) (sym c.self.view_is) c.requires.pool in
    let at = lent_stands c.self.inside.rows.rows c.in-Some.slot c.row_mut.result.now c.row_mut.ensures.row in
    part_stands c.args.lent.now.pool.now c.self.inside.rows.rows are at.0 c.in-Some.slot c.row_mut.result.now at.1

pub invariant_of-self : goal.invariant_of-self
invariant_of-self c = table_set c.self.inside.host c.self.inside.inc c.self.inside.seq c.self.inside.settings c.self.inside.rows c.self.invariant
    c.in-Some.slot c.gets-did.new.self

pub finish-requires : goal.finish-requires
finish-requires c =
    let t = the_view c.self.inside in
    let p = from_server c.call-id.result c.args.from c.args.packet.now c.args.payload.now in
    let at = some_placed (get t.rows p.id) c.in-Some.slot (sym c.in-Some.ensures.place) in
    ap (option_map (λ (s : CallId × HeldRow). s.0))
    (put_spot t c.self.inside.rows.room c.row_mut.ensures.placed p.id c.in-Some.slot at.0 c.gets-did.new.self at.1)

pub returns-clause-received : goal.returns-clause-received
returns-clause-received c =
    let are = subst (λ (t : Clients). AreIn c.args.lent.now.pool.now (part_at t.rows)) (sym c.self.view_is) c.requires.pool in
    let t = the_view c.self.inside in
    let p = from_server c.call-id.result c.args.from c.args.packet.now c.args.payload.now in
    let at = some_placed (get t.rows p.id) c.in-Some.slot (sym c.in-Some.ensures.place) in
    let there : StandsAt c.args.self.now.rows p.id c.in-Some.slot at.0 =
    subst (λ (t : Clients). StandsAt t.rows p.id c.in-Some.slot at.0) c.self.view_is at.1 in
    let is : c.row_mut.result.now ≡ at.0 =
    lent c.self.inside.rows.room c.self.inside.rows.rows c.row_mut.ensures.placed c.in-Some.slot c.row_mut.result.now c.row_mut.ensures.row p.id at.0 at.1 in
    let stands : StandsAt t.rows p.id c.in-Some.slot c.row_mut.result.now = subst (StandsAt t.rows p.id c.in-Some.slot) (sym is) at.1 in
    let takes : true ≡ (is_host c.args.from c.row_mut.result.now.server && not (ltb c.args.packet.now.sender c.row_mut.result.now.seen)) =
    sym c.if-not-takes.false ∙ c.takes.ensures ∙ ap (λ (r : HeldRow). is_host c.args.from r.server && not (ltb c.args.packet.now.sender r.seen))
    (c.row_at.ensures p.id at.0 there ∙ sym is) in
    let gave = received_gave t c.self.inside.rows.room c.row_mut.ensures.placed p c.in-Some.slot c.row_mut.result.now c.gets-did.new.self stands
    c.args.lent.now.pool.now c.gets-did.new.lent.pool.now are c.args.at.now c.args.at.order c.gets-did.new.lent.scratch.now c.gets-did.result
    takes (λ rows. c.gets-did.ensures.gave t.settings t.host rows refl) in
    rw (← c.self.view_is, c.finish.ensures.answer, c.finish.ensures.rows)
    (between c.args.from c.args.packet.now c.args.payload.now c.call-id.result c.requires.role t c.call-id.ensures
    c.args.lent.now.pool.now c.args.at.now c.args.at.order _ _ _ _ gave)

pub returns-clause-pool : goal.returns-clause-pool
returns-clause-pool c =
    let are = subst (λ (t : Clients). AreIn c.args.lent.now.pool.now (part_at t.rows)) (sym c.self.view_is) c.requires.pool in
    let t = the_view c.self.inside in
    let p = from_server c.call-id.result c.args.from c.args.packet.now c.args.payload.now in
    let at = some_placed (get t.rows p.id) c.in-Some.slot (sym c.in-Some.ensures.place) in
    let is : c.row_mut.result.now ≡ at.0 =
    lent c.self.inside.rows.room c.self.inside.rows.rows c.row_mut.ensures.placed c.in-Some.slot c.row_mut.result.now c.row_mut.ensures.row p.id at.0 at.1 in
    let stands : StandsAt t.rows p.id c.in-Some.slot c.row_mut.result.now = subst (StandsAt t.rows p.id c.in-Some.slot) (sym is) at.1 in
    rw c.finish.ensures.rows
    (received_in t c.self.inside.rows.room c.row_mut.ensures.placed p c.in-Some.slot c.row_mut.result.now c.gets-did.new.self stands
    c.args.lent.now.pool.now c.gets-did.new.lent.pool.now are c.args.at.now c.args.at.order c.gets-did.new.lent.scratch.now c.gets-did.result
    (λ rows. c.gets-did.ensures.gave t.settings t.host rows refl))
