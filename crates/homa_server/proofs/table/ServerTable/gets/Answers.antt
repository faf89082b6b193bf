use Rattle.std.proofs.Common.{subst}
use Rattle.homa_plain.specs.declared.id.CallId.{CallId}
use Rattle.homa_plain.specs.Packets.{Packet, server_between}
use Rattle.homa_in.specs.Pieces.{piece_in}
use Rattle.homa_plain.specs.AtServer.{server_gets}
use Rattle.homa_server.specs.Answers.{service_in, IsAsked}
use Rattle.homa_server.specs.Table.{Served, server_at, server_moment}
use Rattle.homa_server.proofs.ArrivingLaws.{if_ok}
use Rattle.homa_server.proofs.NewLaws.{sent_is}
use Rattle.homa_server.proofs.ServedLaws.{on_err_so}
use Rattle.homa_server.proofs.table.ServerTable.gets.Goals as goal

pub returns-in-Some-clause-received : goal.returns-in-Some-clause-received
returns-in-Some-clause-received g c =
    let w = c.args.packet.now in
    if_ok c.known_gets.result _ _
    (λ answer taken.
    subst (λ (p : Packet). Served c.args.self.now c.args.lent.now.pool.now p c.args.at.now c.args.at.order c.known_gets.new.self c.known_gets.new.lent.pool.now
    c.known_gets.new.lent.scratch.now
    (λ request response hold. g.V.Service.allows c.args.lent.now.service.now (g.V.Service.served c.args.lent.now.service.now)
    (service_in (piece_in w.body c.args.payload.now)) request response hold) answer)
    (sent_is c.args.from c.args.self.now.host w c.args.payload.now c.call-id.result c.requires.role c.call-id.ensures)
    (taken.received w.role (server_between w.role c.args.from c.args.self.now.host) w.sender w.at w.level))
    c.known_gets.ensures.taken

pub returns-in-None-clause-received : goal.returns-in-None-clause-received
returns-in-None-clause-received g c =
    let w = c.args.packet.now in
    if_ok c.unknown_gets.result _ _
    (λ answer taken.
    subst (λ (p : Packet). Served c.args.self.now c.args.lent.now.pool.now p c.args.at.now c.args.at.order c.unknown_gets.new.self
    c.unknown_gets.new.lent.pool.now
    c.unknown_gets.new.lent.scratch.now
    (λ request response hold. g.V.Service.allows c.args.lent.now.service.now (g.V.Service.served c.args.lent.now.service.now)
    (service_in (piece_in w.body c.args.payload.now)) request response hold) answer)
    (sent_is c.args.from c.args.self.now.host w c.args.payload.now c.call-id.result c.requires.role c.call-id.ensures)
    (taken.received w.role (server_between w.role c.args.from c.args.self.now.host) w.sender w.at w.level))
    c.unknown_gets.ensures.taken

pub returns-in-Some-clause-served : goal.returns-in-Some-clause-served
returns-in-Some-clause-served g c = if_ok c.known_gets.result _ _ (λ answer taken. taken.counted) c.known_gets.ensures.taken

pub returns-in-Some-clause-asks : goal.returns-in-Some-clause-asks
returns-in-Some-clause-asks g c =
    let w = c.args.packet.now in
    let t = c.args.self.now in
    on_err_so c.known_gets.result _ _ c.known_gets.ensures.asked (λ e a.
    subst (λ (x : CallId × Packet). IsAsked x.0 (service_in (piece_in w.body c.args.payload.now)) c.known_gets.new.lent.scratch.now
    (server_gets t.settings (server_moment t c.args.at.now c.args.at.order c.args.lent.now.pool.now x.1.id) x.1 a
    (server_at c.args.lent.now.pool.now t.rows x.1.id)))
    (λ i. (c.call-id.ensures i, sent_is c.args.from t.host w c.args.payload.now c.call-id.result c.requires.role c.call-id.ensures i))
    (e.asks w.role (server_between w.role c.args.from t.host) w.sender w.at w.level a))

pub returns-in-Some-clause-same : goal.returns-in-Some-clause-same
returns-in-Some-clause-same g c = on_err_so c.known_gets.result _ _ c.known_gets.ensures.asked (λ e. e.same)

pub returns-in-Some-clause-refused : goal.returns-in-Some-clause-refused
returns-in-Some-clause-refused g c = on_err_so c.known_gets.result _ _ c.known_gets.ensures.asked (λ e. e.refused)

pub returns-in-None-clause-served : goal.returns-in-None-clause-served
returns-in-None-clause-served g c = if_ok c.unknown_gets.result _ _ (λ answer taken. taken.counted) c.unknown_gets.ensures.taken

pub returns-in-None-clause-asks : goal.returns-in-None-clause-asks
returns-in-None-clause-asks g c =
    let w = c.args.packet.now in
    let t = c.args.self.now in
    on_err_so c.unknown_gets.result _ _ c.unknown_gets.ensures.asked (λ e a.
    subst (λ (x : CallId × Packet). IsAsked x.0 (service_in (piece_in w.body c.args.payload.now)) c.unknown_gets.new.lent.scratch.now
    (server_gets t.settings (server_moment t c.args.at.now c.args.at.order c.args.lent.now.pool.now x.1.id) x.1 a
    (server_at c.args.lent.now.pool.now t.rows x.1.id)))
    (λ i. (c.call-id.ensures i, sent_is c.args.from t.host w c.args.payload.now c.call-id.result c.requires.role c.call-id.ensures i))
    (e.asks w.role (server_between w.role c.args.from t.host) w.sender w.at w.level a))

pub returns-in-None-clause-same : goal.returns-in-None-clause-same
returns-in-None-clause-same g c = on_err_so c.unknown_gets.result _ _ c.unknown_gets.ensures.asked (λ e. e.same)

pub returns-in-None-clause-refused : goal.returns-in-None-clause-refused
returns-in-None-clause-refused g c = on_err_so c.unknown_gets.result _ _ c.unknown_gets.ensures.asked (λ e. e.refused)
