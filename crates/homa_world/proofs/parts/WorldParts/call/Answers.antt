use Rattle.std.proofs.Common.{refl, sym, ap, subst, ◌<◌, length, arith}
use Rattle.homa_plain.specs.declared.event.Event.TheVariants as event
use Rattle.homa_plain.specs.declared.fault.WorldFault.TheVariants as fault
use Rattle.homa_plain.specs.Steps.{call_step}
use Rattle.event_laws.proofs.Events as events
use Rattle.event_laws.specs.Stepping.{IsRefusal}
use Rattle.host_table.specs.Staged.{hosts_of}
use Rattle.homa_world.proofs.KeptLaws.{refused_by}
use Rattle.host_table.proofs.StageLaws.{where_ok}
use Rattle.homa_world.proofs.EventLaws.{may_step, is_there, not_there, no_host, short_there, known_there, start_refused, failed_kept, sent_now, called}
use Rattle.homa_world.proofs.HappenedLaws.{still_by_room, same_hosts, refused_at_once, without_room, refused_on, happened_on}
use Rattle.homa_world.proofs.parts.WorldParts.call.Goals as goal

pub returns-then-not-has : goal.returns-then-not-has
returns-then-not-has g c = refused_at_once _ _ _ c.args.self.now fault.NoSuchHost c.requires.kept (λ w stands.
    refused_by c.args.self.now.settings w (event.Call c.args.client c.args.server c.args.number) c.args.bytes.now fault.NoSuchHost refl
    (events.no_server c.args.self.now.settings w c.args.client c.args.server c.args.number c.args.bytes.now
    (no_host c.args.self.now c.args.server w stands
    (not_there c.has.result c.args.server.0 (length (hosts_of c.args.self.now.stage)) c.has.ensures c.if-not-has.true))))

pub returns-then-not-has-2 : goal.returns-then-not-has-2
returns-then-not-has-2 g c = refused_at_once _ _ _ c.args.self.now fault.NoSuchHost c.requires.kept (λ w stands.
    refused_by c.args.self.now.settings w (event.Call c.args.client c.args.server c.args.number) c.args.bytes.now fault.NoSuchHost refl
    (events.no_client c.args.self.now.settings w c.args.client c.args.server c.args.number c.args.bytes.now
    (no_host c.args.self.now c.args.client w stands
    (not_there c.has-2.result c.args.client.0 (length (hosts_of c.args.self.now.stage)) c.has-2.ensures c.if-not-has-2.true))))

pub returns-then-is_err : goal.returns-then-is_err
returns-then-is_err g c = without_room _ _ _ c.args.self.now c.make_room.new.self c.make_room.result c.make_room.ensures.room
    (still_by_room _ _ c.make_room.ensures.same) refl

pub returns-in_default : goal.returns-in_default
returns-in_default g c = without_room _ _ _ c.args.self.now c.make_room.new.self c.make_room.result c.make_room.ensures.room
    (still_by_room _ _ c.make_room.ensures.same) refl

pub call-requires-clause-server : goal.call-requires-clause-server
call-requires-clause-server g c = known_there _ c.make_room.new.self c.make_room.ensures.room.kept c.args.client c.args.server
    (subst (λ w. c.args.client.0 < length (hosts_of w.stage)) (sym c.make_room.ensures.same)
    (is_there c.has-2.result c.has-2.ensures c.if-not-has-2.false))
    (subst (λ w. c.args.server.0 < length (hosts_of w.stage)) (sym c.make_room.ensures.same) (is_there c.has.result c.has.ensures c.if-not-has.false))

pub call-requires-clause-may : goal.call-requires-clause-may
call-requires-clause-may g c =
    may_step _ c.make_room.new.self c.make_room.ensures.room.kept (omega (arith, c.requires.few, ap (λ w. w.applied) c.make_room.ensures.same))
    c.args.client c.own_clock-now.result c.own_clock-now.ensures
    (subst (λ w. c.args.client.0 < length (hosts_of w.stage)) (sym c.make_room.ensures.same) (is_there c.has-2.result c.has-2.ensures c.if-not-has-2.false))

pub returns-in-Err : goal.returns-in-Err
returns-in-Err g c =
    refused_on _ _ _ c.args.self.now c.make_room.new.self c.make_room.result c.make_room.ensures.room (still_by_room _ _ c.make_room.ensures.same)
    c.call.new.self (fault.Start c.in-Err.fault)
    (same_hosts _ _ c.make_room.new.self c.call.new.self c.make_room.new.self.last
    (failed_kept _ c.make_room.new.self c.call.new.self c.make_room.ensures.room.kept (ap (λ w. w.last) c.make_room.ensures.same)
    c.in-Err.ensures.known c.call.ensures.seats c.call.ensures.spares) c.in-Err.ensures.known c.call.ensures.seats c.call.ensures.spares)
    (λ w stands.
    let request = c.in-Ok.ensures.items in
    let refused : IsRefusal c.make_room.new.self.settings w (event.Call c.args.client c.args.server c.args.number) c.in-Ok.request.items
    (fault.Start c.in-Err.fault) =
    start_refused _ c.make_room.new.self c.make_room.ensures.room.kept c.args.client c.args.server c.args.number c.in-Ok.request.items c.in-Err.fault
    (subst (λ w. c.args.client.0 < length (hosts_of w.stage)) (sym c.make_room.ensures.same)
    (is_there c.has-2.result c.has-2.ensures c.if-not-has-2.false))
    (subst (λ w. c.args.server.0 < length (hosts_of w.stage)) (sym c.make_room.ensures.same) (is_there c.has.result c.has.ensures c.if-not-has.false))
    c.in-Err.ensures.fault w (c.make_room.ensures.room.still w stands) in
    refused_by c.args.self.now.settings w (event.Call c.args.client c.args.server c.args.number) c.args.bytes.now (fault.Start c.in-Err.fault) refl
    (subst (λ m. IsRefusal m.settings w (event.Call c.args.client c.args.server c.args.number) c.args.bytes.now (fault.Start c.in-Err.fault))
    c.make_room.ensures.same
    (subst (λ bytes. IsRefusal c.make_room.new.self.settings w (event.Call c.args.client c.args.server c.args.number) bytes
    (fault.Start c.in-Err.fault)) request refused)))

pub finish-requires-clause-short : goal.finish-requires-clause-short
finish-requires-clause-short g c = short_there _ c.make_room.new.self c.make_room.ensures.room.kept c.own_clock-now.result c.args.client
    (λ h. call_step h.settings h.host c.own_clock-now.result c.args.server c.args.number c.in-Ok.request.items) c.call.new.self
    (subst (λ w. c.args.client.0 < length (hosts_of w.stage)) (sym c.make_room.ensures.same)
    (is_there c.has-2.result c.has-2.ensures c.if-not-has-2.false)) c.in_default-call.ensures.step

pub returns : goal.returns
returns g c =
    happened_on _ _ _ c.args.self.now c.make_room.new.self c.finish.new.self (still_by_room _ _ c.make_room.ensures.same)
    (called _ _ c.args.self.now c.make_room.new.self c.finish.new.self c.make_room.ensures.room.kept
    (omega (arith, c.requires.few, ap (λ w. w.applied) c.make_room.ensures.same)) c.make_room.ensures.same c.make_room.ensures.room.still
    c.own_clock-now.result c.args.client c.args.server c.args.number c.in-Ok.request.items c.own_clock-now.ensures
    (subst (λ w. c.args.client.0 < length (hosts_of w.stage)) (sym c.make_room.ensures.same)
    (is_there c.has-2.result c.has-2.ensures c.if-not-has-2.false))
    (subst (λ w. c.args.server.0 < length (hosts_of w.stage)) (sym c.make_room.ensures.same)
    (is_there c.has.result c.has.ensures c.if-not-has.false)) c.call.new.self c.in_default-call.ensures.step c.in_default-call.ensures.no_fault
    c.finish.ensures.same
    (sent_now c.make_room.new.self c.finish.new.self.packets c.call.new.self
    (where_ok _ c.make_room.result c.is_err.result c.is_err.ensures.value c.if-is_err.false c.make_room.ensures.room.tick) c.finish.ensures.sent)
    c.finish.ensures.settings
    c.finish.ensures.few c.call.ensures.seats c.call.ensures.spares c.args.bytes.now c.in-Ok.ensures.items)
    (ap (λ w. w.settings) c.finish.ensures.same) (ap (λ w. w.applied) c.finish.ensures.same)
