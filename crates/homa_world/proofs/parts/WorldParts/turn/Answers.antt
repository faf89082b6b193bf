use Rattle.std.proofs.Common.{refl, sym, ap, subst, [], ◌<◌, length, arith}
use Rattle.homa_plain.specs.declared.event.Event.TheVariants as event
use Rattle.homa_plain.specs.declared.fault.WorldFault.TheVariants as fault
use Rattle.homa_plain.specs.Steps.{turn_step}
use Rattle.event_laws.proofs.Events as events
use Rattle.host_table.specs.Staged.{hosts_of}
use Rattle.homa_world.proofs.KeptLaws.{refused_by}
use Rattle.host_table.proofs.StageLaws.{where_ok}
use Rattle.homa_world.proofs.EventLaws.{may_step, is_there, not_there, no_host, short_there, sent_now, turned}
use Rattle.homa_world.proofs.HappenedLaws.{still_by_room, refused_at_once, without_room, happened_on}
use Rattle.homa_world.proofs.parts.WorldParts.turn.Goals as goal

pub returns-then-not-has : goal.returns-then-not-has
returns-then-not-has g c = refused_at_once _ _ _ c.args.self.now fault.NoSuchHost c.requires.kept (λ w stands.
    refused_by c.args.self.now.settings w (event.Turn c.args.host) [] fault.NoSuchHost refl
    (events.turn_refused c.args.self.now.settings w c.args.host
    (no_host c.args.self.now c.args.host w stands
    (not_there c.has.result c.args.host.0 (length (hosts_of c.args.self.now.stage)) c.has.ensures c.if-not-has.true))))

pub returns-then-is_err : goal.returns-then-is_err
returns-then-is_err g c = without_room _ _ _ c.args.self.now c.make_room.new.self c.make_room.result c.make_room.ensures.room
    (still_by_room _ _ c.make_room.ensures.same) refl

pub turn-requires-clause-may : goal.turn-requires-clause-may
turn-requires-clause-may g c =
    may_step _ c.make_room.new.self c.make_room.ensures.room.kept (omega (arith, c.requires.few, ap (λ w. w.applied) c.make_room.ensures.same)) c.args.host
    c.own_clock-now.result c.own_clock-now.ensures
    (subst (λ w. c.args.host.0 < length (hosts_of w.stage)) (sym c.make_room.ensures.same) (is_there c.has.result c.has.ensures c.if-not-has.false))

pub finish-requires-clause-short : goal.finish-requires-clause-short
finish-requires-clause-short g c =
    short_there _ c.make_room.new.self c.make_room.ensures.room.kept c.own_clock-now.result c.args.host
    (λ h. turn_step h.settings h.host c.own_clock-now.result) c.turn.new.self
    (subst (λ w. c.args.host.0 < length (hosts_of w.stage)) (sym c.make_room.ensures.same) (is_there c.has.result c.has.ensures c.if-not-has.false))
    c.turn.ensures.step

pub returns : goal.returns
returns g c =
    happened_on _ _ _ c.args.self.now c.make_room.new.self c.finish.new.self (still_by_room _ _ c.make_room.ensures.same)
    (turned _ _ c.args.self.now c.make_room.new.self c.finish.new.self c.make_room.ensures.room.kept
    (omega (arith, c.requires.few, ap (λ w. w.applied) c.make_room.ensures.same)) c.make_room.ensures.same c.make_room.ensures.room.still
    c.own_clock-now.result c.args.host c.own_clock-now.ensures
    (subst (λ w. c.args.host.0 < length (hosts_of w.stage)) (sym c.make_room.ensures.same) (is_there c.has.result c.has.ensures c.if-not-has.false))
    c.turn.new.self c.turn.ensures.step
    c.finish.ensures.same
    (sent_now c.make_room.new.self c.finish.new.self.packets c.turn.new.self
    (where_ok _ c.make_room.result c.is_err.result c.is_err.ensures.value c.if-is_err.false c.make_room.ensures.room.tick) c.finish.ensures.sent)
    c.finish.ensures.settings
    c.finish.ensures.few c.turn.ensures.seats c.turn.ensures.spares)
    (ap (λ w. w.settings) c.finish.ensures.same) (ap (λ w. w.applied) c.finish.ensures.same)
