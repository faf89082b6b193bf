use Rattle.std.proofs.Common.{refl, sym, ap, subst, ◌∙◌, ◌<◌, length, arith}
use Rattle.homa_plain.specs.declared.event.Event.TheVariants as event
use Rattle.homa_plain.specs.declared.fault.WorldFault.TheVariants as fault
use Rattle.event_laws.proofs.Events as events
use Rattle.homa_world.specs.declared.parts.First.TheVariants as first
use Rattle.host_table.specs.Staged.{hosts_of}
use Rattle.homa_plain.specs.Wire.{packet_in}
use Rattle.host_table.proofs.StageLaws.{where_ok, where_err}
use Rattle.homa_world.proofs.KeptLaws.{refused_by}
use Rattle.homa_world.proofs.EventLaws.{found, may_step, is_there, not_there, no_host, host_there, sent_now}
use Rattle.homa_world.proofs.ArrivedLaws.{below_hosts, is_other, stranger_in, stranger_other, read_some, read_none, injection, arrived, short_arrived}
use Rattle.homa_world.proofs.HappenedLaws.{still_by_datagram, not_came, refused_at_once, without_room, refused_on, refuses_memory, happened_on}
use Rattle.homa_world.proofs.parts.WorldParts.inject.Goals as goal

pub returns-then-not-has : goal.returns-then-not-has
returns-then-not-has g c = refused_at_once _ _ _ c.args.self.now fault.NoSuchHost c.requires.kept (λ w stands.
    refused_by c.args.self.now.settings w (event.Inject c.args.host) c.args.bytes.now fault.NoSuchHost refl
    (events.inject_refused c.args.self.now.settings w c.args.host c.args.bytes.now
    (no_host c.args.self.now c.args.host w stands
    (not_there c.has.result c.args.host.0 (length (hosts_of c.args.self.now.stage)) c.has.ensures c.if-not-has.true))))

pub returns-then-is_some : goal.returns-then-is_some
returns-then-is_some g c = refused_at_once _ _ _ c.args.self.now fault.Decodes c.requires.kept (λ w stands.
    let r = found (hosts_of c.args.self.now.stage) c.args.host.0 (is_there c.has.result c.has.ensures c.if-not-has.false) in
    refused_by c.args.self.now.settings w (event.Inject c.args.host) c.args.bytes.now fault.Decodes refl
    (events.decodes c.args.self.now.settings w c.args.host c.args.bytes.now r.h.host (host_there c.args.self.now c.args.host r.h w stands r.at)
    (read_some _ c.decode.result _ c.decode.ensures.read (sym c.is_some.ensures ∙ c.if-is_some.true))))

pub returns-then-is_err : goal.returns-then-is_err
returns-then-is_err g c = without_room _ _ _ c.args.self.now c.keep_injected.new.self c.keep_injected.result c.keep_injected.ensures.room
    (still_by_datagram _ _ c.keep_injected.ensures.same) refl

pub deliver-came-requires-clause-from : goal.deliver-came-requires-clause-from
deliver-came-requires-clause-from g c = below_hosts _ c.keep_injected.new.self c.keep_injected.ensures.room.kept c.args.host
    (subst (λ w. c.args.host.0 < length (hosts_of w.stage)) (sym c.keep_injected.ensures.same)
    (is_there c.has.result c.has.ensures c.if-not-has.false)) c.stranger.result.0
    (subst (λ x. x.0 < c.keep_injected.new.self.settings.hosts) (sym c.stranger.ensures)
    (stranger_in c.keep_injected.new.self.settings c.keep_injected.ensures.room.kept.valid c.args.host))

pub deliver-came-requires-clause-other : goal.deliver-came-requires-clause-other
deliver-came-requires-clause-other g c = is_other _ c.keep_injected.new.self c.keep_injected.ensures.room.kept c.args.host
    (subst (λ w. c.args.host.0 < length (hosts_of w.stage)) (sym c.keep_injected.ensures.same)
    (is_there c.has.result c.has.ensures c.if-not-has.false)) c.stranger.result (λ same. stranger_other c.args.host (sym c.stranger.ensures ∙ same))

pub deliver-came-requires-clause-may : goal.deliver-came-requires-clause-may
deliver-came-requires-clause-may g c = may_step _ c.keep_injected.new.self c.keep_injected.ensures.room.kept
    (omega (arith, c.requires.few, ap (λ w. w.applied) c.keep_injected.ensures.same)) c.args.host c.own_clock-now.result c.own_clock-now.ensures
    (subst (λ w. c.args.host.0 < length (hosts_of w.stage)) (sym c.keep_injected.ensures.same) (is_there c.has.result c.has.ensures c.if-not-has.false))

pub returns-then-is_err-2 : goal.returns-then-is_err-2
returns-then-is_err-2 g c =
    refused_on _ _ _ c.args.self.now c.keep_injected.new.self c.keep_injected.result c.keep_injected.ensures.room
    (still_by_datagram _ _ c.keep_injected.ensures.same) c.deliver-came.new.self fault.NoMemory
    (not_came _ _ c.keep_injected.new.self c.keep_injected.ensures.room.kept c.args.host
    (subst (λ w. c.args.host.0 < length (hosts_of w.stage)) (sym c.keep_injected.ensures.same)
    (is_there c.has.result c.has.ensures c.if-not-has.false)) c.deliver-came.new.self (ap (λ w. w.last) c.keep_injected.ensures.same)
    (where_err _ c.deliver-came.result c.is_err-2.result c.is_err-2.ensures.value c.if-is_err-2.true c.deliver-came.ensures.none))
    (refuses_memory (λ _. 0) (λ seat count number q r hold. Unit {0}) _ c.args.self.now refl)

pub finish-requires-clause-short : goal.finish-requires-clause-short
finish-requires-clause-short g c =
    short_arrived _ _ c.keep_injected.new.self c.keep_injected.ensures.room.kept (event.Inject c.args.host) c.args.bytes.now _ c.args.host
    c.deliver-came.new.self
    (injection _ _ c.keep_injected.new.self c.keep_injected.ensures.room.kept c.stranger.result c.args.host
    (λ same. stranger_other c.args.host (sym c.stranger.ensures ∙ same)) c.deref.result.now c.own_clock-now.result c.own_clock-now.ensures
    (subst (λ w. c.args.host.0 < length (hosts_of w.stage)) (sym c.keep_injected.ensures.same)
    (is_there c.has.result c.has.ensures c.if-not-has.false)) c.deliver-came.new.self
    (where_ok _ c.deliver-came.result c.is_err-2.result c.is_err-2.ensures.value c.if-is_err-2.false c.deliver-came.ensures.step) c.args.bytes.now
    c.deref.ensures.value (where_ok _ c.keep_injected.result c.is_err.result c.is_err.ensures.value c.if-is_err.false c.keep_injected.ensures.bytes)
    (ap (λ s. packet_in s.wire c.args.bytes.now) (ap (λ w. w.settings) c.keep_injected.ensures.same)
    ∙ read_none _ c.decode.result _ c.decode.ensures.read (sym c.is_some.ensures ∙ c.if-is_some.false)))

pub returns : goal.returns
returns g c =
    happened_on _ _ _ c.args.self.now c.keep_injected.new.self c.finish.new.self (still_by_datagram _ _ c.keep_injected.ensures.same)
    (arrived _ _ c.args.self.now c.keep_injected.new.self c.finish.new.self c.keep_injected.ensures.room.kept
    (omega (arith, c.requires.few, ap (λ w. w.applied) c.keep_injected.ensures.same)) (ap (λ w. w.settings) c.keep_injected.ensures.same)
    (ap (λ w. w.stage) c.keep_injected.ensures.same) c.keep_injected.ensures.room.still c.args.host first.Injected
    (event.Inject c.args.host) c.args.bytes.now c.deliver-came.new.self
    (injection _ _ c.keep_injected.new.self c.keep_injected.ensures.room.kept c.stranger.result c.args.host
    (λ same. stranger_other c.args.host (sym c.stranger.ensures ∙ same)) c.deref.result.now c.own_clock-now.result c.own_clock-now.ensures
    (subst (λ w. c.args.host.0 < length (hosts_of w.stage)) (sym c.keep_injected.ensures.same)
    (is_there c.has.result c.has.ensures c.if-not-has.false)) c.deliver-came.new.self
    (where_ok _ c.deliver-came.result c.is_err-2.result c.is_err-2.ensures.value c.if-is_err-2.false c.deliver-came.ensures.step) c.args.bytes.now
    c.deref.ensures.value (where_ok _ c.keep_injected.result c.is_err.result c.is_err.ensures.value c.if-is_err.false c.keep_injected.ensures.bytes)
    (ap (λ s. packet_in s.wire c.args.bytes.now) (ap (λ w. w.settings) c.keep_injected.ensures.same)
    ∙ read_none _ c.decode.result _ c.decode.ensures.read (sym c.is_some.ensures ∙ c.if-is_some.false)))
    c.finish.ensures.same
    (sent_now c.keep_injected.new.self c.finish.new.self.packets c.deliver-came.new.self
    (where_ok _ c.keep_injected.result c.is_err.result c.is_err.ensures.value c.if-is_err.false c.keep_injected.ensures.room.tick) c.finish.ensures.sent)
    c.finish.ensures.settings c.finish.ensures.few)
    (ap (λ w. w.settings) c.finish.ensures.same) (ap (λ w. w.applied) c.finish.ensures.same)
