use Rattle.std.proofs.Common.{sym, ap, ◌∙◌, ◌+◌, length, [], ◌∷◌, Some}
use Rattle.std.specs.Prelude.{slice_index_or}
use Rattle.homa_plain.specs.declared.event.Event.TheVariants as event
use Rattle.homa_plain.specs.Entries.{PlainDeliver}
use Rattle.world_packets.specs.All.{kept_all}
use Rattle.world_packets.specs.Kept.{WholePacket, StalePacket, kept_seen}
use Rattle.host_table.specs.Staged.{hosts_of}
use Rattle.host_table.proofs.EntryLaws.{at_index}
use Rattle.homa_world.specs.Packed.{IsFromHost}
use Rattle.homa_world.proofs.EventLaws.{may_step, is_there, not_there}
use Rattle.homa_world.proofs.ArrivedLaws.{below_hosts, is_other, no_packet, late_whole, late_for_good, fresh_by, no_receiver, has_arrived}
use Rattle.homa_world.proofs.ArrivedLaws.{makes_delivery}
use Rattle.homa_world.proofs.HappenedLaws.{not_came}
use Rattle.homa_world.proofs.parts.WorldParts.arrive.Goals as goal

pub returns-in-None-clause-fault : goal.returns-in-None-clause-fault
returns-in-None-clause-fault g c = no_packet c.args.self.now c.args.number c.in-None.ensures

pub returns-in-Some-Late-clause-fault : goal.returns-in-Some-Late-clause-fault
returns-in-Some-Late-clause-fault g c =
    late_for_good c.args.self.now c.args.number c.in-Some-Late.tick (c.in-Some-Late.ensures ∙ ap (λ k. Some (kept_seen k)) c.in-Some-Late.field-0-is)

pub returns-then-is_late-clause-fault : goal.returns-then-is_late-clause-fault
returns-then-is_late-clause-fault g c = late_whole c.args.self.now c.args.number c.in-Some-Whole.tick
    (record { from = c.in-Some-Whole.from; to = c.in-Some-Whole.to; bytes = c.in-Some-Whole.bytes.now })
    (c.in-Some-Whole.ensures ∙ ap (λ k. Some (kept_seen k)) c.in-Some-Whole.field-0-is) (sym c.is_late.ensures ∙ c.if-is_late.true)

pub returns-then-not-has-clause-fault : goal.returns-then-not-has-clause-fault
returns-then-not-has-clause-fault g c = no_receiver c.args.self.now c.args.number c.in-Some-Whole.tick
    (record { from = c.in-Some-Whole.from; to = c.in-Some-Whole.to; bytes = c.in-Some-Whole.bytes.now })
    (c.in-Some-Whole.ensures ∙ ap (λ k. Some (kept_seen k)) c.in-Some-Whole.field-0-is) (sym c.is_late.ensures ∙ c.if-is_late.false)
    (not_there c.has.result c.in-Some-Whole.to.0 (length (hosts_of c.args.self.now.stage)) c.has.ensures c.if-not-has.true)

pub deliver-requires-clause-from : goal.deliver-requires-clause-from
deliver-requires-clause-from g c = below_hosts _ c.args.self.now c.requires.may.kept c.in-Some-Whole.to
    (is_there c.has.result c.has.ensures c.if-not-has.false) c.in-Some-Whole.from.0
    (at_index (IsFromHost c.args.self.now.settings.hosts) (kept_all c.args.self.now.packets) c.args.number
    (WholePacket c.in-Some-Whole.tick (record { from = c.in-Some-Whole.from; to = c.in-Some-Whole.to; bytes = c.in-Some-Whole.bytes.now }))
    c.requires.may.kept.froms (c.in-Some-Whole.ensures ∙ ap (λ k. Some (kept_seen k)) c.in-Some-Whole.field-0-is)).0

pub deliver-requires-clause-other : goal.deliver-requires-clause-other
deliver-requires-clause-other g c = is_other _ c.args.self.now c.requires.may.kept c.in-Some-Whole.to
    (is_there c.has.result c.has.ensures c.if-not-has.false) c.in-Some-Whole.from
    (at_index (IsFromHost c.args.self.now.settings.hosts) (kept_all c.args.self.now.packets) c.args.number
    (WholePacket c.in-Some-Whole.tick (record { from = c.in-Some-Whole.from; to = c.in-Some-Whole.to; bytes = c.in-Some-Whole.bytes.now }))
    c.requires.may.kept.froms (c.in-Some-Whole.ensures ∙ ap (λ k. Some (kept_seen k)) c.in-Some-Whole.field-0-is)).1

pub deliver-requires-clause-may : goal.deliver-requires-clause-may
deliver-requires-clause-may g c = may_step _ c.args.self.now c.requires.may.kept c.requires.may.few c.in-Some-Whole.to c.clock_of-now.result
    (c.clock_of-now.ensures ∙ ap (λ ls. c.args.self.now.clock + slice_index_or ls c.in-Some-Whole.to.0 0) c.deref.ensures.value)
    (is_there c.has.result c.has.ensures c.if-not-has.false)

pub returns-in-Ok-clause-came : goal.returns-in-Ok-clause-came
returns-in-Ok-clause-came g c =
    has_arrived _ _ c.args.self.now c.requires.may.kept c.in-Some-Whole.from c.in-Some-Whole.to
    (at_index (IsFromHost c.args.self.now.settings.hosts) (kept_all c.args.self.now.packets) c.args.number
    (WholePacket c.in-Some-Whole.tick (record { from = c.in-Some-Whole.from; to = c.in-Some-Whole.to; bytes = c.in-Some-Whole.bytes.now }))
    c.requires.may.kept.froms (c.in-Some-Whole.ensures ∙ ap (λ k. Some (kept_seen k)) c.in-Some-Whole.field-0-is)).1 c.in-Some-Whole.bytes.now
    c.clock_of-now.result
    (c.clock_of-now.ensures ∙ ap (λ ls. c.args.self.now.clock + slice_index_or ls c.in-Some-Whole.to.0 0) c.deref.ensures.value)
    (is_there c.has.result c.has.ensures c.if-not-has.false) c.deliver.new.self c.in-Ok.ensures.step
    (event.Deliver c.args.number) [] (PlainDeliver c.args.number ∷ [])
    (makes_delivery _ _ c.args.self.now c.requires.may.kept c.in-Some-Whole.from c.in-Some-Whole.to
    (at_index (IsFromHost c.args.self.now.settings.hosts) (kept_all c.args.self.now.packets) c.args.number
    (WholePacket c.in-Some-Whole.tick (record { from = c.in-Some-Whole.from; to = c.in-Some-Whole.to; bytes = c.in-Some-Whole.bytes.now }))
    c.requires.may.kept.froms (c.in-Some-Whole.ensures ∙ ap (λ k. Some (kept_seen k)) c.in-Some-Whole.field-0-is)).1 c.in-Some-Whole.bytes.now
    c.clock_of-now.result
    (c.clock_of-now.ensures ∙ ap (λ ls. c.args.self.now.clock + slice_index_or ls c.in-Some-Whole.to.0 0) c.deref.ensures.value)
    (is_there c.has.result c.has.ensures c.if-not-has.false) c.deliver.new.self c.in-Ok.ensures.step
    c.args.number c.in-Some-Whole.tick (c.in-Some-Whole.ensures ∙ ap (λ k. Some (kept_seen k)) c.in-Some-Whole.field-0-is)
    (fresh_by c.args.self.now c.in-Some-Whole.tick (sym c.is_late.ensures ∙ c.if-is_late.false)))

pub returns-in-Err-clause-none : goal.returns-in-Err-clause-none
returns-in-Err-clause-none g c = not_came _ _ c.args.self.now c.requires.may.kept c.in-Some-Whole.to
    (is_there c.has.result c.has.ensures c.if-not-has.false) c.deliver.new.self c.requires.none c.in-Err.ensures.none

pub stale_comes-requires-clause-at : goal.stale_comes-requires-clause-at
stale_comes-requires-clause-at g c = at_index (IsFromHost c.args.self.now.settings.hosts) (kept_all c.args.self.now.packets) c.args.number
    (StalePacket c.in-Some-Stale.to c.in-Some-Stale.at) c.requires.may.kept.froms
    (c.in-Some-Stale.ensures ∙ ap (λ k. Some (kept_seen k)) c.in-Some-Stale.field-0-is)

pub returns-clause-came : goal.returns-clause-came
returns-clause-came g c = c.in_ok-stale_comes.ensures.came c.args.number (c.in-Some-Stale.ensures ∙ ap (λ k. Some (kept_seen k)) c.in-Some-Stale.field-0-is)
