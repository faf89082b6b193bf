use Rattle.std.proofs.Common.{refl, ap, ◌∙◌, ◌+◌, ◌++◌, length, arith, []}
use Rattle.std.specs.Prelude.{map}
use Rattle.homa_plain.specs.declared.event.Event.TheVariants as event
use Rattle.world_packets.specs.All.{kept_all, settings_of, open_tick}
use Rattle.host_table.proofs.StageLaws.{where_ok}
use Rattle.homa_world.specs.declared.parts.First.TheVariants as first
use Rattle.homa_world.specs.declared.parts.Last.TheVariants as last
use Rattle.homa_world.specs.declared.parts.WorldParts.{WorldParts}
use Rattle.homa_world.specs.Packed.{frame_kept}
use Rattle.homa_world.proofs.EventLaws.{sent_now}
use Rattle.homa_world.proofs.ArrivedLaws.{arrived, short_arrived}
use Rattle.homa_world.proofs.HappenedLaws.{still_by_room, room_only, nothing_on, without_room, refused_later, refused_before, handed_on}
use Rattle.homa_world.proofs.HappenedLaws.{happened_on}
use Rattle.homa_world.proofs.parts.WorldParts.deliver.Goals as goal

pub returns-then-is_err : goal.returns-then-is_err
returns-then-is_err g c = without_room _ _ _ c.args.self.now c.make_room.new.self c.make_room.result c.make_room.ensures.room
    (still_by_room _ _ c.make_room.ensures.same) refl

pub returns-in_err-to : goal.returns-in_err-to
returns-in_err-to g c =
    let w = c.args.self.now in
    let mid = c.make_room.new.self in
    let why = c.in_err-to.field-0.0 in
    let same = still_by_room w mid c.make_room.ensures.same in
    handed_on _ _ _ w _ c.from_residual.result why c.from_residual.ensures.1
    (refused_later _ _ _ w c.arrive.new.self why
    (nothing_on _ _ w mid c.arrive.new.self (room_only _ _ w mid c.make_room.result c.make_room.ensures.room same) c.in_err-to.ensures.none)
    (ap (λ x. x.settings) c.arrive.ensures.same ∙ same.settings) (ap (λ x. x.applied) c.arrive.ensures.same ∙ same.applied)
    (refused_before _ (λ seat count number q r hold. Unit {0}) _ w mid c.make_room.result c.make_room.ensures.room same why c.in_err-to.ensures.fault))

pub finish-requires-clause-short : goal.finish-requires-clause-short
finish-requires-clause-short g c = short_arrived _ _ c.make_room.new.self c.make_room.ensures.room.kept (event.Deliver c.args.number)
    [] _ c.in_ok-to.to c.arrive.new.self.stage c.in_ok-to.ensures.came

pub returns : goal.returns
returns g c =
    let done =
    c.finish.ensures.same
    ∙ ap (λ (x : WorldParts _). record x {
      packets = c.finish.new.self.packets;
      last = last.Stepped c.in_ok-to.to (first.Delivered c.args.number) (length (kept_all x.packets));
      applied = x.applied + 1;
    }) c.arrive.ensures.same in
    happened_on _ _ _ c.args.self.now c.make_room.new.self c.finish.new.self (still_by_room _ _ c.make_room.ensures.same)
    (arrived _ _ c.args.self.now c.make_room.new.self c.finish.new.self c.make_room.ensures.room.kept
    (omega (arith, c.requires.few, ap (λ w. w.applied) c.make_room.ensures.same)) (ap (λ w. w.settings) c.make_room.ensures.same)
    (ap (λ w. w.stage) c.make_room.ensures.same) c.make_room.ensures.room.still
    c.in_ok-to.to (first.Delivered c.args.number) (event.Deliver c.args.number) [] c.arrive.new.self.stage c.in_ok-to.ensures.came done
    (sent_now c.make_room.new.self c.finish.new.self.packets c.arrive.new.self.stage
    (where_ok _ c.make_room.result c.is_err.result c.is_err.ensures.value c.if-is_err.false c.make_room.ensures.room.tick)
    (c.finish.ensures.sent ∙ ap (λ (x : WorldParts _). kept_all x.packets ++ map (frame_kept (open_tick x.packets)) c.arrive.new.self.stage.outbox)
    c.arrive.ensures.same))
    (c.finish.ensures.settings ∙ ap (λ (x : WorldParts _). settings_of x.packets) c.arrive.ensures.same) c.finish.ensures.few)
    (ap (λ w. w.settings) done) (ap (λ w. w.applied) done)
