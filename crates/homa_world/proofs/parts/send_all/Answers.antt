use Rattle.std.proofs.Common.{refl, sym, ap, ◌∙◌, arith, ◌++◌}
use Rattle.std.specs.Prelude.{map}
use Rattle.std.proofs.lemmas.List.{append-nil, take_all}
use Rattle.world_packets.specs.All.{kept_all, open_tick}
use Rattle.homa_world.specs.Packed.{frame_kept}
use Rattle.homa_world.proofs.SendLaws.{room_one, short_at, sent_at}
use Rattle.homa_world.proofs.parts.send_all.Goals as goal

pub loop-i-init : goal.loop-i-init
loop-i-init c = record { kept = sym (append-nil (kept_all c.args.packets.now)); tick = refl; room = c.requires.room; settings = refl }

pub push-requires-clause-room : goal.push-requires-clause-room
push-requires-clause-room c =
    room_one c.loop-i.packets _ (omega (arith, c.loop-i-test.true, c.len-i-end.ensures.few, c.len-i-end.ensures.len)) c.loop-i.invariant.room

pub push-requires-clause-short : goal.push-requires-clause-short
push-requires-clause-short c = short_at c.args.outbox.now c.loop-i.i (omega (arith, c.loop-i-test.true, c.len-i-end.ensures.len)) c.requires.short
    c.sender-from.result c.receiver-to.result c.bytes.result.now c.bytes.ensures

pub loop-i-preserved : goal.loop-i-preserved
loop-i-preserved c =
    sent_at c.args.outbox.now c.loop-i.i (omega (arith, c.loop-i-test.true, c.len-i-end.ensures.len)) c.requires.short c.sender-from.result
    c.receiver-to.result c.bytes.result.now
    c.args.packets.now c.loop-i.packets c.push.new.self c.sender-from.ensures c.receiver-to.ensures c.bytes.ensures c.loop-i.invariant
    c.push.ensures.kept c.push.ensures.room c.push.ensures.tick c.push.ensures.settings
    (omega (arith, c.loop-i-test.true, c.len-i-end.ensures.few, c.len-i-end.ensures.len))

pub returns-clause-sent : goal.returns-clause-sent
returns-clause-sent c =
    c.loop-i.invariant.kept ∙ ap (λ fs. kept_all c.args.packets.now ++ map (frame_kept (open_tick c.args.packets.now)) fs)
    (take_all c.loop-i.i c.args.outbox.now (omega (arith, c.loop-i-test.false, c.len-i-end.ensures.len)))

pub returns-clause-settings : goal.returns-clause-settings
returns-clause-settings c = c.loop-i.invariant.settings
