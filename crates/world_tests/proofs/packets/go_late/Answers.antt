use Rattle.std.proofs.Common.{◌≡◌, ◌+◌, ◌*◌, length, length-append, ap, ◌∙◌, arith}
use Rattle.world_packets.specs.All.{kept_all}
use Rattle.world_packets.proofs.Ages.{length-aged}
use Rattle.world_tests.proofs.packets.go_late.Goals as goal

pub loop-number-preserved : goal.loop-number-preserved
loop-number-preserved c =
    let old = c.loop-number.packets in
    let mid = c.reserve.new.self in
    let aged = length-aged old.settings (2 * c.loop-number.number) (kept_all old) (kept_all mid) c.in_ok-reserve.ensures.aged in
    let more = ap length c.push.ensures.kept ∙ length-append (kept_all mid) _ in
    let next : length (kept_all c.push.new.self) ≡ c.loop-number.number + 1 = omega (arith, aged, more, c.loop-number.invariant) in
    next

pub reserve-requires-3 : goal.reserve-requires-3
reserve-requires-3 c =
    let old = c.loop-number.packets in
    let mid = c.reserve-2.new.self in
    let aged = length-aged old.settings 100000 (kept_all old) (kept_all mid) c.in_ok-reserve-2.ensures.aged in
    let more = ap length c.push-2.ensures.kept ∙ length-append (kept_all mid) _ in
    omega (arith, aged, more, c.loop-number.invariant, c.loop-number.auto.number-end)
