use Rattle.std.proofs.Common.{◌++◌, ◌∙◌, List, length, map, sym, ap, subst, arith}
use Rattle.std.specs.List.{flat_map}
use Rattle.homa_plain.specs.declared.settings.Settings.{Settings}
use Rattle.world_packets.specs.Blocks.{Frame, frames_of, size_of}
use Rattle.world_packets.specs.declared.block.Block.{Block}
use Rattle.world_packets.specs.Kept.{KeptPacket, WholePacket, AllAged, HasNoOld}
use Rattle.world_packets.specs.Ticks.{kept_of}
use Rattle.world_packets.specs.Past.{past_kept}
use Rattle.world_packets.specs.All.{kept_all}
use Rattle.world_packets.proofs.Ages.{all_aged_self, length-aged}
use Rattle.world_packets.proofs.RecentLaws.{no_old-all}
use Rattle.world_packets.proofs.packets.Packets.reserve.Goals as goal

pub returns-in_err-turn_over-clause-aged : goal.returns-in_err-turn_over-clause-aged
returns-in_err-turn_over-clause-aged c =
    let s = c.args.self.now.settings in
    subst (λ (ks : List KeptPacket). AllAged s c.args.now (kept_all c.args.self.now) ks) (sym c.in_err-turn_over.ensures.kept)
    (all_aged_self s c.args.now (kept_all c.args.self.now))

pub returns-clause-room : goal.returns-clause-room
returns-clause-room c =
    let t = c.turn_over.new.self in
    let e = c.expire.new.self in
    let size = c.in_ok-reserve.ensures.size ∙ ap (λ (b : Block). size_of b) c.in_ok-expire.ensures.front in
    let kept =
    ap (λ (fs : List Frame). length (past_kept e.past ++ flat_map kept_of e.ticks.items ++ map (WholePacket e.tick) fs)) c.in_ok-reserve.ensures.frames in
    let aged = length-aged t.settings c.args.now (kept_all t) (kept_all e) c.in_ok-expire.ensures.aged in
    let turned = ap length c.in_ok-turn_over.ensures.kept in
    record {
      room = c.in_ok-reserve.ensures.room;
      small = omega (arith, size, c.in_ok-turn_over.ensures.small);
      few = omega (arith, kept, aged, turned, c.requires);
    }

pub returns-clause-no_old : goal.returns-clause-no_old
returns-clause-no_old c =
    let e = c.expire.new.self in
    let s = c.args.self.now.settings in
    no_old-all s c.args.now e.past e.ticks.items e.tick (frames_of c.reserve.new.self) (c.in_ok-expire.ensures.tick ∙ c.in_ok-turn_over.ensures.tick)
    (subst (λ (x : Settings). HasNoOld x c.args.now (flat_map kept_of e.ticks.items)) c.in_ok-turn_over.ensures.settings c.in_ok-expire.ensures.no_old)
