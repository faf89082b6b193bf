-- The ticks were gone through at this one, and there is room.
use Rattle.std.proofs.Common.{subst}
use Rattle.std.proofs.Math.Logic.{∥∥₁_map}
use Rattle.world_packets.specs.Blocks.{frames_of}
use Rattle.world_packets.specs.Kept.{HasNoOld}
use Rattle.std.specs.List.{flat_map}
use Rattle.world_packets.specs.Ticks.{kept_of}
use Rattle.world_packets.proofs.RecentLaws.{no_old-all}
use Rattle.world_packets.proofs.packets.Packets.is_ready.Goals as goal

pub returns-clause-no_old : goal.returns-clause-no_old
returns-clause-no_old c = λ ready.
    let p = c.args.self.now in
    let now = c.args.now in
    let same = c.if-self-now.false in
    ∥∥₁_map (p.swept_is c.if-not-self.false)
    (λ none. no_old-all p.settings now p.past p.ticks.items p.tick (frames_of p.front) same
    (subst (λ n. HasNoOld p.settings n (flat_map kept_of p.ticks.items)) same none))
