use Rattle.std.proofs.Common.{◌≡◌, ◌≤◌, Option, Some, None, length}
use Rattle.std.specs.Prelude.{slice_get, IfSome, IfNone, MatchOption}
use Rattle.world_packets.specs.declared.packets.Kept.{Kept}
use Rattle.world_packets.specs.Kept.{kept_seen}
use Rattle.world_packets.specs.All.{kept_all}
use Rattle.world_packets.proofs.packets.Packets.get.Goals as goal

both_ways : {T : Type 0} (o : Option T) (P Q : Type 0) (R : T → Type 0) → P → IfNone o (P → Q) → IfSome o R → MatchOption o Q R
both_ways None P Q R p none some = none p
both_ways (Some x) P Q R p none some = some

pub returns-then-n-self : goal.returns-then-n-self
returns-then-n-self c =
    let p = c.args.self.now in
    both_ways c.recent.result (p.first ≤ c.args.n) (length (kept_all p) ≤ c.args.n)
    (λ (kept : Kept). slice_get (kept_all p) c.args.n ≡ Some (kept_seen kept)) c.if-n-self.true c.recent.ensures.none c.recent.ensures.some
