use Rattle.std.proofs.Common.{sym, subst}
use Rattle.host_table.specs.Staged.{frames_of}
use Rattle.homa_world.specs.Counting.{Stands}
use Rattle.homa_world.proofs.world.World.mark_kind.Goals as goal

pub mark_kind-requires : goal.mark_kind-requires
mark_kind-requires g c = record { stands = subst (λ w. Stands (frames_of w.stage) c.args.mark.now) (sym c.self.view_is) c.requires.stands }
