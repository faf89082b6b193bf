-- The marks are those of the host whose step it was.
use Rattle.std.proofs.Common.{refl, sym, subst, slice_get}
use Rattle.host_table.specs.Staged.{hosts_of}
use Rattle.homa_world.specs.declared.parts.Last.{Last}
use Rattle.homa_world.specs.Standing.{IsLast}
use Rattle.homa_world.specs.Counting.{AreMarksOf}
use Rattle.homa_world.proofs.KindLaws.{left_marks, no_marks}
use Rattle.homa_world.proofs.parts.WorldParts.marks.Goals as goal

pub returns-in-Stepped : goal.returns-in-Stepped
returns-in-Stepped g c =
    let w = c.args.self.now in
    let left = (subst (λ (l : Last). IsLast w l) c.in-Stepped.is c.requires.kept.last).1 in
    subst (λ (l : Last). AreMarksOf w l c.marks.result.now) (sym c.in-Stepped.is)
    (left_marks w c.in-Stepped.host c.in-Stepped.first c.in-Stepped.base (slice_get (hosts_of w.stage) c.in-Stepped.host.0) _ refl left c.marks.ensures)

pub returns-in_default : goal.returns-in_default
returns-in_default g c = no_marks c.args.self.now c.args.self.now.last (λ host f base is. c.in_default.not-Stepped host f base is)
