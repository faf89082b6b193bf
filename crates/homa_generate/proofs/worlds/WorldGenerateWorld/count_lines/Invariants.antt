-- The entries of the marks up to here were counted.
use Rattle.std.proofs.Common.{take}
use Rattle.homa_world.specs.Counting.{unmarked_kind, AreMarksOf}
use Rattle.homa_generate.proofs.CountLaws.{CountedTo}
use Rattle.homa_generate.proofs.worlds.WorldGenerateWorld.count_lines.Given as goal

abbrev pub invariant-loop-mark : goal.invariant-loop-mark
invariant-loop-mark g l =
    (a : AreMarksOf l.self l.self.last l.marks)
    → CountedTo l.fn.counts (unmarked_kind l.self.last) a.kind (take l.mark-index l.marks) l.counts
