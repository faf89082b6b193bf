use Rattle.std.proofs.Common.{inl, inr, arith}
use Rattle.homa_plain.specs.Cutoffs.{level_of}
use Rattle.homa_plain.proofs.CutoffLaws.{level_only, is_level_of}
use Rattle.homa_cutoffs.proofs.levels.CutoffsLevels.level.Goals as goal
use Rattle.homa_cutoffs.proofs.levels.CutoffsLevels.level.Goals.{then-loop-level-test+else-len-self, else-loop-level-test}

pub returns : goal.returns
returns c =
    level_only c.args.k c.args.self.now.upto c.args.len c.loop-level.level (level_of c.args.k c.args.self.now c.args.len)
    (record {
      from = c.loop-level.invariant.from;
      to = c.loop-level.invariant.to;
      fits = elim c.loop-level-test.branch [
        | then-loop-level-test+else-len-self w ↦ inr w.if-len-self.false
        | else-loop-level-test w ↦ inl (omega arith)
      ];
      others_exceeded = c.loop-level.invariant.exceeded;
    })
    (is_level_of c.args.k c.args.self.now c.args.len c.requires.to)
