use Rattle.std.proofs.lemmas.Result.{on_ok_weaker}
use Rattle.check_lines.proofs.TakeLaws.{block_of, no_block, stale_same}
use Rattle.check_lines.proofs.trace.Trace.forget.Goals as goal

pub returns-in-Some-clause-kept : goal.returns-in-Some-clause-kept
returns-in-Some-clause-kept c =
    on_ok_weaker c.forget_this.result (λ k v o r. let b = block_of v o c.args.self.now c.in-Some.delivery r c.in-Some.is in k v b.0 r.kept b.2 b.3)
    c.forget_this.ensures.kept

pub returns-in-None-clause-kept : goal.returns-in-None-clause-kept
returns-in-None-clause-kept c v o r = stale_same v c.args.self.now (no_block v o c.args.self.now r c.in-None.is).1 r.kept
