use Rattle.homa_io.proofs.Passing.{passes_then}
use Rattle.homa_io.proofs.held.HeldSinkSink.write.Goals as goal

pub returns-then-not-branch-clause-below : goal.returns-then-not-branch-clause-below
returns-then-not-branch-clause-below g c =
    let on = g.met.K.Sink.same_on in
    passes_then on c.in_ok-make_room.ensures.below (passes_then on c.in_ok-flush.ensures.below c.pass.ensures.below)
