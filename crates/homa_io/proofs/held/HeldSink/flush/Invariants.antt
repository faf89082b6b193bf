use Rattle.std.proofs.Common.{◌≡◌, length}
use Rattle.homa_io.specs.Outside.{appended, Grows}
use Rattle.homa_io.specs.Held.{held_bytes, text_bytes}
use Rattle.homa_io.proofs.held.HeldSink.flush.Given as goal

-- what went out, with what is held still, is what was held
abbrev pub invariant-loop-self : goal.invariant-loop-self
invariant-loop-self g l = record {
  whole : appended (g.K.Sink.taken l.self.sink) (text_bytes l.self.text) ≡ appended (g.K.Sink.taken l.fn.self.sink) (held_bytes l.fn.self);
  grows : Grows (g.K.Sink.taken l.fn.self.sink) (g.K.Sink.taken l.self.sink);
  direct : l.self.direct ≡ l.fn.self.direct;
  quiet : g.K.Sink.faults l.self.sink ≡ g.K.Sink.faults l.fn.self.sink;
  same : g.K.Sink.is_same l.fn.self.sink l.self.sink;
}

abbrev pub decreases-loop-self : goal.decreases-loop-self
decreases-loop-self g l = length (text_bytes l.self.text)
