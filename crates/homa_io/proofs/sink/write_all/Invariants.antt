use Rattle.std.proofs.Common.{length, ◌-◌, ◌≡◌, ◌≤◌, take}
use Rattle.homa_io.specs.Outside.{appended}
use Rattle.homa_io.proofs.sink.write_all.Given as goal

-- as many bytes as were written were taken from the front
abbrev pub invariant-loop-written : goal.invariant-loop-written
invariant-loop-written g l =
    let taken = g.K.Sink.taken in
    let faults = g.K.Sink.faults in
    record {
      so_far : taken l.sink ≡ appended (taken l.fn.sink) (take l.written l.bytes);
      within : l.written ≤ length l.bytes;
      quiet : faults l.sink ≡ faults l.fn.sink;
      same : g.K.Sink.is_same l.fn.sink l.sink;
    }

abbrev pub decreases-loop-written : goal.decreases-loop-written
decreases-loop-written g l = length l.bytes - l.written
