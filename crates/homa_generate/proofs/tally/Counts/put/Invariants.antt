-- The lines of the kinds up to this place were taken.
use Rattle.std.proofs.Common.{take}
use Rattle.std.specs.Prelude.{Ok}
use Rattle.std.specs.List.{flat_map}
use Rattle.homa_io.specs.declared.sink.WriteFailed.{WriteFailed}
use Rattle.homa_io.specs.Writing.{IsWritten}
use Rattle.homa_generate.specs.Counts.{kinds, count_line}
use Rattle.homa_generate.proofs.tally.Counts.put.Given as goal

abbrev pub invariant-loop-place : goal.invariant-loop-place
invariant-loop-place g l =
    let sink = g.K.Sink in
    record {
      so_far : IsWritten {E = WriteFailed} sink.taken sink.faults sink.is_same (Ok (tt {0})) l.fn.sink l.sink
          (flat_map (count_line l.fn.self) (take l.place kinds));
    }
