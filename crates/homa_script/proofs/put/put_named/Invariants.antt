use Rattle.std.proofs.Common.{take}
use Rattle.std.specs.Prelude.{Ok}
use Rattle.std.specs.List.{flat_map}
use Rattle.homa_io.specs.declared.sink.WriteFailed.{WriteFailed}
use Rattle.homa_io.specs.Writing.{IsWritten}
use Rattle.homa_script.specs.Named.{named_text}
use Rattle.homa_script.proofs.put.put_named.Given as goal

-- the lines so far were taken
abbrev pub invariant-loop-name : goal.invariant-loop-name
invariant-loop-name g l =
    let sink = g.K.Sink in
    record {
      so_far : IsWritten {E = WriteFailed} sink.taken sink.faults sink.is_same (Ok (tt {0})) l.fn.sink l.sink
          (flat_map (named_text l.settings) (take l.name-index l.names));
    }
