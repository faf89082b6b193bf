use Rattle.std.proofs.Common.{◌++◌, take}
use Rattle.std.specs.Prelude.{Ok}
use Rattle.std.specs.List.{flat_map}
use Rattle.homa_io.specs.declared.sink.WriteFailed.{WriteFailed}
use Rattle.written_lines.specs.Put.{Puts}
use Rattle.written_lines.specs.Written.{spaced_word}
use Rattle.written_lines.proofs.line.put_others.Given as goal

-- the words so far were put
abbrev pub invariant-loop-word : goal.invariant-loop-word
invariant-loop-word g l =
    let sink = g.K.Sink in
    record {
      so_far : Puts {E = WriteFailed} sink.taken sink.faults sink.is_same (Ok (tt {0})) l.fn.sink l.sink l.held.items
          (l.fn.held.items ++ flat_map spaced_word (take l.word-index l.words));
    }
