use Rattle.std.proofs.Common.{◌≡◌, ◌≤◌, ◌-◌, ◌++◌, length, take}
use Rattle.std.specs.Prelude.{Ok}
use Rattle.hex.specs.Hex.{encode_lower}
use Rattle.homa_io.specs.declared.sink.WriteFailed.{WriteFailed}
use Rattle.written_lines.specs.Put.{Puts}
use Rattle.written_lines.proofs.held.put_hex.Given as goal

-- the digits of the first bytes were put
abbrev pub invariant-loop-done : goal.invariant-loop-done
invariant-loop-done g l =
    let sink = g.K.Sink in
    record {
      so_far : Puts {E = WriteFailed} sink.taken sink.faults sink.is_same (Ok (tt {0})) l.fn.sink l.sink l.held.items
          (l.fn.held.items ++ encode_lower (take l.done l.bytes));
      within : l.done ≤ length l.bytes;
      room : length l.digits ≡ 2816;
    }

abbrev pub decreases-loop-done : goal.decreases-loop-done
decreases-loop-done g l = length l.bytes - l.done
