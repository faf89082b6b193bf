use Rattle.std.proofs.Common.{map, take}
use Rattle.std.specs.Prelude.{Ok, slice_get}
use Rattle.std.specs.List.{flat_map}
use Rattle.homa_io.specs.declared.sink.WriteFailed.{WriteFailed}
use Rattle.homa_io.specs.Writing.{IsWritten}
use Rattle.homa_plain.specs.Text.{line_text}
use Rattle.event_laws.specs.Named.{numbered}
use Rattle.host_table.specs.Left.{entries_of}
use Rattle.host_table.specs.Staged.{hosts_of}
use Rattle.homa_world.proofs.parts.WorldParts.put_step.Given as goal

-- the lines of the entries so far were taken
abbrev pub invariant-loop-i : goal.invariant-loop-i
invariant-loop-i g l =
    let sink = g.K.Sink in
    let told = map (numbered l.base) (entries_of l.self.stage (slice_get (hosts_of l.self.stage) l.host.0)) in
    record { so_far : IsWritten {E = WriteFailed} sink.taken sink.faults sink.is_same (Ok (tt {0})) l.fn.sink l.sink (flat_map line_text (take l.i told)) }
