-- What the sources and sinks in memory hold.
use Rattle.std.specs.Prelude.{ℕ, ◌-◌, List, Option, Some, drop, length}
use Rattle.homa_io.specs.declared.input.Input.{Input}
use Rattle.homa_io.specs.declared.memory.MemSource.{MemSource}
use Rattle.homa_io.specs.declared.memory.MemSink.{MemSink}

-- the bytes that weren't read
abbrev pub input_left : Input → List ℕ
input_left input = drop input.read input.bytes.items

-- the bytes that a source has left
abbrev pub source_left : MemSource → Option (List ℕ)
source_left source = Some (input_left source.input)

-- how many faults a source had
abbrev pub source_faults : MemSource → ℕ
source_faults source = source.faults.0

-- the numbers of the reads that are to fail
abbrev pub source_fails : MemSource → List ℕ
source_fails source = source.plan.fails.items

-- the number of the next read
abbrev pub source_reads : MemSource → ℕ
source_reads source = source.plan.next

-- the bytes that a sink took
abbrev pub sink_taken : MemSink → Option (List ℕ)
sink_taken sink = Some sink.bytes.items

-- how many faults a sink had
abbrev pub sink_faults : MemSink → ℕ
sink_faults sink = sink.faults.0

-- the numbers of the writes that are to fail
abbrev pub sink_fails : MemSink → List ℕ
sink_fails sink = sink.plan.fails.items

-- the number of the next write
abbrev pub sink_writes : MemSink → ℕ
sink_writes sink = sink.plan.next

-- how many more bytes a sink takes
abbrev pub sink_space : MemSink → ℕ
sink_space sink = sink.room - length sink.bytes.items
