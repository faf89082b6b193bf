-- How many faults the sources and sinks over std's readers and writers had.
use Rattle.std.specs.Prelude.{ℕ}
use Rattle.homa_io.specs.declared.real.StdSource.{StdSource}
use Rattle.homa_io.specs.declared.real.StdSink.{StdSink}

-- how many faults a source had
abbrev pub std_source_faults : {R : Type 0} → StdSource R → ℕ
std_source_faults source = source.faults.0

-- how many faults a sink had
abbrev pub std_sink_faults : {W : Type 0} → StdSink W → ℕ
std_sink_faults sink = sink.faults.0
