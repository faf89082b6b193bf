-- What the source and the sink that never fail hold.
use Rattle.std.specs.Prelude.{ℕ, List, Option, None, Some}
use Rattle.homa_io.specs.declared.sure.SureSource.{SureSource}
use Rattle.homa_io.specs.declared.sure.SureSink.{SureSink}
use Rattle.homa_io.specs.Memory.{input_left}

-- the bytes that the source has left
abbrev pub sure_source_left : SureSource → Option (List ℕ)
sure_source_left source = Some (input_left source.input)

-- the source has no faults
abbrev pub sure_source_faults : SureSource → ℕ
sure_source_faults source = 0

-- the sink keeps no bytes, and so isn't observable
abbrev pub sure_sink_taken : SureSink → Option (List ℕ)
sure_sink_taken sink = None

-- the sink has no faults
abbrev pub sure_sink_faults : SureSink → ℕ
sure_sink_faults sink = 0
