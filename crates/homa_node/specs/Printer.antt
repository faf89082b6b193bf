-- Where a printer prints, and that nothing is strange to it.
use Rattle.std.specs.Prelude.{◌≡◌, true}
use Rattle.node_runs.specs.Course.{Report}
use Rattle.node_runs.specs.Recorder.{Notes}
use Rattle.node_runs.specs.Observed.{never}
use Rattle.node_io.specs.Observer.{IsComing}
use Rattle.homa_node.specs.declared.printer.Printer.{Printer}

-- the sink that it prints to
abbrev pub sink_of : {K : Type 0} → Printer K → K
sink_of printer = printer.sink

-- no report is strange
pub never_comes : (n : Notes) (report : Report) → never n report ≡ true → IsComing report
never_comes n report e = absurd cc
