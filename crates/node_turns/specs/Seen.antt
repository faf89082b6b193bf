-- The stop of a node whose observer didn't take a report.
use Rattle.node_io.specs.declared.observer.SeenFault.{SeenFault}
use Rattle.node_io.specs.declared.observer.SeenFault.TheVariants.{NoMemory as NoMemoryThere}
use Rattle.node_turns.specs.declared.stop.NodeStop.{NodeStop}
use Rattle.node_turns.specs.declared.stop.NodeStop.TheVariants.{Seen, NoMemory}

-- want of memory is want of memory, wherever it is met
abbrev pub seen_stop : SeenFault → NodeStop
seen_stop NoMemoryThere = NoMemory
seen_stop fault = Seen fault
