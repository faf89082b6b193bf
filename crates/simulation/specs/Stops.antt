-- Why a run stops.
use Rattle.simulation.specs.declared.stop.SimStop.{SimStop}
use Rattle.simulation.specs.declared.stop.SimStop.TheVariants as sim
use Rattle.packet_network.specs.declared.stop.NetworkStop.{NetworkStop}
use Rattle.packet_network.specs.declared.stop.NetworkStop.TheVariants.{NoMemory, TooLong}

-- what a stop of the network is for a run
abbrev pub stop_of : NetworkStop → SimStop
stop_of NoMemory = sim.NoMemory
stop_of TooLong = sim.TooLong
