-- A network by what it holds.
use Rattle.std.specs.Prelude.{ℕ, ◌+◌, map}
use Rattle.run_gauges.specs.Receivers.{known_of}
use Rattle.packet_network.specs.declared.network.PacketNetwork.TheInside.{Inside}
use Rattle.packet_network.specs.Standing.{in_agenda}
use Rattle.packet_network.specs.Outlets.{waiting_at_all}
use Rattle.packet_network.specs.States.{NetworkState, WholeNetwork}

-- how many packets are under way, by where they stand
abbrev pub standing : Inside → ℕ
standing n = in_agenda n.paths.flow.agenda.dues + (waiting_at_all n.paths.cards.items + waiting_at_all n.paths.outputs.items)

abbrev pub state_of : Inside → NetworkState
state_of n = record {
  moment = n.paths.flow.agenda.moment;
  fates = n.paths.flow.census.fates;
  under_way = standing n;
  loss = n.paths.network.loss;
  repeat = n.paths.network.repeat;
  cards = n.paths.cards.items;
  outputs = n.paths.outputs.items;
  down = n.paths.down;
}

abbrev pub whole_of : Inside → WholeNetwork
whole_of n = record { state = state_of n; agenda = n.paths.flow.agenda; receivers = map known_of n.paths.flow.receivers.items }
