-- What is due, and what became of packets.
use Rattle.std.specs.Prelude.{◌<◌, ℕ, ◌-◌, ◌^◌}
use Rattle.packet_network.specs.declared.flow.Flow.{Flow}
use Rattle.packet_network.specs.Standing.{in_agenda}

-- how many packets are under way of which nothing is due
abbrev pub outside : Flow → ℕ
outside f = f.census.under_way - in_agenda f.agenda.dues

-- the run may go on
pub record IsInTime (f : Flow) : Type 0 where
  pub moment : f.agenda.moment < 2 ^ 62
  pub entered : f.agenda.count < 2 ^ 62
  pub sent : f.census.fates.sent < 2 ^ 62
  pub repeated : f.census.fates.repeated < 2 ^ 62
