use Rattle.event_laws.proofs.Events as events
use Rattle.event_laws.proofs.refusals.Goals as goal

pub returns : goal.returns
returns c = record {
  no_server = events.no_server;
  no_client = events.no_client;
  start = events.start_refused;
  no_packet = events.no_packet;
  late = events.late_refused;
  clock = events.clock_refused;
  turn = events.turn_refused;
  restart = events.restart_refused;
  no_spare = events.no_spare;
  inject = events.inject_refused;
  decodes = events.decodes;
  shift = events.shift_refused;
  band = events.out_of_band;
  back = events.goes_back;
}
