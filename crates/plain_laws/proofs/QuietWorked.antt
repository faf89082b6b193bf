-- A quiet call of two bytes each way: it is done in the second round.
use Rattle.std.proofs.Common.{◌≡◌, refl, true, false}
use Rattle.plain_sets.specs.Maps.{empty, checked, get, insert, retain, remove, len, keys, values, key_set, insert_all}
use Rattle.plain_sets.specs.Numbers.{with_range, without_range, within, ranges, first_in, missing}
use Rattle.plain_sets.specs.Ordered.{ordered, firsts}
use Rattle.homa_plain.specs.Timers.{due}
use Rattle.homa_plain.specs.Cutoffs.{level_of, noted}
use Rattle.homa_plain.specs.Settings.{usual}
use Rattle.homa_plain.specs.Host.{tuned}
use Rattle.homa_plain.specs.AtClient.{client_gets}
use Rattle.homa_plain.specs.AtServer.{server_gets}
use Rattle.homa_plain.specs.Tombstones.{server_acked}
use Rattle.homa_plain.specs.Timers.{client_deadline, server_deadline}
use Rattle.homa_plain.specs.Steps.{asked, served, takes, start_fault, call_step, arrival_step, turn_step}
use Rattle.homa_plain.specs.SentNext.{pumped_once, pumps}
use Rattle.homa_plain.specs.World.{new_world, outcome}
use Rattle.homa_plain.specs.Replay.{carried}
use Rattle.homa_plain.specs.Quiet.{round, first_round}

pub two_rounds : (round usual 2 2 2).done ≡ true
unfolding empty checked get insert retain remove len keys values key_set insert_all with_range without_range within ranges first_in missing ordered
    firsts due level_of noted tuned client_gets server_gets server_acked client_deadline server_deadline asked served takes pumped_once pumps
    start_fault call_step arrival_step turn_step new_world outcome carried round first_round
two_rounds = refl

pub not_one : (round usual 2 2 1).done ≡ false
unfolding empty checked get insert retain remove len keys values key_set insert_all with_range without_range within ranges first_in missing ordered
    firsts due level_of noted tuned client_gets server_gets server_acked client_deadline server_deadline asked served takes pumped_once pumps
    start_fault call_step arrival_step turn_step new_world outcome carried round first_round
not_one = refl
