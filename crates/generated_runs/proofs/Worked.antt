-- Small generated runs between two hosts, by computing. Their draws were made by another program, and the rest was worked out by hand.
use Rattle.std.proofs.Common.{◌≡◌, refl, List, [], ◌∷◌}
use Rattle.std.specs.Prelude.{codes}
use Rattle.core.specs.Str.{chars}
use Rattle.core.specs.Fmt.{digits}
use Rattle.hex.specs.Hex.{decode_pairs, encode_with}
use lib.Utf8.{encode}
use Rattle.plain_sets.specs.Maps.{empty, checked, get, insert, retain, remove, len, keys, values, key_set, insert_all}
use Rattle.plain_sets.specs.Numbers.{with_range, without_range, within, ranges, first_in, missing}
use Rattle.plain_sets.specs.Ordered.{ordered, firsts}
use Rattle.homa_plain.specs.Timers.{due}
use Rattle.homa_plain.specs.Cutoffs.{level_of}
use Rattle.homa_plain.specs.Text.{line_text}
use Rattle.homa_plain.specs.Script.{event_text, settings_text}
use Rattle.homa_plain.specs.Settings.{usual}
use Rattle.homa_plain.specs.Rules.{Answer}
use Rattle.homa_plain.specs.Host.{tuned}
use Rattle.homa_plain.specs.AtClient.{client_gets}
use Rattle.homa_plain.specs.AtServer.{server_gets}
use Rattle.homa_plain.specs.Tombstones.{server_acked}
use Rattle.homa_plain.specs.Timers.{client_deadline, server_deadline}
use Rattle.homa_plain.specs.Steps.{asked, served, takes, start_fault, call_step, arrival_step, turn_step}
use Rattle.homa_plain.specs.SentNext.{pumped_once, pumps}
use Rattle.homa_plain.specs.World.{new_world, outcome}
use Rattle.homa_plain.specs.Replay.{carried}
use Rattle.generated_runs.specs.Draws.{next_traffic}
use Rattle.generated_runs.specs.Fabric.{handed}
use Rattle.generated_runs.specs.Rounds.{first_generated, host_round, hosts_round, calls_round, next_round, rounds}
use Rattle.generated_runs.specs.Generated.{schedule_text, summary_text}

abbrev answers : List Answer
answers = record { bytes = 1 ∷ 2 ∷ []; hold = 0 } ∷ []

-- one call of 44 bytes to service 3, whose packets are neither lost nor repeated
pub one_call : schedule_text usual (rounds 10 usual (first_generated usual 15 1 2 answers)) ≡ codes "hosts 2\nseg 1400\nwindow 10000\nunsched 10000\novercommit 4\nrate 14000\nresend 4\ntries 5\nlife 20\npages 1024\ncalls 256\nserved 1024\nrebalance 0\ngo\ntick\ncall 0 1 3 *44\ntick\ndeliver 0\ntick\ndeliver 1\n"
unfolding chars encode digits decode_pairs encode_with empty checked get insert retain remove len keys values key_set insert_all with_range
    without_range within ranges first_in missing ordered firsts due level_of line_text event_text settings_text tuned client_gets server_gets
    server_acked client_deadline server_deadline asked served takes pumped_once pumps start_fault call_step arrival_step turn_step new_world outcome
    carried next_traffic handed host_round hosts_round calls_round next_round rounds
one_call = refl

-- the request is handed over twice
pub repeated : schedule_text usual (rounds 10 usual (first_generated usual 4707 1 2 answers)) ≡ codes "hosts 2\nseg 1400\nwindow 10000\nunsched 10000\novercommit 4\nrate 14000\nresend 4\ntries 5\nlife 20\npages 1024\ncalls 256\nserved 1024\nrebalance 0\ngo\ntick\ncall 0 1 0 *13\ntick\ndeliver 0\ndeliver 0\ntick\ndeliver 1\n"
unfolding chars encode digits decode_pairs encode_with empty checked get insert retain remove len keys values key_set insert_all with_range
    without_range within ranges first_in missing ordered firsts due level_of line_text event_text settings_text tuned client_gets server_gets
    server_acked client_deadline server_deadline asked served takes pumped_once pumps start_fault call_step arrival_step turn_step new_world outcome
    carried next_traffic handed host_round hosts_round calls_round next_round rounds
repeated = refl

-- the request is lost: after four ticks the client asks for the response, and the server has no record of the call
pub lost : schedule_text usual (rounds 10 usual (first_generated usual 22218 1 2 answers)) ≡ codes "hosts 2\nseg 1400\nwindow 10000\nunsched 10000\novercommit 4\nrate 14000\nresend 4\ntries 5\nlife 20\npages 1024\ncalls 256\nserved 1024\nrebalance 0\ngo\ntick\ncall 0 1 1 *8\ntick\ntick\ntick\ntick\ndeliver 1\ntick\ndeliver 2\ndeliver 3\ntick\ndeliver 4\n"
unfolding chars encode digits decode_pairs encode_with empty checked get insert retain remove len keys values key_set insert_all with_range
    without_range within ranges first_in missing ordered firsts due level_of line_text event_text settings_text tuned client_gets server_gets
    server_acked client_deadline server_deadline asked served takes pumped_once pumps start_fault call_step arrival_step turn_step new_world outcome
    carried next_traffic handed host_round hosts_round calls_round next_round rounds
lost = refl

-- and its summary
pub lost_counted : summary_text (rounds 10 usual (first_generated usual 22218 1 2 answers)).told ≡ codes "calls 1\nruns 1\ndone 1\ntimeout 0\nforgotten 0\ndeliver 4\nclock 7\nDATA 3\nGRANT 0\nRESEND 1\nBUSY 0\nCUTOFFS 0\nUNKNOWN 1\nNEED_ACK 0\nACK 0\n"
unfolding chars encode digits decode_pairs encode_with empty checked get insert retain remove len keys values key_set insert_all with_range
    without_range within ranges first_in missing ordered firsts due level_of line_text event_text settings_text tuned client_gets server_gets
    server_acked client_deadline server_deadline asked served takes pumped_once pumps start_fault call_step arrival_step turn_step new_world outcome
    carried next_traffic handed host_round hosts_round calls_round next_round rounds
lost_counted = refl
