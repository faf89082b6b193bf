-- Runs over several ticks, with losses and clocks that differ. They were worked out by hand.
use Rattle.std.proofs.Common.{◌≡◌, [], ◌∷◌, ◌++◌, refl}
use Rattle.std.specs.Prelude.{codes, length, replicate}
use Rattle.core.specs.Str.{is_utf8, chars}
use Rattle.core.specs.Fmt.{digits}
use Rattle.hex.specs.Hex.{decode_pairs, encode_with}
use lib.Utf8.{encode}
use Rattle.plain_sets.specs.Maps.{empty, checked, get, insert, retain, remove, len, keys, values, key_set, insert_all}
use Rattle.plain_sets.specs.Numbers.{with_range, without_range, within, ranges, first_in, missing}
use Rattle.plain_sets.specs.Ordered.{ordered, firsts}
use Rattle.homa_plain.specs.Timers.{due}
use Rattle.homa_plain.specs.Cutoffs.{level_of, noted, least_from, bounds}
use Rattle.homa_plain.specs.Bytes.{number_at, two_at, times}
use Rattle.homa_plain.specs.Wire.{packet_in, packet_at, packet_of, body_at, tick_at, data_at, ack_at, grant_at, resend_at, cutoffs_at, unknown_at}
use Rattle.homa_plain.specs.Wire.{more_at, calls_at}
use Rattle.homa_plain.specs.Text.{line_text}
use Rattle.homa_plain.specs.Host.{tuned}
use Rattle.homa_plain.specs.AtClient.{client_gets}
use Rattle.homa_plain.specs.AtServer.{server_gets}
use Rattle.homa_plain.specs.Tombstones.{server_acked}
use Rattle.homa_plain.specs.Timers.{client_deadline, server_deadline}
use Rattle.homa_plain.specs.Steps.{asked, served, takes, start_fault, call_step, arrival_step, turn_step}
use Rattle.homa_plain.specs.SentNext.{pumped_once, pumps}
use Rattle.homa_plain.specs.World.{new_world, outcome}
use Rattle.homa_plain.specs.Script.{bytes_of_word, event_text, settings_text}
use Rattle.node_runs.specs.Script.{words_in, calls_from, opening_from, opening}
use Rattle.node_runs.specs.Course.{Run, loop_turn, loop_turns, node_run}
use Rattle.node_runs.specs.Recorder.{kind_of, told, kept}
use Rattle.node_runs.specs.Observed.{observed}
use Rattle.node_runs.proofs.WorkedReceives.{nothing_for, comes_to}
use Rattle.node_runs.specs.Texts.{node_text, recording_text}

-- the request is lost: after four ticks the client asks for the response, and the server knows nothing of the call
abbrev pub lost_run : Run
lost_run = node_run (codes "local 0 1 4000\nlocal 1 1 4001\nend 6\nturns 9\ngo\nat 0 call 0 1 0 6869")
    (record { bytes = 104 ∷ 105 ∷ []; hold = 0 } ∷ []) (0 ∷ 1 ∷ 2 ∷ 3 ∷ 4 ∷ 5 ∷ 6 ∷ [])
    (nothing_for 0 ∷ nothing_for 1 ∷ nothing_for 0 ∷ nothing_for 1 ∷ nothing_for 0 ∷ nothing_for 1 ∷ nothing_for 0 ∷ nothing_for 1 ∷ nothing_for 0 ∷
    comes_to 1 0 (1 ∷ 3 ∷ 0 ∷ 7 ∷ 0 ∷ 0 ∷ 0 ∷ 1 ∷ 0 ∷ 0 ∷ 0 ∷ 1 ∷ 0 ∷ 0 ∷ 0 ∷ 0 ∷ 0 ∷ 0 ∷ 0 ∷ 0 ∷ 0 ∷ 0 ∷ 39 ∷ 16 ∷ 3 ∷ []) ∷ nothing_for 1 ∷
    comes_to 0 1 (1 ∷ 6 ∷ 1 ∷ 7 ∷ 0 ∷ 0 ∷ 0 ∷ 1 ∷ 0 ∷ 0 ∷ 0 ∷ 1 ∷ 0 ∷ 0 ∷ 0 ∷ 0 ∷ 0 ∷ []) ∷ nothing_for 0 ∷
    comes_to 1 0 (1 ∷ 1 ∷ 0 ∷ 7 ∷ 0 ∷ 0 ∷ 0 ∷ 1 ∷ 0 ∷ 0 ∷ 0 ∷ 1 ∷ 0 ∷ 0 ∷ 0 ∷ 0 ∷ 0 ∷ 0 ∷ 0 ∷ 2 ∷ 0 ∷ 0 ∷ 0 ∷ 0 ∷ 0 ∷ 0 ∷ 0 ∷ 0 ∷ 0 ∷ 0 ∷ 0 ∷ 0
    ∷ 0 ∷ 0 ∷ 0 ∷ 0 ∷ 104 ∷ 105 ∷ []) ∷
    nothing_for 1 ∷
    comes_to 0 1 (1 ∷ 1 ∷ 1 ∷ 7 ∷ 0 ∷ 0 ∷ 0 ∷ 1 ∷ 0 ∷ 0 ∷ 0 ∷ 1 ∷ 0 ∷ 0 ∷ 0 ∷ 0 ∷ 0 ∷ 0 ∷ 0 ∷ 2 ∷ 0 ∷ 0 ∷ 0 ∷ 0 ∷ 0 ∷ 0 ∷ 0 ∷ 0 ∷ 0 ∷ 0 ∷ 0 ∷ 0
    ∷ 0 ∷ 0 ∷ 0 ∷ 0 ∷ 104 ∷ 105 ∷ []) ∷
    nothing_for 0 ∷ nothing_for 1 ∷ [])

pub lost : node_text lost_run ≡ codes "settings 2 1400 10000 10000 4 14000 4 5 20 1024 256 1024 0\nclock 0\ncall 0.1.0 1 0 6869\nsend 0 0>1 1 DATA c 0.1.0 7 2 0 0 0 - 6869\nclock 1\nclock 2\nclock 3\nclock 4\nsend 1 0>1 1 RESEND c 0.1.0 0 10000 3\nrecv 1 0 01030007000000010000000100000000000000000000271003\nsend 2 1>0 1 UNKNOWN s 0.1.0 0\nclock 5\nrecv 0 1 0106010700000001000000010000000000\nsend 3 0>1 1 DATA c 0.1.0 7 2 0 0 0 - 6869\nrecv 1 0 0101000700000001000000010000000000000002000000000000000000000000000000006869\nrun 1 0.1.0 0 6869 6869 0\nsend 4 1>0 1 DATA s 0.1.0 7 2 0 0 0 - 6869\nclock 6\nrecv 0 1 0101010700000001000000010000000000000002000000000000000000000000000000006869\ndone 0.1.0 6869\nok 7\n"
unfolding is_utf8 chars digits decode_pairs encode_with encode empty checked get insert retain remove len keys values key_set insert_all with_range
    without_range within ranges first_in missing ordered firsts due level_of noted least_from bounds number_at two_at times packet_in packet_at
    packet_of body_at tick_at data_at ack_at grant_at resend_at cutoffs_at unknown_at more_at calls_at line_text bytes_of_word tuned client_gets
    server_gets server_acked client_deadline server_deadline asked served takes pumped_once pumps start_fault call_step arrival_step turn_step
    new_world outcome event_text settings_text words_in calls_from opening_from opening loop_turn loop_turns node_run kind_of told kept node_text
    observed recording_text
lost = refl

-- of two equal packets the later one is delivered
pub lost_recorded : recording_text lost_run ≡ codes "hosts 2\nseg 1400\nwindow 10000\nunsched 10000\novercommit 4\nrate 14000\nresend 4\ntries 5\nlife 20\npages 1024\ncalls 256\nserved 1024\nrebalance 0\ngo\ncall 0 1 0 6869\nturn 0\nturn 1\nclock\nturn 0\nturn 1\nclock\nturn 0\nturn 1\nclock\nturn 0\nturn 1\nclock\nturn 0\ndeliver 1\nturn 1\nclock\ndeliver 2\nturn 0\ndeliver 3\nturn 1\nclock\ndeliver 4\nturn 0\nturn 1\n# ok 7\n"
unfolding is_utf8 chars digits decode_pairs encode_with encode empty checked get insert retain remove len keys values key_set insert_all with_range
    without_range within ranges first_in missing ordered firsts due level_of noted least_from bounds number_at two_at times packet_in packet_at
    packet_of body_at tick_at data_at ack_at grant_at resend_at cutoffs_at unknown_at more_at calls_at line_text bytes_of_word tuned client_gets
    server_gets server_acked client_deadline server_deadline asked served takes pumped_once pumps start_fault call_step arrival_step turn_step
    new_world outcome event_text settings_text words_in calls_from opening_from opening loop_turn loop_turns node_run kind_of told kept node_text
    observed recording_text
lost_recorded = refl

-- with a skew of 1 each host's own clock is a tick ahead; what host 1 sends is lost, and so is what host 0 asks for
abbrev pub skewed_run : Run
skewed_run = node_run (codes "skew 1\nresend 2\ntries 1\nlife 10\nlocal 0 1 4000\nlocal 1 1 4001\nend 4\nturns 9\ngo\nat 0 call 0 1 0 61")
    (record { bytes = 97 ∷ []; hold = 0 } ∷ []) (0 ∷ 1 ∷ 2 ∷ 3 ∷ 4 ∷ [])
    (nothing_for 0 ∷
    comes_to 1 0 (1 ∷ 1 ∷ 0 ∷ 7 ∷ 0 ∷ 0 ∷ 0 ∷ 1 ∷ 0 ∷ 0 ∷ 0 ∷ 1 ∷ 0 ∷ 0 ∷ 0 ∷ 0 ∷ 0 ∷ 0 ∷ 0 ∷ 1 ∷ 0 ∷ 0 ∷ 0 ∷ 0 ∷ 0 ∷ 0 ∷ 0 ∷ 0 ∷ 0 ∷ 0 ∷ 0 ∷ 0
    ∷ 0 ∷ 0 ∷ 0 ∷ 0 ∷ 97 ∷ []) ∷
    nothing_for 1 ∷ nothing_for 0 ∷ nothing_for 1 ∷ nothing_for 0 ∷ nothing_for 1 ∷ nothing_for 0 ∷ nothing_for 1 ∷ nothing_for 0 ∷ nothing_for 1 ∷ [])

pub skewed : node_text skewed_run ≡ codes "settings 2 1400 10000 10000 4 14000 2 1 10 1024 256 1024 0 1\nclock 0\ncall 0.1.0 1 0 61\nsend 0 0>1 1 DATA c 0.1.0 7 1 0 0 0 - 61\nrecv 1 0 01010007000000010000000100000000000000010000000000000000000000000000000061\nrun 1 0.1.0 0 61 61 0\nsend 1 1>0 1 DATA s 0.1.0 7 1 0 0 0 - 61\nclock 1\nclock 2\nsend 2 0>1 1 RESEND c 0.1.0 0 10000 3\nsend 3 1>0 1 NEED_ACK s 0.1.0\nclock 3\nclock 4\nfail 0.1.0 timeout\nbury 1 0.1.0 33\nok 5\n"
unfolding is_utf8 chars digits decode_pairs encode_with encode empty checked get insert retain remove len keys values key_set insert_all with_range
    without_range within ranges first_in missing ordered firsts due level_of noted least_from bounds number_at two_at times packet_in packet_at
    packet_of body_at tick_at data_at ack_at grant_at resend_at cutoffs_at unknown_at more_at calls_at line_text bytes_of_word tuned client_gets
    server_gets server_acked client_deadline server_deadline asked served takes pumped_once pumps start_fault call_step arrival_step turn_step
    new_world outcome event_text settings_text words_in calls_from opening_from opening loop_turn loop_turns node_run kind_of told kept node_text
    observed recording_text
skewed = refl

-- with version 2 a packet carries its sender's clock, and its receiver takes it for up to 1 + 2 ticks of its own
abbrev pub second_version_run : Run
second_version_run = node_run (codes "skew 1\nwire 2\nlife 1\nlocal 0 1 4000\nlocal 1 1 4001\nend 4\nturns 9\ngo\nat 0 call 0 1 0 61")
    (record { bytes = 97 ∷ []; hold = 0 } ∷ []) (0 ∷ 3 ∷ 4 ∷ [])
    (nothing_for 0 ∷ nothing_for 1 ∷ nothing_for 0 ∷
    comes_to 1 0 (2 ∷ 1 ∷ 0 ∷ 7 ∷ 0 ∷ 0 ∷ 0 ∷ 1 ∷ 0 ∷ 0 ∷ 0 ∷ 1 ∷ 0 ∷ 0 ∷ 0 ∷ 0 ∷ 0 ∷ 0 ∷ 0 ∷ 0 ∷ 0 ∷ 0 ∷ 0 ∷ 1 ∷ 0 ∷ 0 ∷ 0 ∷ 1 ∷ 0 ∷ 0 ∷ 0 ∷ 0
    ∷ 0 ∷ 0 ∷ 0 ∷ 0 ∷ 0 ∷ 0 ∷ 0 ∷ 0 ∷ 0 ∷ 0 ∷ 0 ∷ 0 ∷ 97 ∷ []) ∷
    nothing_for 1 ∷ nothing_for 0 ∷
    comes_to 1 0 (2 ∷ 1 ∷ 0 ∷ 7 ∷ 0 ∷ 0 ∷ 0 ∷ 1 ∷ 0 ∷ 0 ∷ 0 ∷ 1 ∷ 0 ∷ 0 ∷ 0 ∷ 0 ∷ 0 ∷ 0 ∷ 0 ∷ 0 ∷ 0 ∷ 0 ∷ 0 ∷ 1 ∷ 0 ∷ 0 ∷ 0 ∷ 1 ∷ 0 ∷ 0 ∷ 0 ∷ 0
    ∷ 0 ∷ 0 ∷ 0 ∷ 0 ∷ 0 ∷ 0 ∷ 0 ∷ 0 ∷ 0 ∷ 0 ∷ 0 ∷ 0 ∷ 97 ∷ []) ∷
    nothing_for 1 ∷ [])

pub second_version : node_text second_version_run ≡ codes "settings 2 1400 10000 10000 4 14000 4 5 1 1024 256 1024 0 1 2\nclock 0\ncall 0.1.0 1 0 61\nsend 0 0>1 1 DATA c 0.1.0 7 1 0 0 0 - 61\nclock 3\nrecv 1 0 020100070000000100000001000000000000000000000001000000010000000000000000000000000000000061\nrun 1 0.1.0 0 61 61 0\nsend 1 1>0 1 DATA s 0.1.0 7 1 0 0 0 - 61\nclock 4\nsend 2 0>1 1 RESEND c 0.1.0 0 10000 3\nrecv 1 0 020100070000000100000001000000000000000000000001000000010000000000000000000000000000000061\nstale 1 1 5\nok 3\n"
unfolding is_utf8 chars digits decode_pairs encode_with encode empty checked get insert retain remove len keys values key_set insert_all with_range
    without_range within ranges first_in missing ordered firsts due level_of noted least_from bounds number_at two_at times packet_in packet_at
    packet_of body_at tick_at data_at ack_at grant_at resend_at cutoffs_at unknown_at more_at calls_at line_text bytes_of_word tuned client_gets
    server_gets server_acked client_deadline server_deadline asked served takes pumped_once pumps start_fault call_step arrival_step turn_step
    new_world outcome event_text settings_text words_in calls_from opening_from opening loop_turn loop_turns node_run kind_of told kept node_text
    observed recording_text
second_version = refl

-- it was sent three ticks before, and a recorder takes it for one tick
pub second_version_recorded : recording_text second_version_run ≡ codes "hosts 2\nseg 1400\nwindow 10000\nunsched 10000\novercommit 4\nrate 14000\nresend 4\ntries 5\nlife 1\npages 1024\ncalls 256\nserved 1024\nrebalance 0\nskew 1\nwire 2\ngo\ncall 0 1 0 61\nturn 0\nturn 1\nclock\nclock\nclock\nturn 0\nstranger 1 0 020100070000000100000001000000000000000000000001000000010000000000000000000000000000000061\n"
unfolding is_utf8 chars digits decode_pairs encode_with encode empty checked get insert retain remove len keys values key_set insert_all with_range
    without_range within ranges first_in missing ordered firsts due level_of noted least_from bounds number_at two_at times packet_in packet_at
    packet_of body_at tick_at data_at ack_at grant_at resend_at cutoffs_at unknown_at more_at calls_at line_text bytes_of_word tuned client_gets
    server_gets server_acked client_deadline server_deadline asked served takes pumped_once pumps start_fault call_step arrival_step turn_step
    new_world outcome event_text settings_text words_in calls_from opening_from opening loop_turn loop_turns node_run kind_of told kept node_text
    observed recording_text
second_version_recorded = refl

-- the same datagram a tick after it was sent
abbrev pub in_life_run : Run
in_life_run = node_run (codes "skew 1\nwire 2\nlife 1\nlocal 0 1 4000\nlocal 1 1 4001\nend 1\nturns 9\ngo\nat 0 call 0 1 0 61")
    (record { bytes = 97 ∷ []; hold = 0 } ∷ []) (0 ∷ 1 ∷ [])
    (nothing_for 0 ∷ nothing_for 1 ∷ nothing_for 0 ∷
    comes_to 1 0 (2 ∷ 1 ∷ 0 ∷ 7 ∷ 0 ∷ 0 ∷ 0 ∷ 1 ∷ 0 ∷ 0 ∷ 0 ∷ 1 ∷ 0 ∷ 0 ∷ 0 ∷ 0 ∷ 0 ∷ 0 ∷ 0 ∷ 0 ∷ 0 ∷ 0 ∷ 0 ∷ 1 ∷ 0 ∷ 0 ∷ 0 ∷ 1 ∷ 0 ∷ 0 ∷ 0 ∷ 0
    ∷ 0 ∷ 0 ∷ 0 ∷ 0 ∷ 0 ∷ 0 ∷ 0 ∷ 0 ∷ 0 ∷ 0 ∷ 0 ∷ 0 ∷ 97 ∷ []) ∷
    nothing_for 1 ∷ [])

pub in_life_recorded : recording_text in_life_run ≡ codes "hosts 2\nseg 1400\nwindow 10000\nunsched 10000\novercommit 4\nrate 14000\nresend 4\ntries 5\nlife 1\npages 1024\ncalls 256\nserved 1024\nrebalance 0\nskew 1\nwire 2\ngo\ncall 0 1 0 61\nturn 0\nturn 1\nclock\nturn 0\ndeliver 0\nturn 1\n# ok 2\n"
unfolding is_utf8 chars digits decode_pairs encode_with encode empty checked get insert retain remove len keys values key_set insert_all with_range
    without_range within ranges first_in missing ordered firsts due level_of noted least_from bounds number_at two_at times packet_in packet_at
    packet_of body_at tick_at data_at ack_at grant_at resend_at cutoffs_at unknown_at more_at calls_at line_text bytes_of_word tuned client_gets
    server_gets server_acked client_deadline server_deadline asked served takes pumped_once pumps start_fault call_step arrival_step turn_step
    new_world outcome event_text settings_text words_in calls_from opening_from opening loop_turn loop_turns node_run kind_of told kept node_text
    observed recording_text
in_life_recorded = refl

-- two equal packets, of which the earlier one was sent at the last tick that counts
abbrev pub equal_run : Run
equal_run = node_run (codes "life 4\nlocal 0 1 4000\nlocal 1 1 4001\nend 8\nturns 9\ngo\nat 0 call 0 1 0 61") ([]) (0 ∷ 4 ∷ 8 ∷ [])
    (nothing_for 0 ∷ nothing_for 1 ∷ nothing_for 0 ∷ nothing_for 1 ∷ nothing_for 0 ∷
    comes_to 1 0 (1 ∷ 3 ∷ 0 ∷ 7 ∷ 0 ∷ 0 ∷ 0 ∷ 1 ∷ 0 ∷ 0 ∷ 0 ∷ 1 ∷ 0 ∷ 0 ∷ 0 ∷ 0 ∷ 0 ∷ 0 ∷ 0 ∷ 0 ∷ 0 ∷ 0 ∷ 39 ∷ 16 ∷ 3 ∷ []) ∷ nothing_for 1 ∷ [])

-- the later one is delivered
pub equal_recorded : recording_text equal_run ≡ codes "hosts 2\nseg 1400\nwindow 10000\nunsched 10000\novercommit 4\nrate 14000\nresend 4\ntries 5\nlife 4\npages 1024\ncalls 256\nserved 1024\nrebalance 0\ngo\ncall 0 1 0 61\nturn 0\nturn 1\nclock\nclock\nclock\nclock\nturn 0\nturn 1\nclock\nclock\nclock\nclock\nturn 0\ndeliver 2\nturn 1\n# ok 3\n"
unfolding is_utf8 chars digits decode_pairs encode_with encode empty checked get insert retain remove len keys values key_set insert_all with_range
    without_range within ranges first_in missing ordered firsts due level_of noted least_from bounds number_at two_at times packet_in packet_at
    packet_of body_at tick_at data_at ack_at grant_at resend_at cutoffs_at unknown_at more_at calls_at line_text bytes_of_word tuned client_gets
    server_gets server_acked client_deadline server_deadline asked served takes pumped_once pumps start_fault call_step arrival_step turn_step
    new_world outcome event_text settings_text words_in calls_from opening_from opening loop_turn loop_turns node_run kind_of told kept node_text
    observed recording_text
equal_recorded = refl

-- a packet that was sent a tick before those that count
abbrev pub too_old_run : Run
too_old_run = node_run (codes "life 4\nlocal 0 1 4000\nlocal 1 1 4001\nend 5\nturns 9\ngo\nat 0 call 0 1 0 61") ([]) (0 ∷ 5 ∷ [])
    (nothing_for 0 ∷ nothing_for 1 ∷ nothing_for 0 ∷
    comes_to 1 0 (1 ∷ 1 ∷ 0 ∷ 7 ∷ 0 ∷ 0 ∷ 0 ∷ 1 ∷ 0 ∷ 0 ∷ 0 ∷ 1 ∷ 0 ∷ 0 ∷ 0 ∷ 0 ∷ 0 ∷ 0 ∷ 0 ∷ 1 ∷ 0 ∷ 0 ∷ 0 ∷ 0 ∷ 0 ∷ 0 ∷ 0 ∷ 0 ∷ 0 ∷ 0 ∷ 0 ∷ 0
    ∷ 0 ∷ 0 ∷ 0 ∷ 0 ∷ 97 ∷ []) ∷
    nothing_for 1 ∷ [])

pub too_old_recorded : recording_text too_old_run ≡ codes "hosts 2\nseg 1400\nwindow 10000\nunsched 10000\novercommit 4\nrate 14000\nresend 4\ntries 5\nlife 4\npages 1024\ncalls 256\nserved 1024\nrebalance 0\ngo\ncall 0 1 0 61\nturn 0\nturn 1\nclock\nclock\nclock\nclock\nclock\nturn 0\nstranger 1 0 01010007000000010000000100000000000000010000000000000000000000000000000061\n"
unfolding is_utf8 chars digits decode_pairs encode_with encode empty checked get insert retain remove len keys values key_set insert_all with_range
    without_range within ranges first_in missing ordered firsts due level_of noted least_from bounds number_at two_at times packet_in packet_at
    packet_of body_at tick_at data_at ack_at grant_at resend_at cutoffs_at unknown_at more_at calls_at line_text bytes_of_word tuned client_gets
    server_gets server_acked client_deadline server_deadline asked served takes pumped_once pumps start_fault call_step arrival_step turn_step
    new_world outcome event_text settings_text words_in calls_from opening_from opening loop_turn loop_turns node_run kind_of told kept node_text
    observed recording_text
too_old_recorded = refl

-- 65 datagrams of no bytes are there for host 0
abbrev pub many_run : Run
many_run = node_run (codes "life 4\nlocal 0 1 4000\nlocal 1 1 4001\nend 1\nturns 9\ngo") ([]) (1 ∷ [])
    (replicate 64 (comes_to 0 1 []) ++ nothing_for 1 ∷ [])

-- the settings, the clock, 64 arrivals with two entries each, and the two turns
pub many : length many_run.reports ≡ 132
unfolding is_utf8 chars digits decode_pairs encode_with encode empty checked get insert retain remove len keys values key_set insert_all with_range
    without_range within ranges first_in missing ordered firsts due level_of noted least_from bounds number_at two_at times packet_in packet_at
    packet_of body_at tick_at data_at ack_at grant_at resend_at cutoffs_at unknown_at more_at calls_at line_text bytes_of_word tuned client_gets
    server_gets server_acked client_deadline server_deadline asked served takes pumped_once pumps start_fault call_step arrival_step turn_step
    new_world outcome event_text settings_text words_in calls_from opening_from opening loop_turn loop_turns node_run kind_of told kept node_text
    observed recording_text
many = refl
