-- Runs of a node and their recordings, from the bytes of the script. They were worked out by hand.
use Rattle.std.proofs.Common.{◌≡◌, [], ◌∷◌, Some, refl}
use Rattle.std.specs.Prelude.{codes}
use Rattle.core.specs.Str.{is_utf8, chars}
use Rattle.core.specs.Fmt.{digits}
use Rattle.hex.specs.Hex.{decode_pairs, encode_with}
use lib.Utf8.{encode}
use Rattle.plain_sets.specs.Maps.{empty, checked, get, insert, retain, remove, len, keys, values, key_set, insert_all}
use Rattle.plain_sets.specs.Numbers.{with_range, without_range, within, ranges, first_in, missing}
use Rattle.plain_sets.specs.Ordered.{ordered, firsts}
use Rattle.homa_plain.specs.Timers.{due}
use Rattle.homa_plain.specs.Cutoffs.{level_of, noted, least_from, bounds}
use Rattle.homa_plain.specs.Bytes.{number_at, two_at, times}
use Rattle.homa_plain.specs.Wire.{packet_in, packet_at, packet_of, body_at, tick_at, data_at, ack_at, grant_at, resend_at, cutoffs_at, unknown_at}
use Rattle.homa_plain.specs.Wire.{more_at, calls_at}
use Rattle.homa_plain.specs.Text.{line_text}
use Rattle.homa_plain.specs.Host.{tuned}
use Rattle.homa_plain.specs.AtClient.{client_gets}
use Rattle.homa_plain.specs.AtServer.{server_gets}
use Rattle.homa_plain.specs.Tombstones.{server_acked}
use Rattle.homa_plain.specs.Timers.{client_deadline, server_deadline}
use Rattle.homa_plain.specs.Steps.{asked, served, takes, start_fault, call_step, arrival_step, turn_step}
use Rattle.homa_plain.specs.SentNext.{pumped_once, pumps}
use Rattle.homa_plain.specs.World.{new_world, outcome}
use Rattle.homa_plain.specs.Script.{bytes_of_word, event_text, settings_text}
use Rattle.node_runs.specs.Script.{words_in, calls_from, opening_from, opening}
use Rattle.node_runs.specs.Course.{Run, loop_turn, loop_turns, node_run}
use Rattle.node_runs.specs.Recorder.{kind_of, told, kept}
use Rattle.node_runs.specs.Observed.{observed}
use Rattle.node_runs.proofs.WorkedReceives.{nothing_for, comes_to}
use Rattle.node_runs.specs.Texts.{node_text, recording_text, node_status, recording_status, sent_by, recorded_sent}

-- one call between two hosts of the node; each of the three loop turns ends both hosts' receives with nothing
abbrev pub one_call_run : Run
one_call_run = node_run (codes "local 0 1 4000\nlocal 1 1 4001\nend 2\nturns 5\ngo\nat 0 call 0 1 0 6869")
    (record { bytes = 104 ∷ 105 ∷ []; hold = 0 } ∷ []) (0 ∷ 1 ∷ 2 ∷ [])
    (nothing_for 0 ∷
    comes_to 1 0 (1 ∷ 1 ∷ 0 ∷ 7 ∷ 0 ∷ 0 ∷ 0 ∷ 1 ∷ 0 ∷ 0 ∷ 0 ∷ 1 ∷ 0 ∷ 0 ∷ 0 ∷ 0 ∷ 0 ∷ 0 ∷ 0 ∷ 2 ∷ 0 ∷ 0 ∷ 0 ∷ 0 ∷ 0 ∷ 0 ∷ 0 ∷ 0 ∷ 0 ∷ 0 ∷ 0 ∷ 0
    ∷ 0 ∷ 0 ∷ 0 ∷ 0 ∷ 104 ∷ 105 ∷ []) ∷
    nothing_for 1 ∷
    comes_to 0 1 (1 ∷ 1 ∷ 1 ∷ 7 ∷ 0 ∷ 0 ∷ 0 ∷ 1 ∷ 0 ∷ 0 ∷ 0 ∷ 1 ∷ 0 ∷ 0 ∷ 0 ∷ 0 ∷ 0 ∷ 0 ∷ 0 ∷ 2 ∷ 0 ∷ 0 ∷ 0 ∷ 0 ∷ 0 ∷ 0 ∷ 0 ∷ 0 ∷ 0 ∷ 0 ∷ 0 ∷ 0
    ∷ 0 ∷ 0 ∷ 0 ∷ 0 ∷ 104 ∷ 105 ∷ []) ∷
    nothing_for 0 ∷ nothing_for 1 ∷ nothing_for 0 ∷ nothing_for 1 ∷ [])

pub one_call : node_text one_call_run ≡ codes "settings 2 1400 10000 10000 4 14000 4 5 20 1024 256 1024 0\nclock 0\ncall 0.1.0 1 0 6869\nsend 0 0>1 1 DATA c 0.1.0 7 2 0 0 0 - 6869\nrecv 1 0 0101000700000001000000010000000000000002000000000000000000000000000000006869\nrun 1 0.1.0 0 6869 6869 0\nsend 1 1>0 1 DATA s 0.1.0 7 2 0 0 0 - 6869\nclock 1\nrecv 0 1 0101010700000001000000010000000000000002000000000000000000000000000000006869\ndone 0.1.0 6869\nclock 2\nok 3\n"
unfolding is_utf8 chars digits decode_pairs encode_with encode empty checked get insert retain remove len keys values key_set insert_all with_range
    without_range within ranges first_in missing ordered firsts due level_of noted least_from bounds number_at two_at times packet_in packet_at
    packet_of body_at tick_at data_at ack_at grant_at resend_at cutoffs_at unknown_at more_at calls_at line_text bytes_of_word tuned client_gets
    server_gets server_acked client_deadline server_deadline asked served takes pumped_once pumps start_fault call_step arrival_step turn_step
    new_world outcome event_text settings_text words_in calls_from opening_from opening loop_turn loop_turns node_run kind_of told kept node_text
    observed recording_text
one_call = refl

-- what the net is handed
pub one_call_sent : one_call_run.sent
    ≡ record {
      from = record { 0 = 0 };
      to = record { 0 = 1 };
      bytes = 1 ∷ 1 ∷ 0 ∷ 7 ∷ 0 ∷ 0 ∷ 0 ∷ 1 ∷ 0 ∷ 0 ∷ 0 ∷ 1 ∷ 0 ∷ 0 ∷ 0 ∷ 0 ∷ 0 ∷ 0 ∷ 0 ∷ 2 ∷
          0 ∷ 0 ∷ 0 ∷ 0 ∷ 0 ∷ 0 ∷ 0 ∷ 0 ∷ 0 ∷ 0 ∷ 0 ∷ 0 ∷ 0 ∷ 0 ∷ 0 ∷ 0 ∷ 104 ∷ 105 ∷ [];
    } ∷
    record {
      from = record { 0 = 1 };
      to = record { 0 = 0 };
      bytes = 1 ∷ 1 ∷ 1 ∷ 7 ∷ 0 ∷ 0 ∷ 0 ∷ 1 ∷ 0 ∷ 0 ∷ 0 ∷ 1 ∷ 0 ∷ 0 ∷ 0 ∷ 0 ∷ 0 ∷ 0 ∷ 0 ∷ 2 ∷ 0
          ∷ 0 ∷ 0 ∷ 0 ∷ 0 ∷ 0 ∷ 0 ∷ 0 ∷ 0 ∷ 0 ∷ 0 ∷ 0 ∷ 0 ∷ 0 ∷ 0 ∷ 0 ∷ 104 ∷ 105 ∷ [];
    } ∷ []
unfolding is_utf8 chars digits decode_pairs encode_with encode empty checked get insert retain remove len keys values key_set insert_all with_range
    without_range within ranges first_in missing ordered firsts due level_of noted least_from bounds number_at two_at times packet_in packet_at
    packet_of body_at tick_at data_at ack_at grant_at resend_at cutoffs_at unknown_at more_at calls_at line_text bytes_of_word tuned client_gets
    server_gets server_acked client_deadline server_deadline asked served takes pumped_once pumps start_fault call_step arrival_step turn_step
    new_world outcome event_text settings_text words_in calls_from opening_from opening loop_turn loop_turns node_run kind_of told kept node_text
    observed recording_text
one_call_sent = refl

-- its recording
pub one_call_recorded : recording_text one_call_run ≡ codes "hosts 2\nseg 1400\nwindow 10000\nunsched 10000\novercommit 4\nrate 14000\nresend 4\ntries 5\nlife 20\npages 1024\ncalls 256\nserved 1024\nrebalance 0\ngo\ncall 0 1 0 6869\nturn 0\ndeliver 0\nturn 1\nclock\ndeliver 1\nturn 0\nturn 1\nclock\nturn 0\nturn 1\n# ok 3\n"
unfolding is_utf8 chars digits decode_pairs encode_with encode empty checked get insert retain remove len keys values key_set insert_all with_range
    without_range within ranges first_in missing ordered firsts due level_of noted least_from bounds number_at two_at times packet_in packet_at
    packet_of body_at tick_at data_at ack_at grant_at resend_at cutoffs_at unknown_at more_at calls_at line_text bytes_of_word tuned client_gets
    server_gets server_acked client_deadline server_deadline asked served takes pumped_once pumps start_fault call_step arrival_step turn_step
    new_world outcome event_text settings_text words_in calls_from opening_from opening loop_turn loop_turns node_run kind_of told kept node_text
    observed recording_text
one_call_recorded = refl

-- the status
pub one_call_status : node_status one_call_run ≡ Some 0
unfolding is_utf8 chars digits decode_pairs encode_with encode empty checked get insert retain remove len keys values key_set insert_all with_range
    without_range within ranges first_in missing ordered firsts due level_of noted least_from bounds number_at two_at times packet_in packet_at
    packet_of body_at tick_at data_at ack_at grant_at resend_at cutoffs_at unknown_at more_at calls_at line_text bytes_of_word tuned client_gets
    server_gets server_acked client_deadline server_deadline asked served takes pumped_once pumps start_fault call_step arrival_step turn_step
    new_world outcome event_text settings_text words_in calls_from opening_from opening loop_turn loop_turns node_run kind_of told kept node_text
    observed recording_text
one_call_status = refl

pub one_call_recording_status : recording_status one_call_run ≡ Some 0
unfolding is_utf8 chars digits decode_pairs encode_with encode empty checked get insert retain remove len keys values key_set insert_all with_range
    without_range within ranges first_in missing ordered firsts due level_of noted least_from bounds number_at two_at times packet_in packet_at
    packet_of body_at tick_at data_at ack_at grant_at resend_at cutoffs_at unknown_at more_at calls_at line_text bytes_of_word tuned client_gets
    server_gets server_acked client_deadline server_deadline asked served takes pumped_once pumps start_fault call_step arrival_step turn_step
    new_world outcome event_text settings_text words_in calls_from opening_from opening loop_turn loop_turns node_run kind_of told kept node_text
    observed recording_text
one_call_recording_status = refl

-- a datagram that is a packet, and that no host of the node sent, stands before that of the call
abbrev pub stranger_run : Run
stranger_run = node_run (codes "local 0 1 4000\nlocal 1 1 4001\nend 2\nturns 5\ngo\nat 0 call 0 1 0 6869")
    (record { bytes = 104 ∷ 105 ∷ []; hold = 0 } ∷ []) (0 ∷ 1 ∷ 2 ∷ [])
    (nothing_for 0 ∷ comes_to 1 0 (1 ∷ 4 ∷ 0 ∷ 7 ∷ 0 ∷ 0 ∷ 0 ∷ 1 ∷ 0 ∷ 0 ∷ 0 ∷ 1 ∷ 0 ∷ 0 ∷ 0 ∷ 0 ∷ []) ∷
    comes_to 1 0 (1 ∷ 1 ∷ 0 ∷ 7 ∷ 0 ∷ 0 ∷ 0 ∷ 1 ∷ 0 ∷ 0 ∷ 0 ∷ 1 ∷ 0 ∷ 0 ∷ 0 ∷ 0 ∷ 0 ∷ 0 ∷ 0 ∷ 2 ∷ 0 ∷ 0 ∷ 0 ∷ 0 ∷ 0 ∷ 0 ∷ 0 ∷ 0 ∷ 0 ∷ 0 ∷ 0 ∷ 0
    ∷ 0 ∷ 0 ∷ 0 ∷ 0 ∷ 104 ∷ 105 ∷ []) ∷
    nothing_for 1 ∷
    comes_to 0 1 (1 ∷ 1 ∷ 1 ∷ 7 ∷ 0 ∷ 0 ∷ 0 ∷ 1 ∷ 0 ∷ 0 ∷ 0 ∷ 1 ∷ 0 ∷ 0 ∷ 0 ∷ 0 ∷ 0 ∷ 0 ∷ 0 ∷ 2 ∷ 0 ∷ 0 ∷ 0 ∷ 0 ∷ 0 ∷ 0 ∷ 0 ∷ 0 ∷ 0 ∷ 0 ∷ 0 ∷ 0
    ∷ 0 ∷ 0 ∷ 0 ∷ 0 ∷ 104 ∷ 105 ∷ []) ∷
    nothing_for 0 ∷ nothing_for 1 ∷ nothing_for 0 ∷ nothing_for 1 ∷ [])

pub stranger_recorded : recording_text stranger_run ≡ codes "hosts 2\nseg 1400\nwindow 10000\nunsched 10000\novercommit 4\nrate 14000\nresend 4\ntries 5\nlife 20\npages 1024\ncalls 256\nserved 1024\nrebalance 0\ngo\ncall 0 1 0 6869\nturn 0\nstranger 1 0 01040007000000010000000100000000\n"
unfolding is_utf8 chars digits decode_pairs encode_with encode empty checked get insert retain remove len keys values key_set insert_all with_range
    without_range within ranges first_in missing ordered firsts due level_of noted least_from bounds number_at two_at times packet_in packet_at
    packet_of body_at tick_at data_at ack_at grant_at resend_at cutoffs_at unknown_at more_at calls_at line_text bytes_of_word tuned client_gets
    server_gets server_acked client_deadline server_deadline asked served takes pumped_once pumps start_fault call_step arrival_step turn_step
    new_world outcome event_text settings_text words_in calls_from opening_from opening loop_turn loop_turns node_run kind_of told kept node_text
    observed recording_text
stranger_recorded = refl

-- its status, and what the net took up to there: the request
pub stranger_status : recording_status stranger_run ≡ Some 8
unfolding is_utf8 chars digits decode_pairs encode_with encode empty checked get insert retain remove len keys values key_set insert_all with_range
    without_range within ranges first_in missing ordered firsts due level_of noted least_from bounds number_at two_at times packet_in packet_at
    packet_of body_at tick_at data_at ack_at grant_at resend_at cutoffs_at unknown_at more_at calls_at line_text bytes_of_word tuned client_gets
    server_gets server_acked client_deadline server_deadline asked served takes pumped_once pumps start_fault call_step arrival_step turn_step
    new_world outcome event_text settings_text words_in calls_from opening_from opening loop_turn loop_turns node_run kind_of told kept node_text
    observed recording_text
stranger_status = refl

pub stranger_sent : recorded_sent stranger_run
    ≡ record {
      from = record { 0 = 0 };
      to = record { 0 = 1 };
      bytes = 1 ∷ 1 ∷ 0 ∷ 7 ∷ 0 ∷ 0 ∷ 0 ∷ 1 ∷ 0 ∷ 0 ∷ 0 ∷ 1 ∷ 0 ∷ 0 ∷ 0 ∷ 0 ∷ 0 ∷ 0 ∷ 0 ∷ 2 ∷
          0 ∷ 0 ∷ 0 ∷ 0 ∷ 0 ∷ 0 ∷ 0 ∷ 0 ∷ 0 ∷ 0 ∷ 0 ∷ 0 ∷ 0 ∷ 0 ∷ 0 ∷ 0 ∷ 104 ∷ 105 ∷ [];
    } ∷ []
unfolding is_utf8 chars digits decode_pairs encode_with encode empty checked get insert retain remove len keys values key_set insert_all with_range
    without_range within ranges first_in missing ordered firsts due level_of noted least_from bounds number_at two_at times packet_in packet_at
    packet_of body_at tick_at data_at ack_at grant_at resend_at cutoffs_at unknown_at more_at calls_at line_text bytes_of_word tuned client_gets
    server_gets server_acked client_deadline server_deadline asked served takes pumped_once pumps start_fault call_step arrival_step turn_step
    new_world outcome event_text settings_text words_in calls_from opening_from opening loop_turn loop_turns node_run kind_of told kept node_text
    observed sent_by recording_text
stranger_sent = refl

-- the node itself goes on
pub stranger_printed : node_text stranger_run ≡ codes "settings 2 1400 10000 10000 4 14000 4 5 20 1024 256 1024 0\nclock 0\ncall 0.1.0 1 0 6869\nsend 0 0>1 1 DATA c 0.1.0 7 2 0 0 0 - 6869\nrecv 1 0 01040007000000010000000100000000\nrecv 1 0 0101000700000001000000010000000000000002000000000000000000000000000000006869\nrun 1 0.1.0 0 6869 6869 0\nsend 1 1>0 1 DATA s 0.1.0 7 2 0 0 0 - 6869\nclock 1\nrecv 0 1 0101010700000001000000010000000000000002000000000000000000000000000000006869\ndone 0.1.0 6869\nclock 2\nok 3\n"
unfolding is_utf8 chars digits decode_pairs encode_with encode empty checked get insert retain remove len keys values key_set insert_all with_range
    without_range within ranges first_in missing ordered firsts due level_of noted least_from bounds number_at two_at times packet_in packet_at
    packet_of body_at tick_at data_at ack_at grant_at resend_at cutoffs_at unknown_at more_at calls_at line_text bytes_of_word tuned client_gets
    server_gets server_acked client_deadline server_deadline asked served takes pumped_once pumps start_fault call_step arrival_step turn_step
    new_world outcome event_text settings_text words_in calls_from opening_from opening loop_turn loop_turns node_run kind_of told kept node_text
    observed recording_text
stranger_printed = refl

-- the clock stands
abbrev pub stalled_run : Run
stalled_run = node_run (codes "local 0 1 4000\nlocal 1 1 4001\nend 5\nturns 3\ngo") ([]) (0 ∷ 0 ∷ 0 ∷ [])
    (nothing_for 0 ∷ nothing_for 1 ∷ nothing_for 0 ∷ nothing_for 1 ∷ nothing_for 0 ∷ nothing_for 1 ∷ [])

pub stalled : node_text stalled_run ≡ codes "settings 2 1400 10000 10000 4 14000 4 5 20 1024 256 1024 0\nclock 0\nstalled 3 0\n"
unfolding is_utf8 chars digits decode_pairs encode_with encode empty checked get insert retain remove len keys values key_set insert_all with_range
    without_range within ranges first_in missing ordered firsts due level_of noted least_from bounds number_at two_at times packet_in packet_at
    packet_of body_at tick_at data_at ack_at grant_at resend_at cutoffs_at unknown_at more_at calls_at line_text bytes_of_word tuned client_gets
    server_gets server_acked client_deadline server_deadline asked served takes pumped_once pumps start_fault call_step arrival_step turn_step
    new_world outcome event_text settings_text words_in calls_from opening_from opening loop_turn loop_turns node_run kind_of told kept node_text
    observed recording_text
stalled = refl

pub stalled_status : node_status stalled_run ≡ Some 7
unfolding is_utf8 chars digits decode_pairs encode_with encode empty checked get insert retain remove len keys values key_set insert_all with_range
    without_range within ranges first_in missing ordered firsts due level_of noted least_from bounds number_at two_at times packet_in packet_at
    packet_of body_at tick_at data_at ack_at grant_at resend_at cutoffs_at unknown_at more_at calls_at line_text bytes_of_word tuned client_gets
    server_gets server_acked client_deadline server_deadline asked served takes pumped_once pumps start_fault call_step arrival_step turn_step
    new_world outcome event_text settings_text words_in calls_from opening_from opening loop_turn loop_turns node_run kind_of told kept node_text
    observed recording_text
stalled_status = refl

pub stalled_recorded : recording_text stalled_run ≡ codes "hosts 2\nseg 1400\nwindow 10000\nunsched 10000\novercommit 4\nrate 14000\nresend 4\ntries 5\nlife 20\npages 1024\ncalls 256\nserved 1024\nrebalance 0\ngo\nturn 0\nturn 1\nturn 0\nturn 1\nturn 0\nturn 1\nstalled 3 0\n"
unfolding is_utf8 chars digits decode_pairs encode_with encode empty checked get insert retain remove len keys values key_set insert_all with_range
    without_range within ranges first_in missing ordered firsts due level_of noted least_from bounds number_at two_at times packet_in packet_at
    packet_of body_at tick_at data_at ack_at grant_at resend_at cutoffs_at unknown_at more_at calls_at line_text bytes_of_word tuned client_gets
    server_gets server_acked client_deadline server_deadline asked served takes pumped_once pumps start_fault call_step arrival_step turn_step
    new_world outcome event_text settings_text words_in calls_from opening_from opening loop_turn loop_turns node_run kind_of told kept node_text
    observed recording_text
stalled_recorded = refl

-- the server is a host elsewhere, and the client is in its incarnation 7
abbrev pub elsewhere_run : Run
elsewhere_run = node_run (codes "local 0 7 4000\nremote 1 4001\nend 1\nturns 2\ngo\nat 0 call 0 1 0 61") ([]) (5 ∷ []) (nothing_for 0 ∷ [])

pub elsewhere : node_text elsewhere_run ≡ codes "settings 2 1400 10000 10000 4 14000 4 5 20 1024 256 1024 0\nclock 5\ncall 0.7.0 1 0 61\nsend 0 0>1 7 DATA c 0.7.0 7 1 0 0 0 - 61\nok 1\n"
unfolding is_utf8 chars digits decode_pairs encode_with encode empty checked get insert retain remove len keys values key_set insert_all with_range
    without_range within ranges first_in missing ordered firsts due level_of noted least_from bounds number_at two_at times packet_in packet_at
    packet_of body_at tick_at data_at ack_at grant_at resend_at cutoffs_at unknown_at more_at calls_at line_text bytes_of_word tuned client_gets
    server_gets server_acked client_deadline server_deadline asked served takes pumped_once pumps start_fault call_step arrival_step turn_step
    new_world outcome event_text settings_text words_in calls_from opening_from opening loop_turn loop_turns node_run kind_of told kept node_text
    observed recording_text
elsewhere = refl

-- the clock gives one tick, and the receives of the first host alone are given
abbrev pub no_tick_run : Run
no_tick_run = node_run (codes "local 0 1 4000\nlocal 1 1 4001\nend 2\nturns 5\ngo") ([]) (0 ∷ []) (nothing_for 0 ∷ [])

-- the run stops without an end
pub no_receive : node_text no_tick_run ≡ codes "settings 2 1400 10000 10000 4 14000 4 5 20 1024 256 1024 0\nclock 0\n"
unfolding is_utf8 chars digits decode_pairs encode_with encode empty checked get insert retain remove len keys values key_set insert_all with_range
    without_range within ranges first_in missing ordered firsts due level_of noted least_from bounds number_at two_at times packet_in packet_at
    packet_of body_at tick_at data_at ack_at grant_at resend_at cutoffs_at unknown_at more_at calls_at line_text bytes_of_word tuned client_gets
    server_gets server_acked client_deadline server_deadline asked served takes pumped_once pumps start_fault call_step arrival_step turn_step
    new_world outcome event_text settings_text words_in calls_from opening_from opening loop_turn loop_turns node_run kind_of told kept node_text
    observed recording_text
no_receive = refl

pub no_receive_recorded : recording_text no_tick_run ≡ codes "hosts 2\nseg 1400\nwindow 10000\nunsched 10000\novercommit 4\nrate 14000\nresend 4\ntries 5\nlife 20\npages 1024\ncalls 256\nserved 1024\nrebalance 0\ngo\nturn 0\n"
unfolding is_utf8 chars digits decode_pairs encode_with encode empty checked get insert retain remove len keys values key_set insert_all with_range
    without_range within ranges first_in missing ordered firsts due level_of noted least_from bounds number_at two_at times packet_in packet_at
    packet_of body_at tick_at data_at ack_at grant_at resend_at cutoffs_at unknown_at more_at calls_at line_text bytes_of_word tuned client_gets
    server_gets server_acked client_deadline server_deadline asked served takes pumped_once pumps start_fault call_step arrival_step turn_step
    new_world outcome event_text settings_text words_in calls_from opening_from opening loop_turn loop_turns node_run kind_of told kept node_text
    observed recording_text
no_receive_recorded = refl

-- in host 0's turn the receive that comes is one for host 1
abbrev pub other_turn_run : Run
other_turn_run = node_run (codes "local 0 1 4000\nlocal 1 1 4001\nend 2\nturns 5\ngo") ([]) (0 ∷ []) (nothing_for 1 ∷ [])

-- the run stops without an end, and leaves it
pub other_turn : node_text other_turn_run ≡ codes "settings 2 1400 10000 10000 4 14000 4 5 20 1024 256 1024 0\nclock 0\n"
unfolding is_utf8 chars digits decode_pairs encode_with encode empty checked get insert retain remove len keys values key_set insert_all with_range
    without_range within ranges first_in missing ordered firsts due level_of noted least_from bounds number_at two_at times packet_in packet_at
    packet_of body_at tick_at data_at ack_at grant_at resend_at cutoffs_at unknown_at more_at calls_at line_text bytes_of_word tuned client_gets
    server_gets server_acked client_deadline server_deadline asked served takes pumped_once pumps start_fault call_step arrival_step turn_step
    new_world outcome event_text settings_text words_in calls_from opening_from opening loop_turn loop_turns node_run kind_of told kept node_text
    observed recording_text
other_turn = refl

pub other_turn_left : other_turn_run.left ≡ nothing_for 1 ∷ []
unfolding is_utf8 chars digits decode_pairs encode_with encode empty checked get insert retain remove len keys values key_set insert_all with_range
    without_range within ranges first_in missing ordered firsts due level_of noted least_from bounds number_at two_at times packet_in packet_at
    packet_of body_at tick_at data_at ack_at grant_at resend_at cutoffs_at unknown_at more_at calls_at line_text bytes_of_word tuned client_gets
    server_gets server_acked client_deadline server_deadline asked served takes pumped_once pumps start_fault call_step arrival_step turn_step
    new_world outcome event_text settings_text words_in calls_from opening_from opening loop_turn loop_turns node_run kind_of told kept node_text
    observed recording_text
other_turn_left = refl

-- a datagram of no bytes is no packet
abbrev pub junk_run : Run
junk_run = node_run (codes "local 0 1 4000\nlocal 1 1 4001\nend 2\nturns 5\ngo") ([]) (7 ∷ [])
    (comes_to 0 1 [] ∷ nothing_for 0 ∷ nothing_for 1 ∷ [])

pub junk : node_text junk_run ≡ codes "settings 2 1400 10000 10000 4 14000 4 5 20 1024 256 1024 0\nclock 7\nrecv 0 1 -\njunk 0\nok 1\n"
unfolding is_utf8 chars digits decode_pairs encode_with encode empty checked get insert retain remove len keys values key_set insert_all with_range
    without_range within ranges first_in missing ordered firsts due level_of noted least_from bounds number_at two_at times packet_in packet_at
    packet_of body_at tick_at data_at ack_at grant_at resend_at cutoffs_at unknown_at more_at calls_at line_text bytes_of_word tuned client_gets
    server_gets server_acked client_deadline server_deadline asked served takes pumped_once pumps start_fault call_step arrival_step turn_step
    new_world outcome event_text settings_text words_in calls_from opening_from opening loop_turn loop_turns node_run kind_of told kept node_text
    observed recording_text
junk = refl

-- the clock stands at 7 at first
pub junk_recorded : recording_text junk_run ≡ codes "hosts 2\nseg 1400\nwindow 10000\nunsched 10000\novercommit 4\nrate 14000\nresend 4\ntries 5\nlife 20\npages 1024\ncalls 256\nserved 1024\nrebalance 0\ngo\nclock\nclock\nclock\nclock\nclock\nclock\nclock\ninject 0 -\nturn 0\nturn 1\n# ok 1\n"
unfolding is_utf8 chars digits decode_pairs encode_with encode empty checked get insert retain remove len keys values key_set insert_all with_range
    without_range within ranges first_in missing ordered firsts due level_of noted least_from bounds number_at two_at times packet_in packet_at
    packet_of body_at tick_at data_at ack_at grant_at resend_at cutoffs_at unknown_at more_at calls_at line_text bytes_of_word tuned client_gets
    server_gets server_acked client_deadline server_deadline asked served takes pumped_once pumps start_fault call_step arrival_step turn_step
    new_world outcome event_text settings_text words_in calls_from opening_from opening loop_turn loop_turns node_run kind_of told kept node_text
    observed recording_text
junk_recorded = refl
