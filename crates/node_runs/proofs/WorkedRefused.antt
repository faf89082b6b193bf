-- Node scripts that are refused: what is printed of each.
use Rattle.std.proofs.Common.{◌≡◌, [], ◌∷◌, ◌++◌, refl}
use Rattle.std.specs.Prelude.{codes}
use Rattle.core.specs.Str.{is_utf8, chars}
use Rattle.core.specs.Fmt.{digits}
use Rattle.hex.specs.Hex.{decode_pairs, encode_with}
use lib.Utf8.{encode}
use Rattle.plain_sets.specs.Maps.{empty, checked, get, insert, retain, remove, len, keys, values, key_set, insert_all}
use Rattle.plain_sets.specs.Numbers.{with_range, without_range, within, ranges, first_in, missing}
use Rattle.plain_sets.specs.Ordered.{ordered, firsts}
use Rattle.homa_plain.specs.Timers.{due}
use Rattle.homa_plain.specs.Cutoffs.{level_of, noted, least_from, bounds}
use Rattle.homa_plain.specs.Bytes.{number_at, two_at, times}
use Rattle.homa_plain.specs.Wire.{packet_in, packet_at, packet_of, body_at, tick_at, data_at, ack_at, grant_at, resend_at, cutoffs_at, unknown_at}
use Rattle.homa_plain.specs.Wire.{more_at, calls_at}
use Rattle.homa_plain.specs.Text.{line_text}
use Rattle.homa_plain.specs.Host.{tuned}
use Rattle.homa_plain.specs.AtClient.{client_gets}
use Rattle.homa_plain.specs.AtServer.{server_gets}
use Rattle.homa_plain.specs.Tombstones.{server_acked}
use Rattle.homa_plain.specs.Timers.{client_deadline, server_deadline}
use Rattle.homa_plain.specs.Steps.{asked, served, takes, start_fault, call_step, arrival_step, turn_step}
use Rattle.homa_plain.specs.SentNext.{pumped_once, pumps}
use Rattle.homa_plain.specs.World.{new_world, outcome}
use Rattle.homa_plain.specs.Script.{bytes_of_word, event_text, settings_text}
use Rattle.node_runs.specs.Script.{words_in, calls_from, opening_from, opening}
use Rattle.node_runs.specs.Course.{loop_turn, loop_turns, node_run}
use Rattle.node_runs.specs.Recorder.{kind_of, told, kept}
use Rattle.node_runs.specs.Observed.{observed}
use Rattle.node_runs.proofs.WorkedReceives.{nothing_for}
use Rattle.node_runs.specs.Texts.{node_text, recording_text}
use Rattle.homa_plain.specs.declared.fault.LineFault.TheVariants.{Script as ByWords}
use Rattle.homa_plain.specs.declared.fault.ScriptFault.TheVariants.{InputTooLong}
use Rattle.node_runs.specs.Script.{Unopened}

-- a host that isn't named
pub host_is_missing : node_text (node_run (codes "local 0 1 4000\nend 2\nturns 5\ngo\nat 0 call 0 1 0 6869") ([]) ([]) ([])) ≡ codes "refused 4 Missing\n"
unfolding is_utf8 chars digits decode_pairs encode_with encode empty checked get insert retain remove len keys values key_set insert_all with_range
    without_range within ranges first_in missing ordered firsts due level_of noted least_from bounds number_at two_at times packet_in packet_at
    packet_of body_at tick_at data_at ack_at grant_at resend_at cutoffs_at unknown_at more_at calls_at line_text bytes_of_word tuned client_gets
    server_gets server_acked client_deadline server_deadline asked served takes pumped_once pumps start_fault call_step arrival_step turn_step
    new_world outcome event_text settings_text words_in calls_from opening_from opening loop_turn loop_turns node_run kind_of told kept node_text
    observed recording_text
host_is_missing = refl

-- a host that is named twice
pub host_named_twice : node_text (node_run (codes "local 0 1 4000\nlocal 1 1 4001\nremote 1 4002\nend 2\nturns 5\ngo") ([]) ([]) ([]))
    ≡ codes "refused 6 Missing\n"
unfolding is_utf8 chars digits decode_pairs encode_with encode empty checked get insert retain remove len keys values key_set insert_all with_range
    without_range within ranges first_in missing ordered firsts due level_of noted least_from bounds number_at two_at times packet_in packet_at
    packet_of body_at tick_at data_at ack_at grant_at resend_at cutoffs_at unknown_at more_at calls_at line_text bytes_of_word tuned client_gets
    server_gets server_acked client_deadline server_deadline asked served takes pumped_once pumps start_fault call_step arrival_step turn_step
    new_world outcome event_text settings_text words_in calls_from opening_from opening loop_turn loop_turns node_run kind_of told kept node_text
    observed recording_text
host_named_twice = refl

-- a host that isn't one of the settings'
pub another_host : node_text (node_run (codes "local 0 1 4000\nlocal 1 1 4001\nremote 2 4002\nend 2\nturns 5\ngo") ([]) ([]) ([])) ≡ codes "refused 6 Missing\n"
unfolding is_utf8 chars digits decode_pairs encode_with encode empty checked get insert retain remove len keys values key_set insert_all with_range
    without_range within ranges first_in missing ordered firsts due level_of noted least_from bounds number_at two_at times packet_in packet_at
    packet_of body_at tick_at data_at ack_at grant_at resend_at cutoffs_at unknown_at more_at calls_at line_text bytes_of_word tuned client_gets
    server_gets server_acked client_deadline server_deadline asked served takes pumped_once pumps start_fault call_step arrival_step turn_step
    new_world outcome event_text settings_text words_in calls_from opening_from opening loop_turn loop_turns node_run kind_of told kept node_text
    observed recording_text
another_host = refl

-- no end
pub end_is_missing : node_text (node_run (codes "local 0 1 4000\nlocal 1 1 4001\nturns 5\ngo") ([]) ([]) ([])) ≡ codes "refused 4 Missing\n"
unfolding is_utf8 chars digits decode_pairs encode_with encode empty checked get insert retain remove len keys values key_set insert_all with_range
    without_range within ranges first_in missing ordered firsts due level_of noted least_from bounds number_at two_at times packet_in packet_at
    packet_of body_at tick_at data_at ack_at grant_at resend_at cutoffs_at unknown_at more_at calls_at line_text bytes_of_word tuned client_gets
    server_gets server_acked client_deadline server_deadline asked served takes pumped_once pumps start_fault call_step arrival_step turn_step
    new_world outcome event_text settings_text words_in calls_from opening_from opening loop_turn loop_turns node_run kind_of told kept node_text
    observed recording_text
end_is_missing = refl

-- no number of loop turns
pub turns_are_missing : node_text (node_run (codes "local 0 1 4000\nlocal 1 1 4001\nend 5\ngo") ([]) ([]) ([])) ≡ codes "refused 4 Missing\n"
unfolding is_utf8 chars digits decode_pairs encode_with encode empty checked get insert retain remove len keys values key_set insert_all with_range
    without_range within ranges first_in missing ordered firsts due level_of noted least_from bounds number_at two_at times packet_in packet_at
    packet_of body_at tick_at data_at ack_at grant_at resend_at cutoffs_at unknown_at more_at calls_at line_text bytes_of_word tuned client_gets
    server_gets server_acked client_deadline server_deadline asked served takes pumped_once pumps start_fault call_step arrival_step turn_step
    new_world outcome event_text settings_text words_in calls_from opening_from opening loop_turn loop_turns node_run kind_of told kept node_text
    observed recording_text
turns_are_missing = refl

-- a line without its last operand
pub operand_is_missing : node_text (node_run (codes "local 0 1\n") ([]) ([]) ([])) ≡ codes "refused 1 Missing\n"
unfolding is_utf8 chars digits decode_pairs encode_with encode empty checked get insert retain remove len keys values key_set insert_all with_range
    without_range within ranges first_in missing ordered firsts due level_of noted least_from bounds number_at two_at times packet_in packet_at
    packet_of body_at tick_at data_at ack_at grant_at resend_at cutoffs_at unknown_at more_at calls_at line_text bytes_of_word tuned client_gets
    server_gets server_acked client_deadline server_deadline asked served takes pumped_once pumps start_fault call_step arrival_step turn_step
    new_world outcome event_text settings_text words_in calls_from opening_from opening loop_turn loop_turns node_run kind_of told kept node_text
    observed recording_text
operand_is_missing = refl

-- an empty script
pub no_lines : node_text (node_run ([]) ([]) ([]) ([])) ≡ codes "refused 1 NoGo\n"
unfolding is_utf8 chars digits decode_pairs encode_with encode empty checked get insert retain remove len keys values key_set insert_all with_range
    without_range within ranges first_in missing ordered firsts due level_of noted least_from bounds number_at two_at times packet_in packet_at
    packet_of body_at tick_at data_at ack_at grant_at resend_at cutoffs_at unknown_at more_at calls_at line_text bytes_of_word tuned client_gets
    server_gets server_acked client_deadline server_deadline asked served takes pumped_once pumps start_fault call_step arrival_step turn_step
    new_world outcome event_text settings_text words_in calls_from opening_from opening loop_turn loop_turns node_run kind_of told kept node_text
    observed recording_text
no_lines = refl

-- no `go`
pub no_go : node_text (node_run (codes "local 0 1 4000\nlocal 1 1 4001\nend 9\nturns 9\n") ([]) ([]) ([])) ≡ codes "refused 5 NoGo\n"
unfolding is_utf8 chars digits decode_pairs encode_with encode empty checked get insert retain remove len keys values key_set insert_all with_range
    without_range within ranges first_in missing ordered firsts due level_of noted least_from bounds number_at two_at times packet_in packet_at
    packet_of body_at tick_at data_at ack_at grant_at resend_at cutoffs_at unknown_at more_at calls_at line_text bytes_of_word tuned client_gets
    server_gets server_acked client_deadline server_deadline asked served takes pumped_once pumps start_fault call_step arrival_step turn_step
    new_world outcome event_text settings_text words_in calls_from opening_from opening loop_turn loop_turns node_run kind_of told kept node_text
    observed recording_text
no_go = refl

-- a call before `go`
pub at_before_go : node_text (node_run (codes "at x") ([]) ([]) ([])) ≡ codes "refused 1 NoGo\n"
unfolding is_utf8 chars digits decode_pairs encode_with encode empty checked get insert retain remove len keys values key_set insert_all with_range
    without_range within ranges first_in missing ordered firsts due level_of noted least_from bounds number_at two_at times packet_in packet_at
    packet_of body_at tick_at data_at ack_at grant_at resend_at cutoffs_at unknown_at more_at calls_at line_text bytes_of_word tuned client_gets
    server_gets server_acked client_deadline server_deadline asked served takes pumped_once pumps start_fault call_step arrival_step turn_step
    new_world outcome event_text settings_text words_in calls_from opening_from opening loop_turn loop_turns node_run kind_of told kept node_text
    observed recording_text
at_before_go = refl

-- a word of schedules is none here
pub word_of_schedules : node_text (node_run (codes "# of a schedule\nturn 0") ([]) ([]) ([])) ≡ codes "refused 2 UnknownWord\n"
unfolding is_utf8 chars digits decode_pairs encode_with encode empty checked get insert retain remove len keys values key_set insert_all with_range
    without_range within ranges first_in missing ordered firsts due level_of noted least_from bounds number_at two_at times packet_in packet_at
    packet_of body_at tick_at data_at ack_at grant_at resend_at cutoffs_at unknown_at more_at calls_at line_text bytes_of_word tuned client_gets
    server_gets server_acked client_deadline server_deadline asked served takes pumped_once pumps start_fault call_step arrival_step turn_step
    new_world outcome event_text settings_text words_in calls_from opening_from opening loop_turn loop_turns node_run kind_of told kept node_text
    observed recording_text
word_of_schedules = refl

-- settings that aren't valid, which comes before what is missing
pub setting : node_text (node_run (codes "window 8\ngo") ([]) ([]) ([])) ≡ codes "refused 2 Setting UnschedOverWindow\n"
unfolding is_utf8 chars digits decode_pairs encode_with encode empty checked get insert retain remove len keys values key_set insert_all with_range
    without_range within ranges first_in missing ordered firsts due level_of noted least_from bounds number_at two_at times packet_in packet_at
    packet_of body_at tick_at data_at ack_at grant_at resend_at cutoffs_at unknown_at more_at calls_at line_text bytes_of_word tuned client_gets
    server_gets server_acked client_deadline server_deadline asked served takes pumped_once pumps start_fault call_step arrival_step turn_step
    new_world outcome event_text settings_text words_in calls_from opening_from opening loop_turn loop_turns node_run kind_of told kept node_text
    observed recording_text
setting = refl

-- a word behind `go`
pub extra_at_go : node_text (node_run (codes "window 8\ngo 1") ([]) ([]) ([])) ≡ codes "refused 2 Extra\n"
unfolding is_utf8 chars digits decode_pairs encode_with encode empty checked get insert retain remove len keys values key_set insert_all with_range
    without_range within ranges first_in missing ordered firsts due level_of noted least_from bounds number_at two_at times packet_in packet_at
    packet_of body_at tick_at data_at ack_at grant_at resend_at cutoffs_at unknown_at more_at calls_at line_text bytes_of_word tuned client_gets
    server_gets server_acked client_deadline server_deadline asked served takes pumped_once pumps start_fault call_step arrival_step turn_step
    new_world outcome event_text settings_text words_in calls_from opening_from opening loop_turn loop_turns node_run kind_of told kept node_text
    observed recording_text
extra_at_go = refl

-- incarnation 0
pub no_incarnation : node_text (node_run (codes "local 0 0 4000") ([]) ([]) ([])) ≡ codes "refused 1 BadNumber\n"
unfolding is_utf8 chars digits decode_pairs encode_with encode empty checked get insert retain remove len keys values key_set insert_all with_range
    without_range within ranges first_in missing ordered firsts due level_of noted least_from bounds number_at two_at times packet_in packet_at
    packet_of body_at tick_at data_at ack_at grant_at resend_at cutoffs_at unknown_at more_at calls_at line_text bytes_of_word tuned client_gets
    server_gets server_acked client_deadline server_deadline asked served takes pumped_once pumps start_fault call_step arrival_step turn_step
    new_world outcome event_text settings_text words_in calls_from opening_from opening loop_turn loop_turns node_run kind_of told kept node_text
    observed recording_text
no_incarnation = refl

-- port 0
pub no_port : node_text (node_run (codes "remote 0 0") ([]) ([]) ([])) ≡ codes "refused 1 BadNumber\n"
unfolding is_utf8 chars digits decode_pairs encode_with encode empty checked get insert retain remove len keys values key_set insert_all with_range
    without_range within ranges first_in missing ordered firsts due level_of noted least_from bounds number_at two_at times packet_in packet_at
    packet_of body_at tick_at data_at ack_at grant_at resend_at cutoffs_at unknown_at more_at calls_at line_text bytes_of_word tuned client_gets
    server_gets server_acked client_deadline server_deadline asked served takes pumped_once pumps start_fault call_step arrival_step turn_step
    new_world outcome event_text settings_text words_in calls_from opening_from opening loop_turn loop_turns node_run kind_of told kept node_text
    observed recording_text
no_port = refl

-- a port above 65,535
pub high_port : node_text (node_run (codes "local 0 1 65536") ([]) ([]) ([])) ≡ codes "refused 1 BadNumber\n"
unfolding is_utf8 chars digits decode_pairs encode_with encode empty checked get insert retain remove len keys values key_set insert_all with_range
    without_range within ranges first_in missing ordered firsts due level_of noted least_from bounds number_at two_at times packet_in packet_at
    packet_of body_at tick_at data_at ack_at grant_at resend_at cutoffs_at unknown_at more_at calls_at line_text bytes_of_word tuned client_gets
    server_gets server_acked client_deadline server_deadline asked served takes pumped_once pumps start_fault call_step arrival_step turn_step
    new_world outcome event_text settings_text words_in calls_from opening_from opening loop_turn loop_turns node_run kind_of told kept node_text
    observed recording_text
high_port = refl

-- an end at tick 0
pub no_end_tick : node_text (node_run (codes "end 0") ([]) ([]) ([])) ≡ codes "refused 1 BadNumber\n"
unfolding is_utf8 chars digits decode_pairs encode_with encode empty checked get insert retain remove len keys values key_set insert_all with_range
    without_range within ranges first_in missing ordered firsts due level_of noted least_from bounds number_at two_at times packet_in packet_at
    packet_of body_at tick_at data_at ack_at grant_at resend_at cutoffs_at unknown_at more_at calls_at line_text bytes_of_word tuned client_gets
    server_gets server_acked client_deadline server_deadline asked served takes pumped_once pumps start_fault call_step arrival_step turn_step
    new_world outcome event_text settings_text words_in calls_from opening_from opening loop_turn loop_turns node_run kind_of told kept node_text
    observed recording_text
no_end_tick = refl

-- more than 1,000,000,000 loop turns
pub too_many_turns : node_text (node_run (codes "turns 1000000001") ([]) ([]) ([])) ≡ codes "refused 1 BadNumber\n"
unfolding is_utf8 chars digits decode_pairs encode_with encode empty checked get insert retain remove len keys values key_set insert_all with_range
    without_range within ranges first_in missing ordered firsts due level_of noted least_from bounds number_at two_at times packet_in packet_at
    packet_of body_at tick_at data_at ack_at grant_at resend_at cutoffs_at unknown_at more_at calls_at line_text bytes_of_word tuned client_gets
    server_gets server_acked client_deadline server_deadline asked served takes pumped_once pumps start_fault call_step arrival_step turn_step
    new_world outcome event_text settings_text words_in calls_from opening_from opening loop_turn loop_turns node_run kind_of told kept node_text
    observed recording_text
too_many_turns = refl

-- a line that is no text
pub not_utf8 : node_text (node_run (codes "end 2" ++ (255 ∷ []) ++ codes "\ngo") ([]) ([]) ([])) ≡ codes "refused 1 NotUtf8\n"
unfolding is_utf8 chars digits decode_pairs encode_with encode empty checked get insert retain remove len keys values key_set insert_all with_range
    without_range within ranges first_in missing ordered firsts due level_of noted least_from bounds number_at two_at times packet_in packet_at
    packet_of body_at tick_at data_at ack_at grant_at resend_at cutoffs_at unknown_at more_at calls_at line_text bytes_of_word tuned client_gets
    server_gets server_acked client_deadline server_deadline asked served takes pumped_once pumps start_fault call_step arrival_step turn_step
    new_world outcome event_text settings_text words_in calls_from opening_from opening loop_turn loop_turns node_run kind_of told kept node_text
    observed recording_text
not_utf8 = refl

-- a setting behind `go`
pub setting_behind_go : node_text (node_run (codes "local 0 1 4000\nlocal 1 1 4001\nend 9\nturns 9\ngo\nseg 4") ([]) (0 ∷ []) ([]))
    ≡ codes "settings 2 1400 10000 10000 4 14000 4 5 20 1024 256 1024 0\nclock 0\nrefused 6 UnknownWord\n"
unfolding is_utf8 chars digits decode_pairs encode_with encode empty checked get insert retain remove len keys values key_set insert_all with_range
    without_range within ranges first_in missing ordered firsts due level_of noted least_from bounds number_at two_at times packet_in packet_at
    packet_of body_at tick_at data_at ack_at grant_at resend_at cutoffs_at unknown_at more_at calls_at line_text bytes_of_word tuned client_gets
    server_gets server_acked client_deadline server_deadline asked served takes pumped_once pumps start_fault call_step arrival_step turn_step
    new_world outcome event_text settings_text words_in calls_from opening_from opening loop_turn loop_turns node_run kind_of told kept node_text
    observed recording_text
setting_behind_go = refl

-- a call without its tick
pub call_alone : node_text (node_run (codes "local 0 1 4000\nlocal 1 1 4001\nend 9\nturns 9\ngo\ncall 0 1 0 61") ([]) (0 ∷ []) ([]))
    ≡ codes "settings 2 1400 10000 10000 4 14000 4 5 20 1024 256 1024 0\nclock 0\nrefused 6 UnknownWord\n"
unfolding is_utf8 chars digits decode_pairs encode_with encode empty checked get insert retain remove len keys values key_set insert_all with_range
    without_range within ranges first_in missing ordered firsts due level_of noted least_from bounds number_at two_at times packet_in packet_at
    packet_of body_at tick_at data_at ack_at grant_at resend_at cutoffs_at unknown_at more_at calls_at line_text bytes_of_word tuned client_gets
    server_gets server_acked client_deadline server_deadline asked served takes pumped_once pumps start_fault call_step arrival_step turn_step
    new_world outcome event_text settings_text words_in calls_from opening_from opening loop_turn loop_turns node_run kind_of told kept node_text
    observed recording_text
call_alone = refl

-- another word in the place of `call`
pub another_word : node_text (node_run (codes "local 0 1 4000\nlocal 1 1 4001\nend 9\nturns 9\ngo\nat 0 turn 0") ([]) (0 ∷ []) ([]))
    ≡ codes "settings 2 1400 10000 10000 4 14000 4 5 20 1024 256 1024 0\nclock 0\nrefused 6 UnknownWord\n"
unfolding is_utf8 chars digits decode_pairs encode_with encode empty checked get insert retain remove len keys values key_set insert_all with_range
    without_range within ranges first_in missing ordered firsts due level_of noted least_from bounds number_at two_at times packet_in packet_at
    packet_of body_at tick_at data_at ack_at grant_at resend_at cutoffs_at unknown_at more_at calls_at line_text bytes_of_word tuned client_gets
    server_gets server_acked client_deadline server_deadline asked served takes pumped_once pumps start_fault call_step arrival_step turn_step
    new_world outcome event_text settings_text words_in calls_from opening_from opening loop_turn loop_turns node_run kind_of told kept node_text
    observed recording_text
another_word = refl

-- a call without a tick
pub no_tick : node_text (node_run (codes "local 0 1 4000\nlocal 1 1 4001\nend 9\nturns 9\ngo\nat") ([]) (0 ∷ []) ([]))
    ≡ codes "settings 2 1400 10000 10000 4 14000 4 5 20 1024 256 1024 0\nclock 0\nrefused 6 Missing\n"
unfolding is_utf8 chars digits decode_pairs encode_with encode empty checked get insert retain remove len keys values key_set insert_all with_range
    without_range within ranges first_in missing ordered firsts due level_of noted least_from bounds number_at two_at times packet_in packet_at
    packet_of body_at tick_at data_at ack_at grant_at resend_at cutoffs_at unknown_at more_at calls_at line_text bytes_of_word tuned client_gets
    server_gets server_acked client_deadline server_deadline asked served takes pumped_once pumps start_fault call_step arrival_step turn_step
    new_world outcome event_text settings_text words_in calls_from opening_from opening loop_turn loop_turns node_run kind_of told kept node_text
    observed recording_text
no_tick = refl

-- a tick alone
pub no_word : node_text (node_run (codes "local 0 1 4000\nlocal 1 1 4001\nend 9\nturns 9\ngo\nat 0") ([]) (0 ∷ []) ([]))
    ≡ codes "settings 2 1400 10000 10000 4 14000 4 5 20 1024 256 1024 0\nclock 0\nrefused 6 Missing\n"
unfolding is_utf8 chars digits decode_pairs encode_with encode empty checked get insert retain remove len keys values key_set insert_all with_range
    without_range within ranges first_in missing ordered firsts due level_of noted least_from bounds number_at two_at times packet_in packet_at
    packet_of body_at tick_at data_at ack_at grant_at resend_at cutoffs_at unknown_at more_at calls_at line_text bytes_of_word tuned client_gets
    server_gets server_acked client_deadline server_deadline asked served takes pumped_once pumps start_fault call_step arrival_step turn_step
    new_world outcome event_text settings_text words_in calls_from opening_from opening loop_turn loop_turns node_run kind_of told kept node_text
    observed recording_text
no_word = refl

-- a tick that isn't before the end
pub at_the_end : node_text (node_run (codes "local 0 1 4000\nlocal 1 1 4001\nend 9\nturns 9\ngo\nat 9 turn") ([]) (0 ∷ []) ([]))
    ≡ codes "settings 2 1400 10000 10000 4 14000 4 5 20 1024 256 1024 0\nclock 0\nrefused 6 BadNumber\n"
unfolding is_utf8 chars digits decode_pairs encode_with encode empty checked get insert retain remove len keys values key_set insert_all with_range
    without_range within ranges first_in missing ordered firsts due level_of noted least_from bounds number_at two_at times packet_in packet_at
    packet_of body_at tick_at data_at ack_at grant_at resend_at cutoffs_at unknown_at more_at calls_at line_text bytes_of_word tuned client_gets
    server_gets server_acked client_deadline server_deadline asked served takes pumped_once pumps start_fault call_step arrival_step turn_step
    new_world outcome event_text settings_text words_in calls_from opening_from opening loop_turn loop_turns node_run kind_of told kept node_text
    observed recording_text
at_the_end = refl

-- half a byte; the line is read when the one before it was started
pub half_a_byte : node_text (node_run (codes "local 0 1 4000\nlocal 1 1 4001\nend 9\nturns 9\ngo\nat 0 call 0 1 0 61\n\nat 0 call 0 1 0 6") ([]) (0 ∷ []) ([])) ≡ codes "settings 2 1400 10000 10000 4 14000 4 5 20 1024 256 1024 0\nclock 0\ncall 0.1.0 1 0 61\nsend 0 0>1 1 DATA c 0.1.0 7 1 0 0 0 - 61\nrefused 8 BadHex\n"
unfolding is_utf8 chars digits decode_pairs encode_with encode empty checked get insert retain remove len keys values key_set insert_all with_range
    without_range within ranges first_in missing ordered firsts due level_of noted least_from bounds number_at two_at times packet_in packet_at
    packet_of body_at tick_at data_at ack_at grant_at resend_at cutoffs_at unknown_at more_at calls_at line_text bytes_of_word tuned client_gets
    server_gets server_acked client_deadline server_deadline asked served takes pumped_once pumps start_fault call_step arrival_step turn_step
    new_world outcome event_text settings_text words_in calls_from opening_from opening loop_turn loop_turns node_run kind_of told kept node_text
    observed recording_text
half_a_byte = refl

-- a tick before that of the line before, which is read when that one was started
pub before_the_last : node_text (node_run (codes "local 0 1 4000\nlocal 1 1 4001\nend 9\nturns 9\ngo\nat 1 call 0 1 0 61\nat 0 call 0 1 0 61") ([]) (0 ∷ 1 ∷ []) (nothing_for 0 ∷ nothing_for 1 ∷ [])) ≡ codes "settings 2 1400 10000 10000 4 14000 4 5 20 1024 256 1024 0\nclock 0\nclock 1\ncall 0.1.0 1 0 61\nsend 0 0>1 1 DATA c 0.1.0 7 1 0 0 0 - 61\nrefused 7 BadNumber\n"
unfolding is_utf8 chars digits decode_pairs encode_with encode empty checked get insert retain remove len keys values key_set insert_all with_range
    without_range within ranges first_in missing ordered firsts due level_of noted least_from bounds number_at two_at times packet_in packet_at
    packet_of body_at tick_at data_at ack_at grant_at resend_at cutoffs_at unknown_at more_at calls_at line_text bytes_of_word tuned client_gets
    server_gets server_acked client_deadline server_deadline asked served takes pumped_once pumps start_fault call_step arrival_step turn_step
    new_world outcome event_text settings_text words_in calls_from opening_from opening loop_turn loop_turns node_run kind_of told kept node_text
    observed recording_text
before_the_last = refl

-- a word too many, which comes before the hosts
pub extra : node_text (node_run (codes "local 0 1 4000\nlocal 1 1 4001\nend 9\nturns 9\ngo\nat 0 call 5 5 0 61 0") ([]) (0 ∷ []) ([]))
    ≡ codes "settings 2 1400 10000 10000 4 14000 4 5 20 1024 256 1024 0\nclock 0\nrefused 6 Extra\n"
unfolding is_utf8 chars digits decode_pairs encode_with encode empty checked get insert retain remove len keys values key_set insert_all with_range
    without_range within ranges first_in missing ordered firsts due level_of noted least_from bounds number_at two_at times packet_in packet_at
    packet_of body_at tick_at data_at ack_at grant_at resend_at cutoffs_at unknown_at more_at calls_at line_text bytes_of_word tuned client_gets
    server_gets server_acked client_deadline server_deadline asked served takes pumped_once pumps start_fault call_step arrival_step turn_step
    new_world outcome event_text settings_text words_in calls_from opening_from opening loop_turn loop_turns node_run kind_of told kept node_text
    observed recording_text
extra = refl

-- a server that isn't one of the settings' hosts
pub no_server : node_text (node_run (codes "local 0 1 4000\nlocal 1 1 4001\nend 9\nturns 9\ngo\nat 0 call 0 2 0 61") ([]) (0 ∷ []) ([]))
    ≡ codes "settings 2 1400 10000 10000 4 14000 4 5 20 1024 256 1024 0\nclock 0\nrefused 6 NoSuchHost\n"
unfolding is_utf8 chars digits decode_pairs encode_with encode empty checked get insert retain remove len keys values key_set insert_all with_range
    without_range within ranges first_in missing ordered firsts due level_of noted least_from bounds number_at two_at times packet_in packet_at
    packet_of body_at tick_at data_at ack_at grant_at resend_at cutoffs_at unknown_at more_at calls_at line_text bytes_of_word tuned client_gets
    server_gets server_acked client_deadline server_deadline asked served takes pumped_once pumps start_fault call_step arrival_step turn_step
    new_world outcome event_text settings_text words_in calls_from opening_from opening loop_turn loop_turns node_run kind_of told kept node_text
    observed recording_text
no_server = refl

-- a client elsewhere
pub remote_client : node_text (node_run (codes "local 0 1 4000\nremote 1 4001\nend 9\nturns 9\ngo\nat 0 call 1 0 0 61") ([]) (0 ∷ []) ([]))
    ≡ codes "settings 2 1400 10000 10000 4 14000 4 5 20 1024 256 1024 0\nclock 0\nrefused 6 NoSuchHost\n"
unfolding is_utf8 chars digits decode_pairs encode_with encode empty checked get insert retain remove len keys values key_set insert_all with_range
    without_range within ranges first_in missing ordered firsts due level_of noted least_from bounds number_at two_at times packet_in packet_at
    packet_of body_at tick_at data_at ack_at grant_at resend_at cutoffs_at unknown_at more_at calls_at line_text bytes_of_word tuned client_gets
    server_gets server_acked client_deadline server_deadline asked served takes pumped_once pumps start_fault call_step arrival_step turn_step
    new_world outcome event_text settings_text words_in calls_from opening_from opening loop_turn loop_turns node_run kind_of told kept node_text
    observed recording_text
remote_client = refl

-- a request of no bytes
pub empty_request : node_text (node_run (codes "local 0 1 4000\nlocal 1 1 4001\nend 9\nturns 9\ngo\nat 0 call 0 1 0 -") ([]) (0 ∷ []) ([]))
    ≡ codes "settings 2 1400 10000 10000 4 14000 4 5 20 1024 256 1024 0\nclock 0\nrefused 6 Start Empty\n"
unfolding is_utf8 chars digits decode_pairs encode_with encode empty checked get insert retain remove len keys values key_set insert_all with_range
    without_range within ranges first_in missing ordered firsts due level_of noted least_from bounds number_at two_at times packet_in packet_at
    packet_of body_at tick_at data_at ack_at grant_at resend_at cutoffs_at unknown_at more_at calls_at line_text bytes_of_word tuned client_gets
    server_gets server_acked client_deadline server_deadline asked served takes pumped_once pumps start_fault call_step arrival_step turn_step
    new_world outcome event_text settings_text words_in calls_from opening_from opening loop_turn loop_turns node_run kind_of told kept node_text
    observed recording_text
empty_request = refl

-- a call of the caller
pub self_call : node_text (node_run (codes "local 0 1 4000\nlocal 1 1 4001\nend 9\nturns 9\ngo\nat 0 call 0 0 0 61") ([]) (0 ∷ []) ([]))
    ≡ codes "settings 2 1400 10000 10000 4 14000 4 5 20 1024 256 1024 0\nclock 0\nrefused 6 Start SelfCall\n"
unfolding is_utf8 chars digits decode_pairs encode_with encode empty checked get insert retain remove len keys values key_set insert_all with_range
    without_range within ranges first_in missing ordered firsts due level_of noted least_from bounds number_at two_at times packet_in packet_at
    packet_of body_at tick_at data_at ack_at grant_at resend_at cutoffs_at unknown_at more_at calls_at line_text bytes_of_word tuned client_gets
    server_gets server_acked client_deadline server_deadline asked served takes pumped_once pumps start_fault call_step arrival_step turn_step
    new_world outcome event_text settings_text words_in calls_from opening_from opening loop_turn loop_turns node_run kind_of told kept node_text
    observed recording_text
self_call = refl

-- one live call too many, which is found when it is to start
pub too_many_calls : node_text (node_run (codes "calls 1\nlocal 0 1 4000\nlocal 1 1 4001\nend 9\nturns 9\ngo\nat 0 call 0 1 0 61\nat 1 call 0 1 0 61") ([]) (0 ∷ 1 ∷ []) (nothing_for 0 ∷ nothing_for 1 ∷ [])) ≡ codes "settings 2 1400 10000 10000 4 14000 4 5 20 1024 1 1024 0\nclock 0\ncall 0.1.0 1 0 61\nsend 0 0>1 1 DATA c 0.1.0 7 1 0 0 0 - 61\nclock 1\nrefused 8 Start CallsFull\n"
unfolding is_utf8 chars digits decode_pairs encode_with encode empty checked get insert retain remove len keys values key_set insert_all with_range
    without_range within ranges first_in missing ordered firsts due level_of noted least_from bounds number_at two_at times packet_in packet_at
    packet_of body_at tick_at data_at ack_at grant_at resend_at cutoffs_at unknown_at more_at calls_at line_text bytes_of_word tuned client_gets
    server_gets server_acked client_deadline server_deadline asked served takes pumped_once pumps start_fault call_step arrival_step turn_step
    new_world outcome event_text settings_text words_in calls_from opening_from opening loop_turn loop_turns node_run kind_of told kept node_text
    observed recording_text
too_many_calls = refl

-- an input that is longer than it may be, in the line in which that is found
pub input_too_long : opening 20 (codes "end 2\nturns 5\nlocal 0 1 4000\n") ≡ Unopened (record { line = 3; fault = ByWords InputTooLong })
unfolding is_utf8 chars digits decode_pairs encode_with encode empty checked get insert retain remove len keys values key_set insert_all with_range
    without_range within ranges first_in missing ordered firsts due level_of noted least_from bounds number_at two_at times packet_in packet_at
    packet_of body_at tick_at data_at ack_at grant_at resend_at cutoffs_at unknown_at more_at calls_at line_text bytes_of_word tuned client_gets
    server_gets server_acked client_deadline server_deadline asked served takes pumped_once pumps start_fault call_step arrival_step turn_step
    new_world outcome event_text settings_text words_in calls_from opening_from opening loop_turn loop_turns node_run kind_of told kept node_text
    observed recording_text
input_too_long = refl
