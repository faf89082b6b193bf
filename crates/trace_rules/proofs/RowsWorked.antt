-- Worked rows: whole schedules, from their bytes to the bytes of their traces, computed from the definitions. Calls, repeats and grants.
use Rattle.std.proofs.Common.{◌≡◌, [], ◌∷◌, None, refl}
use Rattle.std.specs.Prelude.{codes}
use Rattle.core.specs.Str.{is_utf8, chars}
use Rattle.core.specs.Fmt.{digits}
use Rattle.hex.specs.Hex.{decode_pairs, encode_with}
use lib.Utf8.{encode}
use Rattle.plain_sets.specs.Maps.{empty, checked, get, insert, retain, remove, len, keys, values, key_set, insert_all}
use Rattle.plain_sets.specs.Numbers.{with_range, without_range, within, ranges, first_in, missing}
use Rattle.plain_sets.specs.Ordered.{ordered, firsts}
use Rattle.homa_plain.specs.Timers.{due}
use Rattle.homa_plain.specs.Cutoffs.{level_of, noted, least_from, bounds}
use Rattle.homa_plain.specs.Bytes.{number_at, two_at, times}
use Rattle.homa_plain.specs.Wire.{packet_in, packet_at, packet_of, body_at, tick_at, data_at, ack_at, grant_at, resend_at, cutoffs_at, unknown_at}
use Rattle.homa_plain.specs.Wire.{more_at, calls_at}
use Rattle.homa_plain.specs.Text.{line_text}
use Rattle.homa_plain.specs.Script.{opening, opening_from, steps_from, phrase_in, bytes_of_word}
use Rattle.homa_plain.specs.Host.{tuned}
use Rattle.homa_plain.specs.AtClient.{client_gets}
use Rattle.homa_plain.specs.AtServer.{server_gets}
use Rattle.homa_plain.specs.Tombstones.{server_acked}
use Rattle.homa_plain.specs.Timers.{client_deadline, server_deadline}
use Rattle.homa_plain.specs.Steps.{asked, served, takes, start_fault, call_step, arrival_step, turn_step}
use Rattle.homa_plain.specs.SentNext.{pumped_once, pumps}
use Rattle.homa_plain.specs.World.{new_world, outcome}
use Rattle.homa_plain.specs.Replay.{carried, replayed, replay, replay_text, lines}
use Rattle.trace_rules.specs.Seen.{seen}
use Rattle.trace_rules.specs.Granting.{allowed}
use Rattle.trace_rules.specs.Judge.{judged, first_broken}

-- one call of two bytes
pub one_call_two_bytes : replay_text (codes "go\ncall 0 1 0 6869\ndeliver 0\ndeliver 1") (record { bytes = 104 ∷ 105 ∷ []; hold = 0 } ∷ []) 96 ≡ codes "settings 2 1400 10000 10000 4 14000 4 5 20 1024 256 1024 0\ncall 0.1.0 1 0 6869\nsend 0 0>1 1 DATA c 0.1.0 7 2 0 0 0 - 6869\ndeliver 0\nrun 1 0.1.0 0 6869 6869 0\nsend 1 1>0 1 DATA s 0.1.0 7 2 0 0 0 - 6869\ndeliver 1\ndone 0.1.0 6869\nok 3\n"
unfolding is_utf8 chars digits decode_pairs encode_with encode empty checked get insert retain remove len keys values key_set insert_all with_range
    without_range within ranges first_in missing ordered firsts due level_of noted least_from bounds number_at two_at times packet_in packet_at
    packet_of body_at tick_at data_at ack_at grant_at resend_at cutoffs_at unknown_at more_at calls_at line_text opening opening_from steps_from
    phrase_in bytes_of_word tuned client_gets server_gets server_acked client_deadline server_deadline asked served takes pumped_once pumps
    start_fault call_step arrival_step turn_step new_world outcome carried replayed replay seen allowed judged
one_call_two_bytes = refl

-- and its trace obeys every law
pub one_call_two_bytes_obeys : first_broken
    (lines (replay (codes "go\ncall 0 1 0 6869\ndeliver 0\ndeliver 1") (record { bytes = 104 ∷ 105 ∷ []; hold = 0 } ∷ []) 96)) ≡ None
unfolding is_utf8 chars digits decode_pairs encode_with encode empty checked get insert retain remove len keys values key_set insert_all with_range
    without_range within ranges first_in missing ordered firsts due level_of noted least_from bounds number_at two_at times packet_in packet_at
    packet_of body_at tick_at data_at ack_at grant_at resend_at cutoffs_at unknown_at more_at calls_at line_text opening opening_from steps_from
    phrase_in bytes_of_word tuned client_gets server_gets server_acked client_deadline server_deadline asked served takes pumped_once pumps
    start_fault call_step arrival_step turn_step new_world outcome carried replayed replay seen allowed judged
one_call_two_bytes_obeys = refl

-- no event
pub no_event : replay_text (codes "go") ([]) 96 ≡ codes "settings 2 1400 10000 10000 4 14000 4 5 20 1024 256 1024 0\nok 0\n"
unfolding is_utf8 chars digits decode_pairs encode_with encode empty checked get insert retain remove len keys values key_set insert_all with_range
    without_range within ranges first_in missing ordered firsts due level_of noted least_from bounds number_at two_at times packet_in packet_at
    packet_of body_at tick_at data_at ack_at grant_at resend_at cutoffs_at unknown_at more_at calls_at line_text opening opening_from steps_from
    phrase_in bytes_of_word tuned client_gets server_gets server_acked client_deadline server_deadline asked served takes pumped_once pumps
    start_fault call_step arrival_step turn_step new_world outcome carried replayed replay seen allowed judged
no_event = refl

-- and its trace obeys every law
pub no_event_obeys : first_broken (lines (replay (codes "go") ([]) 96)) ≡ None
unfolding is_utf8 chars digits decode_pairs encode_with encode empty checked get insert retain remove len keys values key_set insert_all with_range
    without_range within ranges first_in missing ordered firsts due level_of noted least_from bounds number_at two_at times packet_in packet_at
    packet_of body_at tick_at data_at ack_at grant_at resend_at cutoffs_at unknown_at more_at calls_at line_text opening opening_from steps_from
    phrase_in bytes_of_word tuned client_gets server_gets server_acked client_deadline server_deadline asked served takes pumped_once pumps
    start_fault call_step arrival_step turn_step new_world outcome carried replayed replay seen allowed judged
no_event_obeys = refl

-- the request comes three times
pub repeats : replay_text (codes "go\ncall 0 1 0 6869\ndeliver 0\ndeliver 1\ndeliver 0\ndeliver 0") (record { bytes = 104 ∷ 105 ∷ []; hold = 0 } ∷ []) 96 ≡ codes "settings 2 1400 10000 10000 4 14000 4 5 20 1024 256 1024 0\ncall 0.1.0 1 0 6869\nsend 0 0>1 1 DATA c 0.1.0 7 2 0 0 0 - 6869\ndeliver 0\nrun 1 0.1.0 0 6869 6869 0\nsend 1 1>0 1 DATA s 0.1.0 7 2 0 0 0 - 6869\ndeliver 1\ndone 0.1.0 6869\ndeliver 0\ndeliver 0\nok 5\n"
unfolding is_utf8 chars digits decode_pairs encode_with encode empty checked get insert retain remove len keys values key_set insert_all with_range
    without_range within ranges first_in missing ordered firsts due level_of noted least_from bounds number_at two_at times packet_in packet_at
    packet_of body_at tick_at data_at ack_at grant_at resend_at cutoffs_at unknown_at more_at calls_at line_text opening opening_from steps_from
    phrase_in bytes_of_word tuned client_gets server_gets server_acked client_deadline server_deadline asked served takes pumped_once pumps
    start_fault call_step arrival_step turn_step new_world outcome carried replayed replay seen allowed judged
repeats = refl

-- and its trace obeys every law
pub repeats_obeys : first_broken
    (lines (replay (codes "go\ncall 0 1 0 6869\ndeliver 0\ndeliver 1\ndeliver 0\ndeliver 0") (record { bytes = 104 ∷ 105 ∷ []; hold = 0 } ∷ []) 96)) ≡ None
unfolding is_utf8 chars digits decode_pairs encode_with encode empty checked get insert retain remove len keys values key_set insert_all with_range
    without_range within ranges first_in missing ordered firsts due level_of noted least_from bounds number_at two_at times packet_in packet_at
    packet_of body_at tick_at data_at ack_at grant_at resend_at cutoffs_at unknown_at more_at calls_at line_text opening opening_from steps_from
    phrase_in bytes_of_word tuned client_gets server_gets server_acked client_deadline server_deadline asked served takes pumped_once pumps
    start_fault call_step arrival_step turn_step new_world outcome carried replayed replay seen allowed judged
repeats_obeys = refl

-- a request of three pieces in reverse order, the last of which needs a grant
pub reverse_order_and_a_grant : replay_text (codes "seg 4\nwindow 8\nunsched 8\ngo\ncall 0 1 0 *11\ndeliver 1\ndeliver 2\ndeliver 3\ndeliver 0") (record { bytes = 0 ∷ 1 ∷ 2 ∷ 3 ∷ 4 ∷ 5 ∷ 6 ∷ 7 ∷ 8 ∷ 9 ∷ 10 ∷ []; hold = 0 } ∷ []) 96 ≡ codes "settings 2 4 8 8 4 14000 4 5 20 1024 256 1024 0\ncall 0.1.0 1 0 000102030405060708090a\nsend 0 0>1 1 DATA c 0.1.0 7 11 0 0 0 - 00010203\nsend 1 0>1 1 DATA c 0.1.0 7 11 4 0 0 - 04050607\ndeliver 1\nsend 2 1>0 1 GRANT s 0.1.0 11 0\ndeliver 2\nsend 3 0>1 1 DATA c 0.1.0 0 11 8 0 0 - 08090a\ndeliver 3\ndeliver 0\nrun 1 0.1.0 0 000102030405060708090a 000102030405060708090a 0\nsend 4 1>0 1 DATA s 0.1.0 7 11 0 0 0 - 00010203\nsend 5 1>0 1 DATA s 0.1.0 7 11 4 0 0 - 04050607\nok 5\n"
unfolding is_utf8 chars digits decode_pairs encode_with encode empty checked get insert retain remove len keys values key_set insert_all with_range
    without_range within ranges first_in missing ordered firsts due level_of noted least_from bounds number_at two_at times packet_in packet_at
    packet_of body_at tick_at data_at ack_at grant_at resend_at cutoffs_at unknown_at more_at calls_at line_text opening opening_from steps_from
    phrase_in bytes_of_word tuned client_gets server_gets server_acked client_deadline server_deadline asked served takes pumped_once pumps
    start_fault call_step arrival_step turn_step new_world outcome carried replayed replay seen allowed judged
reverse_order_and_a_grant = refl

-- and its trace obeys every law
pub reverse_order_and_a_grant_obeys : first_broken
    (lines (replay (codes "seg 4\nwindow 8\nunsched 8\ngo\ncall 0 1 0 *11\ndeliver 1\ndeliver 2\ndeliver 3\ndeliver 0")
    (record { bytes = 0 ∷ 1 ∷ 2 ∷ 3 ∷ 4 ∷ 5 ∷ 6 ∷ 7 ∷ 8 ∷ 9 ∷ 10 ∷ []; hold = 0 } ∷ []) 96)) ≡ None
unfolding is_utf8 chars digits decode_pairs encode_with encode empty checked get insert retain remove len keys values key_set insert_all with_range
    without_range within ranges first_in missing ordered firsts due level_of noted least_from bounds number_at two_at times packet_in packet_at
    packet_of body_at tick_at data_at ack_at grant_at resend_at cutoffs_at unknown_at more_at calls_at line_text opening opening_from steps_from
    phrase_in bytes_of_word tuned client_gets server_gets server_acked client_deadline server_deadline asked served takes pumped_once pumps
    start_fault call_step arrival_step turn_step new_world outcome carried replayed replay seen allowed judged
reverse_order_and_a_grant_obeys = refl

-- a piece that comes twice
pub a_repeat_is_not_a_byte : replay_text (codes "seg 4\nwindow 8\nunsched 8\ngo\ncall 0 1 0 *11\ndeliver 1\ndeliver 1") ([]) 96 ≡ codes "settings 2 4 8 8 4 14000 4 5 20 1024 256 1024 0\ncall 0.1.0 1 0 000102030405060708090a\nsend 0 0>1 1 DATA c 0.1.0 7 11 0 0 0 - 00010203\nsend 1 0>1 1 DATA c 0.1.0 7 11 4 0 0 - 04050607\ndeliver 1\nsend 2 1>0 1 GRANT s 0.1.0 11 0\ndeliver 1\nok 3\n"
unfolding is_utf8 chars digits decode_pairs encode_with encode empty checked get insert retain remove len keys values key_set insert_all with_range
    without_range within ranges first_in missing ordered firsts due level_of noted least_from bounds number_at two_at times packet_in packet_at
    packet_of body_at tick_at data_at ack_at grant_at resend_at cutoffs_at unknown_at more_at calls_at line_text opening opening_from steps_from
    phrase_in bytes_of_word tuned client_gets server_gets server_acked client_deadline server_deadline asked served takes pumped_once pumps
    start_fault call_step arrival_step turn_step new_world outcome carried replayed replay seen allowed judged
a_repeat_is_not_a_byte = refl

-- and its trace obeys every law
pub a_repeat_is_not_a_byte_obeys : first_broken (lines (replay (codes "seg 4\nwindow 8\nunsched 8\ngo\ncall 0 1 0 *11\ndeliver 1\ndeliver 1") ([]) 96)) ≡ None
unfolding is_utf8 chars digits decode_pairs encode_with encode empty checked get insert retain remove len keys values key_set insert_all with_range
    without_range within ranges first_in missing ordered firsts due level_of noted least_from bounds number_at two_at times packet_in packet_at
    packet_of body_at tick_at data_at ack_at grant_at resend_at cutoffs_at unknown_at more_at calls_at line_text opening opening_from steps_from
    phrase_in bytes_of_word tuned client_gets server_gets server_acked client_deadline server_deadline asked served takes pumped_once pumps
    start_fault call_step arrival_step turn_step new_world outcome carried replayed replay seen allowed judged
a_repeat_is_not_a_byte_obeys = refl

-- as many bytes as need no grant
pub unscheduled_limit : replay_text (codes "seg 4\nwindow 8\nunsched 8\ngo\ncall 0 1 0 *8\ndeliver 0\ndeliver 1") (record { bytes = 0 ∷ 1 ∷ 2 ∷ 3 ∷ 4 ∷ 5 ∷ 6 ∷ 7 ∷ []; hold = 0 } ∷ []) 96 ≡ codes "settings 2 4 8 8 4 14000 4 5 20 1024 256 1024 0\ncall 0.1.0 1 0 0001020304050607\nsend 0 0>1 1 DATA c 0.1.0 7 8 0 0 0 - 00010203\nsend 1 0>1 1 DATA c 0.1.0 7 8 4 0 0 - 04050607\ndeliver 0\ndeliver 1\nrun 1 0.1.0 0 0001020304050607 0001020304050607 0\nsend 2 1>0 1 DATA s 0.1.0 7 8 0 0 0 - 00010203\nsend 3 1>0 1 DATA s 0.1.0 7 8 4 0 0 - 04050607\nok 3\n"
unfolding is_utf8 chars digits decode_pairs encode_with encode empty checked get insert retain remove len keys values key_set insert_all with_range
    without_range within ranges first_in missing ordered firsts due level_of noted least_from bounds number_at two_at times packet_in packet_at
    packet_of body_at tick_at data_at ack_at grant_at resend_at cutoffs_at unknown_at more_at calls_at line_text opening opening_from steps_from
    phrase_in bytes_of_word tuned client_gets server_gets server_acked client_deadline server_deadline asked served takes pumped_once pumps
    start_fault call_step arrival_step turn_step new_world outcome carried replayed replay seen allowed judged
unscheduled_limit = refl

-- and its trace obeys every law
pub unscheduled_limit_obeys : first_broken
    (lines (replay (codes "seg 4\nwindow 8\nunsched 8\ngo\ncall 0 1 0 *8\ndeliver 0\ndeliver 1")
    (record { bytes = 0 ∷ 1 ∷ 2 ∷ 3 ∷ 4 ∷ 5 ∷ 6 ∷ 7 ∷ []; hold = 0 } ∷ []) 96)) ≡ None
unfolding is_utf8 chars digits decode_pairs encode_with encode empty checked get insert retain remove len keys values key_set insert_all with_range
    without_range within ranges first_in missing ordered firsts due level_of noted least_from bounds number_at two_at times packet_in packet_at
    packet_of body_at tick_at data_at ack_at grant_at resend_at cutoffs_at unknown_at more_at calls_at line_text opening opening_from steps_from
    phrase_in bytes_of_word tuned client_gets server_gets server_acked client_deadline server_deadline asked served takes pumped_once pumps
    start_fault call_step arrival_step turn_step new_world outcome carried replayed replay seen allowed judged
unscheduled_limit_obeys = refl

-- and one byte more
pub one_byte_more : replay_text (codes "seg 4\nwindow 8\nunsched 8\ngo\ncall 0 1 0 *9\ndeliver 0\ndeliver 1") ([]) 96 ≡ codes "settings 2 4 8 8 4 14000 4 5 20 1024 256 1024 0\ncall 0.1.0 1 0 000102030405060708\nsend 0 0>1 1 DATA c 0.1.0 7 9 0 0 0 - 00010203\nsend 1 0>1 1 DATA c 0.1.0 7 9 4 0 0 - 04050607\ndeliver 0\nsend 2 1>0 1 GRANT s 0.1.0 9 0\ndeliver 1\nok 3\n"
unfolding is_utf8 chars digits decode_pairs encode_with encode empty checked get insert retain remove len keys values key_set insert_all with_range
    without_range within ranges first_in missing ordered firsts due level_of noted least_from bounds number_at two_at times packet_in packet_at
    packet_of body_at tick_at data_at ack_at grant_at resend_at cutoffs_at unknown_at more_at calls_at line_text opening opening_from steps_from
    phrase_in bytes_of_word tuned client_gets server_gets server_acked client_deadline server_deadline asked served takes pumped_once pumps
    start_fault call_step arrival_step turn_step new_world outcome carried replayed replay seen allowed judged
one_byte_more = refl

-- and its trace obeys every law
pub one_byte_more_obeys : first_broken (lines (replay (codes "seg 4\nwindow 8\nunsched 8\ngo\ncall 0 1 0 *9\ndeliver 0\ndeliver 1") ([]) 96)) ≡ None
unfolding is_utf8 chars digits decode_pairs encode_with encode empty checked get insert retain remove len keys values key_set insert_all with_range
    without_range within ranges first_in missing ordered firsts due level_of noted least_from bounds number_at two_at times packet_in packet_at
    packet_of body_at tick_at data_at ack_at grant_at resend_at cutoffs_at unknown_at more_at calls_at line_text opening opening_from steps_from
    phrase_in bytes_of_word tuned client_gets server_gets server_acked client_deadline server_deadline asked served takes pumped_once pumps
    start_fault call_step arrival_step turn_step new_world outcome carried replayed replay seen allowed judged
one_byte_more_obeys = refl

-- two messages of which one is granted to at a time
pub one_at_a_time_with_a_tie : replay_text (codes "hosts 3\nseg 4\nwindow 8\nunsched 8\novercommit 1\ngo\ncall 0 2 0 *20\ncall 1 2 0 *20\ndeliver 0\ndeliver 2\ndeliver 3") ([]) 96 ≡ codes "settings 3 4 8 8 1 14000 4 5 20 1024 256 1024 0\ncall 0.1.0 2 0 000102030405060708090a0b0c0d0e0f10111213\nsend 0 0>2 1 DATA c 0.1.0 7 20 0 0 0 - 00010203\nsend 1 0>2 1 DATA c 0.1.0 7 20 4 0 0 - 04050607\ncall 1.1.0 2 0 000102030405060708090a0b0c0d0e0f10111213\nsend 2 1>2 1 DATA c 1.1.0 7 20 0 0 0 - 00010203\nsend 3 1>2 1 DATA c 1.1.0 7 20 4 0 0 - 04050607\ndeliver 0\nsend 4 2>0 1 GRANT s 0.1.0 12 0\ndeliver 2\ndeliver 3\nsend 5 2>1 1 GRANT s 1.1.0 16 0\nok 5\n"
unfolding is_utf8 chars digits decode_pairs encode_with encode empty checked get insert retain remove len keys values key_set insert_all with_range
    without_range within ranges first_in missing ordered firsts due level_of noted least_from bounds number_at two_at times packet_in packet_at
    packet_of body_at tick_at data_at ack_at grant_at resend_at cutoffs_at unknown_at more_at calls_at line_text opening opening_from steps_from
    phrase_in bytes_of_word tuned client_gets server_gets server_acked client_deadline server_deadline asked served takes pumped_once pumps
    start_fault call_step arrival_step turn_step new_world outcome carried replayed replay seen allowed judged
one_at_a_time_with_a_tie = refl

-- and its trace obeys every law
pub one_at_a_time_with_a_tie_obeys : first_broken
    (lines (replay (codes "hosts 3\nseg 4\nwindow 8\nunsched 8\novercommit 1\ngo\ncall 0 2 0 *20\ncall 1 2 0 *20\ndeliver 0\ndeliver 2\ndeliver 3")
    ([]) 96)) ≡ None
unfolding is_utf8 chars digits decode_pairs encode_with encode empty checked get insert retain remove len keys values key_set insert_all with_range
    without_range within ranges first_in missing ordered firsts due level_of noted least_from bounds number_at two_at times packet_in packet_at
    packet_of body_at tick_at data_at ack_at grant_at resend_at cutoffs_at unknown_at more_at calls_at line_text opening opening_from steps_from
    phrase_in bytes_of_word tuned client_gets server_gets server_acked client_deadline server_deadline asked served takes pumped_once pumps
    start_fault call_step arrival_step turn_step new_world outcome carried replayed replay seen allowed judged
one_at_a_time_with_a_tie_obeys = refl

-- one grant per sender
pub one_grant_per_sender : replay_text (codes "hosts 3\nseg 4\nwindow 4\nunsched 4\ngo\ncall 0 2 0 *12\ncall 0 2 0 *8\ncall 0 2 0 *16\ncall 1 2 0 *20\ndeliver 3\ndeliver 0\ndeliver 2\ndeliver 1") ([]) 96 ≡ codes "settings 3 4 4 4 4 14000 4 5 20 1024 256 1024 0\ncall 0.1.0 2 0 000102030405060708090a0b\nsend 0 0>2 1 DATA c 0.1.0 7 12 0 0 0 - 00010203\ncall 0.1.1 2 0 0001020304050607\nsend 1 0>2 1 DATA c 0.1.1 7 8 0 0 0 - 00010203\ncall 0.1.2 2 0 000102030405060708090a0b0c0d0e0f\nsend 2 0>2 1 DATA c 0.1.2 7 16 0 0 0 - 00010203\ncall 1.1.0 2 0 000102030405060708090a0b0c0d0e0f10111213\nsend 3 1>2 1 DATA c 1.1.0 7 20 0 0 0 - 00010203\ndeliver 3\nsend 4 2>1 1 GRANT s 1.1.0 8 0\ndeliver 0\nsend 5 2>0 1 GRANT s 0.1.0 8 1\ndeliver 2\ndeliver 1\nsend 6 2>0 1 GRANT s 0.1.1 8 1\nok 8\n"
unfolding is_utf8 chars digits decode_pairs encode_with encode empty checked get insert retain remove len keys values key_set insert_all with_range
    without_range within ranges first_in missing ordered firsts due level_of noted least_from bounds number_at two_at times packet_in packet_at
    packet_of body_at tick_at data_at ack_at grant_at resend_at cutoffs_at unknown_at more_at calls_at line_text opening opening_from steps_from
    phrase_in bytes_of_word tuned client_gets server_gets server_acked client_deadline server_deadline asked served takes pumped_once pumps
    start_fault call_step arrival_step turn_step new_world outcome carried replayed replay seen allowed judged
one_grant_per_sender = refl

-- and its trace obeys every law
pub one_grant_per_sender_obeys : first_broken (lines (replay (codes "hosts 3\nseg 4\nwindow 4\nunsched 4\ngo\ncall 0 2 0 *12\ncall 0 2 0 *8\ncall 0 2 0 *16\ncall 1 2 0 *20\ndeliver 3\ndeliver 0\ndeliver 2\ndeliver 1") ([]) 96)) ≡ None
unfolding is_utf8 chars digits decode_pairs encode_with encode empty checked get insert retain remove len keys values key_set insert_all with_range
    without_range within ranges first_in missing ordered firsts due level_of noted least_from bounds number_at two_at times packet_in packet_at
    packet_of body_at tick_at data_at ack_at grant_at resend_at cutoffs_at unknown_at more_at calls_at line_text opening opening_from steps_from
    phrase_in bytes_of_word tuned client_gets server_gets server_acked client_deadline server_deadline asked served takes pumped_once pumps
    start_fault call_step arrival_step turn_step new_world outcome carried replayed replay seen allowed judged
one_grant_per_sender_obeys = refl

-- a server that asks, an ACK, and its tombstone
pub an_acknowledgement : replay_text (codes "go\ncall 0 1 0 6869\ndeliver 0\ndeliver 1\ntick 4\ndeliver 2\ndeliver 3\ntick 21") (record { bytes = 104 ∷ 105 ∷ []; hold = 0 } ∷ []) 96 ≡ codes "settings 2 1400 10000 10000 4 14000 4 5 20 1024 256 1024 0\ncall 0.1.0 1 0 6869\nsend 0 0>1 1 DATA c 0.1.0 7 2 0 0 0 - 6869\ndeliver 0\nrun 1 0.1.0 0 6869 6869 0\nsend 1 1>0 1 DATA s 0.1.0 7 2 0 0 0 - 6869\ndeliver 1\ndone 0.1.0 6869\nclock 1\nclock 2\nclock 3\nclock 4\nsend 2 1>0 1 NEED_ACK s 0.1.0\ndeliver 2\nsend 3 0>1 1 ACK c 0.1.0\ndeliver 3\nbury 1 0.1.0 24\nclock 5\nclock 6\nclock 7\nclock 8\nclock 9\nclock 10\nclock 11\nclock 12\nclock 13\nclock 14\nclock 15\nclock 16\nclock 17\nclock 18\nclock 19\nclock 20\nclock 21\nclock 22\nclock 23\nclock 24\nclock 25\nfree 1 0.1.0\nok 80\n"
unfolding is_utf8 chars digits decode_pairs encode_with encode empty checked get insert retain remove len keys values key_set insert_all with_range
    without_range within ranges first_in missing ordered firsts due level_of noted least_from bounds number_at two_at times packet_in packet_at
    packet_of body_at tick_at data_at ack_at grant_at resend_at cutoffs_at unknown_at more_at calls_at line_text opening opening_from steps_from
    phrase_in bytes_of_word tuned client_gets server_gets server_acked client_deadline server_deadline asked served takes pumped_once pumps
    start_fault call_step arrival_step turn_step new_world outcome carried replayed replay seen allowed judged
an_acknowledgement = refl

-- and its trace obeys every law
pub an_acknowledgement_obeys : first_broken
    (lines (replay (codes "go\ncall 0 1 0 6869\ndeliver 0\ndeliver 1\ntick 4\ndeliver 2\ndeliver 3\ntick 21")
    (record { bytes = 104 ∷ 105 ∷ []; hold = 0 } ∷ []) 96)) ≡ None
unfolding is_utf8 chars digits decode_pairs encode_with encode empty checked get insert retain remove len keys values key_set insert_all with_range
    without_range within ranges first_in missing ordered firsts due level_of noted least_from bounds number_at two_at times packet_in packet_at
    packet_of body_at tick_at data_at ack_at grant_at resend_at cutoffs_at unknown_at more_at calls_at line_text opening opening_from steps_from
    phrase_in bytes_of_word tuned client_gets server_gets server_acked client_deadline server_deadline asked served takes pumped_once pumps
    start_fault call_step arrival_step turn_step new_world outcome carried replayed replay seen allowed judged
an_acknowledgement_obeys = refl

-- five calls acknowledged at once
pub five_acknowledged : replay_text (codes "go\ncall 0 1 0 61\ncall 0 1 0 61\ncall 0 1 0 61\ncall 0 1 0 61\ncall 0 1 0 61\ndeliver 0\ndeliver 1\ndeliver 2\ndeliver 3\ndeliver 4\ndeliver 5\ndeliver 6\ndeliver 7\ndeliver 8\ndeliver 9\ndeliver 10") (record { bytes = 97 ∷ []; hold = 0 } ∷ record { bytes = 97 ∷ []; hold = 0 } ∷ record { bytes = 97 ∷ []; hold = 0 } ∷ record { bytes = 97 ∷ []; hold = 0 } ∷ record { bytes = 97 ∷ []; hold = 0 } ∷ []) 96 ≡ codes "settings 2 1400 10000 10000 4 14000 4 5 20 1024 256 1024 0\ncall 0.1.0 1 0 61\nsend 0 0>1 1 DATA c 0.1.0 7 1 0 0 0 - 61\ncall 0.1.1 1 0 61\nsend 1 0>1 1 DATA c 0.1.1 7 1 0 0 0 - 61\ncall 0.1.2 1 0 61\nsend 2 0>1 1 DATA c 0.1.2 7 1 0 0 0 - 61\ncall 0.1.3 1 0 61\nsend 3 0>1 1 DATA c 0.1.3 7 1 0 0 0 - 61\ncall 0.1.4 1 0 61\nsend 4 0>1 1 DATA c 0.1.4 7 1 0 0 0 - 61\ndeliver 0\nrun 1 0.1.0 0 61 61 0\nsend 5 1>0 1 DATA s 0.1.0 7 1 0 0 0 - 61\ndeliver 1\nrun 1 0.1.1 0 61 61 0\nsend 6 1>0 1 DATA s 0.1.1 7 1 0 0 0 - 61\ndeliver 2\nrun 1 0.1.2 0 61 61 0\nsend 7 1>0 1 DATA s 0.1.2 7 1 0 0 0 - 61\ndeliver 3\nrun 1 0.1.3 0 61 61 0\nsend 8 1>0 1 DATA s 0.1.3 7 1 0 0 0 - 61\ndeliver 4\nrun 1 0.1.4 0 61 61 0\nsend 9 1>0 1 DATA s 0.1.4 7 1 0 0 0 - 61\ndeliver 5\ndone 0.1.0 61\ndeliver 6\ndone 0.1.1 61\ndeliver 7\ndone 0.1.2 61\ndeliver 8\ndone 0.1.3 61\ndeliver 9\ndone 0.1.4 61\nsend 10 0>1 1 ACK c 0.1.0 1.1 1.2 1.3 1.4\ndeliver 10\nbury 1 0.1.0 20\nbury 1 0.1.1 20\nbury 1 0.1.2 20\nbury 1 0.1.3 20\nbury 1 0.1.4 20\nok 16\n"
unfolding is_utf8 chars digits decode_pairs encode_with encode empty checked get insert retain remove len keys values key_set insert_all with_range
    without_range within ranges first_in missing ordered firsts due level_of noted least_from bounds number_at two_at times packet_in packet_at
    packet_of body_at tick_at data_at ack_at grant_at resend_at cutoffs_at unknown_at more_at calls_at line_text opening opening_from steps_from
    phrase_in bytes_of_word tuned client_gets server_gets server_acked client_deadline server_deadline asked served takes pumped_once pumps
    start_fault call_step arrival_step turn_step new_world outcome carried replayed replay seen allowed judged
five_acknowledged = refl

-- and its trace obeys every law
pub five_acknowledged_obeys : first_broken (lines (replay (codes "go\ncall 0 1 0 61\ncall 0 1 0 61\ncall 0 1 0 61\ncall 0 1 0 61\ncall 0 1 0 61\ndeliver 0\ndeliver 1\ndeliver 2\ndeliver 3\ndeliver 4\ndeliver 5\ndeliver 6\ndeliver 7\ndeliver 8\ndeliver 9\ndeliver 10") (record { bytes = 97 ∷ []; hold = 0 } ∷ record { bytes = 97 ∷ []; hold = 0 } ∷ record { bytes = 97 ∷ []; hold = 0 } ∷ record { bytes = 97 ∷ []; hold = 0 } ∷ record { bytes = 97 ∷ []; hold = 0 } ∷ []) 96)) ≡ None
unfolding is_utf8 chars digits decode_pairs encode_with encode empty checked get insert retain remove len keys values key_set insert_all with_range
    without_range within ranges first_in missing ordered firsts due level_of noted least_from bounds number_at two_at times packet_in packet_at
    packet_of body_at tick_at data_at ack_at grant_at resend_at cutoffs_at unknown_at more_at calls_at line_text opening opening_from steps_from
    phrase_in bytes_of_word tuned client_gets server_gets server_acked client_deadline server_deadline asked served takes pumped_once pumps
    start_fault call_step arrival_step turn_step new_world outcome carried replayed replay seen allowed judged
five_acknowledged_obeys = refl

-- an acknowledgement that rides on a request is treated behind the request
pub riding_ack_comes_last : replay_text (codes "go\ncall 0 1 0 61\ndeliver 0\ndeliver 1\ncall 0 1 0 62\ndeliver 2\n") (record { bytes = 97 ∷ []; hold = 0 } ∷ record { bytes = 98 ∷ []; hold = 0 } ∷ []) 96 ≡ codes "settings 2 1400 10000 10000 4 14000 4 5 20 1024 256 1024 0\ncall 0.1.0 1 0 61\nsend 0 0>1 1 DATA c 0.1.0 7 1 0 0 0 - 61\ndeliver 0\nrun 1 0.1.0 0 61 61 0\nsend 1 1>0 1 DATA s 0.1.0 7 1 0 0 0 - 61\ndeliver 1\ndone 0.1.0 61\ncall 0.1.1 1 0 62\nsend 2 0>1 1 DATA c 0.1.1 7 1 0 0 0 1.0 62\ndeliver 2\nrun 1 0.1.1 0 62 62 0\nbury 1 0.1.0 20\nsend 3 1>0 1 DATA s 0.1.1 7 1 0 0 0 - 62\nok 5\n"
unfolding is_utf8 chars digits decode_pairs encode_with encode empty checked get insert retain remove len keys values key_set insert_all with_range
    without_range within ranges first_in missing ordered firsts due level_of noted least_from bounds number_at two_at times packet_in packet_at
    packet_of body_at tick_at data_at ack_at grant_at resend_at cutoffs_at unknown_at more_at calls_at line_text opening opening_from steps_from
    phrase_in bytes_of_word tuned client_gets server_gets server_acked client_deadline server_deadline asked served takes pumped_once pumps
    start_fault call_step arrival_step turn_step new_world outcome carried replayed replay seen allowed judged
riding_ack_comes_last = refl

-- and its trace obeys every law
pub riding_ack_comes_last_obeys : first_broken
    (lines (replay (codes "go\ncall 0 1 0 61\ndeliver 0\ndeliver 1\ncall 0 1 0 62\ndeliver 2\n")
    (record { bytes = 97 ∷ []; hold = 0 } ∷ record { bytes = 98 ∷ []; hold = 0 } ∷ []) 96)) ≡ None
unfolding is_utf8 chars digits decode_pairs encode_with encode empty checked get insert retain remove len keys values key_set insert_all with_range
    without_range within ranges first_in missing ordered firsts due level_of noted least_from bounds number_at two_at times packet_in packet_at
    packet_of body_at tick_at data_at ack_at grant_at resend_at cutoffs_at unknown_at more_at calls_at line_text opening opening_from steps_from
    phrase_in bytes_of_word tuned client_gets server_gets server_acked client_deadline server_deadline asked served takes pumped_once pumps
    start_fault call_step arrival_step turn_step new_world outcome carried replayed replay seen allowed judged
riding_ack_comes_last_obeys = refl

-- cutoffs that are computed anew, and told to their sender
pub cutoffs : replay_text (codes "rebalance 2\ngo\ncall 0 1 0 61\ncall 0 1 0 616263\ndeliver 0\ndeliver 1\ndeliver 3\ncall 0 1 0 78787878") (record { bytes = 97 ∷ []; hold = 0 } ∷ record { bytes = 97 ∷ 98 ∷ 99 ∷ []; hold = 0 } ∷ []) 96 ≡ codes "settings 2 1400 10000 10000 4 14000 4 5 20 1024 256 1024 2\ncall 0.1.0 1 0 61\nsend 0 0>1 1 DATA c 0.1.0 7 1 0 0 0 - 61\ncall 0.1.1 1 0 616263\nsend 1 0>1 1 DATA c 0.1.1 7 3 0 0 0 - 616263\ndeliver 0\nrun 1 0.1.0 0 61 61 0\nsend 2 1>0 1 DATA s 0.1.0 7 1 0 0 0 - 61\ndeliver 1\nbalance 1 1 0 0 0 0 1000000 3 3 1\nsend 3 1>0 1 CUTOFFS s 0.1.1 1 0 0 0 0 1000000 3 3 1\nrun 1 0.1.1 0 616263 616263 0\nsend 4 1>0 1 DATA s 0.1.1 7 3 0 0 0 - 616263\ndeliver 3\ncall 0.1.2 1 0 78787878\nsend 5 0>1 1 DATA c 0.1.2 4 4 0 1 0 - 78787878\nok 6\n"
unfolding is_utf8 chars digits decode_pairs encode_with encode empty checked get insert retain remove len keys values key_set insert_all with_range
    without_range within ranges first_in missing ordered firsts due level_of noted least_from bounds number_at two_at times packet_in packet_at
    packet_of body_at tick_at data_at ack_at grant_at resend_at cutoffs_at unknown_at more_at calls_at line_text opening opening_from steps_from
    phrase_in bytes_of_word tuned client_gets server_gets server_acked client_deadline server_deadline asked served takes pumped_once pumps
    start_fault call_step arrival_step turn_step new_world outcome carried replayed replay seen allowed judged
cutoffs = refl

-- and its trace obeys every law
pub cutoffs_obeys : first_broken
    (lines (replay (codes "rebalance 2\ngo\ncall 0 1 0 61\ncall 0 1 0 616263\ndeliver 0\ndeliver 1\ndeliver 3\ncall 0 1 0 78787878")
    (record { bytes = 97 ∷ []; hold = 0 } ∷ record { bytes = 97 ∷ 98 ∷ 99 ∷ []; hold = 0 } ∷ []) 96)) ≡ None
unfolding is_utf8 chars digits decode_pairs encode_with encode empty checked get insert retain remove len keys values key_set insert_all with_range
    without_range within ranges first_in missing ordered firsts due level_of noted least_from bounds number_at two_at times packet_in packet_at
    packet_of body_at tick_at data_at ack_at grant_at resend_at cutoffs_at unknown_at more_at calls_at line_text opening opening_from steps_from
    phrase_in bytes_of_word tuned client_gets server_gets server_acked client_deadline server_deadline asked served takes pumped_once pumps
    start_fault call_step arrival_step turn_step new_world outcome carried replayed replay seen allowed judged
cutoffs_obeys = refl

-- two turns in one tick fill the credit up once
pub one_refill_a_tick : replay_text (codes "seg 4\nrate 4\ngo\ncall 0 1 0 *12\nturn 0\nclock\nturn 0\nturn 0\n") ([]) 96 ≡ codes "settings 2 4 10000 10000 4 4 4 5 20 1024 256 1024 0\ncall 0.1.0 1 0 000102030405060708090a0b\nsend 0 0>1 1 DATA c 0.1.0 7 12 0 0 0 - 00010203\nclock 1\nsend 1 0>1 1 DATA c 0.1.0 7 12 4 0 0 - 04050607\nok 5\n"
unfolding is_utf8 chars digits decode_pairs encode_with encode empty checked get insert retain remove len keys values key_set insert_all with_range
    without_range within ranges first_in missing ordered firsts due level_of noted least_from bounds number_at two_at times packet_in packet_at
    packet_of body_at tick_at data_at ack_at grant_at resend_at cutoffs_at unknown_at more_at calls_at line_text opening opening_from steps_from
    phrase_in bytes_of_word tuned client_gets server_gets server_acked client_deadline server_deadline asked served takes pumped_once pumps
    start_fault call_step arrival_step turn_step new_world outcome carried replayed replay seen allowed judged
one_refill_a_tick = refl

-- and its trace obeys every law
pub one_refill_a_tick_obeys : first_broken (lines (replay (codes "seg 4\nrate 4\ngo\ncall 0 1 0 *12\nturn 0\nclock\nturn 0\nturn 0\n") ([]) 96)) ≡ None
unfolding is_utf8 chars digits decode_pairs encode_with encode empty checked get insert retain remove len keys values key_set insert_all with_range
    without_range within ranges first_in missing ordered firsts due level_of noted least_from bounds number_at two_at times packet_in packet_at
    packet_of body_at tick_at data_at ack_at grant_at resend_at cutoffs_at unknown_at more_at calls_at line_text opening opening_from steps_from
    phrase_in bytes_of_word tuned client_gets server_gets server_acked client_deadline server_deadline asked served takes pumped_once pumps
    start_fault call_step arrival_step turn_step new_world outcome carried replayed replay seen allowed judged
one_refill_a_tick_obeys = refl
