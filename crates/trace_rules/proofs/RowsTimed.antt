-- Worked rows of losses, timers, burials and restarts.
use Rattle.std.proofs.Common.{◌≡◌, [], ◌∷◌, None, refl}
use Rattle.std.specs.Prelude.{codes}
use Rattle.core.specs.Str.{is_utf8, chars}
use Rattle.core.specs.Fmt.{digits}
use Rattle.hex.specs.Hex.{decode_pairs, encode_with}
use lib.Utf8.{encode}
use Rattle.plain_sets.specs.Maps.{empty, checked, get, insert, retain, remove, len, keys, values, key_set, insert_all}
use Rattle.plain_sets.specs.Numbers.{with_range, without_range, within, ranges, first_in, missing}
use Rattle.plain_sets.specs.Ordered.{ordered, firsts}
use Rattle.homa_plain.specs.Timers.{due}
use Rattle.homa_plain.specs.Cutoffs.{level_of, noted, least_from, bounds}
use Rattle.homa_plain.specs.Bytes.{number_at, two_at, times}
use Rattle.homa_plain.specs.Wire.{packet_in, packet_at, packet_of, body_at, tick_at, data_at, ack_at, grant_at, resend_at, cutoffs_at, unknown_at}
use Rattle.homa_plain.specs.Wire.{more_at, calls_at}
use Rattle.homa_plain.specs.Text.{line_text}
use Rattle.homa_plain.specs.Script.{opening, opening_from, steps_from, phrase_in, bytes_of_word}
use Rattle.homa_plain.specs.Host.{tuned}
use Rattle.homa_plain.specs.AtClient.{client_gets}
use Rattle.homa_plain.specs.AtServer.{server_gets}
use Rattle.homa_plain.specs.Tombstones.{server_acked}
use Rattle.homa_plain.specs.Timers.{client_deadline, server_deadline}
use Rattle.homa_plain.specs.Steps.{asked, served, takes, start_fault, call_step, arrival_step, turn_step}
use Rattle.homa_plain.specs.SentNext.{pumped_once, pumps}
use Rattle.homa_plain.specs.World.{new_world, outcome}
use Rattle.homa_plain.specs.Replay.{carried, replayed, replay, replay_text, lines}
use Rattle.trace_rules.specs.Seen.{seen}
use Rattle.trace_rules.specs.Granting.{allowed}
use Rattle.trace_rules.specs.Judge.{judged, first_broken}

-- a GRANT is lost
pub lost_grant : replay_text (codes "seg 4\nwindow 4\nunsched 4\ngo\ncall 0 1 0 *8\ndeliver 0\ntick 4\ndeliver 2\ndeliver 3\ndeliver 5") (record { bytes = 0 ∷ 1 ∷ 2 ∷ 3 ∷ 4 ∷ 5 ∷ 6 ∷ 7 ∷ []; hold = 0 } ∷ []) 96 ≡ codes "settings 2 4 4 4 4 14000 4 5 20 1024 256 1024 0\ncall 0.1.0 1 0 0001020304050607\nsend 0 0>1 1 DATA c 0.1.0 7 8 0 0 0 - 00010203\ndeliver 0\nsend 1 1>0 1 GRANT s 0.1.0 8 0\nclock 1\nclock 2\nclock 3\nclock 4\nsend 2 0>1 1 RESEND c 0.1.0 0 4 3\nsend 3 1>0 1 RESEND s 0.1.0 4 8 3\ndeliver 2\nsend 4 1>0 1 BUSY s 0.1.0\ndeliver 3\nsend 5 0>1 1 DATA c 0.1.0 3 8 4 0 0 - 04050607\ndeliver 5\nrun 1 0.1.0 0 0001020304050607 0001020304050607 0\nsend 6 1>0 1 DATA s 0.1.0 7 8 0 0 0 - 00010203\nok 17\n"
unfolding is_utf8 chars digits decode_pairs encode_with encode empty checked get insert retain remove len keys values key_set insert_all with_range
    without_range within ranges first_in missing ordered firsts due level_of noted least_from bounds number_at two_at times packet_in packet_at
    packet_of body_at tick_at data_at ack_at grant_at resend_at cutoffs_at unknown_at more_at calls_at line_text opening opening_from steps_from
    phrase_in bytes_of_word tuned client_gets server_gets server_acked client_deadline server_deadline asked served takes pumped_once pumps
    start_fault call_step arrival_step turn_step new_world outcome carried replayed replay seen allowed judged
lost_grant = refl

-- and its trace obeys every law
pub lost_grant_obeys : first_broken
    (lines (replay (codes "seg 4\nwindow 4\nunsched 4\ngo\ncall 0 1 0 *8\ndeliver 0\ntick 4\ndeliver 2\ndeliver 3\ndeliver 5")
    (record { bytes = 0 ∷ 1 ∷ 2 ∷ 3 ∷ 4 ∷ 5 ∷ 6 ∷ 7 ∷ []; hold = 0 } ∷ []) 96)) ≡ None
unfolding is_utf8 chars digits decode_pairs encode_with encode empty checked get insert retain remove len keys values key_set insert_all with_range
    without_range within ranges first_in missing ordered firsts due level_of noted least_from bounds number_at two_at times packet_in packet_at
    packet_of body_at tick_at data_at ack_at grant_at resend_at cutoffs_at unknown_at more_at calls_at line_text opening opening_from steps_from
    phrase_in bytes_of_word tuned client_gets server_gets server_acked client_deadline server_deadline asked served takes pumped_once pumps
    start_fault call_step arrival_step turn_step new_world outcome carried replayed replay seen allowed judged
lost_grant_obeys = refl

-- everything is lost
pub all_lost : replay_text (codes "go\ncall 0 1 0 6869\ntick 24") ([]) 96 ≡ codes "settings 2 1400 10000 10000 4 14000 4 5 20 1024 256 1024 0\ncall 0.1.0 1 0 6869\nsend 0 0>1 1 DATA c 0.1.0 7 2 0 0 0 - 6869\nclock 1\nclock 2\nclock 3\nclock 4\nsend 1 0>1 1 RESEND c 0.1.0 0 10000 3\nclock 5\nclock 6\nclock 7\nclock 8\nsend 2 0>1 1 RESEND c 0.1.0 0 10000 3\nclock 9\nclock 10\nclock 11\nclock 12\nsend 3 0>1 1 RESEND c 0.1.0 0 10000 3\nclock 13\nclock 14\nclock 15\nclock 16\nsend 4 0>1 1 RESEND c 0.1.0 0 10000 3\nclock 17\nclock 18\nclock 19\nclock 20\nsend 5 0>1 1 RESEND c 0.1.0 0 10000 3\nclock 21\nclock 22\nclock 23\nclock 24\nfail 0.1.0 timeout\nok 73\n"
unfolding is_utf8 chars digits decode_pairs encode_with encode empty checked get insert retain remove len keys values key_set insert_all with_range
    without_range within ranges first_in missing ordered firsts due level_of noted least_from bounds number_at two_at times packet_in packet_at
    packet_of body_at tick_at data_at ack_at grant_at resend_at cutoffs_at unknown_at more_at calls_at line_text opening opening_from steps_from
    phrase_in bytes_of_word tuned client_gets server_gets server_acked client_deadline server_deadline asked served takes pumped_once pumps
    start_fault call_step arrival_step turn_step new_world outcome carried replayed replay seen allowed judged
all_lost = refl

-- and its trace obeys every law
pub all_lost_obeys : first_broken (lines (replay (codes "go\ncall 0 1 0 6869\ntick 24") ([]) 96)) ≡ None
unfolding is_utf8 chars digits decode_pairs encode_with encode empty checked get insert retain remove len keys values key_set insert_all with_range
    without_range within ranges first_in missing ordered firsts due level_of noted least_from bounds number_at two_at times packet_in packet_at
    packet_of body_at tick_at data_at ack_at grant_at resend_at cutoffs_at unknown_at more_at calls_at line_text opening opening_from steps_from
    phrase_in bytes_of_word tuned client_gets server_gets server_acked client_deadline server_deadline asked served takes pumped_once pumps
    start_fault call_step arrival_step turn_step new_world outcome carried replayed replay seen allowed judged
all_lost_obeys = refl

-- a response that is held back
pub held_reply : replay_text (codes "tries 1\ngo\ncall 0 1 3 61\ndeliver 0\ntick 4\ndeliver 1\ndeliver 2\ntick 4\ndeliver 3\ndeliver 4\ntick 2\ndeliver 5") (record { bytes = 97 ∷ []; hold = 10 } ∷ []) 96 ≡ codes "settings 2 1400 10000 10000 4 14000 4 1 20 1024 256 1024 0\ncall 0.1.0 1 3 61\nsend 0 0>1 1 DATA c 0.1.0 7 1 0 0 3 - 61\ndeliver 0\nrun 1 0.1.0 3 61 61 10\nclock 1\nclock 2\nclock 3\nclock 4\nsend 1 0>1 1 RESEND c 0.1.0 0 10000 3\ndeliver 1\nsend 2 1>0 1 BUSY s 0.1.0\ndeliver 2\nclock 5\nclock 6\nclock 7\nclock 8\nsend 3 0>1 1 RESEND c 0.1.0 0 10000 3\ndeliver 3\nsend 4 1>0 1 BUSY s 0.1.0\ndeliver 4\nclock 9\nclock 10\nsend 5 1>0 1 DATA s 0.1.0 7 1 0 0 0 - 61\ndeliver 5\ndone 0.1.0 61\nok 37\n"
unfolding is_utf8 chars digits decode_pairs encode_with encode empty checked get insert retain remove len keys values key_set insert_all with_range
    without_range within ranges first_in missing ordered firsts due level_of noted least_from bounds number_at two_at times packet_in packet_at
    packet_of body_at tick_at data_at ack_at grant_at resend_at cutoffs_at unknown_at more_at calls_at line_text opening opening_from steps_from
    phrase_in bytes_of_word tuned client_gets server_gets server_acked client_deadline server_deadline asked served takes pumped_once pumps
    start_fault call_step arrival_step turn_step new_world outcome carried replayed replay seen allowed judged
held_reply = refl

-- and its trace obeys every law
pub held_reply_obeys : first_broken
    (lines (replay (codes "tries 1\ngo\ncall 0 1 3 61\ndeliver 0\ntick 4\ndeliver 1\ndeliver 2\ntick 4\ndeliver 3\ndeliver 4\ntick 2\ndeliver 5")
    (record { bytes = 97 ∷ []; hold = 10 } ∷ []) 96)) ≡ None
unfolding is_utf8 chars digits decode_pairs encode_with encode empty checked get insert retain remove len keys values key_set insert_all with_range
    without_range within ranges first_in missing ordered firsts due level_of noted least_from bounds number_at two_at times packet_in packet_at
    packet_of body_at tick_at data_at ack_at grant_at resend_at cutoffs_at unknown_at more_at calls_at line_text opening opening_from steps_from
    phrase_in bytes_of_word tuned client_gets server_gets server_acked client_deadline server_deadline asked served takes pumped_once pumps
    start_fault call_step arrival_step turn_step new_world outcome carried replayed replay seen allowed judged
held_reply_obeys = refl

-- a call is buried, and a packet comes too late
pub burial_and_a_late_packet : replay_text (codes "resend 2\ntries 1\nlife 10\ngo\ncall 0 1 0 61\ndeliver 0\ntick 10\ndeliver 0\ntick\ndeliver 0") (record { bytes = 97 ∷ []; hold = 0 } ∷ []) 96 ≡ codes "settings 2 1400 10000 10000 4 14000 2 1 10 1024 256 1024 0\ncall 0.1.0 1 0 61\nsend 0 0>1 1 DATA c 0.1.0 7 1 0 0 0 - 61\ndeliver 0\nrun 1 0.1.0 0 61 61 0\nsend 1 1>0 1 DATA s 0.1.0 7 1 0 0 0 - 61\nclock 1\nclock 2\nsend 2 0>1 1 RESEND c 0.1.0 0 10000 3\nsend 3 1>0 1 NEED_ACK s 0.1.0\nclock 3\nclock 4\nfail 0.1.0 timeout\nbury 1 0.1.0 28\nclock 5\nclock 6\nclock 7\nclock 8\nclock 9\nclock 10\ndeliver 0\nsend 4 1>0 1 UNKNOWN s 0.1.0 1\nclock 11\nrefused 10 Late 0 11\n"
unfolding is_utf8 chars digits decode_pairs encode_with encode empty checked get insert retain remove len keys values key_set insert_all with_range
    without_range within ranges first_in missing ordered firsts due level_of noted least_from bounds number_at two_at times packet_in packet_at
    packet_of body_at tick_at data_at ack_at grant_at resend_at cutoffs_at unknown_at more_at calls_at line_text opening opening_from steps_from
    phrase_in bytes_of_word tuned client_gets server_gets server_acked client_deadline server_deadline asked served takes pumped_once pumps
    start_fault call_step arrival_step turn_step new_world outcome carried replayed replay seen allowed judged
burial_and_a_late_packet = refl

-- and its trace obeys every law
pub burial_and_a_late_packet_obeys : first_broken
    (lines (replay (codes "resend 2\ntries 1\nlife 10\ngo\ncall 0 1 0 61\ndeliver 0\ntick 10\ndeliver 0\ntick\ndeliver 0")
    (record { bytes = 97 ∷ []; hold = 0 } ∷ []) 96)) ≡ None
unfolding is_utf8 chars digits decode_pairs encode_with encode empty checked get insert retain remove len keys values key_set insert_all with_range
    without_range within ranges first_in missing ordered firsts due level_of noted least_from bounds number_at two_at times packet_in packet_at
    packet_of body_at tick_at data_at ack_at grant_at resend_at cutoffs_at unknown_at more_at calls_at line_text opening opening_from steps_from
    phrase_in bytes_of_word tuned client_gets server_gets server_acked client_deadline server_deadline asked served takes pumped_once pumps
    start_fault call_step arrival_step turn_step new_world outcome carried replayed replay seen allowed judged
burial_and_a_late_packet_obeys = refl

-- a tombstone is there up to its last tick
pub tombstone_goes : replay_text (codes "resend 2\ntries 1\nlife 10\ngo\ncall 0 1 0 61\ndeliver 0\ntick 29") (record { bytes = 97 ∷ []; hold = 0 } ∷ []) 96 ≡ codes "settings 2 1400 10000 10000 4 14000 2 1 10 1024 256 1024 0\ncall 0.1.0 1 0 61\nsend 0 0>1 1 DATA c 0.1.0 7 1 0 0 0 - 61\ndeliver 0\nrun 1 0.1.0 0 61 61 0\nsend 1 1>0 1 DATA s 0.1.0 7 1 0 0 0 - 61\nclock 1\nclock 2\nsend 2 0>1 1 RESEND c 0.1.0 0 10000 3\nsend 3 1>0 1 NEED_ACK s 0.1.0\nclock 3\nclock 4\nfail 0.1.0 timeout\nbury 1 0.1.0 28\nclock 5\nclock 6\nclock 7\nclock 8\nclock 9\nclock 10\nclock 11\nclock 12\nclock 13\nclock 14\nclock 15\nclock 16\nclock 17\nclock 18\nclock 19\nclock 20\nclock 21\nclock 22\nclock 23\nclock 24\nclock 25\nclock 26\nclock 27\nclock 28\nclock 29\nfree 1 0.1.0\nok 89\n"
unfolding is_utf8 chars digits decode_pairs encode_with encode empty checked get insert retain remove len keys values key_set insert_all with_range
    without_range within ranges first_in missing ordered firsts due level_of noted least_from bounds number_at two_at times packet_in packet_at
    packet_of body_at tick_at data_at ack_at grant_at resend_at cutoffs_at unknown_at more_at calls_at line_text opening opening_from steps_from
    phrase_in bytes_of_word tuned client_gets server_gets server_acked client_deadline server_deadline asked served takes pumped_once pumps
    start_fault call_step arrival_step turn_step new_world outcome carried replayed replay seen allowed judged
tombstone_goes = refl

-- and its trace obeys every law
pub tombstone_goes_obeys : first_broken
    (lines (replay (codes "resend 2\ntries 1\nlife 10\ngo\ncall 0 1 0 61\ndeliver 0\ntick 29") (record { bytes = 97 ∷ []; hold = 0 } ∷ []) 96)) ≡ None
unfolding is_utf8 chars digits decode_pairs encode_with encode empty checked get insert retain remove len keys values key_set insert_all with_range
    without_range within ranges first_in missing ordered firsts due level_of noted least_from bounds number_at two_at times packet_in packet_at
    packet_of body_at tick_at data_at ack_at grant_at resend_at cutoffs_at unknown_at more_at calls_at line_text opening opening_from steps_from
    phrase_in bytes_of_word tuned client_gets server_gets server_acked client_deadline server_deadline asked served takes pumped_once pumps
    start_fault call_step arrival_step turn_step new_world outcome carried replayed replay seen allowed judged
tombstone_goes_obeys = refl

-- a server that restarts
pub restarted_server : replay_text (codes "go\ncall 0 1 1 61\ncall 0 1 1 62\ndeliver 0\ndeliver 1\ndeliver 2\nrestart 1\ntick 4\ndeliver 4\ndeliver 5\ndeliver 3\ndeliver 6\ndeliver 7") (record { bytes = 0 ∷ 0 ∷ 0 ∷ 0 ∷ 0 ∷ 0 ∷ 0 ∷ 1 ∷ []; hold = 0 } ∷ record { bytes = 0 ∷ 0 ∷ 0 ∷ 0 ∷ 0 ∷ 0 ∷ 0 ∷ 2 ∷ []; hold = 0 } ∷ record { bytes = 0 ∷ 0 ∷ 0 ∷ 0 ∷ 0 ∷ 0 ∷ 0 ∷ 1 ∷ []; hold = 0 } ∷ []) 96 ≡ codes "settings 2 1400 10000 10000 4 14000 4 5 20 1024 256 1024 0\ncall 0.1.0 1 1 61\nsend 0 0>1 1 DATA c 0.1.0 7 1 0 0 1 - 61\ncall 0.1.1 1 1 62\nsend 1 0>1 1 DATA c 0.1.1 7 1 0 0 1 - 62\ndeliver 0\nrun 1 0.1.0 1 61 0000000000000001 0\nsend 2 1>0 1 DATA s 0.1.0 7 8 0 0 0 - 0000000000000001\ndeliver 1\nrun 1 0.1.1 1 62 0000000000000002 0\nsend 3 1>0 1 DATA s 0.1.1 7 8 0 0 0 - 0000000000000002\ndeliver 2\ndone 0.1.0 0000000000000001\nrestart 1 2\nclock 1\nclock 2\nclock 3\nclock 4\nsend 4 0>1 1 RESEND c 0.1.1 0 10000 3\ndeliver 4\nsend 5 1>0 2 UNKNOWN s 0.1.1 0\ndeliver 5\nsend 6 0>1 1 DATA c 0.1.1 7 1 0 0 1 1.0 62\ndeliver 3\ndeliver 6\nrun 1 0.1.1 1 62 0000000000000001 0\nsend 7 1>0 2 DATA s 0.1.1 7 8 0 0 0 - 0000000000000001\ndeliver 7\ndone 0.1.1 0000000000000001\nok 23\n"
unfolding is_utf8 chars digits decode_pairs encode_with encode empty checked get insert retain remove len keys values key_set insert_all with_range
    without_range within ranges first_in missing ordered firsts due level_of noted least_from bounds number_at two_at times packet_in packet_at
    packet_of body_at tick_at data_at ack_at grant_at resend_at cutoffs_at unknown_at more_at calls_at line_text opening opening_from steps_from
    phrase_in bytes_of_word tuned client_gets server_gets server_acked client_deadline server_deadline asked served takes pumped_once pumps
    start_fault call_step arrival_step turn_step new_world outcome carried replayed replay seen allowed judged
restarted_server = refl

-- and its trace obeys every law
pub restarted_server_obeys : first_broken (lines (replay (codes "go\ncall 0 1 1 61\ncall 0 1 1 62\ndeliver 0\ndeliver 1\ndeliver 2\nrestart 1\ntick 4\ndeliver 4\ndeliver 5\ndeliver 3\ndeliver 6\ndeliver 7") (record { bytes = 0 ∷ 0 ∷ 0 ∷ 0 ∷ 0 ∷ 0 ∷ 0 ∷ 1 ∷ []; hold = 0 } ∷ record { bytes = 0 ∷ 0 ∷ 0 ∷ 0 ∷ 0 ∷ 0 ∷ 0 ∷ 2 ∷ []; hold = 0 } ∷ record { bytes = 0 ∷ 0 ∷ 0 ∷ 0 ∷ 0 ∷ 0 ∷ 0 ∷ 1 ∷ []; hold = 0 } ∷ []) 96)) ≡ None
unfolding is_utf8 chars digits decode_pairs encode_with encode empty checked get insert retain remove len keys values key_set insert_all with_range
    without_range within ranges first_in missing ordered firsts due level_of noted least_from bounds number_at two_at times packet_in packet_at
    packet_of body_at tick_at data_at ack_at grant_at resend_at cutoffs_at unknown_at more_at calls_at line_text opening opening_from steps_from
    phrase_in bytes_of_word tuned client_gets server_gets server_acked client_deadline server_deadline asked served takes pumped_once pumps
    start_fault call_step arrival_step turn_step new_world outcome carried replayed replay seen allowed judged
restarted_server_obeys = refl

-- pieces of two lives of a server don't make one response
pub lives_do_not_mix : replay_text (codes "seg 4\ngo\ncall 0 1 1 61\ncall 0 1 1 62\ndeliver 0\ndeliver 1\ndeliver 5\nrestart 1\ntick 4\ndeliver 7\ndeliver 8\ndeliver 9\ndeliver 10\ndeliver 11\n") (record { bytes = 0 ∷ 0 ∷ 0 ∷ 0 ∷ 0 ∷ 0 ∷ 0 ∷ 1 ∷ []; hold = 0 } ∷ record { bytes = 0 ∷ 0 ∷ 0 ∷ 0 ∷ 0 ∷ 0 ∷ 0 ∷ 2 ∷ []; hold = 0 } ∷ record { bytes = 0 ∷ 0 ∷ 0 ∷ 0 ∷ 0 ∷ 0 ∷ 0 ∷ 1 ∷ []; hold = 0 } ∷ []) 96 ≡ codes "settings 2 4 10000 10000 4 14000 4 5 20 1024 256 1024 0\ncall 0.1.0 1 1 61\nsend 0 0>1 1 DATA c 0.1.0 7 1 0 0 1 - 61\ncall 0.1.1 1 1 62\nsend 1 0>1 1 DATA c 0.1.1 7 1 0 0 1 - 62\ndeliver 0\nrun 1 0.1.0 1 61 0000000000000001 0\nsend 2 1>0 1 DATA s 0.1.0 7 8 0 0 0 - 00000000\nsend 3 1>0 1 DATA s 0.1.0 7 8 4 0 0 - 00000001\ndeliver 1\nrun 1 0.1.1 1 62 0000000000000002 0\nsend 4 1>0 1 DATA s 0.1.1 7 8 0 0 0 - 00000000\nsend 5 1>0 1 DATA s 0.1.1 7 8 4 0 0 - 00000002\ndeliver 5\nrestart 1 2\nclock 1\nclock 2\nclock 3\nclock 4\nsend 6 0>1 1 RESEND c 0.1.0 0 10000 3\nsend 7 0>1 1 RESEND c 0.1.1 0 4 3\ndeliver 7\nsend 8 1>0 2 UNKNOWN s 0.1.1 0\ndeliver 8\nsend 9 0>1 1 DATA c 0.1.1 7 1 0 0 1 - 62\ndeliver 9\nrun 1 0.1.1 1 62 0000000000000001 0\nsend 10 1>0 2 DATA s 0.1.1 7 8 0 0 0 - 00000000\nsend 11 1>0 2 DATA s 0.1.1 7 8 4 0 0 - 00000001\ndeliver 10\ndeliver 11\ndone 0.1.1 0000000000000001\nok 23\n"
unfolding is_utf8 chars digits decode_pairs encode_with encode empty checked get insert retain remove len keys values key_set insert_all with_range
    without_range within ranges first_in missing ordered firsts due level_of noted least_from bounds number_at two_at times packet_in packet_at
    packet_of body_at tick_at data_at ack_at grant_at resend_at cutoffs_at unknown_at more_at calls_at line_text opening opening_from steps_from
    phrase_in bytes_of_word tuned client_gets server_gets server_acked client_deadline server_deadline asked served takes pumped_once pumps
    start_fault call_step arrival_step turn_step new_world outcome carried replayed replay seen allowed judged
lives_do_not_mix = refl

-- and its trace obeys every law
pub lives_do_not_mix_obeys : first_broken (lines (replay (codes "seg 4\ngo\ncall 0 1 1 61\ncall 0 1 1 62\ndeliver 0\ndeliver 1\ndeliver 5\nrestart 1\ntick 4\ndeliver 7\ndeliver 8\ndeliver 9\ndeliver 10\ndeliver 11\n") (record { bytes = 0 ∷ 0 ∷ 0 ∷ 0 ∷ 0 ∷ 0 ∷ 0 ∷ 1 ∷ []; hold = 0 } ∷ record { bytes = 0 ∷ 0 ∷ 0 ∷ 0 ∷ 0 ∷ 0 ∷ 0 ∷ 2 ∷ []; hold = 0 } ∷ record { bytes = 0 ∷ 0 ∷ 0 ∷ 0 ∷ 0 ∷ 0 ∷ 0 ∷ 1 ∷ []; hold = 0 } ∷ []) 96)) ≡ None
unfolding is_utf8 chars digits decode_pairs encode_with encode empty checked get insert retain remove len keys values key_set insert_all with_range
    without_range within ranges first_in missing ordered firsts due level_of noted least_from bounds number_at two_at times packet_in packet_at
    packet_of body_at tick_at data_at ack_at grant_at resend_at cutoffs_at unknown_at more_at calls_at line_text opening opening_from steps_from
    phrase_in bytes_of_word tuned client_gets server_gets server_acked client_deadline server_deadline asked served takes pumped_once pumps
    start_fault call_step arrival_step turn_step new_world outcome carried replayed replay seen allowed judged
lives_do_not_mix_obeys = refl

-- a client that restarts has no finished calls
pub restart_forgets_finished : replay_text (codes "go\ncall 0 1 0 61\ndeliver 0\ndeliver 1\nrestart 0\ncall 0 1 0 62\n") (record { bytes = 97 ∷ []; hold = 0 } ∷ []) 96 ≡ codes "settings 2 1400 10000 10000 4 14000 4 5 20 1024 256 1024 0\ncall 0.1.0 1 0 61\nsend 0 0>1 1 DATA c 0.1.0 7 1 0 0 0 - 61\ndeliver 0\nrun 1 0.1.0 0 61 61 0\nsend 1 1>0 1 DATA s 0.1.0 7 1 0 0 0 - 61\ndeliver 1\ndone 0.1.0 61\nrestart 0 2\ncall 0.2.0 1 0 62\nsend 2 0>1 2 DATA c 0.2.0 7 1 0 0 0 - 62\nok 5\n"
unfolding is_utf8 chars digits decode_pairs encode_with encode empty checked get insert retain remove len keys values key_set insert_all with_range
    without_range within ranges first_in missing ordered firsts due level_of noted least_from bounds number_at two_at times packet_in packet_at
    packet_of body_at tick_at data_at ack_at grant_at resend_at cutoffs_at unknown_at more_at calls_at line_text opening opening_from steps_from
    phrase_in bytes_of_word tuned client_gets server_gets server_acked client_deadline server_deadline asked served takes pumped_once pumps
    start_fault call_step arrival_step turn_step new_world outcome carried replayed replay seen allowed judged
restart_forgets_finished = refl

-- and its trace obeys every law
pub restart_forgets_finished_obeys : first_broken
    (lines (replay (codes "go\ncall 0 1 0 61\ndeliver 0\ndeliver 1\nrestart 0\ncall 0 1 0 62\n") (record { bytes = 97 ∷ []; hold = 0 } ∷ []) 96)) ≡ None
unfolding is_utf8 chars digits decode_pairs encode_with encode empty checked get insert retain remove len keys values key_set insert_all with_range
    without_range within ranges first_in missing ordered firsts due level_of noted least_from bounds number_at two_at times packet_in packet_at
    packet_of body_at tick_at data_at ack_at grant_at resend_at cutoffs_at unknown_at more_at calls_at line_text opening opening_from steps_from
    phrase_in bytes_of_word tuned client_gets server_gets server_acked client_deadline server_deadline asked served takes pumped_once pumps
    start_fault call_step arrival_step turn_step new_world outcome carried replayed replay seen allowed judged
restart_forgets_finished_obeys = refl

-- a call that ran and is forgotten
pub run_and_forgotten : replay_text (codes "resend 2\ntries 1\nlife 10\ngo\ncall 0 1 0 61\ndeliver 0\ntick 2\ndeliver 3\ntick 2\ndeliver 5\ndeliver 6") (record { bytes = 97 ∷ []; hold = 0 } ∷ []) 96 ≡ codes "settings 2 1400 10000 10000 4 14000 2 1 10 1024 256 1024 0\ncall 0.1.0 1 0 61\nsend 0 0>1 1 DATA c 0.1.0 7 1 0 0 0 - 61\ndeliver 0\nrun 1 0.1.0 0 61 61 0\nsend 1 1>0 1 DATA s 0.1.0 7 1 0 0 0 - 61\nclock 1\nclock 2\nsend 2 0>1 1 RESEND c 0.1.0 0 10000 3\nsend 3 1>0 1 NEED_ACK s 0.1.0\ndeliver 3\nsend 4 0>1 1 BUSY c 0.1.0\nclock 3\nclock 4\nsend 5 0>1 1 RESEND c 0.1.0 0 10000 3\nbury 1 0.1.0 28\ndeliver 5\nsend 6 1>0 1 UNKNOWN s 0.1.0 1\ndeliver 6\nfail 0.1.0 forgotten\nok 17\n"
unfolding is_utf8 chars digits decode_pairs encode_with encode empty checked get insert retain remove len keys values key_set insert_all with_range
    without_range within ranges first_in missing ordered firsts due level_of noted least_from bounds number_at two_at times packet_in packet_at
    packet_of body_at tick_at data_at ack_at grant_at resend_at cutoffs_at unknown_at more_at calls_at line_text opening opening_from steps_from
    phrase_in bytes_of_word tuned client_gets server_gets server_acked client_deadline server_deadline asked served takes pumped_once pumps
    start_fault call_step arrival_step turn_step new_world outcome carried replayed replay seen allowed judged
run_and_forgotten = refl

-- and its trace obeys every law
pub run_and_forgotten_obeys : first_broken
    (lines (replay (codes "resend 2\ntries 1\nlife 10\ngo\ncall 0 1 0 61\ndeliver 0\ntick 2\ndeliver 3\ntick 2\ndeliver 5\ndeliver 6")
    (record { bytes = 97 ∷ []; hold = 0 } ∷ []) 96)) ≡ None
unfolding is_utf8 chars digits decode_pairs encode_with encode empty checked get insert retain remove len keys values key_set insert_all with_range
    without_range within ranges first_in missing ordered firsts due level_of noted least_from bounds number_at two_at times packet_in packet_at
    packet_of body_at tick_at data_at ack_at grant_at resend_at cutoffs_at unknown_at more_at calls_at line_text opening opening_from steps_from
    phrase_in bytes_of_word tuned client_gets server_gets server_acked client_deadline server_deadline asked served takes pumped_once pumps
    start_fault call_step arrival_step turn_step new_world outcome carried replayed replay seen allowed judged
run_and_forgotten_obeys = refl

-- UNKNOWN doesn't count as an answer
pub unknown_renews_nothing : replay_text (codes "resend 2\ntries 1\ngo\ncall 0 1 0 61\ntick 2\ndeliver 1\ndeliver 2\ntick 2\n") ([]) 96 ≡ codes "settings 2 1400 10000 10000 4 14000 2 1 20 1024 256 1024 0\ncall 0.1.0 1 0 61\nsend 0 0>1 1 DATA c 0.1.0 7 1 0 0 0 - 61\nclock 1\nclock 2\nsend 1 0>1 1 RESEND c 0.1.0 0 10000 3\ndeliver 1\nsend 2 1>0 1 UNKNOWN s 0.1.0 0\ndeliver 2\nsend 3 0>1 1 DATA c 0.1.0 7 1 0 0 0 - 61\nclock 3\nclock 4\nfail 0.1.0 timeout\nok 15\n"
unfolding is_utf8 chars digits decode_pairs encode_with encode empty checked get insert retain remove len keys values key_set insert_all with_range
    without_range within ranges first_in missing ordered firsts due level_of noted least_from bounds number_at two_at times packet_in packet_at
    packet_of body_at tick_at data_at ack_at grant_at resend_at cutoffs_at unknown_at more_at calls_at line_text opening opening_from steps_from
    phrase_in bytes_of_word tuned client_gets server_gets server_acked client_deadline server_deadline asked served takes pumped_once pumps
    start_fault call_step arrival_step turn_step new_world outcome carried replayed replay seen allowed judged
unknown_renews_nothing = refl

-- and its trace obeys every law
pub unknown_renews_nothing_obeys : first_broken
    (lines (replay (codes "resend 2\ntries 1\ngo\ncall 0 1 0 61\ntick 2\ndeliver 1\ndeliver 2\ntick 2\n") ([]) 96)) ≡ None
unfolding is_utf8 chars digits decode_pairs encode_with encode empty checked get insert retain remove len keys values key_set insert_all with_range
    without_range within ranges first_in missing ordered firsts due level_of noted least_from bounds number_at two_at times packet_in packet_at
    packet_of body_at tick_at data_at ack_at grant_at resend_at cutoffs_at unknown_at more_at calls_at line_text opening opening_from steps_from
    phrase_in bytes_of_word tuned client_gets server_gets server_acked client_deadline server_deadline asked served takes pumped_once pumps
    start_fault call_step arrival_step turn_step new_world outcome carried replayed replay seen allowed judged
unknown_renews_nothing_obeys = refl

-- no row is free
pub full_rows : replay_text (codes "hosts 3\nlife 2\nserved 1\ngo\ncall 0 2 0 61\ncall 1 2 0 62\ndeliver 0\ndeliver 1\ndeliver 2\ntick 4\ndeliver 4\ndeliver 5\ntick 4\ndeliver 6\ndeliver 7\ndeliver 8") (record { bytes = 97 ∷ []; hold = 0 } ∷ record { bytes = 98 ∷ []; hold = 0 } ∷ []) 96 ≡ codes "settings 3 1400 10000 10000 4 14000 4 5 2 1024 256 1 0\ncall 0.1.0 2 0 61\nsend 0 0>2 1 DATA c 0.1.0 7 1 0 0 0 - 61\ncall 1.1.0 2 0 62\nsend 1 1>2 1 DATA c 1.1.0 7 1 0 0 0 - 62\ndeliver 0\nrun 2 0.1.0 0 61 61 0\nsend 2 2>0 1 DATA s 0.1.0 7 1 0 0 0 - 61\ndeliver 1\nfull 2 1.1.0 rows 1 1\ndeliver 2\ndone 0.1.0 61\nclock 1\nclock 2\nclock 3\nclock 4\nsend 3 1>2 1 RESEND c 1.1.0 0 10000 3\nsend 4 2>0 1 NEED_ACK s 0.1.0\ndeliver 4\nsend 5 0>2 1 ACK c 0.1.0\ndeliver 5\nbury 2 0.1.0 6\nclock 5\nclock 6\nclock 7\nfree 2 0.1.0\nclock 8\nsend 6 1>2 1 RESEND c 1.1.0 0 10000 3\ndeliver 6\nsend 7 2>1 1 UNKNOWN s 1.1.0 0\ndeliver 7\nsend 8 1>2 1 DATA c 1.1.0 7 1 0 0 0 - 62\ndeliver 8\nrun 2 1.1.0 0 62 62 0\nsend 9 2>1 1 DATA s 1.1.0 7 1 0 0 0 - 62\nok 42\n"
unfolding is_utf8 chars digits decode_pairs encode_with encode empty checked get insert retain remove len keys values key_set insert_all with_range
    without_range within ranges first_in missing ordered firsts due level_of noted least_from bounds number_at two_at times packet_in packet_at
    packet_of body_at tick_at data_at ack_at grant_at resend_at cutoffs_at unknown_at more_at calls_at line_text opening opening_from steps_from
    phrase_in bytes_of_word tuned client_gets server_gets server_acked client_deadline server_deadline asked served takes pumped_once pumps
    start_fault call_step arrival_step turn_step new_world outcome carried replayed replay seen allowed judged
full_rows = refl

-- and its trace obeys every law
pub full_rows_obeys : first_broken (lines (replay (codes "hosts 3\nlife 2\nserved 1\ngo\ncall 0 2 0 61\ncall 1 2 0 62\ndeliver 0\ndeliver 1\ndeliver 2\ntick 4\ndeliver 4\ndeliver 5\ntick 4\ndeliver 6\ndeliver 7\ndeliver 8") (record { bytes = 97 ∷ []; hold = 0 } ∷ record { bytes = 98 ∷ []; hold = 0 } ∷ []) 96)) ≡ None
unfolding is_utf8 chars digits decode_pairs encode_with encode empty checked get insert retain remove len keys values key_set insert_all with_range
    without_range within ranges first_in missing ordered firsts due level_of noted least_from bounds number_at two_at times packet_in packet_at
    packet_of body_at tick_at data_at ack_at grant_at resend_at cutoffs_at unknown_at more_at calls_at line_text opening opening_from steps_from
    phrase_in bytes_of_word tuned client_gets server_gets server_acked client_deadline server_deadline asked served takes pumped_once pumps
    start_fault call_step arrival_step turn_step new_world outcome carried replayed replay seen allowed judged
full_rows_obeys = refl

-- clocks that may differ by two ticks
pub skewed_clocks : replay_text (codes "skew 1\nresend 2\ntries 1\nlife 10\ngo\ncall 0 1 0 61\ndeliver 0\ntick 4") (record { bytes = 97 ∷ []; hold = 0 } ∷ []) 96 ≡ codes "settings 2 1400 10000 10000 4 14000 2 1 10 1024 256 1024 0 1\ncall 0.1.0 1 0 61\nsend 0 0>1 1 DATA c 0.1.0 7 1 0 0 0 - 61\ndeliver 0\nrun 1 0.1.0 0 61 61 0\nsend 1 1>0 1 DATA s 0.1.0 7 1 0 0 0 - 61\nclock 1\nclock 2\nsend 2 0>1 1 RESEND c 0.1.0 0 10000 3\nsend 3 1>0 1 NEED_ACK s 0.1.0\nclock 3\nclock 4\nfail 0.1.0 timeout\nbury 1 0.1.0 33\nok 14\n"
unfolding is_utf8 chars digits decode_pairs encode_with encode empty checked get insert retain remove len keys values key_set insert_all with_range
    without_range within ranges first_in missing ordered firsts due level_of noted least_from bounds number_at two_at times packet_in packet_at
    packet_of body_at tick_at data_at ack_at grant_at resend_at cutoffs_at unknown_at more_at calls_at line_text opening opening_from steps_from
    phrase_in bytes_of_word tuned client_gets server_gets server_acked client_deadline server_deadline asked served takes pumped_once pumps
    start_fault call_step arrival_step turn_step new_world outcome carried replayed replay seen allowed judged
skewed_clocks = refl

-- and its trace obeys every law
pub skewed_clocks_obeys : first_broken
    (lines (replay (codes "skew 1\nresend 2\ntries 1\nlife 10\ngo\ncall 0 1 0 61\ndeliver 0\ntick 4") (record { bytes = 97 ∷ []; hold = 0 } ∷ []) 96)) ≡ None
unfolding is_utf8 chars digits decode_pairs encode_with encode empty checked get insert retain remove len keys values key_set insert_all with_range
    without_range within ranges first_in missing ordered firsts due level_of noted least_from bounds number_at two_at times packet_in packet_at
    packet_of body_at tick_at data_at ack_at grant_at resend_at cutoffs_at unknown_at more_at calls_at line_text opening opening_from steps_from
    phrase_in bytes_of_word tuned client_gets server_gets server_acked client_deadline server_deadline asked served takes pumped_once pumps
    start_fault call_step arrival_step turn_step new_world outcome carried replayed replay seen allowed judged
skewed_clocks_obeys = refl

-- a lead is shifted
pub a_lead_is_shifted : replay_text (codes "skew 1\ngo\nturn 0\nclock\nshift 0 0")
    ([]) 96 ≡ codes "settings 2 1400 10000 10000 4 14000 4 5 20 1024 256 1024 0 1\nclock 1\nshift 0 0\nok 3\n"
unfolding is_utf8 chars digits decode_pairs encode_with encode empty checked get insert retain remove len keys values key_set insert_all with_range
    without_range within ranges first_in missing ordered firsts due level_of noted least_from bounds number_at two_at times packet_in packet_at
    packet_of body_at tick_at data_at ack_at grant_at resend_at cutoffs_at unknown_at more_at calls_at line_text opening opening_from steps_from
    phrase_in bytes_of_word tuned client_gets server_gets server_acked client_deadline server_deadline asked served takes pumped_once pumps
    start_fault call_step arrival_step turn_step new_world outcome carried replayed replay seen allowed judged
a_lead_is_shifted = refl

-- and its trace obeys every law
pub a_lead_is_shifted_obeys : first_broken (lines (replay (codes "skew 1\ngo\nturn 0\nclock\nshift 0 0") ([]) 96)) ≡ None
unfolding is_utf8 chars digits decode_pairs encode_with encode empty checked get insert retain remove len keys values key_set insert_all with_range
    without_range within ranges first_in missing ordered firsts due level_of noted least_from bounds number_at two_at times packet_in packet_at
    packet_of body_at tick_at data_at ack_at grant_at resend_at cutoffs_at unknown_at more_at calls_at line_text opening opening_from steps_from
    phrase_in bytes_of_word tuned client_gets server_gets server_acked client_deadline server_deadline asked served takes pumped_once pumps
    start_fault call_step arrival_step turn_step new_world outcome carried replayed replay seen allowed judged
a_lead_is_shifted_obeys = refl

-- version 2: a packet that is too old
pub stale_packet : replay_text (codes "life 1\nwire 2\ngo\ncall 0 1 0 61\nclock\nclock\ndeliver 0") ([]) 96 ≡ codes "settings 2 1400 10000 10000 4 14000 4 5 1 1024 256 1024 0 0 2\ncall 0.1.0 1 0 61\nsend 0 0>1 1 DATA c 0.1.0 7 1 0 0 0 - 61\nclock 1\nclock 2\ndeliver 0\nstale 1 0 2\nok 4\n"
unfolding is_utf8 chars digits decode_pairs encode_with encode empty checked get insert retain remove len keys values key_set insert_all with_range
    without_range within ranges first_in missing ordered firsts due level_of noted least_from bounds number_at two_at times packet_in packet_at
    packet_of body_at tick_at data_at ack_at grant_at resend_at cutoffs_at unknown_at more_at calls_at line_text opening opening_from steps_from
    phrase_in bytes_of_word tuned client_gets server_gets server_acked client_deadline server_deadline asked served takes pumped_once pumps
    start_fault call_step arrival_step turn_step new_world outcome carried replayed replay seen allowed judged
stale_packet = refl

-- and its trace obeys every law
pub stale_packet_obeys : first_broken (lines (replay (codes "life 1\nwire 2\ngo\ncall 0 1 0 61\nclock\nclock\ndeliver 0") ([]) 96)) ≡ None
unfolding is_utf8 chars digits decode_pairs encode_with encode empty checked get insert retain remove len keys values key_set insert_all with_range
    without_range within ranges first_in missing ordered firsts due level_of noted least_from bounds number_at two_at times packet_in packet_at
    packet_of body_at tick_at data_at ack_at grant_at resend_at cutoffs_at unknown_at more_at calls_at line_text opening opening_from steps_from
    phrase_in bytes_of_word tuned client_gets server_gets server_acked client_deadline server_deadline asked served takes pumped_once pumps
    start_fault call_step arrival_step turn_step new_world outcome carried replayed replay seen allowed judged
stale_packet_obeys = refl

-- version 2: a tombstone that stays for longer
pub version_two_buries_longer : replay_text (codes "skew 1\nwire 2\nresend 2\ntries 1\nlife 10\ngo\ncall 0 1 0 61\ndeliver 0\ntick 4") (record { bytes = 97 ∷ []; hold = 0 } ∷ []) 96 ≡ codes "settings 2 1400 10000 10000 4 14000 2 1 10 1024 256 1024 0 1 2\ncall 0.1.0 1 0 61\nsend 0 0>1 1 DATA c 0.1.0 7 1 0 0 0 - 61\ndeliver 0\nrun 1 0.1.0 0 61 61 0\nsend 1 1>0 1 DATA s 0.1.0 7 1 0 0 0 - 61\nclock 1\nclock 2\nsend 2 0>1 1 RESEND c 0.1.0 0 10000 3\nsend 3 1>0 1 NEED_ACK s 0.1.0\nclock 3\nclock 4\nfail 0.1.0 timeout\nbury 1 0.1.0 41\nok 14\n"
unfolding is_utf8 chars digits decode_pairs encode_with encode empty checked get insert retain remove len keys values key_set insert_all with_range
    without_range within ranges first_in missing ordered firsts due level_of noted least_from bounds number_at two_at times packet_in packet_at
    packet_of body_at tick_at data_at ack_at grant_at resend_at cutoffs_at unknown_at more_at calls_at line_text opening opening_from steps_from
    phrase_in bytes_of_word tuned client_gets server_gets server_acked client_deadline server_deadline asked served takes pumped_once pumps
    start_fault call_step arrival_step turn_step new_world outcome carried replayed replay seen allowed judged
version_two_buries_longer = refl

-- and its trace obeys every law
pub version_two_buries_longer_obeys : first_broken
    (lines (replay (codes "skew 1\nwire 2\nresend 2\ntries 1\nlife 10\ngo\ncall 0 1 0 61\ndeliver 0\ntick 4")
    (record { bytes = 97 ∷ []; hold = 0 } ∷ []) 96)) ≡ None
unfolding is_utf8 chars digits decode_pairs encode_with encode empty checked get insert retain remove len keys values key_set insert_all with_range
    without_range within ranges first_in missing ordered firsts due level_of noted least_from bounds number_at two_at times packet_in packet_at
    packet_of body_at tick_at data_at ack_at grant_at resend_at cutoffs_at unknown_at more_at calls_at line_text opening opening_from steps_from
    phrase_in bytes_of_word tuned client_gets server_gets server_acked client_deadline server_deadline asked served takes pumped_once pumps
    start_fault call_step arrival_step turn_step new_world outcome carried replayed replay seen allowed judged
version_two_buries_longer_obeys = refl

-- a packet of the other version is none
pub other_version : replay_text (codes "wire 2\ngo\ninject 1 01040007000000010000000100000000") ([]) 96 ≡ codes "settings 2 1400 10000 10000 4 14000 4 5 20 1024 256 1024 0 0 2\ninject 1 01040007000000010000000100000000\njunk 1\nok 1\n"
unfolding is_utf8 chars digits decode_pairs encode_with encode empty checked get insert retain remove len keys values key_set insert_all with_range
    without_range within ranges first_in missing ordered firsts due level_of noted least_from bounds number_at two_at times packet_in packet_at
    packet_of body_at tick_at data_at ack_at grant_at resend_at cutoffs_at unknown_at more_at calls_at line_text opening opening_from steps_from
    phrase_in bytes_of_word tuned client_gets server_gets server_acked client_deadline server_deadline asked served takes pumped_once pumps
    start_fault call_step arrival_step turn_step new_world outcome carried replayed replay seen allowed judged
other_version = refl

-- and its trace obeys every law
pub other_version_obeys : first_broken (lines (replay (codes "wire 2\ngo\ninject 1 01040007000000010000000100000000") ([]) 96)) ≡ None
unfolding is_utf8 chars digits decode_pairs encode_with encode empty checked get insert retain remove len keys values key_set insert_all with_range
    without_range within ranges first_in missing ordered firsts due level_of noted least_from bounds number_at two_at times packet_in packet_at
    packet_of body_at tick_at data_at ack_at grant_at resend_at cutoffs_at unknown_at more_at calls_at line_text opening opening_from steps_from
    phrase_in bytes_of_word tuned client_gets server_gets server_acked client_deadline server_deadline asked served takes pumped_once pumps
    start_fault call_step arrival_step turn_step new_world outcome carried replayed replay seen allowed judged
other_version_obeys = refl

-- datagrams that are no packets, and one that is
pub no_packets : replay_text (codes "go\ninject 1 0102\ninject 1 010201070000000100000001000000000000000b0000\ninject 1 090201070000000100000001000000000000000b00\ninject 1 010800070000000100000001000000000600000001000000010000000100000001000000010000000100000001000000010000000100000001\ninject 1 010201070000000100000001000000000000000b00") ([]) 96 ≡ codes "settings 2 1400 10000 10000 4 14000 4 5 20 1024 256 1024 0\ninject 1 0102\njunk 1\ninject 1 010201070000000100000001000000000000000b0000\njunk 1\ninject 1 090201070000000100000001000000000000000b00\njunk 1\ninject 1 010800070000000100000001000000000600000001000000010000000100000001000000010000000100000001000000010000000100000001\njunk 1\nrefused 6 Decodes\n"
unfolding is_utf8 chars digits decode_pairs encode_with encode empty checked get insert retain remove len keys values key_set insert_all with_range
    without_range within ranges first_in missing ordered firsts due level_of noted least_from bounds number_at two_at times packet_in packet_at
    packet_of body_at tick_at data_at ack_at grant_at resend_at cutoffs_at unknown_at more_at calls_at line_text opening opening_from steps_from
    phrase_in bytes_of_word tuned client_gets server_gets server_acked client_deadline server_deadline asked served takes pumped_once pumps
    start_fault call_step arrival_step turn_step new_world outcome carried replayed replay seen allowed judged
no_packets = refl

-- and its trace obeys every law
pub no_packets_obeys : first_broken (lines (replay (codes "go\ninject 1 0102\ninject 1 010201070000000100000001000000000000000b0000\ninject 1 090201070000000100000001000000000000000b00\ninject 1 010800070000000100000001000000000600000001000000010000000100000001000000010000000100000001000000010000000100000001\ninject 1 010201070000000100000001000000000000000b00") ([]) 96)) ≡ None
unfolding is_utf8 chars digits decode_pairs encode_with encode empty checked get insert retain remove len keys values key_set insert_all with_range
    without_range within ranges first_in missing ordered firsts due level_of noted least_from bounds number_at two_at times packet_in packet_at
    packet_of body_at tick_at data_at ack_at grant_at resend_at cutoffs_at unknown_at more_at calls_at line_text opening opening_from steps_from
    phrase_in bytes_of_word tuned client_gets server_gets server_acked client_deadline server_deadline asked served takes pumped_once pumps
    start_fault call_step arrival_step turn_step new_world outcome carried replayed replay seen allowed judged
no_packets_obeys = refl
