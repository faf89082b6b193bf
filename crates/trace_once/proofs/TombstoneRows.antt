-- Worked rows: the worst cases of tombstones. Each packet comes as late as clocks, patience and lives of packets let it come.
use Rattle.std.proofs.Common.{◌≡◌, [], ◌∷◌, None, refl}
use Rattle.std.specs.Prelude.{codes}
use Rattle.core.specs.Str.{is_utf8, chars}
use Rattle.core.specs.Fmt.{digits}
use Rattle.hex.specs.Hex.{decode_pairs, encode_with}
use lib.Utf8.{encode}
use Rattle.plain_sets.specs.Maps.{empty, checked, get, insert, retain, remove, len, keys, values, key_set, insert_all}
use Rattle.plain_sets.specs.Numbers.{with_range, without_range, within, ranges, first_in, missing}
use Rattle.plain_sets.specs.Ordered.{ordered, firsts}
use Rattle.homa_plain.specs.Timers.{due}
use Rattle.homa_plain.specs.Cutoffs.{level_of, noted, least_from, bounds}
use Rattle.homa_plain.specs.Bytes.{number_at, two_at, times}
use Rattle.homa_plain.specs.Wire.{packet_in, packet_at, packet_of, body_at, tick_at, data_at, ack_at, grant_at, resend_at, cutoffs_at, unknown_at}
use Rattle.homa_plain.specs.Wire.{more_at, calls_at}
use Rattle.homa_plain.specs.Text.{line_text}
use Rattle.homa_plain.specs.Script.{opening, opening_from, steps_from, phrase_in, bytes_of_word}
use Rattle.homa_plain.specs.Host.{tuned}
use Rattle.homa_plain.specs.AtClient.{client_gets}
use Rattle.homa_plain.specs.AtServer.{server_gets}
use Rattle.homa_plain.specs.Tombstones.{server_acked}
use Rattle.homa_plain.specs.Timers.{client_deadline, server_deadline}
use Rattle.homa_plain.specs.Steps.{asked, served, takes, start_fault, call_step, arrival_step, turn_step}
use Rattle.homa_plain.specs.SentNext.{pumped_once, pumps}
use Rattle.homa_plain.specs.World.{new_world, outcome}
use Rattle.homa_plain.specs.Replay.{carried, replayed, replay, replay_text, lines}
use Rattle.trace_rules.specs.Seen.{seen}
use Rattle.trace_rules.specs.Granting.{allowed}
use Rattle.trace_rules.specs.Judge.{judged, first_broken}

-- A call is acknowledged and buried for one span. A second packet of its request, sent as late as it can be, is taken at the tombstone's last tick: a
-- span that is one tick shorter would let the call run again.
pub last_tick_of_an_acked_tombstone : replay_text (codes "life 1\nresend 1\ntries 1\ngo\ncall 0 1 4 61\nclock\nturn 0\ndeliver 1\ndeliver 2\ndeliver 0\ndeliver 4\ncall 0 1 4 62\ndeliver 5\nclock\nturn 1\ndeliver 3\nclock\nturn 1\n") (record { bytes = 0 ∷ []; hold = 0 } ∷ record { bytes = 0 ∷ []; hold = 0 } ∷ []) 96 ≡ codes "settings 2 1400 10000 10000 4 14000 1 1 1 1024 256 1024 0\ncall 0.1.0 1 4 61\nsend 0 0>1 1 DATA c 0.1.0 7 1 0 0 4 - 61\nclock 1\nsend 1 0>1 1 RESEND c 0.1.0 0 10000 3\ndeliver 1\nsend 2 1>0 1 UNKNOWN s 0.1.0 0\ndeliver 2\nsend 3 0>1 1 DATA c 0.1.0 7 1 0 0 4 - 61\ndeliver 0\nrun 1 0.1.0 4 61 00 0\nsend 4 1>0 1 DATA s 0.1.0 7 1 0 0 0 - 00\ndeliver 4\ndone 0.1.0 00\ncall 0.1.1 1 4 62\nsend 5 0>1 1 DATA c 0.1.1 7 1 0 0 4 1.0 62\ndeliver 5\nrun 1 0.1.1 4 62 00 0\nbury 1 0.1.0 2\nsend 6 1>0 1 DATA s 0.1.1 7 1 0 0 0 - 00\nclock 2\nsend 7 1>0 1 NEED_ACK s 0.1.1\ndeliver 3\nsend 8 1>0 1 UNKNOWN s 0.1.0 1\nclock 3\nfree 1 0.1.0\nbury 1 0.1.1 7\nok 14\n"
unfolding is_utf8 chars digits decode_pairs encode_with encode empty checked get insert retain remove len keys values key_set insert_all with_range
    without_range within ranges first_in missing ordered firsts due level_of noted least_from bounds number_at two_at times packet_in packet_at
    packet_of body_at tick_at data_at ack_at grant_at resend_at cutoffs_at unknown_at more_at calls_at line_text opening opening_from steps_from
    phrase_in bytes_of_word tuned client_gets server_gets server_acked client_deadline server_deadline asked served takes pumped_once pumps
    start_fault call_step arrival_step turn_step new_world outcome carried replayed replay seen allowed judged
last_tick_of_an_acked_tombstone = refl

-- and its trace obeys every law
pub last_tick_of_an_acked_tombstone_obeys : first_broken (lines (replay (codes "life 1\nresend 1\ntries 1\ngo\ncall 0 1 4 61\nclock\nturn 0\ndeliver 1\ndeliver 2\ndeliver 0\ndeliver 4\ncall 0 1 4 62\ndeliver 5\nclock\nturn 1\ndeliver 3\nclock\nturn 1\n") (record { bytes = 0 ∷ []; hold = 0 } ∷ record { bytes = 0 ∷ []; hold = 0 } ∷ []) 96)) ≡ None
unfolding is_utf8 chars digits decode_pairs encode_with encode empty checked get insert retain remove len keys values key_set insert_all with_range
    without_range within ranges first_in missing ordered firsts due level_of noted least_from bounds number_at two_at times packet_in packet_at
    packet_of body_at tick_at data_at ack_at grant_at resend_at cutoffs_at unknown_at more_at calls_at line_text opening opening_from steps_from
    phrase_in bytes_of_word tuned client_gets server_gets server_acked client_deadline server_deadline asked served takes pumped_once pumps
    start_fault call_step arrival_step turn_step new_world outcome carried replayed replay seen allowed judged
last_tick_of_an_acked_tombstone_obeys = refl

-- The same with a skew of 1, where the client sends by the slowest clock and the server counts by the fastest.
pub last_tick_of_an_acked_tombstone_with_skew : replay_text (codes "skew 1\nlife 1\nresend 1\ntries 1\ngo\nshift 0 0\nshift 1 0\ncall 0 1 4 61\nclock\nturn 0\ndeliver 1\ndeliver 2\ndeliver 0\ndeliver 4\ncall 0 1 4 62\ndeliver 5\nclock\nshift 1 2\nturn 1\ndeliver 3\nclock\nturn 1\n") (record { bytes = 0 ∷ []; hold = 0 } ∷ record { bytes = 0 ∷ []; hold = 0 } ∷ []) 96 ≡ codes "settings 2 1400 10000 10000 4 14000 1 1 1 1024 256 1024 0 1\nshift 0 0\nshift 1 0\ncall 0.1.0 1 4 61\nsend 0 0>1 1 DATA c 0.1.0 7 1 0 0 4 - 61\nclock 1\nsend 1 0>1 1 RESEND c 0.1.0 0 10000 3\ndeliver 1\nsend 2 1>0 1 UNKNOWN s 0.1.0 0\ndeliver 2\nsend 3 0>1 1 DATA c 0.1.0 7 1 0 0 4 - 61\ndeliver 0\nrun 1 0.1.0 4 61 00 0\nsend 4 1>0 1 DATA s 0.1.0 7 1 0 0 0 - 00\ndeliver 4\ndone 0.1.0 00\ncall 0.1.1 1 4 62\nsend 5 0>1 1 DATA c 0.1.1 7 1 0 0 4 1.0 62\ndeliver 5\nrun 1 0.1.1 4 62 00 0\nbury 1 0.1.0 4\nsend 6 1>0 1 DATA s 0.1.1 7 1 0 0 0 - 00\nclock 2\nshift 1 2\nsend 7 1>0 1 NEED_ACK s 0.1.1\ndeliver 3\nsend 8 1>0 1 UNKNOWN s 0.1.0 1\nclock 3\nfree 1 0.1.0\nbury 1 0.1.1 13\nok 17\n"
unfolding is_utf8 chars digits decode_pairs encode_with encode empty checked get insert retain remove len keys values key_set insert_all with_range
    without_range within ranges first_in missing ordered firsts due level_of noted least_from bounds number_at two_at times packet_in packet_at
    packet_of body_at tick_at data_at ack_at grant_at resend_at cutoffs_at unknown_at more_at calls_at line_text opening opening_from steps_from
    phrase_in bytes_of_word tuned client_gets server_gets server_acked client_deadline server_deadline asked served takes pumped_once pumps
    start_fault call_step arrival_step turn_step new_world outcome carried replayed replay seen allowed judged
last_tick_of_an_acked_tombstone_with_skew = refl

-- and its trace obeys every law
pub last_tick_of_an_acked_tombstone_with_skew_obeys : first_broken (lines (replay (codes "skew 1\nlife 1\nresend 1\ntries 1\ngo\nshift 0 0\nshift 1 0\ncall 0 1 4 61\nclock\nturn 0\ndeliver 1\ndeliver 2\ndeliver 0\ndeliver 4\ncall 0 1 4 62\ndeliver 5\nclock\nshift 1 2\nturn 1\ndeliver 3\nclock\nturn 1\n") (record { bytes = 0 ∷ []; hold = 0 } ∷ record { bytes = 0 ∷ []; hold = 0 } ∷ []) 96)) ≡ None
unfolding is_utf8 chars digits decode_pairs encode_with encode empty checked get insert retain remove len keys values key_set insert_all with_range
    without_range within ranges first_in missing ordered firsts due level_of noted least_from bounds number_at two_at times packet_in packet_at
    packet_of body_at tick_at data_at ack_at grant_at resend_at cutoffs_at unknown_at more_at calls_at line_text opening opening_from steps_from
    phrase_in bytes_of_word tuned client_gets server_gets server_acked client_deadline server_deadline asked served takes pumped_once pumps
    start_fault call_step arrival_step turn_step new_world outcome carried replayed replay seen allowed judged
last_tick_of_an_acked_tombstone_with_skew_obeys = refl

-- A call is buried after unanswered NEED_ACKs. Its client, which has heard the last NEED_ACK as late as it can, sends the request again at the end of
-- its patience, and that packet is taken as late as it can be: the tombstone still stands.
pub silent_tombstone_at_its_latest : replay_text (codes "skew 1\nseg 1\nwindow 1\nunsched 1\nrate 1\nresend 1\ntries 1\nlife 1\ngo\nshift 0 0\nshift 1 0\ncall 0 1 4 61\nclock\nturn 0\ncall 0 1 4 62\ndeliver 1\ndeliver 0\ndeliver 3\nclock\nturn 1\nshift 1 1\nturn 1\nclock\nshift 0 2\ndeliver 5\nclock\nclock\nshift 0 0\nclock\nclock\nturn 0\nclock\nshift 1 2\nturn 1\ndeliver 9\n") (record { bytes = 0 ∷ []; hold = 0 } ∷ []) 96 ≡ codes "settings 2 1 1 1 4 1 1 1 1 1024 256 1024 0 1\nshift 0 0\nshift 1 0\ncall 0.1.0 1 4 61\nsend 0 0>1 1 DATA c 0.1.0 7 1 0 0 4 - 61\nclock 1\nsend 1 0>1 1 RESEND c 0.1.0 0 1 3\ncall 0.1.1 1 4 62\nsend 2 0>1 1 DATA c 0.1.1 7 1 0 0 4 - 62\ndeliver 1\nsend 3 1>0 1 UNKNOWN s 0.1.0 0\ndeliver 0\nrun 1 0.1.0 4 61 00 0\nsend 4 1>0 1 DATA s 0.1.0 7 1 0 0 0 - 00\ndeliver 3\nclock 2\nsend 5 1>0 1 NEED_ACK s 0.1.0\nshift 1 1\nbury 1 0.1.0 11\nclock 3\nshift 0 2\ndeliver 5\nsend 6 0>1 1 BUSY c 0.1.0\nclock 4\nclock 5\nshift 0 0\nclock 6\nclock 7\nsend 7 0>1 1 RESEND c 0.1.0 0 1 3\nsend 8 0>1 1 RESEND c 0.1.1 0 1 3\nsend 9 0>1 1 DATA c 0.1.0 7 1 0 0 4 - 61\nclock 8\nshift 1 2\ndeliver 9\nsend 10 1>0 1 UNKNOWN s 0.1.0 1\nok 26\n"
unfolding is_utf8 chars digits decode_pairs encode_with encode empty checked get insert retain remove len keys values key_set insert_all with_range
    without_range within ranges first_in missing ordered firsts due level_of noted least_from bounds number_at two_at times packet_in packet_at
    packet_of body_at tick_at data_at ack_at grant_at resend_at cutoffs_at unknown_at more_at calls_at line_text opening opening_from steps_from
    phrase_in bytes_of_word tuned client_gets server_gets server_acked client_deadline server_deadline asked served takes pumped_once pumps
    start_fault call_step arrival_step turn_step new_world outcome carried replayed replay seen allowed judged
silent_tombstone_at_its_latest = refl

-- and its trace obeys every law
pub silent_tombstone_at_its_latest_obeys : first_broken (lines (replay (codes "skew 1\nseg 1\nwindow 1\nunsched 1\nrate 1\nresend 1\ntries 1\nlife 1\ngo\nshift 0 0\nshift 1 0\ncall 0 1 4 61\nclock\nturn 0\ncall 0 1 4 62\ndeliver 1\ndeliver 0\ndeliver 3\nclock\nturn 1\nshift 1 1\nturn 1\nclock\nshift 0 2\ndeliver 5\nclock\nclock\nshift 0 0\nclock\nclock\nturn 0\nclock\nshift 1 2\nturn 1\ndeliver 9\n") (record { bytes = 0 ∷ []; hold = 0 } ∷ []) 96)) ≡ None
unfolding is_utf8 chars digits decode_pairs encode_with encode empty checked get insert retain remove len keys values key_set insert_all with_range
    without_range within ranges first_in missing ordered firsts due level_of noted least_from bounds number_at two_at times packet_in packet_at
    packet_of body_at tick_at data_at ack_at grant_at resend_at cutoffs_at unknown_at more_at calls_at line_text opening opening_from steps_from
    phrase_in bytes_of_word tuned client_gets server_gets server_acked client_deadline server_deadline asked served takes pumped_once pumps
    start_fault call_step arrival_step turn_step new_world outcome carried replayed replay seen allowed judged
silent_tombstone_at_its_latest_obeys = refl
