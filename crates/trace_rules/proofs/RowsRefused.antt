-- Worked rows of refused lines: what is printed up to them.
use Rattle.std.proofs.Common.{◌≡◌, [], ◌∷◌, ◌++◌, None, refl}
use Rattle.std.specs.Prelude.{codes}
use Rattle.core.specs.Str.{is_utf8, chars}
use Rattle.core.specs.Fmt.{digits}
use Rattle.hex.specs.Hex.{decode_pairs, encode_with}
use lib.Utf8.{encode}
use Rattle.plain_sets.specs.Maps.{empty, checked, get, insert, retain, remove, len, keys, values, key_set, insert_all}
use Rattle.plain_sets.specs.Numbers.{with_range, without_range, within, ranges, first_in, missing}
use Rattle.plain_sets.specs.Ordered.{ordered, firsts}
use Rattle.homa_plain.specs.Timers.{due}
use Rattle.homa_plain.specs.Cutoffs.{level_of, noted, least_from, bounds}
use Rattle.homa_plain.specs.Bytes.{number_at, two_at, times}
use Rattle.homa_plain.specs.Wire.{packet_in, packet_at, packet_of, body_at, tick_at, data_at, ack_at, grant_at, resend_at, cutoffs_at, unknown_at}
use Rattle.homa_plain.specs.Wire.{more_at, calls_at}
use Rattle.homa_plain.specs.Text.{line_text}
use Rattle.homa_plain.specs.Script.{opening, opening_from, steps_from, phrase_in, bytes_of_word}
use Rattle.homa_plain.specs.Host.{tuned}
use Rattle.homa_plain.specs.AtClient.{client_gets}
use Rattle.homa_plain.specs.AtServer.{server_gets}
use Rattle.homa_plain.specs.Tombstones.{server_acked}
use Rattle.homa_plain.specs.Timers.{client_deadline, server_deadline}
use Rattle.homa_plain.specs.Steps.{asked, served, takes, start_fault, call_step, arrival_step, turn_step}
use Rattle.homa_plain.specs.SentNext.{pumped_once, pumps}
use Rattle.homa_plain.specs.World.{new_world, outcome}
use Rattle.homa_plain.specs.Replay.{carried, replayed, replay, replay_text, lines, last_entry}
use Rattle.trace_rules.specs.Seen.{seen}
use Rattle.trace_rules.specs.Granting.{allowed}
use Rattle.trace_rules.specs.Judge.{judged, first_broken}

-- an empty input
pub empty_input : replay_text ([]) ([]) 96 ≡ codes "refused 1 NoGo\n"
unfolding is_utf8 chars digits decode_pairs encode_with encode empty checked get insert retain remove len keys values key_set insert_all with_range
    without_range within ranges first_in missing ordered firsts due level_of noted least_from bounds number_at two_at times packet_in packet_at
    packet_of body_at tick_at data_at ack_at grant_at resend_at cutoffs_at unknown_at more_at calls_at line_text opening opening_from steps_from
    phrase_in bytes_of_word tuned client_gets server_gets server_acked client_deadline server_deadline asked served takes pumped_once pumps
    start_fault call_step arrival_step turn_step new_world outcome carried replayed replay seen allowed judged
empty_input = refl

-- no `go`
pub no_go : replay_text (codes "hosts 2") ([]) 96 ≡ codes "refused 2 NoGo\n"
unfolding is_utf8 chars digits decode_pairs encode_with encode empty checked get insert retain remove len keys values key_set insert_all with_range
    without_range within ranges first_in missing ordered firsts due level_of noted least_from bounds number_at two_at times packet_in packet_at
    packet_of body_at tick_at data_at ack_at grant_at resend_at cutoffs_at unknown_at more_at calls_at line_text opening opening_from steps_from
    phrase_in bytes_of_word tuned client_gets server_gets server_acked client_deadline server_deadline asked served takes pumped_once pumps
    start_fault call_step arrival_step turn_step new_world outcome carried replayed replay seen allowed judged
no_go = refl

-- a request of no bytes
pub empty_request : replay_text (codes "go\ncall 0 1 0 -") ([]) 96 ≡ codes "settings 2 1400 10000 10000 4 14000 4 5 20 1024 256 1024 0\nrefused 2 Start Empty\n"
unfolding is_utf8 chars digits decode_pairs encode_with encode empty checked get insert retain remove len keys values key_set insert_all with_range
    without_range within ranges first_in missing ordered firsts due level_of noted least_from bounds number_at two_at times packet_in packet_at
    packet_of body_at tick_at data_at ack_at grant_at resend_at cutoffs_at unknown_at more_at calls_at line_text opening opening_from steps_from
    phrase_in bytes_of_word tuned client_gets server_gets server_acked client_deadline server_deadline asked served takes pumped_once pumps
    start_fault call_step arrival_step turn_step new_world outcome carried replayed replay seen allowed judged
empty_request = refl

-- and its trace obeys every law
pub empty_request_obeys : first_broken (lines (replay (codes "go\ncall 0 1 0 -") ([]) 96)) ≡ None
unfolding is_utf8 chars digits decode_pairs encode_with encode empty checked get insert retain remove len keys values key_set insert_all with_range
    without_range within ranges first_in missing ordered firsts due level_of noted least_from bounds number_at two_at times packet_in packet_at
    packet_of body_at tick_at data_at ack_at grant_at resend_at cutoffs_at unknown_at more_at calls_at line_text opening opening_from steps_from
    phrase_in bytes_of_word tuned client_gets server_gets server_acked client_deadline server_deadline asked served takes pumped_once pumps
    start_fault call_step arrival_step turn_step new_world outcome carried replayed replay seen allowed judged
empty_request_obeys = refl

-- a call of the caller
pub self_call : replay_text (codes "go\ncall 0 0 0 61") ([]) 96 ≡ codes "settings 2 1400 10000 10000 4 14000 4 5 20 1024 256 1024 0\nrefused 2 Start SelfCall\n"
unfolding is_utf8 chars digits decode_pairs encode_with encode empty checked get insert retain remove len keys values key_set insert_all with_range
    without_range within ranges first_in missing ordered firsts due level_of noted least_from bounds number_at two_at times packet_in packet_at
    packet_of body_at tick_at data_at ack_at grant_at resend_at cutoffs_at unknown_at more_at calls_at line_text opening opening_from steps_from
    phrase_in bytes_of_word tuned client_gets server_gets server_acked client_deadline server_deadline asked served takes pumped_once pumps
    start_fault call_step arrival_step turn_step new_world outcome carried replayed replay seen allowed judged
self_call = refl

-- and its trace obeys every law
pub self_call_obeys : first_broken (lines (replay (codes "go\ncall 0 0 0 61") ([]) 96)) ≡ None
unfolding is_utf8 chars digits decode_pairs encode_with encode empty checked get insert retain remove len keys values key_set insert_all with_range
    without_range within ranges first_in missing ordered firsts due level_of noted least_from bounds number_at two_at times packet_in packet_at
    packet_of body_at tick_at data_at ack_at grant_at resend_at cutoffs_at unknown_at more_at calls_at line_text opening opening_from steps_from
    phrase_in bytes_of_word tuned client_gets server_gets server_acked client_deadline server_deadline asked served takes pumped_once pumps
    start_fault call_step arrival_step turn_step new_world outcome carried replayed replay seen allowed judged
self_call_obeys = refl

-- one live call too many
pub too_many_calls : line_text (last_entry (replay (codes "calls 1\ngo\ncall 0 1 0 61\ncall 0 1 0 61") [] 96).end) ≡ codes "refused 4 Start CallsFull\n"
unfolding is_utf8 chars digits decode_pairs encode_with encode empty checked get insert retain remove len keys values key_set insert_all with_range
    without_range within ranges first_in missing ordered firsts due level_of noted least_from bounds number_at two_at times packet_in packet_at
    packet_of body_at tick_at data_at ack_at grant_at resend_at cutoffs_at unknown_at more_at calls_at line_text opening opening_from steps_from
    phrase_in bytes_of_word tuned client_gets server_gets server_acked client_deadline server_deadline asked served takes pumped_once pumps
    start_fault call_step arrival_step turn_step new_world outcome carried replayed replay seen allowed judged
too_many_calls = refl

-- a word too many
pub a_word_too_many : line_text (last_entry (replay (codes "go\nturn 0 0") [] 96).end) ≡ codes "refused 2 Extra\n"
unfolding is_utf8 chars digits decode_pairs encode_with encode empty checked get insert retain remove len keys values key_set insert_all with_range
    without_range within ranges first_in missing ordered firsts due level_of noted least_from bounds number_at two_at times packet_in packet_at
    packet_of body_at tick_at data_at ack_at grant_at resend_at cutoffs_at unknown_at more_at calls_at line_text opening opening_from steps_from
    phrase_in bytes_of_word tuned client_gets server_gets server_acked client_deadline server_deadline asked served takes pumped_once pumps
    start_fault call_step arrival_step turn_step new_world outcome carried replayed replay seen allowed judged
a_word_too_many = refl

-- half a byte
pub half_a_byte : line_text (last_entry (replay (codes "go\ncall 0 1 0 6") [] 96).end) ≡ codes "refused 2 BadHex\n"
unfolding is_utf8 chars digits decode_pairs encode_with encode empty checked get insert retain remove len keys values key_set insert_all with_range
    without_range within ranges first_in missing ordered firsts due level_of noted least_from bounds number_at two_at times packet_in packet_at
    packet_of body_at tick_at data_at ack_at grant_at resend_at cutoffs_at unknown_at more_at calls_at line_text opening opening_from steps_from
    phrase_in bytes_of_word tuned client_gets server_gets server_acked client_deadline server_deadline asked served takes pumped_once pumps
    start_fault call_step arrival_step turn_step new_world outcome carried replayed replay seen allowed judged
half_a_byte = refl

-- no such host
pub no_such_host : line_text (last_entry (replay (codes "go\ncall 0 5 0 61") [] 96).end) ≡ codes "refused 2 NoSuchHost\n"
unfolding is_utf8 chars digits decode_pairs encode_with encode empty checked get insert retain remove len keys values key_set insert_all with_range
    without_range within ranges first_in missing ordered firsts due level_of noted least_from bounds number_at two_at times packet_in packet_at
    packet_of body_at tick_at data_at ack_at grant_at resend_at cutoffs_at unknown_at more_at calls_at line_text opening opening_from steps_from
    phrase_in bytes_of_word tuned client_gets server_gets server_acked client_deadline server_deadline asked served takes pumped_once pumps
    start_fault call_step arrival_step turn_step new_world outcome carried replayed replay seen allowed judged
no_such_host = refl

-- a word too few
pub a_word_too_few : line_text (last_entry (replay (codes "go\ndeliver") [] 96).end) ≡ codes "refused 2 Missing\n"
unfolding is_utf8 chars digits decode_pairs encode_with encode empty checked get insert retain remove len keys values key_set insert_all with_range
    without_range within ranges first_in missing ordered firsts due level_of noted least_from bounds number_at two_at times packet_in packet_at
    packet_of body_at tick_at data_at ack_at grant_at resend_at cutoffs_at unknown_at more_at calls_at line_text opening opening_from steps_from
    phrase_in bytes_of_word tuned client_gets server_gets server_acked client_deadline server_deadline asked served takes pumped_once pumps
    start_fault call_step arrival_step turn_step new_world outcome carried replayed replay seen allowed judged
a_word_too_few = refl

-- an event before `go`
pub event_before_go : line_text (last_entry (replay (codes "turn 0") [] 96).end) ≡ codes "refused 1 NoGo\n"
unfolding is_utf8 chars digits decode_pairs encode_with encode empty checked get insert retain remove len keys values key_set insert_all with_range
    without_range within ranges first_in missing ordered firsts due level_of noted least_from bounds number_at two_at times packet_in packet_at
    packet_of body_at tick_at data_at ack_at grant_at resend_at cutoffs_at unknown_at more_at calls_at line_text opening opening_from steps_from
    phrase_in bytes_of_word tuned client_gets server_gets server_acked client_deadline server_deadline asked served takes pumped_once pumps
    start_fault call_step arrival_step turn_step new_world outcome carried replayed replay seen allowed judged
event_before_go = refl

-- a number with a leading zero
pub leading_zero : line_text (last_entry (replay (codes "go\ndeliver 01") [] 96).end) ≡ codes "refused 2 BadNumber\n"
unfolding is_utf8 chars digits decode_pairs encode_with encode empty checked get insert retain remove len keys values key_set insert_all with_range
    without_range within ranges first_in missing ordered firsts due level_of noted least_from bounds number_at two_at times packet_in packet_at
    packet_of body_at tick_at data_at ack_at grant_at resend_at cutoffs_at unknown_at more_at calls_at line_text opening opening_from steps_from
    phrase_in bytes_of_word tuned client_gets server_gets server_acked client_deadline server_deadline asked served takes pumped_once pumps
    start_fault call_step arrival_step turn_step new_world outcome carried replayed replay seen allowed judged
leading_zero = refl

-- no such packet
pub no_such_packet : line_text (last_entry (replay (codes "go\ndeliver 9") [] 96).end) ≡ codes "refused 2 NoSuchPacket\n"
unfolding is_utf8 chars digits decode_pairs encode_with encode empty checked get insert retain remove len keys values key_set insert_all with_range
    without_range within ranges first_in missing ordered firsts due level_of noted least_from bounds number_at two_at times packet_in packet_at
    packet_of body_at tick_at data_at ack_at grant_at resend_at cutoffs_at unknown_at more_at calls_at line_text opening opening_from steps_from
    phrase_in bytes_of_word tuned client_gets server_gets server_acked client_deadline server_deadline asked served takes pumped_once pumps
    start_fault call_step arrival_step turn_step new_world outcome carried replayed replay seen allowed judged
no_such_packet = refl

-- a rate below a packet's bytes
pub rate_under_seg : line_text (last_entry (replay (codes "rate 1000\ngo") [] 96).end) ≡ codes "refused 2 Setting RateUnderSeg\n"
unfolding is_utf8 chars digits decode_pairs encode_with encode empty checked get insert retain remove len keys values key_set insert_all with_range
    without_range within ranges first_in missing ordered firsts due level_of noted least_from bounds number_at two_at times packet_in packet_at
    packet_of body_at tick_at data_at ack_at grant_at resend_at cutoffs_at unknown_at more_at calls_at line_text opening opening_from steps_from
    phrase_in bytes_of_word tuned client_gets server_gets server_acked client_deadline server_deadline asked served takes pumped_once pumps
    start_fault call_step arrival_step turn_step new_world outcome carried replayed replay seen allowed judged
rate_under_seg = refl

-- packets that are too long
pub seg_out_of_range : line_text (last_entry (replay (codes "seg 1401\ngo") [] 96).end) ≡ codes "refused 2 Setting OutOfRange seg\n"
unfolding is_utf8 chars digits decode_pairs encode_with encode empty checked get insert retain remove len keys values key_set insert_all with_range
    without_range within ranges first_in missing ordered firsts due level_of noted least_from bounds number_at two_at times packet_in packet_at
    packet_of body_at tick_at data_at ack_at grant_at resend_at cutoffs_at unknown_at more_at calls_at line_text opening opening_from steps_from
    phrase_in bytes_of_word tuned client_gets server_gets server_acked client_deadline server_deadline asked served takes pumped_once pumps
    start_fault call_step arrival_step turn_step new_world outcome carried replayed replay seen allowed judged
seg_out_of_range = refl

-- more without a grant than the window has
pub unsched_over_window : line_text (last_entry (replay (codes "window 8\ngo") [] 96).end) ≡ codes "refused 2 Setting UnschedOverWindow\n"
unfolding is_utf8 chars digits decode_pairs encode_with encode empty checked get insert retain remove len keys values key_set insert_all with_range
    without_range within ranges first_in missing ordered firsts due level_of noted least_from bounds number_at two_at times packet_in packet_at
    packet_of body_at tick_at data_at ack_at grant_at resend_at cutoffs_at unknown_at more_at calls_at line_text opening opening_from steps_from
    phrase_in bytes_of_word tuned client_gets server_gets server_acked client_deadline server_deadline asked served takes pumped_once pumps
    start_fault call_step arrival_step turn_step new_world outcome carried replayed replay seen allowed judged
unsched_over_window = refl

-- a line that is no text
pub not_utf8 : line_text (last_entry (replay (codes "go\nturn 0" ++ (255 ∷ []) ++ codes "\n") [] 96).end) ≡ codes "refused 2 NotUtf8\n"
unfolding is_utf8 chars digits decode_pairs encode_with encode empty checked get insert retain remove len keys values key_set insert_all with_range
    without_range within ranges first_in missing ordered firsts due level_of noted least_from bounds number_at two_at times packet_in packet_at
    packet_of body_at tick_at data_at ack_at grant_at resend_at cutoffs_at unknown_at more_at calls_at line_text opening opening_from steps_from
    phrase_in bytes_of_word tuned client_gets server_gets server_acked client_deadline server_deadline asked served takes pumped_once pumps
    start_fault call_step arrival_step turn_step new_world outcome carried replayed replay seen allowed judged
not_utf8 = refl

-- a setting behind `go`
pub setting_behind_go : line_text (last_entry (replay (codes "go\nseg 4") [] 96).end) ≡ codes "refused 2 UnknownWord\n"
unfolding is_utf8 chars digits decode_pairs encode_with encode empty checked get insert retain remove len keys values key_set insert_all with_range
    without_range within ranges first_in missing ordered firsts due level_of noted least_from bounds number_at two_at times packet_in packet_at
    packet_of body_at tick_at data_at ack_at grant_at resend_at cutoffs_at unknown_at more_at calls_at line_text opening opening_from steps_from
    phrase_in bytes_of_word tuned client_gets server_gets server_acked client_deadline server_deadline asked served takes pumped_once pumps
    start_fault call_step arrival_step turn_step new_world outcome carried replayed replay seen allowed judged
setting_behind_go = refl

-- a lead beyond the band
pub lead_out_of_band : line_text (last_entry (replay (codes "skew 1\ngo\nshift 0 3") [] 96).end) ≡ codes "refused 3 OutOfBand 3 2\n"
unfolding is_utf8 chars digits decode_pairs encode_with encode empty checked get insert retain remove len keys values key_set insert_all with_range
    without_range within ranges first_in missing ordered firsts due level_of noted least_from bounds number_at two_at times packet_in packet_at
    packet_of body_at tick_at data_at ack_at grant_at resend_at cutoffs_at unknown_at more_at calls_at line_text opening opening_from steps_from
    phrase_in bytes_of_word tuned client_gets server_gets server_acked client_deadline server_deadline asked served takes pumped_once pumps
    start_fault call_step arrival_step turn_step new_world outcome carried replayed replay seen allowed judged
lead_out_of_band = refl

-- a lead that would turn a host's clock back
pub clock_goes_back : line_text (last_entry (replay (codes "skew 1\ngo\nturn 0\nshift 0 0") [] 96).end) ≡ codes "refused 4 Back 1 0\n"
unfolding is_utf8 chars digits decode_pairs encode_with encode empty checked get insert retain remove len keys values key_set insert_all with_range
    without_range within ranges first_in missing ordered firsts due level_of noted least_from bounds number_at two_at times packet_in packet_at
    packet_of body_at tick_at data_at ack_at grant_at resend_at cutoffs_at unknown_at more_at calls_at line_text opening opening_from steps_from
    phrase_in bytes_of_word tuned client_gets server_gets server_acked client_deadline server_deadline asked served takes pumped_once pumps
    start_fault call_step arrival_step turn_step new_world outcome carried replayed replay seen allowed judged
clock_goes_back = refl

-- a datagram that is a packet may not be injected
pub injected_packet : line_text (last_entry (replay (codes "go\ninject 1 01070107000000010000000100000000") [] 96).end) ≡ codes "refused 2 Decodes\n"
unfolding is_utf8 chars digits decode_pairs encode_with encode empty checked get insert retain remove len keys values key_set insert_all with_range
    without_range within ranges first_in missing ordered firsts due level_of noted least_from bounds number_at two_at times packet_in packet_at
    packet_of body_at tick_at data_at ack_at grant_at resend_at cutoffs_at unknown_at more_at calls_at line_text opening opening_from steps_from
    phrase_in bytes_of_word tuned client_gets server_gets server_acked client_deadline server_deadline asked served takes pumped_once pumps
    start_fault call_step arrival_step turn_step new_world outcome carried replayed replay seen allowed judged
injected_packet = refl
