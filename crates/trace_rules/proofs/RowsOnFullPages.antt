-- A worked row, from the bytes of a schedule to those of its trace: a request of three bytes has the only page, so one of another call is refused;
-- when the page is free again, the same packet runs it.
use Rattle.std.proofs.Common.{◌≡◌, [], ◌∷◌, None, refl}
use Rattle.std.specs.Prelude.{codes}
use Rattle.core.specs.Str.{is_utf8, chars}
use Rattle.core.specs.Fmt.{digits}
use Rattle.hex.specs.Hex.{decode_pairs, encode_with}
use lib.Utf8.{encode}
use Rattle.plain_sets.specs.Maps.{empty, checked, get, insert, retain, remove, len, keys, values, key_set, insert_all}
use Rattle.plain_sets.specs.Numbers.{with_range, without_range, within, ranges, first_in, missing}
use Rattle.plain_sets.specs.Ordered.{ordered, firsts}
use Rattle.homa_plain.specs.Timers.{due}
use Rattle.homa_plain.specs.Cutoffs.{level_of, noted, least_from, bounds}
use Rattle.homa_plain.specs.Bytes.{number_at, two_at, times}
use Rattle.homa_plain.specs.Wire.{packet_in, packet_at, packet_of, body_at, tick_at, data_at, ack_at, grant_at, resend_at, cutoffs_at, unknown_at}
use Rattle.homa_plain.specs.Wire.{more_at, calls_at}
use Rattle.homa_plain.specs.Text.{line_text}
use Rattle.homa_plain.specs.Script.{opening, opening_from, steps_from, phrase_in, bytes_of_word}
use Rattle.homa_plain.specs.Host.{tuned}
use Rattle.homa_plain.specs.AtClient.{client_gets}
use Rattle.homa_plain.specs.AtServer.{server_gets}
use Rattle.homa_plain.specs.Tombstones.{server_acked}
use Rattle.homa_plain.specs.Timers.{client_deadline, server_deadline}
use Rattle.homa_plain.specs.Steps.{asked, served, takes, start_fault, call_step, arrival_step, turn_step}
use Rattle.homa_plain.specs.SentNext.{pumped_once, pumps}
use Rattle.homa_plain.specs.World.{new_world, outcome}
use Rattle.homa_plain.specs.Replay.{carried, replayed, replay, replay_text, lines}
use Rattle.trace_rules.specs.Seen.{seen}
use Rattle.trace_rules.specs.Granting.{allowed}
use Rattle.trace_rules.specs.Judge.{judged, first_broken}

pub full_pages : replay_text (codes "seg 2\npages 1\ngo\ncall 0 1 0 616263\ncall 0 1 0 64\ndeliver 0\ndeliver 2\ndeliver 1\ndeliver 2\n") (record { bytes = 97 ∷ 98 ∷ 99 ∷ []; hold = 0 } ∷ record { bytes = 100 ∷ []; hold = 0 } ∷ []) 96 ≡ codes "settings 2 2 10000 10000 4 14000 4 5 20 1 256 1024 0\ncall 0.1.0 1 0 616263\nsend 0 0>1 1 DATA c 0.1.0 7 3 0 0 0 - 6162\nsend 1 0>1 1 DATA c 0.1.0 7 3 2 0 0 - 63\ncall 0.1.1 1 0 64\nsend 2 0>1 1 DATA c 0.1.1 7 1 0 0 0 - 64\ndeliver 0\ndeliver 2\nfull 1 0.1.1 pages 1 0\ndeliver 1\nrun 1 0.1.0 0 616263 616263 0\nsend 3 1>0 1 DATA s 0.1.0 7 3 0 0 0 - 6162\nsend 4 1>0 1 DATA s 0.1.0 7 3 2 0 0 - 63\ndeliver 2\nrun 1 0.1.1 0 64 64 0\nsend 5 1>0 1 DATA s 0.1.1 7 1 0 0 0 - 64\nok 6\n"
unfolding is_utf8 chars digits decode_pairs encode_with encode empty checked get insert retain remove len keys values key_set insert_all with_range
    without_range within ranges first_in missing ordered firsts due level_of noted least_from bounds number_at two_at times packet_in packet_at
    packet_of body_at tick_at data_at ack_at grant_at resend_at cutoffs_at unknown_at more_at calls_at line_text opening opening_from steps_from
    phrase_in bytes_of_word tuned client_gets server_gets server_acked client_deadline server_deadline asked served takes pumped_once pumps
    start_fault call_step arrival_step turn_step new_world outcome carried replayed replay seen allowed judged
full_pages = refl

-- and its trace obeys every law
pub full_pages_obeys : first_broken
    (lines (replay (codes "seg 2\npages 1\ngo\ncall 0 1 0 616263\ncall 0 1 0 64\ndeliver 0\ndeliver 2\ndeliver 1\ndeliver 2\n")
    (record { bytes = 97 ∷ 98 ∷ 99 ∷ []; hold = 0 } ∷ record { bytes = 100 ∷ []; hold = 0 } ∷ []) 96)) ≡ None
unfolding is_utf8 chars digits decode_pairs encode_with encode empty checked get insert retain remove len keys values key_set insert_all with_range
    without_range within ranges first_in missing ordered firsts due level_of noted least_from bounds number_at two_at times packet_in packet_at
    packet_of body_at tick_at data_at ack_at grant_at resend_at cutoffs_at unknown_at more_at calls_at line_text opening opening_from steps_from
    phrase_in bytes_of_word tuned client_gets server_gets server_acked client_deadline server_deadline asked served takes pumped_once pumps
    start_fault call_step arrival_step turn_step new_world outcome carried replayed replay seen allowed judged
full_pages_obeys = refl
