-- Replays of recordings, from the bytes that a recorder prints. They were worked out by hand.
use Rattle.std.proofs.Common.{◌≡◌, ℕ, List, [], ◌∷◌, refl, ap, ◌∙◌}
use Rattle.std.specs.Prelude.{codes}
use Rattle.core.specs.Str.{is_utf8, chars}
use Rattle.core.specs.Fmt.{digits}
use Rattle.hex.specs.Hex.{decode_pairs, encode_with}
use lib.Utf8.{encode}
use Rattle.plain_sets.specs.Maps.{empty, checked, get, insert, retain, remove, len, keys, values, key_set, insert_all}
use Rattle.plain_sets.specs.Numbers.{with_range, without_range, within, ranges, first_in, missing}
use Rattle.plain_sets.specs.Ordered.{ordered, firsts}
use Rattle.homa_plain.specs.Timers.{due}
use Rattle.homa_plain.specs.Cutoffs.{level_of, noted, least_from, bounds}
use Rattle.homa_plain.specs.Bytes.{number_at, two_at, times}
use Rattle.homa_plain.specs.Wire.{packet_in, packet_at, packet_of, body_at, tick_at, data_at, ack_at, grant_at, resend_at, cutoffs_at, unknown_at}
use Rattle.homa_plain.specs.Wire.{more_at, calls_at}
use Rattle.homa_plain.specs.Text.{line_text}
use Rattle.homa_plain.specs.Script.{opening, opening_from, steps_from, phrase_in, bytes_of_word}
use Rattle.homa_plain.specs.Host.{tuned}
use Rattle.homa_plain.specs.AtClient.{client_gets}
use Rattle.homa_plain.specs.AtServer.{server_gets}
use Rattle.homa_plain.specs.Tombstones.{server_acked}
use Rattle.homa_plain.specs.Timers.{client_deadline, server_deadline}
use Rattle.homa_plain.specs.Steps.{asked, served, takes, start_fault, call_step, arrival_step, turn_step}
use Rattle.homa_plain.specs.SentNext.{pumped_once, pumps}
use Rattle.homa_plain.specs.World.{new_world, outcome}
use Rattle.homa_plain.specs.Replay.{carried, replayed, replay, replay_text}
use Rattle.node_runs.specs.Texts.{recording_text}
use Rattle.node_runs.proofs.WorkedRuns.{one_call_run, one_call_recorded, junk_run, junk_recorded}
use Rattle.node_runs.proofs.WorkedTicks.{lost_run, lost_recorded}

-- one call
one_call_replayed_computed : replay_text (codes "hosts 2\nseg 1400\nwindow 10000\nunsched 10000\novercommit 4\nrate 14000\nresend 4\ntries 5\nlife 20\npages 1024\ncalls 256\nserved 1024\nrebalance 0\ngo\ncall 0 1 0 6869\nturn 0\ndeliver 0\nturn 1\nclock\ndeliver 1\nturn 0\nturn 1\nclock\nturn 0\nturn 1\n# ok 3\n") (record { bytes = 104 ∷ 105 ∷ []; hold = 0 } ∷ []) 96 ≡ codes "settings 2 1400 10000 10000 4 14000 4 5 20 1024 256 1024 0\ncall 0.1.0 1 0 6869\nsend 0 0>1 1 DATA c 0.1.0 7 2 0 0 0 - 6869\ndeliver 0\nrun 1 0.1.0 0 6869 6869 0\nsend 1 1>0 1 DATA s 0.1.0 7 2 0 0 0 - 6869\nclock 1\ndeliver 1\ndone 0.1.0 6869\nclock 2\nok 11\n"
unfolding is_utf8 chars digits decode_pairs encode_with encode empty checked get insert retain remove len keys values key_set insert_all with_range
    without_range within ranges first_in missing ordered firsts due level_of noted least_from bounds number_at two_at times packet_in packet_at
    packet_of body_at tick_at data_at ack_at grant_at resend_at cutoffs_at unknown_at more_at calls_at line_text opening opening_from steps_from
    phrase_in bytes_of_word tuned client_gets server_gets server_acked client_deadline server_deadline asked served takes pumped_once pumps
    start_fault call_step arrival_step turn_step new_world outcome carried replayed replay
one_call_replayed_computed = refl

pub one_call_replayed : replay_text (recording_text one_call_run) (record { bytes = 104 ∷ 105 ∷ []; hold = 0 } ∷ []) 96 ≡ codes "settings 2 1400 10000 10000 4 14000 4 5 20 1024 256 1024 0\ncall 0.1.0 1 0 6869\nsend 0 0>1 1 DATA c 0.1.0 7 2 0 0 0 - 6869\ndeliver 0\nrun 1 0.1.0 0 6869 6869 0\nsend 1 1>0 1 DATA s 0.1.0 7 2 0 0 0 - 6869\nclock 1\ndeliver 1\ndone 0.1.0 6869\nclock 2\nok 11\n"
one_call_replayed = ap (λ (t : List ℕ). replay_text t (record { bytes = 104 ∷ 105 ∷ []; hold = 0 } ∷ []) 96) one_call_recorded ∙ one_call_replayed_computed

-- a loss over several ticks
lost_replayed_computed : replay_text (codes "hosts 2\nseg 1400\nwindow 10000\nunsched 10000\novercommit 4\nrate 14000\nresend 4\ntries 5\nlife 20\npages 1024\ncalls 256\nserved 1024\nrebalance 0\ngo\ncall 0 1 0 6869\nturn 0\nturn 1\nclock\nturn 0\nturn 1\nclock\nturn 0\nturn 1\nclock\nturn 0\nturn 1\nclock\nturn 0\ndeliver 1\nturn 1\nclock\ndeliver 2\nturn 0\ndeliver 3\nturn 1\nclock\ndeliver 4\nturn 0\nturn 1\n# ok 7\n") (record { bytes = 104 ∷ 105 ∷ []; hold = 0 } ∷ []) 96 ≡ codes "settings 2 1400 10000 10000 4 14000 4 5 20 1024 256 1024 0\ncall 0.1.0 1 0 6869\nsend 0 0>1 1 DATA c 0.1.0 7 2 0 0 0 - 6869\nclock 1\nclock 2\nclock 3\nclock 4\nsend 1 0>1 1 RESEND c 0.1.0 0 10000 3\ndeliver 1\nsend 2 1>0 1 UNKNOWN s 0.1.0 0\nclock 5\ndeliver 2\nsend 3 0>1 1 DATA c 0.1.0 7 2 0 0 0 - 6869\ndeliver 3\nrun 1 0.1.0 0 6869 6869 0\nsend 4 1>0 1 DATA s 0.1.0 7 2 0 0 0 - 6869\nclock 6\ndeliver 4\ndone 0.1.0 6869\nok 25\n"
unfolding is_utf8 chars digits decode_pairs encode_with encode empty checked get insert retain remove len keys values key_set insert_all with_range
    without_range within ranges first_in missing ordered firsts due level_of noted least_from bounds number_at two_at times packet_in packet_at
    packet_of body_at tick_at data_at ack_at grant_at resend_at cutoffs_at unknown_at more_at calls_at line_text opening opening_from steps_from
    phrase_in bytes_of_word tuned client_gets server_gets server_acked client_deadline server_deadline asked served takes pumped_once pumps
    start_fault call_step arrival_step turn_step new_world outcome carried replayed replay
lost_replayed_computed = refl

pub lost_replayed : replay_text (recording_text lost_run) (record { bytes = 104 ∷ 105 ∷ []; hold = 0 } ∷ []) 96 ≡ codes "settings 2 1400 10000 10000 4 14000 4 5 20 1024 256 1024 0\ncall 0.1.0 1 0 6869\nsend 0 0>1 1 DATA c 0.1.0 7 2 0 0 0 - 6869\nclock 1\nclock 2\nclock 3\nclock 4\nsend 1 0>1 1 RESEND c 0.1.0 0 10000 3\ndeliver 1\nsend 2 1>0 1 UNKNOWN s 0.1.0 0\nclock 5\ndeliver 2\nsend 3 0>1 1 DATA c 0.1.0 7 2 0 0 0 - 6869\ndeliver 3\nrun 1 0.1.0 0 6869 6869 0\nsend 4 1>0 1 DATA s 0.1.0 7 2 0 0 0 - 6869\nclock 6\ndeliver 4\ndone 0.1.0 6869\nok 25\n"
lost_replayed = ap (λ (t : List ℕ). replay_text t (record { bytes = 104 ∷ 105 ∷ []; hold = 0 } ∷ []) 96) lost_recorded ∙ lost_replayed_computed

-- a datagram that is no packet
junk_replayed_computed : replay_text (codes "hosts 2\nseg 1400\nwindow 10000\nunsched 10000\novercommit 4\nrate 14000\nresend 4\ntries 5\nlife 20\npages 1024\ncalls 256\nserved 1024\nrebalance 0\ngo\nclock\nclock\nclock\nclock\nclock\nclock\nclock\ninject 0 -\nturn 0\nturn 1\n# ok 1\n") ([]) 96 ≡ codes "settings 2 1400 10000 10000 4 14000 4 5 20 1024 256 1024 0\nclock 1\nclock 2\nclock 3\nclock 4\nclock 5\nclock 6\nclock 7\ninject 0 -\njunk 0\nok 10\n"
unfolding is_utf8 chars digits decode_pairs encode_with encode empty checked get insert retain remove len keys values key_set insert_all with_range
    without_range within ranges first_in missing ordered firsts due level_of noted least_from bounds number_at two_at times packet_in packet_at
    packet_of body_at tick_at data_at ack_at grant_at resend_at cutoffs_at unknown_at more_at calls_at line_text opening opening_from steps_from
    phrase_in bytes_of_word tuned client_gets server_gets server_acked client_deadline server_deadline asked served takes pumped_once pumps
    start_fault call_step arrival_step turn_step new_world outcome carried replayed replay
junk_replayed_computed = refl

pub junk_replayed : replay_text (recording_text junk_run) ([]) 96 ≡ codes "settings 2 1400 10000 10000 4 14000 4 5 20 1024 256 1024 0\nclock 1\nclock 2\nclock 3\nclock 4\nclock 5\nclock 6\nclock 7\ninject 0 -\njunk 0\nok 10\n"
junk_replayed = ap (λ (t : List ℕ). replay_text t ([]) 96) junk_recorded ∙ junk_replayed_computed
