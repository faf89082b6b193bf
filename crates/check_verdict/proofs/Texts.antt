-- The verdicts on worked texts, by computation.
use Rattle.std.proofs.Common.{◌≡◌, refl}
use Rattle.core.specs.Str.{chars}
use Rattle.core.specs.Fmt.{digits}
use Rattle.hex.specs.Hex.{decode_pairs, encode_with}
use lib.Utf8.{encode}
use Rattle.plain_sets.specs.Maps.{empty, checked, get, insert, retain, remove, len, keys, values, key_set, insert_all}
use Rattle.plain_sets.specs.Numbers.{with_range, without_range}
use Rattle.plain_sets.specs.Ordered.{ordered, firsts}
use Rattle.homa_plain.specs.Bytes.{number_at, two_at}
use Rattle.homa_plain.specs.Wire.{packet_in, packet_at, packet_of, body_at, tick_at, data_at, ack_at, grant_at, resend_at, cutoffs_at, unknown_at}
use Rattle.homa_plain.specs.Wire.{more_at, calls_at}
use Rattle.trace_rules.specs.Seen.{seen}
use Rattle.trace_rules.specs.Granting.{allowed}
use Rattle.trace_rules.specs.Judge.{ShapeClause, OnceClause, ReturnedClause, HandedUpClause, FailsClause, GrantingClause, judged}
use Rattle.check_words.specs.Fields.{host_of, id_of, route_of, hex_of, ack_of, call_of, role_of, why_of, times}
use Rattle.check_reader.specs.Bodies.{kind_of, piece_at, data_in, grant_in, resend_in, calls_in, body_in}
use Rattle.check_reader.specs.Forms.{entry_of, entry_in, form_of, form_in, last_two_in, settings_in, call_in, deliver_in, clock_in, restart_in}
use Rattle.check_reader.specs.Forms.{stale_in, send_in, run_in, done_in, fail_in, free_in, bury_in, lack_of, lack_in, full_in, recv_in, finished_in}
use Rattle.check_reader.specs.Forms.{refused_in}
use Rattle.check_reader.specs.Refusals.{two_in, plain_of, world_in, long_in, fault_in}
use Rattle.check_verdict.specs.Verdict.{verdict_of, Yes, No, stands_for}
use Rattle.check_verdict.specs.Rows as rows

pub nothing : verdict_of rows.nothing ≡ No 1 ShapeClause
unfolding chars digits decode_pairs encode_with encode empty checked get insert retain remove len keys values key_set insert_all with_range
    without_range ordered firsts number_at two_at packet_in packet_at packet_of body_at tick_at data_at ack_at grant_at resend_at cutoffs_at
    unknown_at more_at calls_at seen allowed judged stands_for entry_of entry_in form_of form_in last_two_in settings_in call_in deliver_in clock_in
    restart_in stale_in send_in run_in done_in fail_in free_in bury_in lack_of lack_in full_in recv_in finished_in refused_in host_of id_of route_of
    hex_of ack_of call_of role_of why_of times kind_of piece_at data_in grant_in resend_in calls_in body_in two_in plain_of world_in long_in fault_in
nothing = refl

pub one_call : verdict_of rows.one_call ≡ Yes 9
unfolding chars digits decode_pairs encode_with encode empty checked get insert retain remove len keys values key_set insert_all with_range
    without_range ordered firsts number_at two_at packet_in packet_at packet_of body_at tick_at data_at ack_at grant_at resend_at cutoffs_at
    unknown_at more_at calls_at seen allowed judged stands_for entry_of entry_in form_of form_in last_two_in settings_in call_in deliver_in clock_in
    restart_in stale_in send_in run_in done_in fail_in free_in bury_in lack_of lack_in full_in recv_in finished_in refused_in host_of id_of route_of
    hex_of ack_of call_of role_of why_of times kind_of piece_at data_in grant_in resend_in calls_in body_in two_in plain_of world_in long_in fault_in
one_call = refl

pub no_settings : verdict_of rows.no_settings ≡ No 1 ShapeClause
unfolding chars digits decode_pairs encode_with encode empty checked get insert retain remove len keys values key_set insert_all with_range
    without_range ordered firsts number_at two_at packet_in packet_at packet_of body_at tick_at data_at ack_at grant_at resend_at cutoffs_at
    unknown_at more_at calls_at seen allowed judged stands_for entry_of entry_in form_of form_in last_two_in settings_in call_in deliver_in clock_in
    restart_in stale_in send_in run_in done_in fail_in free_in bury_in lack_of lack_in full_in recv_in finished_in refused_in host_of id_of route_of
    hex_of ack_of call_of role_of why_of times kind_of piece_at data_in grant_in resend_in calls_in body_in two_in plain_of world_in long_in fault_in
no_settings = refl

pub run_twice : verdict_of rows.run_twice ≡ No 6 OnceClause
unfolding chars digits decode_pairs encode_with encode empty checked get insert retain remove len keys values key_set insert_all with_range
    without_range ordered firsts number_at two_at packet_in packet_at packet_of body_at tick_at data_at ack_at grant_at resend_at cutoffs_at
    unknown_at more_at calls_at seen allowed judged stands_for entry_of entry_in form_of form_in last_two_in settings_in call_in deliver_in clock_in
    restart_in stale_in send_in run_in done_in fail_in free_in bury_in lack_of lack_in full_in recv_in finished_in refused_in host_of id_of route_of
    hex_of ack_of call_of role_of why_of times kind_of piece_at data_in grant_in resend_in calls_in body_in two_in plain_of world_in long_in fault_in
run_twice = refl

pub another_answer : verdict_of rows.another_answer ≡ No 8 ReturnedClause
unfolding chars digits decode_pairs encode_with encode empty checked get insert retain remove len keys values key_set insert_all with_range
    without_range ordered firsts number_at two_at packet_in packet_at packet_of body_at tick_at data_at ack_at grant_at resend_at cutoffs_at
    unknown_at more_at calls_at seen allowed judged stands_for entry_of entry_in form_of form_in last_two_in settings_in call_in deliver_in clock_in
    restart_in stale_in send_in run_in done_in fail_in free_in bury_in lack_of lack_in full_in recv_in finished_in refused_in host_of id_of route_of
    hex_of ack_of call_of role_of why_of times kind_of piece_at data_in grant_in resend_in calls_in body_in two_in plain_of world_in long_in fault_in
another_answer = refl

pub done_is_missing : verdict_of rows.done_is_missing ≡ No 8 HandedUpClause
unfolding chars digits decode_pairs encode_with encode empty checked get insert retain remove len keys values key_set insert_all with_range
    without_range ordered firsts number_at two_at packet_in packet_at packet_of body_at tick_at data_at ack_at grant_at resend_at cutoffs_at
    unknown_at more_at calls_at seen allowed judged stands_for entry_of entry_in form_of form_in last_two_in settings_in call_in deliver_in clock_in
    restart_in stale_in send_in run_in done_in fail_in free_in bury_in lack_of lack_in full_in recv_in finished_in refused_in host_of id_of route_of
    hex_of ack_of call_of role_of why_of times kind_of piece_at data_in grant_in resend_in calls_in body_in two_in plain_of world_in long_in fault_in
done_is_missing = refl

pub grant_too_far : verdict_of rows.grant_too_far ≡ No 12 GrantingClause
unfolding chars digits decode_pairs encode_with encode empty checked get insert retain remove len keys values key_set insert_all with_range
    without_range ordered firsts number_at two_at packet_in packet_at packet_of body_at tick_at data_at ack_at grant_at resend_at cutoffs_at
    unknown_at more_at calls_at seen allowed judged stands_for entry_of entry_in form_of form_in last_two_in settings_in call_in deliver_in clock_in
    restart_in stale_in send_in run_in done_in fail_in free_in bury_in lack_of lack_in full_in recv_in finished_in refused_in host_of id_of route_of
    hex_of ack_of call_of role_of why_of times kind_of piece_at data_in grant_in resend_in calls_in body_in two_in plain_of world_in long_in fault_in
grant_too_far = refl

pub timeout_too_early : verdict_of rows.timeout_too_early ≡ No 32 FailsClause
unfolding chars digits decode_pairs encode_with encode empty checked get insert retain remove len keys values key_set insert_all with_range
    without_range ordered firsts number_at two_at packet_in packet_at packet_of body_at tick_at data_at ack_at grant_at resend_at cutoffs_at
    unknown_at more_at calls_at seen allowed judged stands_for entry_of entry_in form_of form_in last_two_in settings_in call_in deliver_in clock_in
    restart_in stale_in send_in run_in done_in fail_in free_in bury_in lack_of lack_in full_in recv_in finished_in refused_in host_of id_of route_of
    hex_of ack_of call_of role_of why_of times kind_of piece_at data_in grant_in resend_in calls_in body_in two_in plain_of world_in long_in fault_in
timeout_too_early = refl

pub late_packet : verdict_of rows.late_packet ≡ Yes 24
unfolding chars digits decode_pairs encode_with encode empty checked get insert retain remove len keys values key_set insert_all with_range
    without_range ordered firsts number_at two_at packet_in packet_at packet_of body_at tick_at data_at ack_at grant_at resend_at cutoffs_at
    unknown_at more_at calls_at seen allowed judged stands_for entry_of entry_in form_of form_in last_two_in settings_in call_in deliver_in clock_in
    restart_in stale_in send_in run_in done_in fail_in free_in bury_in lack_of lack_in full_in recv_in finished_in refused_in host_of id_of route_of
    hex_of ack_of call_of role_of why_of times kind_of piece_at data_in grant_in resend_in calls_in body_in two_in plain_of world_in long_in fault_in
late_packet = refl

pub burial_to_its_end : verdict_of rows.burial_to_its_end ≡ Yes 41
unfolding chars digits decode_pairs encode_with encode empty checked get insert retain remove len keys values key_set insert_all with_range
    without_range ordered firsts number_at two_at packet_in packet_at packet_of body_at tick_at data_at ack_at grant_at resend_at cutoffs_at
    unknown_at more_at calls_at seen allowed judged stands_for entry_of entry_in form_of form_in last_two_in settings_in call_in deliver_in clock_in
    restart_in stale_in send_in run_in done_in fail_in free_in bury_in lack_of lack_in full_in recv_in finished_in refused_in host_of id_of route_of
    hex_of ack_of call_of role_of why_of times kind_of piece_at data_in grant_in resend_in calls_in body_in two_in plain_of world_in long_in fault_in
burial_to_its_end = refl

pub server_restarts : verdict_of rows.server_restarts ≡ Yes 30
unfolding chars digits decode_pairs encode_with encode empty checked get insert retain remove len keys values key_set insert_all with_range
    without_range ordered firsts number_at two_at packet_in packet_at packet_of body_at tick_at data_at ack_at grant_at resend_at cutoffs_at
    unknown_at more_at calls_at seen allowed judged stands_for entry_of entry_in form_of form_in last_two_in settings_in call_in deliver_in clock_in
    restart_in stale_in send_in run_in done_in fail_in free_in bury_in lack_of lack_in full_in recv_in finished_in refused_in host_of id_of route_of
    hex_of ack_of call_of role_of why_of times kind_of piece_at data_in grant_in resend_in calls_in body_in two_in plain_of world_in long_in fault_in
server_restarts = refl

pub server_is_full : verdict_of rows.server_is_full ≡ Yes 36
unfolding chars digits decode_pairs encode_with encode empty checked get insert retain remove len keys values key_set insert_all with_range
    without_range ordered firsts number_at two_at packet_in packet_at packet_of body_at tick_at data_at ack_at grant_at resend_at cutoffs_at
    unknown_at more_at calls_at seen allowed judged stands_for entry_of entry_in form_of form_in last_two_in settings_in call_in deliver_in clock_in
    restart_in stale_in send_in run_in done_in fail_in free_in bury_in lack_of lack_in full_in recv_in finished_in refused_in host_of id_of route_of
    hex_of ack_of call_of role_of why_of times kind_of piece_at data_in grant_in resend_in calls_in body_in two_in plain_of world_in long_in fault_in
server_is_full = refl

pub node : verdict_of rows.node ≡ Yes 12
unfolding chars digits decode_pairs encode_with encode empty checked get insert retain remove len keys values key_set insert_all with_range
    without_range ordered firsts number_at two_at packet_in packet_at packet_of body_at tick_at data_at ack_at grant_at resend_at cutoffs_at
    unknown_at more_at calls_at seen allowed judged stands_for entry_of entry_in form_of form_in last_two_in settings_in call_in deliver_in clock_in
    restart_in stale_in send_in run_in done_in fail_in free_in bury_in lack_of lack_in full_in recv_in finished_in refused_in host_of id_of route_of
    hex_of ack_of call_of role_of why_of times kind_of piece_at data_in grant_in resend_in calls_in body_in two_in plain_of world_in long_in fault_in
node = refl

pub stale_packet : verdict_of rows.stale_packet ≡ Yes 8
unfolding chars digits decode_pairs encode_with encode empty checked get insert retain remove len keys values key_set insert_all with_range
    without_range ordered firsts number_at two_at packet_in packet_at packet_of body_at tick_at data_at ack_at grant_at resend_at cutoffs_at
    unknown_at more_at calls_at seen allowed judged stands_for entry_of entry_in form_of form_in last_two_in settings_in call_in deliver_in clock_in
    restart_in stale_in send_in run_in done_in fail_in free_in bury_in lack_of lack_in full_in recv_in finished_in refused_in host_of id_of route_of
    hex_of ack_of call_of role_of why_of times kind_of piece_at data_in grant_in resend_in calls_in body_in two_in plain_of world_in long_in fault_in
stale_packet = refl
