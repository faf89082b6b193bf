-- Runs of a node, judged: what its net may do, and what it may not. They were worked out by hand.
use Rattle.std.proofs.Common.{◌≡◌, ℕ, zero, suc, Bool, true, false, None, Some, List, [], ◌∷◌, ◌++◌, refl, ap, ◌∙◌}
use Rattle.std.specs.Prelude.{if◌then◌else◌, codes}
use Rattle.std.specs.List.{flat_map}
use Rattle.core.specs.Str.{is_utf8, chars}
use Rattle.core.specs.Fmt.{digits}
use Rattle.hex.specs.Hex.{decode_pairs, encode_with}
use lib.Utf8.{encode}
use Rattle.plain_sets.specs.Maps.{empty, checked, get, insert, retain, remove, len, keys, values, key_set, insert_all}
use Rattle.plain_sets.specs.Numbers.{with_range, without_range, within, ranges, first_in, missing}
use Rattle.plain_sets.specs.Ordered.{ordered, firsts}
use Rattle.homa_plain.specs.Timers.{due}
use Rattle.homa_plain.specs.Cutoffs.{level_of, noted, least_from, bounds}
use Rattle.homa_plain.specs.Bytes.{number_at, two_at, times}
use Rattle.homa_plain.specs.Wire.{packet_in, packet_at, packet_of, body_at, tick_at, data_at, ack_at, grant_at, resend_at, cutoffs_at, unknown_at, more_at}
use Rattle.homa_plain.specs.Wire.{calls_at}
use Rattle.homa_plain.specs.Text.{line_text}
use Rattle.homa_plain.specs.Host.{tuned}
use Rattle.homa_plain.specs.AtClient.{client_gets}
use Rattle.homa_plain.specs.AtServer.{server_gets}
use Rattle.homa_plain.specs.Tombstones.{server_acked}
use Rattle.homa_plain.specs.Timers.{client_deadline, server_deadline}
use Rattle.homa_plain.specs.Steps.{asked, served, takes, start_fault, call_step, arrival_step, turn_step}
use Rattle.homa_plain.specs.SentNext.{pumped_once, pumps}
use Rattle.homa_plain.specs.World.{new_world, outcome}
use Rattle.node_runs.specs.Script.{words_in, calls_from, opening_from, opening}
use Rattle.homa_plain.specs.Script.{bytes_of_word, event_text, settings_text}
use Rattle.std.proofs.lemmas.Bool.{false≢true}
use Rattle.node_runs.specs.Observed.{observed}
use Rattle.node_runs.specs.Texts.{node_text, recording_text}
use Rattle.trace_rules.specs.Seen.{seen}
use Rattle.trace_rules.specs.Granting.{allowed}
use Rattle.homa_plain.specs.Entries.{PlainEntry}
use Rattle.homa_plain.specs.Rules.{Answer}
use Rattle.trace_rules.specs.Judge.{Clause, ShapeClause, OnceClause, ReturnedClause, judged, first_broken}
use Rattle.node_runs.proofs.WorkedReceives.{nothing_for, comes_to}
use Rattle.node_runs.specs.Course.{Receive, Run, loop_turn, loop_turns, node_run}
use Rattle.node_runs.specs.Recorder.{Notes, no_notes, kind_of, told, kept}
use Rattle.node_trace_laws.specs.Honest.{noted as line_noted, is_honest, AreHonest, lines}

-- ---- what comes

-- four bytes, of which the last counts
abbrev pub four : ℕ → List ℕ
four n = 0 ∷ 0 ∷ 0 ∷ n ∷ []

-- the whole message `hi` of the first call of a client in its incarnation `life`, by a client (0) or a server (1) in its incarnation `inc`
abbrev pub hi : (role inc life : ℕ) → List ℕ
hi role inc life = 1 ∷ 1 ∷ role ∷ 7 ∷ four inc ++ four life ++ four 0 ++ four 2 ++ four 0 ++ four 0 ++ four 0 ++ four 0 ++ 104 ∷ 105 ∷ []

-- the client's, in version 2, sent at tick 0
abbrev pub hi_at : List ℕ
hi_at = 2 ∷ 1 ∷ 0 ∷ 7 ∷ four 1 ++ four 1 ++ four 0 ++ four 0 ++ four 0 ++ four 2 ++ four 0 ++ four 0 ++ four 0 ++ four 0 ++ 104 ∷ 105 ∷ []

-- the client asks for all of a response, in version 1
abbrev pub asks : List ℕ
asks = 1 ∷ 3 ∷ 0 ∷ 7 ∷ four 1 ++ four 1 ++ four 0 ++ four 0 ++ 0 ∷ 0 ∷ 39 ∷ 16 ∷ 3 ∷ []

-- so often nothing comes to host 0, nor then to host 1
abbrev pub none : ℕ → List Receive
none zero = []
none (suc n) = nothing_for 0 ∷ nothing_for 1 ∷ none n

-- a service gives back `hi` at once
abbrev pub answer : Answer
answer = record { bytes = 104 ∷ 105 ∷ []; hold = 0 }

-- ---- what is shown of a run

-- each of these with a line feed
abbrev pub text : List (List ℕ) → List ℕ
text ls = flat_map (λ (l : List ℕ). l ++ 10 ∷ []) ls

-- the net is honest, and no law is broken
pub record IsHonest (run : Run) (printed : List (List ℕ)) : Type 0 where
  pub prints : node_text run ≡ text printed
  pub honest : AreHonest no_notes (lines run)
  pub obeys : first_broken (lines run) ≡ None

-- the net isn't honest, and at such a line such a clause is broken first
pub record IsDishonest (run : Run) (printed : List (List ℕ)) (line : ℕ) (clause : Clause) : Type 0 where
  pub prints : node_text run ≡ text printed
  pub dishonest : AreHonest no_notes (lines run) → ⊥
  pub breaks : first_broken (lines run) ≡ Some (line, clause)

-- whether a net is honest can be computed
abbrev pub all_honest : Notes → List PlainEntry → Bool
all_honest n [] = true
all_honest n (line ∷ ls) = if is_honest n line then all_honest (line_noted n line) ls else false

honest_step : (n : Notes) (line : PlainEntry) (ls : List PlainEntry) (b : Bool) → is_honest n line ≡ b
    → (if b then all_honest (line_noted n line) ls else false) ≡ true
    → (all_honest (line_noted n line) ls ≡ true → AreHonest (line_noted n line) ls) → AreHonest n (line ∷ ls)
honest_step n line ls true e h rest = (e, rest h)
honest_step n line ls false e h rest = absurd cc

are_honest : (n : Notes) (ls : List PlainEntry) → all_honest n ls ≡ true → AreHonest n ls
are_honest n [] h = tt
are_honest n (line ∷ ls) h = honest_step n line ls (is_honest n line) refl h (λ k. are_honest (line_noted n line) ls k)

honest_all : (n : Notes) (ls : List PlainEntry) → AreHonest n ls → all_honest n ls ≡ true
honest_all n [] h = refl
honest_all n (line ∷ ls) h =
    ap (λ (b : Bool). if b then all_honest (line_noted n line) ls else false) h.0 ∙ honest_all (line_noted n line) ls h.1

-- the clock begins at 7; the request and the response come twice each, and junk from nowhere between them
abbrev pub repeated_run : Run
repeated_run = node_run (codes "local 0 1 4000\nlocal 1 1 4001\nend 9\nturns 9\ngo\nat 0 call 0 1 0 6869")
    (answer ∷ []) (7 ∷ 8 ∷ 9 ∷ [])
    (nothing_for 0 ∷ comes_to 1 0 (hi 0 1 1) ∷ comes_to 1 0 (hi 0 1 1) ∷ comes_to 1 5 (0 ∷ []) ∷ nothing_for 1
    ∷ comes_to 0 1 (hi 1 1 1) ∷ comes_to 0 1 (hi 1 1 1) ∷ none 2)

abbrev pub repeated_printed : List (List ℕ)
repeated_printed =
    codes "settings 2 1400 10000 10000 4 14000 4 5 20 1024 256 1024 0" ∷
    codes "clock 7" ∷
    codes "call 0.1.0 1 0 6869" ∷
    codes "send 0 0>1 1 DATA c 0.1.0 7 2 0 0 0 - 6869" ∷
    codes "recv 1 0 0101000700000001000000010000000000000002000000000000000000000000000000006869" ∷
    codes "run 1 0.1.0 0 6869 6869 0" ∷
    codes "send 1 1>0 1 DATA s 0.1.0 7 2 0 0 0 - 6869" ∷
    codes "recv 1 0 0101000700000001000000010000000000000002000000000000000000000000000000006869" ∷
    codes "recv 1 5 00" ∷
    codes "junk 1" ∷
    codes "clock 8" ∷
    codes "recv 0 1 0101010700000001000000010000000000000002000000000000000000000000000000006869" ∷
    codes "done 0.1.0 6869" ∷
    codes "recv 0 1 0101010700000001000000010000000000000002000000000000000000000000000000006869" ∷
    codes "clock 9" ∷
    codes "ok 3" ∷
    []

pub repeated : IsHonest repeated_run repeated_printed
unfolding is_utf8 chars digits decode_pairs encode_with encode empty checked get insert retain remove len keys values key_set insert_all with_range
    without_range within ranges first_in missing ordered firsts due level_of noted least_from bounds number_at two_at times packet_in packet_at
    packet_of body_at tick_at data_at ack_at grant_at resend_at cutoffs_at unknown_at more_at calls_at line_text bytes_of_word tuned client_gets
    server_gets server_acked client_deadline server_deadline asked served takes pumped_once pumps start_fault call_step arrival_step turn_step
    new_world outcome event_text settings_text words_in calls_from opening_from opening loop_turn loop_turns node_run kind_of told kept node_text
    observed recording_text line_noted seen allowed judged
repeated = record { prints = refl; honest = are_honest no_notes (lines repeated_run) refl; obeys = refl }

-- the clock goes on by 100 ticks between two loop turns, and nothing arrives: in each turn the client asks once, and it
-- gives up in the turn behind the last of its five tries
abbrev pub jumping_run : Run
jumping_run = node_run (codes "local 0 1 4000\nlocal 1 1 4001\nend 900\nturns 20\ngo\nat 0 call 0 1 0 6869")
    ([]) (0 ∷ 100 ∷ 200 ∷ 300 ∷ 400 ∷ 500 ∷ 600 ∷ 700 ∷ 800 ∷ 900 ∷ [])
    (none 10)

abbrev pub jumping_printed : List (List ℕ)
jumping_printed =
    codes "settings 2 1400 10000 10000 4 14000 4 5 20 1024 256 1024 0" ∷
    codes "clock 0" ∷
    codes "call 0.1.0 1 0 6869" ∷
    codes "send 0 0>1 1 DATA c 0.1.0 7 2 0 0 0 - 6869" ∷
    codes "clock 100" ∷
    codes "send 1 0>1 1 RESEND c 0.1.0 0 10000 3" ∷
    codes "clock 200" ∷
    codes "send 2 0>1 1 RESEND c 0.1.0 0 10000 3" ∷
    codes "clock 300" ∷
    codes "send 3 0>1 1 RESEND c 0.1.0 0 10000 3" ∷
    codes "clock 400" ∷
    codes "send 4 0>1 1 RESEND c 0.1.0 0 10000 3" ∷
    codes "clock 500" ∷
    codes "send 5 0>1 1 RESEND c 0.1.0 0 10000 3" ∷
    codes "clock 600" ∷
    codes "fail 0.1.0 timeout" ∷
    codes "clock 700" ∷
    codes "clock 800" ∷
    codes "clock 900" ∷
    codes "ok 10" ∷
    []

pub jumping : IsHonest jumping_run jumping_printed
unfolding is_utf8 chars digits decode_pairs encode_with encode empty checked get insert retain remove len keys values key_set insert_all with_range
    without_range within ranges first_in missing ordered firsts due level_of noted least_from bounds number_at two_at times packet_in packet_at
    packet_of body_at tick_at data_at ack_at grant_at resend_at cutoffs_at unknown_at more_at calls_at line_text bytes_of_word tuned client_gets
    server_gets server_acked client_deadline server_deadline asked served takes pumped_once pumps start_fault call_step arrival_step turn_step
    new_world outcome event_text settings_text words_in calls_from opening_from opening loop_turn loop_turns node_run kind_of told kept node_text
    observed recording_text line_noted seen allowed judged
jumping = record { prints = refl; honest = are_honest no_notes (lines jumping_run) refl; obeys = refl }

-- hosts in their incarnations 7 and 11
abbrev pub later_lives_run : Run
later_lives_run = node_run (codes "local 0 7 4000\nlocal 1 11 4001\nend 5\nturns 9\ngo\nat 0 call 0 1 0 6869")
    (answer ∷ []) (3 ∷ 4 ∷ 5 ∷ [])
    (nothing_for 0 ∷ comes_to 1 0 (hi 0 7 7) ∷ nothing_for 1 ∷ comes_to 0 1 (hi 1 11 7) ∷ none 2)

abbrev pub later_lives_printed : List (List ℕ)
later_lives_printed =
    codes "settings 2 1400 10000 10000 4 14000 4 5 20 1024 256 1024 0" ∷
    codes "clock 3" ∷
    codes "call 0.7.0 1 0 6869" ∷
    codes "send 0 0>1 7 DATA c 0.7.0 7 2 0 0 0 - 6869" ∷
    codes "recv 1 0 0101000700000007000000070000000000000002000000000000000000000000000000006869" ∷
    codes "run 1 0.7.0 0 6869 6869 0" ∷
    codes "send 1 1>0 11 DATA s 0.7.0 7 2 0 0 0 - 6869" ∷
    codes "clock 4" ∷
    codes "recv 0 1 010101070000000b000000070000000000000002000000000000000000000000000000006869" ∷
    codes "done 0.7.0 6869" ∷
    codes "clock 5" ∷
    codes "ok 3" ∷
    []

pub later_lives : IsHonest later_lives_run later_lives_printed
unfolding is_utf8 chars digits decode_pairs encode_with encode empty checked get insert retain remove len keys values key_set insert_all with_range
    without_range within ranges first_in missing ordered firsts due level_of noted least_from bounds number_at two_at times packet_in packet_at
    packet_of body_at tick_at data_at ack_at grant_at resend_at cutoffs_at unknown_at more_at calls_at line_text bytes_of_word tuned client_gets
    server_gets server_acked client_deadline server_deadline asked served takes pumped_once pumps start_fault call_step arrival_step turn_step
    new_world outcome event_text settings_text words_in calls_from opening_from opening loop_turn loop_turns node_run kind_of told kept node_text
    observed recording_text line_noted seen allowed judged
later_lives = record { prints = refl; honest = are_honest no_notes (lines later_lives_run) refl; obeys = refl }

-- a request comes again 8 ticks after it was sent, where packets live for one: the server has buried and forgotten the call, and
-- runs it again; so the law asks that the net keeps to the life of packets
abbrev pub late_run : Run
late_run = node_run (codes "life 1\nresend 1\ntries 1\nlocal 0 1 4000\nlocal 1 1 4001\nend 9\nturns 20\ngo\nat 0 call 0 1 0 6869")
    (answer ∷ answer ∷ []) (0 ∷ 1 ∷ 2 ∷ 7 ∷ 8 ∷ 9 ∷ [])
    (nothing_for 0 ∷ comes_to 1 0 (hi 0 1 1) ∷ nothing_for 1 ∷ none 3 ++ nothing_for 0 ∷ comes_to 1 0 (hi 0 1 1) ∷ nothing_for 1 ∷ none 1)

abbrev pub late_printed : List (List ℕ)
late_printed =
    codes "settings 2 1400 10000 10000 4 14000 1 1 1 1024 256 1024 0" ∷
    codes "clock 0" ∷
    codes "call 0.1.0 1 0 6869" ∷
    codes "send 0 0>1 1 DATA c 0.1.0 7 2 0 0 0 - 6869" ∷
    codes "recv 1 0 0101000700000001000000010000000000000002000000000000000000000000000000006869" ∷
    codes "run 1 0.1.0 0 6869 6869 0" ∷
    codes "send 1 1>0 1 DATA s 0.1.0 7 2 0 0 0 - 6869" ∷
    codes "clock 1" ∷
    codes "send 2 0>1 1 RESEND c 0.1.0 0 10000 3" ∷
    codes "send 3 1>0 1 NEED_ACK s 0.1.0" ∷
    codes "clock 2" ∷
    codes "fail 0.1.0 timeout" ∷
    codes "bury 1 0.1.0 6" ∷
    codes "clock 7" ∷
    codes "free 1 0.1.0" ∷
    codes "clock 8" ∷
    codes "recv 1 0 0101000700000001000000010000000000000002000000000000000000000000000000006869" ∷
    codes "run 1 0.1.0 0 6869 6869 0" ∷
    codes "send 4 1>0 1 DATA s 0.1.0 7 2 0 0 0 - 6869" ∷
    codes "clock 9" ∷
    codes "send 5 1>0 1 NEED_ACK s 0.1.0" ∷
    codes "ok 6" ∷
    []

pub late : IsDishonest late_run late_printed 18 OnceClause
unfolding is_utf8 chars digits decode_pairs encode_with encode empty checked get insert retain remove len keys values key_set insert_all with_range
    without_range within ranges first_in missing ordered firsts due level_of noted least_from bounds number_at two_at times packet_in packet_at
    packet_of body_at tick_at data_at ack_at grant_at resend_at cutoffs_at unknown_at more_at calls_at line_text bytes_of_word tuned client_gets
    server_gets server_acked client_deadline server_deadline asked served takes pumped_once pumps start_fault call_step arrival_step turn_step
    new_world outcome event_text settings_text words_in calls_from opening_from opening loop_turn loop_turns node_run kind_of told kept node_text
    observed recording_text line_noted seen allowed judged
late = record { prints = refl; dishonest = λ h. false≢true (honest_all no_notes (lines late_run) h); breaks = refl }

-- the same with version 2: the net may be as late as it likes, since the server refuses the packet itself
abbrev pub stale_run : Run
stale_run = node_run (codes "wire 2\nlife 1\nresend 1\ntries 1\nlocal 0 1 4000\nlocal 1 1 4001\nend 9\nturns 20\ngo\nat 0 call 0 1 0 6869")
    (answer ∷ answer ∷ []) (0 ∷ 1 ∷ 2 ∷ 7 ∷ 8 ∷ 9 ∷ [])
    (nothing_for 0 ∷ comes_to 1 0 hi_at ∷ nothing_for 1 ∷ none 3 ++ nothing_for 0 ∷ comes_to 1 0 hi_at ∷ nothing_for 1 ∷ none 1)

abbrev pub stale_printed : List (List ℕ)
stale_printed =
    codes "settings 2 1400 10000 10000 4 14000 1 1 1 1024 256 1024 0 0 2" ∷
    codes "clock 0" ∷
    codes "call 0.1.0 1 0 6869" ∷
    codes "send 0 0>1 1 DATA c 0.1.0 7 2 0 0 0 - 6869" ∷
    codes "recv 1 0 02010007000000010000000100000000000000000000000000000002000000000000000000000000000000006869" ∷
    codes "run 1 0.1.0 0 6869 6869 0" ∷
    codes "send 1 1>0 1 DATA s 0.1.0 7 2 0 0 0 - 6869" ∷
    codes "clock 1" ∷
    codes "send 2 0>1 1 RESEND c 0.1.0 0 10000 3" ∷
    codes "send 3 1>0 1 NEED_ACK s 0.1.0" ∷
    codes "clock 2" ∷
    codes "fail 0.1.0 timeout" ∷
    codes "bury 1 0.1.0 6" ∷
    codes "clock 7" ∷
    codes "free 1 0.1.0" ∷
    codes "clock 8" ∷
    codes "recv 1 0 02010007000000010000000100000000000000000000000000000002000000000000000000000000000000006869" ∷
    codes "stale 1 0 8" ∷
    codes "clock 9" ∷
    codes "ok 6" ∷
    []

pub stale : IsHonest stale_run stale_printed
unfolding is_utf8 chars digits decode_pairs encode_with encode empty checked get insert retain remove len keys values key_set insert_all with_range
    without_range within ranges first_in missing ordered firsts due level_of noted least_from bounds number_at two_at times packet_in packet_at
    packet_of body_at tick_at data_at ack_at grant_at resend_at cutoffs_at unknown_at more_at calls_at line_text bytes_of_word tuned client_gets
    server_gets server_acked client_deadline server_deadline asked served takes pumped_once pumps start_fault call_step arrival_step turn_step
    new_world outcome event_text settings_text words_in calls_from opening_from opening loop_turn loop_turns node_run kind_of told kept node_text
    observed recording_text line_noted seen allowed judged
stale = record { prints = refl; honest = are_honest no_notes (lines stale_run) refl; obeys = refl }

-- two equal packets, sent at the ticks 4 and 8 where packets live for four: what comes at tick 12 may be the later one
abbrev pub equal_run : Run
equal_run = node_run (codes "life 4\nlocal 0 1 4000\nlocal 1 1 4001\nend 12\nturns 9\ngo\nat 0 call 0 1 0 6869")
    ([]) (0 ∷ 4 ∷ 8 ∷ 12 ∷ [])
    (none 3 ++ nothing_for 0 ∷ comes_to 1 0 asks ∷ comes_to 1 0 asks ∷ nothing_for 1 ∷ [])

pub equal : AreHonest no_notes (lines equal_run) × (first_broken (lines equal_run) ≡ None)
unfolding is_utf8 chars digits decode_pairs encode_with encode empty checked get insert retain remove len keys values key_set insert_all with_range
    without_range within ranges first_in missing ordered firsts due level_of noted least_from bounds number_at two_at times packet_in packet_at
    packet_of body_at tick_at data_at ack_at grant_at resend_at cutoffs_at unknown_at more_at calls_at line_text bytes_of_word tuned client_gets
    server_gets server_acked client_deadline server_deadline asked served takes pumped_once pumps start_fault call_step arrival_step turn_step
    new_world outcome event_text settings_text words_in calls_from opening_from opening loop_turn loop_turns node_run kind_of told kept node_text
    observed recording_text line_noted seen allowed judged
equal = (are_honest no_notes (lines equal_run) refl, refl)

-- the client is a host elsewhere, of whose calls no line tells: what it sends was not sent in this run
abbrev pub elsewhere_run : Run
elsewhere_run = node_run (codes "remote 0 4000\nlocal 1 1 4001\nend 1\nturns 9\ngo")
    (answer ∷ []) (0 ∷ 1 ∷ [])
    (comes_to 1 0 (hi 0 1 1) ∷ nothing_for 1 ∷ nothing_for 1 ∷ [])

abbrev pub elsewhere_printed : List (List ℕ)
elsewhere_printed =
    codes "settings 2 1400 10000 10000 4 14000 4 5 20 1024 256 1024 0" ∷
    codes "clock 0" ∷
    codes "recv 1 0 0101000700000001000000010000000000000002000000000000000000000000000000006869" ∷
    codes "run 1 0.1.0 0 6869 6869 0" ∷
    codes "send 0 1>0 1 DATA s 0.1.0 7 2 0 0 0 - 6869" ∷
    codes "clock 1" ∷
    codes "ok 2" ∷
    []

pub elsewhere : IsDishonest elsewhere_run elsewhere_printed 4 ShapeClause
unfolding is_utf8 chars digits decode_pairs encode_with encode empty checked get insert retain remove len keys values key_set insert_all with_range
    without_range within ranges first_in missing ordered firsts due level_of noted least_from bounds number_at two_at times packet_in packet_at
    packet_of body_at tick_at data_at ack_at grant_at resend_at cutoffs_at unknown_at more_at calls_at line_text bytes_of_word tuned client_gets
    server_gets server_acked client_deadline server_deadline asked served takes pumped_once pumps start_fault call_step arrival_step turn_step
    new_world outcome event_text settings_text words_in calls_from opening_from opening loop_turn loop_turns node_run kind_of told kept node_text
    observed recording_text line_noted seen allowed judged
elsewhere = record { prints = refl; dishonest = λ h. false≢true (honest_all no_notes (lines elsewhere_run) h); breaks = refl }

-- a response that no host sent: the call is done without a run
abbrev pub made_up_run : Run
made_up_run = node_run (codes "local 0 1 4000\nlocal 1 1 4001\nend 2\nturns 9\ngo\nat 0 call 0 1 0 6869")
    ([]) (0 ∷ 1 ∷ 2 ∷ [])
    (nothing_for 0 ∷ nothing_for 1 ∷ comes_to 0 1 (hi 1 1 1) ∷ none 2)

abbrev pub made_up_printed : List (List ℕ)
made_up_printed =
    codes "settings 2 1400 10000 10000 4 14000 4 5 20 1024 256 1024 0" ∷
    codes "clock 0" ∷
    codes "call 0.1.0 1 0 6869" ∷
    codes "send 0 0>1 1 DATA c 0.1.0 7 2 0 0 0 - 6869" ∷
    codes "clock 1" ∷
    codes "recv 0 1 0101010700000001000000010000000000000002000000000000000000000000000000006869" ∷
    codes "done 0.1.0 6869" ∷
    codes "clock 2" ∷
    codes "ok 3" ∷
    []

pub made_up : IsDishonest made_up_run made_up_printed 7 ReturnedClause
unfolding is_utf8 chars digits decode_pairs encode_with encode empty checked get insert retain remove len keys values key_set insert_all with_range
    without_range within ranges first_in missing ordered firsts due level_of noted least_from bounds number_at two_at times packet_in packet_at
    packet_of body_at tick_at data_at ack_at grant_at resend_at cutoffs_at unknown_at more_at calls_at line_text bytes_of_word tuned client_gets
    server_gets server_acked client_deadline server_deadline asked served takes pumped_once pumps start_fault call_step arrival_step turn_step
    new_world outcome event_text settings_text words_in calls_from opening_from opening loop_turn loop_turns node_run kind_of told kept node_text
    observed recording_text line_noted seen allowed judged
made_up = record { prints = refl; dishonest = λ h. false≢true (honest_all no_notes (lines made_up_run) h); breaks = refl }
