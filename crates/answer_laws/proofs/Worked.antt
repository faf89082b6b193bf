-- Worked: a schedule of one call and its delivery, whose service answers b or c, and a generated run of one call, whose service answers so too.
use Rattle.std.proofs.Common.{◌≡◌, ◌≤◌, ℕ, List, [], ◌∷◌, length, refl, sym, ap, subst, arith}
use Rattle.std.specs.Prelude.{codes, replicate, slice_index_or}
use Rattle.core.specs.Str.{is_utf8, chars}
use Rattle.core.specs.Fmt.{digits}
use Rattle.hex.specs.Hex.{decode_pairs, encode_with}
use lib.Utf8.{encode}
use Rattle.plain_sets.specs.Maps.{empty, checked, get, insert, retain, remove, len, keys, values, key_set, insert_all}
use Rattle.plain_sets.specs.Numbers.{with_range, without_range, within, ranges, first_in, missing}
use Rattle.plain_sets.specs.Ordered.{ordered, firsts}
use Rattle.homa_plain.specs.declared.packet.Role.TheVariants.{Client, Server}
use Rattle.homa_plain.specs.Settings.{usual}
use Rattle.homa_plain.specs.Timers.{due}
use Rattle.homa_plain.specs.Cutoffs.{level_of, noted, least_from, bounds}
use Rattle.homa_plain.specs.Entries.{PlainEntry, PlainSettings, PlainCall, PlainClock, PlainDeliver, PlainRun, PlainDone}
use Rattle.homa_plain.specs.Script.{opening, opening_from, steps_from, phrase_in, bytes_of_word}
use Rattle.homa_plain.specs.Rules.{Answer}
use Rattle.homa_plain.specs.Host.{tuned}
use Rattle.homa_plain.specs.AtClient.{client_gets}
use Rattle.homa_plain.specs.AtServer.{server_gets}
use Rattle.homa_plain.specs.Tombstones.{server_acked}
use Rattle.homa_plain.specs.Timers.{client_deadline, server_deadline}
use Rattle.homa_plain.specs.Steps.{asked, served, takes, start_fault, call_step, arrival_step, turn_step}
use Rattle.homa_plain.specs.SentNext.{pumped_once, pumps}
use Rattle.homa_plain.specs.World.{new_world, outcome}
use Rattle.homa_plain.specs.Replay.{carried, replayed, replay}
use Rattle.homa_plain.specs.Answers.{shown}
use Rattle.homa_plain.proofs.TraceLines.{host, call, piece}
use Rattle.generated_runs.specs.Draws.{next_traffic}
use Rattle.generated_runs.specs.Fabric.{handed}
use Rattle.generated_runs.specs.Rounds.{host_round, hosts_round, calls_round, next_round, rounds}
use Rattle.generated_runs.specs.Generated.{generated, generated_settings}
use Rattle.box_laws.specs.First.{AreAllowed}
use Rattle.answer_laws.specs.Answers.{MayAnswerSo, MayAnswerGenerated, any_answer}

abbrev schedule : List ℕ
schedule = codes "go\ncall 0 1 0 61\ndeliver 0"

abbrev boxes : List ℕ
boxes = replicate 32 0

-- the one answer of these bytes, at once
abbrev answered : List ℕ → List Answer
answered bytes = record { bytes = bytes; hold = 0 } ∷ []

-- what is told with it
abbrev lines : List ℕ → List PlainEntry
lines bytes =
    PlainSettings usual ∷
    PlainCall (call 0 0) (host 1) 0 (97 ∷ []) ∷
    piece 0 0 1 Client (call 0 0) 1 0 (97 ∷ []) ∷
    PlainDeliver 0 ∷
    PlainRun (host 1) (call 0 0) 0 (97 ∷ []) bytes 0 ∷
    piece 1 1 0 Server (call 0 0) 1 0 bytes ∷
    []

told_so : (byte : ℕ) → (replay schedule (answered (byte ∷ [])) (length boxes)).told ≡ lines (byte ∷ [])
unfolding is_utf8 chars digits decode_pairs encode_with encode empty checked get insert retain remove len keys values key_set insert_all with_range
    without_range within ranges first_in missing ordered firsts due level_of noted least_from bounds opening opening_from steps_from phrase_in
    bytes_of_word tuned client_gets server_gets server_acked client_deadline server_deadline asked served takes pumped_once pumps start_fault call_step
    arrival_step turn_step new_world outcome carried replayed replay
told_so byte = refl

-- boxes that answer as they like may answer so
allowed : (bytes : List ℕ) → AreAllowed (λ n. n) any_answer boxes (lines bytes)
allowed bytes = (tt, (tt, (tt, (tt, (tt, tt)))))

so : (byte : ℕ) → MayAnswerSo (λ n. n) any_answer boxes schedule (answered (byte ∷ []))
so byte = (ap shown (told_so byte), subst (AreAllowed (λ n. n) any_answer boxes) (sym (told_so byte)) (allowed (byte ∷ [])))

-- the first byte that is answered
abbrev first : List Answer → ℕ
first [] = 0
first (a ∷ more) = slice_index_or a.bytes 0 0

pub two_lists : ((boxes bytes : List ℕ) (these those : List Answer) → 32 ≤ length boxes → MayAnswerSo (λ n. n) any_answer boxes bytes these
    → MayAnswerSo (λ n. n) any_answer boxes bytes those → these ≡ those) → ⊥
two_lists law =
    let enough : 32 ≤ length boxes = (let e : 32 ≤ 32 = omega arith in e) in
    let one = law boxes schedule (answered (98 ∷ [])) (answered (99 ∷ [])) enough (so 98) (so 99) in
    let same : 98 ≡ 99 = ap first one in
    absurd (omega (arith, same))

-- ---- a generated run

-- what the run of seed 12799 and one call tells: host 0 calls host 2 with two bytes, and no packet is lost or repeated
abbrev run_lines : List ℕ → List PlainEntry
run_lines bytes =
    PlainClock 1 ∷
    PlainCall (call 0 0) (host 2) 0 (0 ∷ 1 ∷ []) ∷
    piece 0 0 2 Client (call 0 0) 2 0 (0 ∷ 1 ∷ []) ∷
    PlainClock 2 ∷
    PlainDeliver 0 ∷
    PlainRun (host 2) (call 0 0) 0 (0 ∷ 1 ∷ []) bytes 0 ∷
    piece 1 2 0 Server (call 0 0) 1 0 bytes ∷
    PlainClock 3 ∷
    PlainDeliver 1 ∷
    PlainDone (call 0 0) bytes ∷
    []

run_told : (byte : ℕ) → (generated 12799 1 (length boxes) (answered (byte ∷ []))).told ≡ run_lines (byte ∷ [])
unfolding is_utf8 chars digits decode_pairs encode_with encode empty checked get insert retain remove len keys values key_set insert_all with_range
    without_range within ranges first_in missing ordered firsts due level_of noted least_from bounds tuned client_gets server_gets server_acked
    client_deadline server_deadline asked served takes pumped_once pumps start_fault call_step arrival_step turn_step new_world outcome carried
    next_traffic handed host_round hosts_round calls_round next_round rounds
run_told byte = refl

run_allowed : (bytes : List ℕ) → AreAllowed (λ n. n) any_answer boxes (PlainSettings generated_settings ∷ run_lines bytes)
run_allowed bytes = (tt, (tt, (tt, (tt, (tt, (tt, (tt, (tt, (tt, (tt, tt))))))))))

run_so : (byte : ℕ) → MayAnswerGenerated (λ n. n) any_answer boxes 12799 1 (answered (byte ∷ []))
run_so byte =
    let allowed : List PlainEntry → Type 0 = λ l. AreAllowed (λ n. n) any_answer boxes (PlainSettings generated_settings ∷ l) in
    (ap shown (run_told byte), subst allowed (sym (run_told byte)) (run_allowed (byte ∷ [])))

pub two_runs : ((boxes : List ℕ) (seed calls : ℕ) (these those : List Answer) → 32 ≤ length boxes
    → MayAnswerGenerated (λ n. n) any_answer boxes seed calls these → MayAnswerGenerated (λ n. n) any_answer boxes seed calls those → these ≡ those) → ⊥
two_runs law =
    let enough : 32 ≤ length boxes = (let e : 32 ≤ 32 = omega arith in e) in
    let one = law boxes 12799 1 (answered (98 ∷ [])) (answered (99 ∷ [])) enough (run_so 98) (run_so 99) in
    let same : 98 ≡ 99 = ap first one in
    absurd (omega (arith, same))
