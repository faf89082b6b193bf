-- The lines of a node's text are those of its entries, and they obey all laws.
use Rattle.std.proofs.Common.{◌≡◌, ℕ, ◌+◌, ◌^◌, ◌≤◌, ◌<◌, Bool, true, false, Option, None, Some, List, [], ◌∷◌, ◌++◌, length, map, refl, sym, ap, ◌∙◌, subst}
use Rattle.std.proofs.Common.{arith}
use Rattle.std.specs.Prelude.{◌==◌, if◌then◌else◌}
use Rattle.std.specs.List.{AllByRecursion, flat_map, join_with_byte}
use Rattle.std.proofs.lemmas.List.{length-append}
use Rattle.std.proofs.lemmas.Bool.Decides.{nat_tests}
use Rattle.plain_sets.proofs.MapLaws.{get-empty}
use Rattle.homa_plain.specs.declared.fault.LineFault.{LineFault}
use Rattle.homa_plain.specs.declared.fault.LineFault.TheVariants.{Script, World}
use Rattle.homa_plain.specs.declared.fault.WorldFault.TheVariants.{NoSuchHost, Start}
use Rattle.homa_plain.specs.Calls.{call_cmp}
use Rattle.homa_plain.specs.Entries.{PlainEntry, PlainDeliver, PlainRestart, PlainInject, PlainShift, PlainFinished, PlainRefused, PlainStalled}
use Rattle.homa_plain.specs.Input.{lines_of, without_feed, ends_in_feed}
use Rattle.trace_rules.specs.Judge.{Obeys}
use Rattle.trace_rules.specs.Laws.{Holds}
use Rattle.homa_plain.specs.Rules.{Answer}
use Rattle.homa_plain.specs.Script.{most_bytes}
use Rattle.trace_rules.specs.Seen.{seen}
use Rattle.homa_plain.specs.Text.{entry_words, line_text}
use Rattle.trace_rules.specs.View.{View, nothing_seen}
use Rattle.step_laws.proofs.Places.{all-append}
use Rattle.step_moves.proofs.Hosts.{none_some}
use Rattle.node_runs.specs.Script.{Setup, Calls, Opened, opening}
use Rattle.node_runs.specs.Course.{AreTicks, Receive, End, Ended, RefusedAt, StalledAt, Run, node_run}
use Rattle.node_runs.specs.Recorder.{no_notes}
use Rattle.node_runs.specs.Replayed.{IsAnswer}
use Rattle.node_runs.specs.Texts.{entries, end_entry, node_text}
use Rattle.node_laws.proofs.Courses.{AreSuch}
use Rattle.node_laws.proofs.Opening.{IsNodeCause}
use Rattle.node_laws.proofs.Turns.{EndsBy, run_ends}
use Rattle.script_lines.proofs.LinesOf.{lines_of-feed}
use Rattle.check_reader.specs.Told.{FitsFault, Fits, IsUsual}
use Rattle.check_reader.proofs.EntryLaws.{one_line}
use Rattle.check_verdict.specs.Verdict.{longest_line}
use Rattle.homa_plain.specs.Limits.{longest_input}
use Rattle.check_verdict.specs.Text.{AreTold, IsTrace}
use Rattle.check_verdict.proofs.TextLaws.{yes_is}
use Rattle.node_trace_laws.specs.Honest.{AreHonest, last_line, lines}
use Rattle.node_trace_laws.proofs.Ends.{IsEnd}
use Rattle.node_trace_laws.proofs.Sent.{honest-append}
use Rattle.node_trace_laws.proofs.NodeLaw.{all_hold, all_obey, some_lines, end_is}
use Rattle.node_trace_laws.proofs.Taken.{text_is}
use Rattle.check_node_laws.specs.Checked.{IsHandedUp, NodeTextsAreTraces}
use Rattle.check_node_laws.proofs.Said.{IsTrue}
use Rattle.check_node_laws.proofs.Course.{run_true}
use Rattle.check_node_laws.proofs.Short.{IsOfNode, line_short}
use Rattle.check_node_laws.proofs.Fitting.{AreFit, next_fit, line_fits}

-- a line can be read back: its numbers are within their types, and it isn't too long
record CanBeRead (line : PlainEntry) : Type 0 where
  pub fits : Fits line
  pub usual : IsUsual line
  pub short : length (line_text line) ≤ longest_line + 1

-- a line with its feed is the line without it, and a feed
feed_step : (b : ℕ) (t : Bool) (bytes : List ℕ) → (b == 10) ≡ t → (if t then false else ends_in_feed bytes) ≡ true
    → (ends_in_feed bytes ≡ true → bytes ≡ without_feed bytes ++ 10 ∷ [])
    → b ∷ bytes ≡ (if t then [] else b ∷ without_feed bytes) ++ 10 ∷ []
feed_step b true bytes e h next = absurd cc
feed_step b false bytes e h next = ap (λ (xs : List ℕ). b ∷ xs) (next h)

alone : (b : ℕ) (t : Bool) → (b == 10) ≡ t → t ≡ true → b ∷ [] ≡ (if t then [] else b ∷ []) ++ 10 ∷ []
alone b true e h = let is : b ≡ 10 = grind (arith, nat_tests) in ap (λ (x : ℕ). x ∷ []) is
alone b false e h = absurd cc

with_feed : (bytes : List ℕ) → ends_in_feed bytes ≡ true → bytes ≡ without_feed bytes ++ 10 ∷ []
with_feed [] h = absurd cc
with_feed (b ∷ []) h = alone b (b == 10) refl h
with_feed (b ∷ c ∷ bytes) h = feed_step b (b == 10) (c ∷ bytes) refl h (λ k. with_feed (c ∷ bytes) k)

-- ---- the lines of a text

texts_lines : (es : List PlainEntry) → AllByRecursion CanBeRead es → lines_of (flat_map line_text es) ≡ map line_text es
texts_lines [] all = refl
texts_lines (e ∷ es) all =
    lines_of-feed (line_text e) (flat_map line_text es) (one_line e all.0.fits) ∙ ap (λ (ls : List (List ℕ)). line_text e ∷ ls) (texts_lines es all.1)

told : (read : ℕ) (es : List PlainEntry) → AllByRecursion CanBeRead es → read + length (flat_map line_text es) ≤ longest_input
    → AreTold read (map line_text es) es
told read [] all within = tt
told read (e ∷ es) all within =
    let sum : length (line_text e ++ flat_map line_text es) ≡ length (line_text e) + length (flat_map line_text es) =
    length-append (line_text e) (flat_map line_text es) in
    let is = with_feed (line_text e) (one_line e all.0.fits) in
    let size : length (line_text e) ≡ length (without_feed (line_text e)) + 1 = ap length is ∙ length-append (without_feed (line_text e)) (10 ∷ []) in (
      record { text = is; fits = all.0.fits; usual = all.0.usual; short = omega (arith, all.0.short, size); within = omega (arith, within, sum) },
      told (read + length (line_text e)) es all.1 (omega (arith, within, sum)),
    )

-- ---- each line can be read back

of_node : (v : View) (line : PlainEntry) → IsTrue v line → IsOfNode line
of_node v (PlainDeliver packet) t = absurd t.0
of_node v (PlainRestart host inc) t = absurd t.0
of_node v (PlainInject host bytes) t = absurd t.0
of_node v (PlainShift host n) t = absurd t.0
of_node v line t = tt

next_place : (v : View) (line : PlainEntry) → (seen v line).place ≡ v.place + 1
unfolding seen
next_place v line = refl

lines_read : (v : View) (es : List PlainEntry) → AreFit v → v.place + length es < 2 ^ 64 → Holds Obeys v es → Holds IsTrue v es → AllByRecursion CanBeRead es
lines_read v [] k few obey true_ = tt
lines_read v (line ∷ es) k few obey true_ =
    let f = line_fits v line (omega (arith, few)) k obey.0 true_.0 in (
      record { fits = f.fits; usual = f.usual; short = line_short line f.fits f.sizes (of_node v line true_.0) },
      lines_read (seen v line) es (next_fit v line k obey.0 true_.0) (omega (arith, few, next_place v line)) obey.1 true_.1,
    )

-- before the first line
nothing_fits : AreFit nothing_seen
nothing_fits = record { hosts = omega arith; calls = λ q c at. absurd (none_some c (sym (get-empty call_cmp q) ∙ at)); runs = tt; packets = omega arith }

-- the last line
cause_fits : (fault : LineFault) → IsNodeCause fault → FitsFault fault
cause_fits (Script fault) k = tt
cause_fits (World NoSuchHost) k = tt
cause_fits (World (Start fault)) k = tt
cause_fits (World fault) k = absurd k

end_fits : (end : End) → IsEnd end → EndsBy 1000000000 (Some end) → Fits (end_entry end)
end_fits (Ended turns) k few = omega (arith, few)
end_fits (RefusedAt line fault) k few = (omega (arith, k.1), cause_fits fault k.0)
end_fits (StalledAt turns now) k few = (omega (arith, few), omega (arith, k))

end_read : (end : End) → IsEnd end → EndsBy 1000000000 (Some end) → CanBeRead (end_entry end)
end_read (Ended turns) k few = let f = end_fits (Ended turns) k few in record { fits = f; usual = tt; short = line_short (PlainFinished turns) f tt tt }
end_read (RefusedAt line fault) k few = let f = end_fits (RefusedAt line fault) k few in
    record { fits = f; usual = tt; short = line_short (PlainRefused line fault) f tt tt }
end_read (StalledAt turns now) k few = let f = end_fits (StalledAt turns now) k few in
    record { fits = f; usual = tt; short = line_short (PlainStalled turns now) f tt tt }

-- ---- counts

-- lines one behind the other
holds_front : (law : View → PlainEntry → Type 0) (v : View) (a b : List PlainEntry) → Holds law v (a ++ b) → Holds law v a
holds_front law v [] b h = tt
holds_front law v (line ∷ a) b h = (h.0, holds_front law (seen v line) a b h.1)

-- a line has a byte at least
has_byte : (line : PlainEntry) → 0 < length (line_text line)
unfolding line_text
has_byte line = omega (arith, length-append (join_with_byte 32 (entry_words line)) (10 ∷ []))

fewer : (es : List PlainEntry) → length es ≤ length (flat_map line_text es)
fewer [] = omega arith
fewer (line ∷ es) = omega (arith, length-append (line_text line) (flat_map line_text es), has_byte line, fewer es)

-- ---- the law

module _ (bytes : List ℕ) (setup : Setup) (calls : Calls) (answers : List Answer) (ticks : List ℕ) (receives : List Receive)
    (e : opening most_bytes bytes ≡ Opened setup calls) (fair : AllByRecursion IsAnswer answers) (rises : AreTicks 0 ticks)
    (up : AreSuch IsHandedUp receives) where
  abbrev run : Run
  run = node_run bytes answers ticks receives

  all_read : AreHonest no_notes (lines run) → length (node_text run) ≤ longest_input → AllByRecursion CanBeRead (lines run)
  all_read honest within =
      let told : List PlainEntry = entries run.reports in
      let size : length (node_text run) ≡ length (flat_map line_text (lines run)) = ap length (text_is run) in
      let many : length (lines run) ≡ length told + length (last_line run.end) = length-append told (last_line run.end) in
      let few : 0 + length told < 2 ^ 64 = omega (arith, fewer (lines run), many, size, within) in
      let front = (honest-append no_notes told (last_line run.end) honest).0 in
      let obey = holds_front Obeys nothing_seen told (last_line run.end) (all_obey bytes setup calls answers ticks receives e fair rises honest) in
      let true_ = all_hold IsTrue no_notes nothing_seen told (run_true bytes setup calls answers ticks receives e fair rises up) front in
      all-append CanBeRead told (last_line run.end) (lines_read nothing_seen told nothing_fits few obey true_) (last_read run.end refl) where
        last_read : (o : Option End) → run.end ≡ o → AllByRecursion CanBeRead (last_line o)
        last_read None is = tt
        last_read (Some end) is = (
          end_read end (end_is bytes setup calls answers ticks receives end e rises is)
              (subst (EndsBy 1000000000) is (run_ends bytes setup calls answers ticks receives e)),
          tt,
        )

pub texts_are_traces : NodeTextsAreTraces
texts_are_traces bytes setup calls answers ticks receives e fair rises up honest within =
    let run : Run = node_run bytes answers ticks receives in
    let all = all_read bytes setup calls answers ticks receives e fair rises up honest within in
    let is : node_text run ≡ flat_map line_text (lines run) = text_is run in
    let size : length (node_text run) ≡ length (flat_map line_text (lines run)) = ap length is in
    let trace : IsTrace (node_text run) (length (lines run)) = record {
      entries = lines run;
      told = subst (λ (ls : List (List ℕ)). AreTold 0 ls (lines run)) (sym (ap lines_of is ∙ texts_lines (lines run) all))
          (told 0 (lines run) all (omega (arith, within, size)));
      obeyed = all_obey bytes setup calls answers ticks receives e fair rises honest;
      count = refl;
      some = some_lines bytes setup calls answers ticks receives e fair rises honest;
    } in
    record { trace = trace; verdict = (yes_is (node_text run) (length (lines run))).1 trace }
