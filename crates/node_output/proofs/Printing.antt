-- What a printer was told of a run, as the text of the run.
use Rattle.std.proofs.Common.{◌≡◌, ◌⊎◌, inl, inr, [], ℕ, true, false, Option, Some, Result, Ok, Err, List, ◌++◌, refl, sym, ap, ◌∙◌, subst, append_assoc}
use Rattle.std.proofs.lemmas.List.{append-nil}
use Rattle.homa_io.specs.Outside.{appended, TookFront}
use Rattle.homa_io.proofs.Fronts.{two_put, front_after}
use Rattle.homa_plain.specs.Entries.{PlainEntry}
use Rattle.homa_plain.specs.Text.{line_text}
use Rattle.homa_plain.specs.declared.fault.LineFault.TheVariants.{Script as ByWords, World as ByWorld}
use Rattle.homa_plain.specs.declared.fault.WorldFault.TheVariants.{NoSuchHost, Start as CantStart}
use Rattle.written_lines.proofs.Putting.{front_more}
use Rattle.node_runs.specs.Course.{Report, Datagram, Receive, End, Run, node_run}
use Rattle.homa_plain.specs.Script.{most_bytes}
use Rattle.node_runs.specs.Script.{opening}
use Rattle.node_runs.specs.Acts.{Act, opened_acts}
use Rattle.node_io.specs.Net.{sent_in}
use Rattle.node_runs.specs.Recorder.{Notes, no_notes}
use Rattle.node_runs.specs.Observed.{observed, never, same_notes}
use Rattle.node_runs.specs.Texts.{end_entry, last_text, printed, node_text}
use Rattle.node_io.specs.declared.observer.SeenFault.TheVariants as seen
use Rattle.node_turns.specs.Told.{listed, ListedFront, Hears, AreFront, AreStrange, AreBroken}
use Rattle.node_turns.specs.declared.stop.NodeStop.{NodeStop}
use Rattle.node_turns.specs.declared.stop.NodeStop.TheVariants as stop
use Rattle.homa_node.specs.Served.{Outside, outside, IsServed, IsPart, IsAnswered, HasServed, BeginsRun}
use Rattle.homa_node.specs.Served as served
use Rattle.homa_node.proofs.Observing.{told_observed, front_observed}
use Rattle.homa_node.proofs.Connected.{acts_are}
use Rattle.node_output.specs.declared.trace_end.NodeEnd.{NodeEnd}
use Rattle.node_output.specs.declared.trace_end.NodeEnd.TheVariants.{Ended, Refused, Stalled}
use Rattle.node_output.specs.declared.trace_end.Broken.{Broken}
use Rattle.node_output.specs.declared.trace_end.Broken.TheVariants as why
use Rattle.node_output.specs.TraceEnds.{end_seen, end_told}
use Rattle.node_output.specs.Traces.{around, IsGiven, IsWhole, IsEndCut, IsFrontOf, IsBrokenOff, IsReadOut, IsPrinted, Around, node_telling}

-- what a printer tells
abbrev pub prints : Notes → Report → List ℕ
prints notes report = printed report

-- the lines of a run
abbrev pub lines : Run → List ℕ
lines run = (observed prints same_notes never no_notes run.reports).told

-- the text of a run that ended
text_ended : (run : Run) (end : End) → run.end ≡ Some end → lines run ++ line_text (end_entry end) ≡ node_text run
unfolding node_text
text_ended run end e = ap (λ (o : Option End). lines run ++ last_text (λ (x : End). line_text (end_entry x)) o) (sym e)

text_front : (t0 t1 : Option (List ℕ)) (run : Run) → TookFront t0 t1 (lines run) → TookFront t0 t1 (node_text run)
unfolding node_text
text_front t0 t1 run f = front_more t0 t1 (lines run) (last_text (λ (x : End). line_text (end_entry x)) run.end) (node_text run) f refl

-- a front of the lines of a run that begins with these reports
text_begun : (t0 t1 : Option (List ℕ)) (run : Run) (reports more : List Report) → run.reports ≡ reports ++ more
    → AreFront prints same_notes never t0 no_notes t1 reports → TookFront t0 t1 (node_text run)
text_begun t0 t1 run reports more e f =
    text_front t0 t1 run (subst (λ (rs : List Report). TookFront t0 t1 (observed prints same_notes never no_notes rs).told) (sym e)
    (front_observed prints same_notes never t0 t1 no_notes reports more f))

-- nothing is strange to a printer
never_strange : (old new : Option (List ℕ)) (n : Notes) (reports : List Report) → AreStrange prints same_notes never old n new reports → ⊥
never_strange old new n reports h = let no_such : false ≡ true = h.unusual in cc

module _ (may_tell : List PlainEntry → Type 0) (bytes : List ℕ) (t0 t1 t2 : Option (List ℕ)) (n1 : Notes) (d0 d1 : Option (List Act))
    (s0 s1 : Option (List Datagram))
    (g0 g1 : Option (List Receive)) (k0 k1 : Option (List ℕ)) (first : List Act) where
  module _ (l0 : s0 ≡ sent_in d0) (l1 : s1 ≡ sent_in d1) (opened : opened_acts (opening most_bytes bytes) ≡ first) (end : End)
      (is : IsServed node_run prints same_notes never may_tell bytes (outside t0 no_notes (listed d0 first) s0 g0 k0)
      (outside t1 n1 d1 s1 g1 k1) end) where
    lines_printed : t1 ≡ appended t0 (lines (node_run bytes is.answers is.ticks is.gave))
    lines_printed = told_observed prints same_notes never t0 t1 no_notes n1 (node_run bytes is.answers is.ticks is.gave).reports is.told_all.told_all

    from_is : IsGiven may_tell (around t0 d0 s0 g0 k0) (around t2 d1 s1 g1 k1) is.answers is.ticks is.gave (node_run bytes is.answers is.ticks is.gave).reports
    from_is = record { given = is.given; received = is.received; ticked = is.ticked; rises = is.rises; shows = is.shows; allowed = is.allowed }

    -- the last line was printed behind them
    pub whole : (mid : Option (List ℕ)) → mid ≡ t1 → t2 ≡ appended mid (line_text (end_entry end))
        → IsWhole may_tell bytes (around t0 d0 s0 g0 k0) (around t2 d1 s1 g1 k1) end
    whole mid same last =
        let run = node_run bytes is.answers is.ticks is.gave in
        record {
          answers = is.answers;
          ticks = is.ticks;
          gave = is.gave;
          from = from_is;
          ended = is.ended;
          used = is.used;
          text = two_put t0 mid t2 (lines run) (line_text (end_entry end)) (same ∙ lines_printed) last ∙ ap (appended t0) (text_ended run end is.ended);
          took = is.took;
          acted = acts_are d0 d1 s0 s1 bytes run first l0 l1 opened is.told_all.done is.took;
        }

    -- a front of it was
    pub end_cut : (mid : Option (List ℕ)) → mid ≡ t1 → TookFront mid t2 (line_text (end_entry end))
        → IsEndCut may_tell node_telling bytes (around t0 d0 s0 g0 k0) (around t2 d1 s1 g1 k1)
    end_cut mid same last =
        let run = node_run bytes is.answers is.ticks is.gave in
        record {
          answers = is.answers;
          ticks = is.ticks;
          gave = is.gave;
          end = end;
          from = from_is;
          ended = is.ended;
          used = is.used;
          text = subst (TookFront t0 t2) (text_ended run end is.ended) (front_after t0 mid t2 (lines run) (line_text (end_entry end)) (same
              ∙ lines_printed) last);
          took = is.took;
          acted = acts_are d0 d1 s0 s1 bytes run first l0 l1 opened is.told_all.done is.took;
        }

  module _ (left : Option (List ℕ)) (is : IsPart node_run prints same_notes never may_tell bytes left (outside t0 no_notes (listed d0 first) s0 g0 k0)
      (outside t1 n1 d1 s1 g1 k1)
      (AreBroken prints same_notes never t0 no_notes t1 (listed d0 first) d1 (Hears 64)) (ListedFront s0 s1))
      (unconnected : List Act) (connected : opened_acts (opening most_bytes bytes) ≡ first ++ unconnected)
      (all_first : (unconnected ≡ []) ⊎ (t1 ≡ t0)) where
    front_of : (run : Run) → BeginsRun run is.reports is.sent → IsFrontOf node_text (λ r. r.sent) run is.reports (around t0 d0 s0 g0 k0) (around t1 d1 s1 g1 k1)
    front_of run b = record {
      more = b.more;
      begins = b.reports_are;
      text = text_begun t0 t1 run is.reports b.more b.reports_are is.told_part.front;
      took = record {
        front = is.took.front;
        rest = is.took.rest ++ b.later;
        split = sym (append_assoc is.took.front is.took.rest b.later) ∙ (ap (λ (ds : List Datagram). ds ++ b.later) is.took.split ∙ sym b.sent_is);
        is = is.took.is;
      };
    }

    cut_there : IsBrokenOff may_tell node_telling bytes left (around t0 d0 s0 g0 k0) (around t1 d1 s1 g1 k1)
    cut_there = record {
      came = is.came;
      rest = is.rest;
      split = is.split;
      has_left = is.has_left;
      answers = is.answers;
      ticks = is.ticks;
      gave = is.gave;
      reports = is.reports;
      from = record { given = is.given; received = is.received; ticked = is.ticked; rises = is.rises; shows = is.shows; allowed = is.allowed };
      first = first;
      unconnected = unconnected;
      connected = connected;
      all_first = all_first;
      broken = is.told_part;
      front = elim (is.front) [
        | inl f ↦ inl (λ more later on next. front_of (node_run (is.came ++ more) (is.answers ++ later) (is.ticks ++ on) (is.gave ++ next))
            (f more later on next))
        | inr f ↦ inr (f.0, λ later on next. front_of (node_run is.came (is.answers ++ later) (is.ticks ++ on) (is.gave ++ next)) (f.1 later on next))
      ];
    }

    -- the run was broken off
    pub cut : t2 ≡ t1 → IsBrokenOff may_tell node_telling bytes left (around t0 d0 s0 g0 k0) (around t2 d1 s1 g1 k1)
    cut same = subst (λ (t : Option (List ℕ)). IsBrokenOff may_tell node_telling bytes left (around t0 d0 s0 g0 k0) (around t d1 s1 g1 k1)) (sym same) cut_there

-- ---- what a node answered

module _ (may_tell : List PlainEntry → Type 0) (bytes : List ℕ) (left : Option (List ℕ)) (old new : Outside) where
  served_is : (x y : NodeEnd) → ◌≡◌ {A = Result NodeEnd Broken} (Ok x) (Ok y)
      → IsServed node_run prints same_notes never may_tell bytes old new (end_seen x) → IsReadOut x left
      → IsServed node_run prints same_notes never may_tell bytes old new (end_seen y) × IsReadOut y left
  served_is x y e s r =
      let same : x ≡ y = cc in (
        subst (λ (z : NodeEnd). IsServed node_run prints same_notes never may_tell bytes old new (end_seen z)) same s,
        subst (λ (z : NodeEnd). IsReadOut z left) same r,
      )

  -- an end
  pub answered_end : (answer : Result ℕ NodeStop) (end : NodeEnd) → Ok end ≡ end_told answer
      → IsAnswered node_run prints same_notes never may_tell bytes left old new answer
      → IsServed node_run prints same_notes never may_tell bytes old new (end_seen end) × IsReadOut end left
  answered_end (Ok n) end e a = served_is (Ended n) end (sym e) a.0 a.1
  answered_end (Err (stop.Script line fault)) end e a = served_is (Refused line (ByWords fault)) end (sym e) a tt
  answered_end (Err (stop.Start line fault)) end e a = served_is (Refused line (ByWorld (CantStart fault))) end (sym e) a tt
  answered_end (Err (stop.Host line)) end e a = served_is (Refused line (ByWorld NoSuchHost)) end (sym e) a tt
  answered_end (Err (stop.Stalled turns now)) end e a = served_is (Stalled turns now) end (sym e) a tt
  answered_end (Err stop.Read) end e a = absurd cc
  answered_end (Err stop.Net) end e a = absurd cc
  answered_end (Err (stop.Seen (seen.Write failed))) end e a = absurd cc
  answered_end (Err (stop.Seen seen.Stranger)) end e a = absurd cc
  answered_end (Err (stop.Seen seen.NoMemory)) end e a = absurd cc
  answered_end (Err stop.NoMemory) end e a = absurd cc

  -- none
  pub answered_none : (answer : Result ℕ NodeStop) (broken : Broken) → Err broken ≡ end_told answer
      → IsAnswered node_run prints same_notes never may_tell bytes left old new answer
      → IsPart node_run prints same_notes never may_tell bytes left old new
      (AreBroken prints same_notes never old.taken old.notes new.taken old.acts new.acts (Hears 64))
      (ListedFront old.sent new.sent)
  answered_none (Ok n) broken e a = absurd cc
  answered_none (Err (stop.Script line fault)) broken e a = absurd cc
  answered_none (Err (stop.Start line fault)) broken e a = absurd cc
  answered_none (Err (stop.Host line)) broken e a = absurd cc
  answered_none (Err (stop.Stalled turns now)) broken e a = absurd cc
  answered_none (Err stop.Read) broken e a = a
  answered_none (Err stop.Net) broken e a = a
  answered_none (Err (stop.Seen (seen.Write failed))) broken e a = a
  answered_none (Err (stop.Seen seen.Stranger)) broken e a = absurd (never_strange old.taken new.taken old.notes a.part.reports a.part.told_part.strange_one)
  answered_none (Err (stop.Seen seen.NoMemory)) broken e a = absurd a
  answered_none (Err stop.NoMemory) broken e a = a

-- all hosts were bound or routed, where the run came to an end
pub all_connected : (may_tell : List PlainEntry → Type 0) (bytes : List ℕ) (left : Option (List ℕ)) (old new : Outside) (answer : Result ℕ NodeStop)
    (end : NodeEnd)
    → Ok end ≡ end_told answer → (h : HasServed node_run prints same_notes never may_tell bytes left old new answer)
    → opened_acts (opening most_bytes bytes) ≡ h.first
all_connected may_tell bytes left old new answer end e h = elim h.all_first [
  | inl none ↦ h.connected ∙ ap (λ xs. h.first ++ xs) none ∙ append-nil h.first
  | inr off ↦ absurd (by_answer answer e off.0)
] where
  by_answer : (answer : Result ℕ NodeStop) → Ok end ≡ end_told answer → served.IsBrokenOff node_run prints same_notes never may_tell answer → ⊥
  by_answer (Err stop.Read) e off = cc
  by_answer (Err stop.Net) e off = cc
  by_answer (Err stop.NoMemory) e off = cc
  by_answer answer e off = off

-- or nothing was told before
pub first_connected : (may_tell : List PlainEntry → Type 0) (bytes : List ℕ) (left : Option (List ℕ)) (old new : Outside) (answer : Result ℕ NodeStop)
    → (h : HasServed node_run prints same_notes never may_tell bytes left old new answer) → (h.rest ≡ []) ⊎ (new.taken ≡ old.taken)
first_connected may_tell bytes left old new answer h = elim h.all_first [
  | inl none ↦ inl none
  | inr off ↦ inr off.1
]

-- a run that was broken off, whatever did it
pub broken_printed : (may_tell : List PlainEntry → Type 0) (bytes : List ℕ) (left : Option (List ℕ)) (old new : Around) (broken : Broken)
    → IsBrokenOff may_tell node_telling bytes left old new → IsPrinted may_tell bytes left old new (Err broken)
broken_printed may_tell bytes left old new why.Write h = inl h
broken_printed may_tell bytes left old new why.Read h = h
broken_printed may_tell bytes left old new why.Net h = h
broken_printed may_tell bytes left old new why.NoMemory h = h
