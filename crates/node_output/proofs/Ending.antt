-- The recording of a node that was served.
use Rattle.std.proofs.Common.{◌≡◌, ◌⊎◌, inl, inr, ℕ, Bool, true, false, Option, Some, Result, Ok, Err, List, [], ◌++◌, refl, sym, ap, ◌∙◌, subst, append_assoc}
use Rattle.std.specs.Prelude.{if◌then◌else◌}
use Rattle.std.specs.Option.{option_map}
use Rattle.std.proofs.lemmas.List.{append-nil}
use Rattle.homa_io.specs.Outside.{HasRisen, appended, TookFront}
use Rattle.homa_io.proofs.Fronts.{two_put, front_after}
use Rattle.written_lines.proofs.Putting.{front_more}
use Rattle.homa_plain.specs.Entries.{PlainEntry}
use Rattle.homa_plain.specs.Rules.{Answer}
use Rattle.homa_plain.specs.declared.fault.LineFault.TheVariants.{Script as ByWords, World as ByWorld}
use Rattle.homa_plain.specs.declared.fault.WorldFault.TheVariants.{NoSuchHost, Start as CantStart}
use Rattle.node_runs.specs.Course.{Report, Datagram, Receive, End, Ended, RefusedAt, StalledAt, Run, node_run}
use Rattle.node_runs.specs.Recorder.{Notes, no_notes, told, kept, strange}
use Rattle.node_runs.specs.Observed.{Observed}
use Rattle.node_runs.specs.Texts.{recorded, last_text, recorded_end, recording_text, end_status, node_status, recording_status, recorded_sent}
use Rattle.node_io.specs.declared.observer.SeenFault.TheVariants as seen
use Rattle.node_turns.specs.Told.{listed, Listed, ListedFront, Hears, HasDoneFront, AreBroken, AreHalted}
use Rattle.node_turns.specs.declared.stop.NodeStop.{NodeStop}
use Rattle.node_turns.specs.declared.stop.NodeStop.TheVariants as stop
use Rattle.homa_plain.specs.Script.{most_bytes}
use Rattle.node_runs.specs.Script.{opening}
use Rattle.node_runs.specs.Acts.{Act, opened_acts}
use Rattle.node_io.specs.Net.{sent_in}
use Rattle.homa_record.specs.Seen.{strange_comes}
use Rattle.homa_node.specs.Served.{outside, IsServed, IsPart, IsAnswered, HasServed, BeginsRun}
use Rattle.homa_node.specs.Served as how
use Rattle.homa_node.proofs.Connected.{acts_are, first_none}
use Rattle.node_output.proofs.Fronts.{front_recorded}
use Rattle.homa_node.proofs.Observing.{observed_whole, told_observed, strange_observed, front_observed}
use Rattle.node_output.specs.Traces.{around, IsGiven, IsEndCut, IsFrontOf, IsBrokenOff, recording_telling}
use Rattle.node_output.specs.declared.recording_end.Recorded.{Recorded}
use Rattle.node_output.specs.declared.recording_end.Recorded.TheVariants as status
use Rattle.node_output.specs.RecordingEnds.{PutsEnd, end_of}
use Rattle.node_output.specs.Recorded.{IsWhole, IsCutShort, HasRecorded}

-- ---- the text and the status of a recording

-- what a recorder prints of a run's reports
abbrev pub lines : Run → List ℕ
lines run = (recorded no_notes run.reports).told

text_by : (run : Run) (b : Bool) → (recorded no_notes run.reports).is_cut ≡ b
    → recording_text run ≡ (if b then lines run else lines run ++ last_text recorded_end run.end)
unfolding recording_text
text_by run b e = ap (λ (c : Bool). if c then lines run else lines run ++ last_text recorded_end run.end) e

text_ended : (run : Run) (end : End) → (recorded no_notes run.reports).is_cut ≡ false → run.end ≡ Some end
    → lines run ++ recorded_end end ≡ recording_text run
text_ended run end usual e = ap (λ (o : Option End). lines run ++ last_text recorded_end o) (sym e) ∙ sym (text_by run false usual)

text_more : (run : Run) → (rest : List ℕ) × (lines run ++ rest ≡ recording_text run)
text_more run = by_cut (recorded no_notes run.reports).is_cut refl where
  by_cut : (b : Bool) → (recorded no_notes run.reports).is_cut ≡ b → (rest : List ℕ) × (lines run ++ rest ≡ recording_text run)
  by_cut true e = ([], append-nil (lines run) ∙ sym (text_by run true e))
  by_cut false e = (last_text recorded_end run.end, sym (text_by run false e))

status_by : (run : Run) (b : Bool) → (recorded no_notes run.reports).is_cut ≡ b → recording_status run ≡ (if b then Some 8 else node_status run)
status_by run b e = ap (λ (c : Bool). if c then Some 8 else node_status run) e

module _ (may_tell : List PlainEntry → Type 0) (bytes : List ℕ) (t0 t1 t2 : Option (List ℕ)) (n1 : Notes) (d0 d1 : Option (List Act))
    (s0 s1 : Option (List Datagram))
    (g0 g1 : Option (List Receive)) (k0 k1 : Option (List ℕ)) (first : List Act) (l0 : s0 ≡ sent_in d0) (l1 : s1 ≡ sent_in d1) where
  -- ---- a run that ended

  module _ (opened : opened_acts (opening most_bytes bytes) ≡ first) (end : End)
      (is : IsServed node_run told kept strange may_tell bytes (outside t0 no_notes (listed d0 first) s0 g0 k0)
      (outside t1 n1 d1 s1 g1 k1) end) where
    abbrev run : Run
    run = node_run bytes is.answers is.ticks is.gave

    usual : (recorded no_notes run.reports).is_cut ≡ false
    usual = ap (λ (o : Observed ℕ). o.is_cut) (observed_whole told kept strange no_notes run.reports is.told_all.told_all.usual)

    lines_printed : t1 ≡ appended t0 (lines run)
    lines_printed = told_observed told kept strange t0 t1 no_notes n1 run.reports is.told_all.told_all

    from_is : IsGiven may_tell (around t0 d0 s0 g0 k0) (around t2 d1 s1 g1 k1) is.answers is.ticks is.gave run.reports
    from_is = record { given = is.given; received = is.received; ticked = is.ticked; rises = is.rises; shows = is.shows; allowed = is.allowed }

    -- the last line was printed behind it
    whole : t2 ≡ appended t1 (recorded_end end) → IsWhole may_tell bytes (around t0 d0 s0 g0 k0) (around t2 d1 s1 g1 k1) (end_status end)
    whole last = record {
      answers = is.answers;
      ticks = is.ticks;
      gave = is.gave;
      from = from_is;
      status_is = status_by run false usual ∙ ap (option_map end_status) is.ended;
      used = is.used;
      text = two_put t0 t1 t2 (lines run) (recorded_end end) lines_printed last ∙ ap (appended t0) (text_ended run end usual is.ended);
      took = is.took;
      acted = acts_are d0 d1 s0 s1 bytes run first l0 l1 opened is.told_all.done is.took;
    }

    -- a front of it was
    end_cut : TookFront t1 t2 (recorded_end end) → IsEndCut may_tell recording_telling bytes (around t0 d0 s0 g0 k0) (around t2 d1 s1 g1 k1)
    end_cut last = record {
      answers = is.answers;
      ticks = is.ticks;
      gave = is.gave;
      end = end;
      from = from_is;
      ended = is.ended;
      used = is.used;
      text = subst (TookFront t0 t2) (text_ended run end usual is.ended) (front_after t0 t1 t2 (lines run) (recorded_end end) lines_printed last);
      took = is.took;
      acted = acts_are d0 d1 s0 s1 bytes run first l0 l1 opened is.told_all.done is.took;
    }

  -- ---- a run that was broken off

  module _ (left : Option (List ℕ)) (is : IsPart node_run told kept strange may_tell bytes left (outside t0 no_notes (listed d0 first) s0 g0 k0)
      (outside t1 n1 d1 s1 g1 k1)
      (AreBroken told kept strange t0 no_notes t1 (listed d0 first) d1 (Hears 64)) (ListedFront s0 s1))
      (unconnected : List Act) (connected : opened_acts (opening most_bytes bytes) ≡ first ++ unconnected)
      (all_first : (unconnected ≡ []) ⊎ (t1 ≡ t0)) where
    text_begun : (run : Run) (more : List Report) → run.reports ≡ is.reports ++ more → TookFront t0 t1 (recording_text run)
    text_begun run more e =
        let rest = text_more run in
        front_more t0 t1 (lines run) rest.0 (recording_text run)
        (subst (λ (rs : List Report). TookFront t0 t1 (recorded no_notes rs).told) (sym e)
        (front_observed told kept strange t0 t1 no_notes is.reports more is.told_part.front)) rest.1

    front_of : (run : Run) → BeginsRun run is.reports is.sent
        → IsFrontOf recording_text recorded_sent run is.reports (around t0 d0 s0 g0 k0) (around t1 d1 s1 g1 k1)
    front_of run b = record {
      more = b.more;
      begins = b.reports_are;
      text = text_begun run b.more b.reports_are;
      took = front_recorded told kept strange strange_comes t0 t1 d0 d1 s0 s1 first no_notes is.reports is.sent run l0 l1
          (first_none bytes first unconnected connected) is.told_part is.took is.numbers b;
    }

    cut_there : IsBrokenOff may_tell recording_telling bytes left (around t0 d0 s0 g0 k0) (around t1 d1 s1 g1 k1)
    cut_there = record {
      came = is.came;
      rest = is.rest;
      split = is.split;
      has_left = is.has_left;
      answers = is.answers;
      ticks = is.ticks;
      gave = is.gave;
      reports = is.reports;
      from = record { given = is.given; received = is.received; ticked = is.ticked; rises = is.rises; shows = is.shows; allowed = is.allowed };
      first = first;
      unconnected = unconnected;
      connected = connected;
      all_first = all_first;
      broken = is.told_part;
      front = elim (is.front) [
        | inl f ↦ inl (λ more later on next. front_of (node_run (is.came ++ more) (is.answers ++ later) (is.ticks ++ on) (is.gave ++ next))
            (f more later on next))
        | inr f ↦ inr (f.0, λ later on next. front_of (node_run is.came (is.answers ++ later) (is.ticks ++ on) (is.gave ++ next)) (f.1 later on next))
      ];
    }

    -- nothing was printed behind it
    cut : t2 ≡ t1 → IsBrokenOff may_tell recording_telling bytes left (around t0 d0 s0 g0 k0) (around t2 d1 s1 g1 k1)
    cut same =
        subst (λ (t : Option (List ℕ)). IsBrokenOff may_tell recording_telling bytes left (around t0 d0 s0 g0 k0) (around t d1 s1 g1 k1)) (sym same) cut_there

  -- ---- a datagram was strange

  module _ (left : Option (List ℕ)) (is : IsPart node_run told kept strange may_tell bytes left (outside t0 no_notes (listed d0 first) s0 g0 k0)
      (outside t1 n1 d1 s1 g1 k1)
      (AreHalted told kept strange t0 no_notes t1 (listed d0 first) d1 (Hears 64)) (Listed s0 s1))
      (opened : opened_acts (opening most_bytes bytes) ≡ first) where
    -- the run of all bytes and of what was given begins with what was come to
    begins_all : BeginsRun (node_run bytes is.answers is.ticks is.gave) is.reports is.sent
    begins_all = by_front is.front where
      same : (b : List ℕ) → b ≡ bytes → BeginsRun (node_run b (is.answers ++ []) (is.ticks ++ []) (is.gave ++ [])) is.reports is.sent
          → BeginsRun (node_run bytes is.answers is.ticks is.gave) is.reports is.sent
      same b e k =
          subst (λ (xs : List ℕ). BeginsRun (node_run xs is.answers is.ticks is.gave) is.reports is.sent) e
          (subst (λ (xs : List Answer). BeginsRun (node_run b xs is.ticks is.gave) is.reports is.sent) (append-nil is.answers)
          (subst (λ (xs : List ℕ). BeginsRun (node_run b (is.answers ++ []) xs is.gave) is.reports is.sent) (append-nil is.ticks)
          (subst (λ (xs : List Receive). BeginsRun (node_run b (is.answers ++ []) (is.ticks ++ []) xs) is.reports is.sent) (append-nil is.gave) k)))

      by_front : ((more : List ℕ) (later : List Answer) (on : List ℕ) (next : List Receive)
          → BeginsRun (node_run (is.came ++ more) (is.answers ++ later) (is.ticks ++ on) (is.gave ++ next)) is.reports is.sent)
          ⊎ ((is.rest ≡ []) × ((later : List Answer) (on : List ℕ) (next : List Receive)
          → BeginsRun (node_run is.came (is.answers ++ later) (is.ticks ++ on) (is.gave ++ next)) is.reports is.sent))
          → BeginsRun (node_run bytes is.answers is.ticks is.gave) is.reports is.sent
      by_front (inl f) = same (is.came ++ is.rest) (sym is.split) (f is.rest [] [] [])
      by_front (inr f) =
          same is.came (sym (append-nil is.came) ∙ (ap (λ (xs : List ℕ). is.came ++ xs) (sym f.0) ∙ sym is.split)) (f.1 [] [] [])

    cut_short : t2 ≡ t1 → s1 ≡ listed s0 (recorded_sent (node_run bytes is.answers is.ticks is.gave))
        → IsCutShort may_tell bytes (around t0 d0 s0 g0 k0) (around t2 d1 s1 g1 k1)
    cut_short same took =
        let run = node_run bytes is.answers is.ticks is.gave in
        let k = strange_observed told kept strange t0 t1 no_notes is.reports begins_all.more is.told_part.strange_one in
        let cut : (recorded no_notes run.reports).is_cut ≡ true = ap (λ (rs : List Report). (recorded no_notes rs).is_cut) begins_all.reports_are ∙ k.1 in
        record {
          answers = is.answers;
          ticks = is.ticks;
          gave = is.gave;
          reports = is.reports;
          more = begins_all.more;
          begins = begins_all.reports_are;
          before = is.told_part.strange_one.before;
          last = is.told_part.strange_one.last;
          split = is.told_part.strange_one.split;
          usual = ap (λ (o : Observed ℕ). o.is_cut) (observed_whole told kept strange no_notes is.told_part.strange_one.before is.told_part.strange_one.usual);
          strange = subst (λ (rs : List Report). (recorded no_notes rs).is_cut ≡ true) (append-nil is.reports)
              (strange_observed told kept strange t0 t1 no_notes is.reports [] is.told_part.strange_one).1;
          status_is = status_by run true cut;
          text = same ∙ (k.0 ∙ ap (appended t0) (ap (λ (rs : List Report). (recorded no_notes rs).told) (sym begins_all.reports_are)
              ∙ sym (text_by run true cut)));
          took = took;
          done = subst (λ xs. HasDoneFront (listed d0 xs) d1 (Hears 64) is.reports) (sym opened) is.told_part.done;
          from = record { given = is.given; received = is.received; ticked = is.ticked; rises = is.rises; shows = is.shows; allowed = is.allowed };
        }

  -- ---- what a node answered, and what was printed behind it

  module _ (left : Option (List ℕ)) (faults later : ℕ) where
    abbrev Served : End → Type 0
    Served end = IsServed node_run told kept strange may_tell bytes (outside t0 no_notes (listed d0 first) s0 g0 k0) (outside t1 n1 d1 s1 g1 k1) end

    abbrev Leaves : Recorded → Type 0
    Leaves result = HasRecorded may_tell bytes left (around t0 d0 s0 g0 k0) (around t2 d1 s1 g1 k1) result

    by_put : opened_acts (opening most_bytes bytes) ≡ first → (end : End) (result good : Recorded)
        → (IsWhole may_tell bytes (around t0 d0 s0 g0 k0) (around t2 d1 s1 g1 k1) (end_status end) → Leaves good) → Served end
        → ((t2 ≡ appended t1 (recorded_end end)) × (later ≡ faults) × (result ≡ good))
        ⊎ (TookFront t1 t2 (recorded_end end) × HasRisen faults later × (result ≡ status.WriteFailed)) → Leaves result
    by_put opened end result good has s (inl (text, quiet, e)) = subst Leaves (sym e) (has (whole opened end s text))
    by_put opened end result good has s (inr (text, risen, e)) = subst Leaves (sym e) (inr (end_cut opened end s text))

    module _ (unconnected : List Act) (connected : opened_acts (opening most_bytes bytes) ≡ first ++ unconnected) where
      -- all hosts were bound or routed where the run didn't break off
      all_of : (served : Result ℕ NodeStop) → (unconnected ≡ []) ⊎ (how.IsBrokenOff node_run told kept strange may_tell served × (t1 ≡ t0))
          → (how.IsBrokenOff node_run told kept strange may_tell served → ⊥) → opened_acts (opening most_bytes bytes) ≡ first
      all_of served (inl none) never = connected ∙ ap (λ xs. first ++ xs) none ∙ append-nil first
      all_of served (inr off) never = absurd (never off.0)

      some_of : (served : Result ℕ NodeStop) → (unconnected ≡ []) ⊎ (how.IsBrokenOff node_run told kept strange may_tell served × (t1 ≡ t0))
          → (unconnected ≡ []) ⊎ (t1 ≡ t0)
      some_of served (inl none) = inl none
      some_of served (inr off) = inr off.1

      by_answer : (served : Result ℕ NodeStop) (result : Recorded)
          → (unconnected ≡ []) ⊎ (how.IsBrokenOff node_run told kept strange may_tell served × (t1 ≡ t0))
          → IsAnswered node_run told kept strange may_tell bytes left (outside t0 no_notes (listed d0 first) s0 g0 k0) (outside t1 n1 d1 s1 g1 k1) served
          → PutsEnd t1 t2 faults later served result (end_of served) → Leaves result
      by_answer (Ok n) result q a p = by_put (all_of (Ok n) q (λ x. x)) (Ended n) result status.Done (λ w. (w, a.1)) a.0 p
      by_answer (Err (stop.Script line fault)) result q a p =
          by_put (all_of (Err (stop.Script line fault)) q (λ x. x)) (RefusedAt line (ByWords fault)) result status.Refused (λ w. w) a p
      by_answer (Err (stop.Start line fault)) result q a p =
          by_put (all_of (Err (stop.Start line fault)) q (λ x. x)) (RefusedAt line (ByWorld (CantStart fault))) result status.Refused (λ w. w) a p
      by_answer (Err (stop.Host line)) result q a p =
          by_put (all_of (Err (stop.Host line)) q (λ x. x)) (RefusedAt line (ByWorld NoSuchHost)) result status.Refused (λ w. w) a p
      by_answer (Err (stop.Stalled turns now)) result q a p =
          by_put (all_of (Err (stop.Stalled turns now)) q (λ x. x)) (StalledAt turns now) result status.Stalled (λ w. w) a p
      by_answer (Err (stop.Seen seen.Stranger)) result q a p =
          let opened = all_of (Err (stop.Seen seen.Stranger)) q (λ x. x) in
          subst Leaves (sym p.2) (cut_short left a.part opened p.0
          (a.took (node_run bytes a.part.answers a.part.ticks a.part.gave) (begins_all left a.part opened)))
      by_answer (Err (stop.Seen (seen.Write failed))) result q a p =
          subst Leaves (sym p.2) (inl (cut left a unconnected connected (some_of (Err (stop.Seen (seen.Write failed))) q) p.0))
      by_answer (Err (stop.Seen seen.NoMemory)) result q a p = absurd a
      by_answer (Err stop.Read) result q a p = subst Leaves (sym p.2) (cut left a unconnected connected (some_of (Err stop.Read) q) p.0)
      by_answer (Err stop.Net) result q a p = subst Leaves (sym p.2) (cut left a unconnected connected (some_of (Err stop.Net) q) p.0)
      by_answer (Err stop.NoMemory) result q a p = subst Leaves (sym p.2) (cut left a unconnected connected (some_of (Err stop.NoMemory) q) p.0)

-- what was recorded, where the node answered so
pub recorded_by : (may_tell : List PlainEntry → Type 0) (bytes : List ℕ) (t0 t1 t2 : Option (List ℕ)) (n1 : Notes) (d0 d1 : Option (List Act))
    (s0 s1 : Option (List Datagram)) (g0 g1 : Option (List Receive)) (k0 k1 : Option (List ℕ)) → s0 ≡ sent_in d0 → s1 ≡ sent_in d1
    → (left : Option (List ℕ)) (faults later : ℕ) (served : Result ℕ NodeStop) (result : Recorded) (mid : Option (List ℕ)) → mid ≡ t1
    → HasServed node_run told kept strange may_tell bytes left (outside t0 no_notes d0 s0 g0 k0) (outside t1 n1 d1 s1 g1 k1) served
    → PutsEnd mid t2 faults later served result (end_of served)
    → HasRecorded may_tell bytes left (around t0 d0 s0 g0 k0) (around t2 d1 s1 g1 k1) result
recorded_by may_tell bytes t0 t1 t2 n1 d0 d1 s0 s1 g0 g1 k0 k1 l0 l1 left faults later served result mid same h p =
    by_answer may_tell bytes t0 t1 t2 n1 d0 d1 s0 s1 g0 g1 k0 k1 h.first l0 l1 left faults later h.rest h.connected served result h.all_first h.answered
    (subst (λ (o : Option (List ℕ)). PutsEnd o t2 faults later served result (end_of served)) same p)
