-- A run that was opened, printed, and came to its end.
use Rattle.std.proofs.Common.{◌≡◌, ℕ, Option, List, [], ◌∷◌, ◌++◌, refl, sym, ap, ◌∙◌, subst}
use Rattle.std.proofs.lemmas.List.{append-nil}
use Rattle.homa_io.specs.Outside.{appended, TookFront}
use Rattle.homa_plain.specs.declared.settings.Settings.{Settings}
use Rattle.homa_plain.specs.Entries.{PlainEntry, PlainSettings}
use Rattle.homa_plain.specs.Rules.{Answer}
use Rattle.homa_plain.specs.Script.{Given, settings_text}
use Rattle.homa_plain.specs.World.{World}
use Rattle.homa_plain.specs.Answers.{shown}
use Rattle.homa_replay.specs.OpenWorld.{IsFirst, IsOpened}
use Rattle.homa_replay.proofs.Fronts.{wrote_more, front_after, front_wide, front_none, front_same}
use Rattle.generated_runs.specs.Draws.{seeded}
use Rattle.generated_runs.specs.Fabric.{new_fabric}
use Rattle.generated_runs.specs.Rounds.{Generated, rounds}
use Rattle.generated_runs.specs.Generated.{generated_settings, most_rounds, schedule_text, summary_text}
use Rattle.homa_generate.specs.Counts.{counted, no_counts, counts_text}
use Rattle.homa_generate.specs.Going.{answered, Holds, IsAt, HasGone, IsFirstTold, HasStopped}
use Rattle.homa_generate.specs.Made.{Run, run_of, HasRun, IsMade, IsPartMade}
use Rattle.homa_generate.specs.declared.lines.Line.{Line}
use Rattle.homa_generate.specs.declared.lines.Line.TheVariants.{Tick, Deliver, Call}
use Rattle.homa_generate.specs.Lines.{given_of}
use Rattle.homa_generate.proofs.Fresh.{IsMadeLine}
use Rattle.homa_generate.proofs.Goings.{text}
use Rattle.homa_generate.proofs.Summaries.{summary_counted}

-- the run that begins in a world
abbrev pub begins : World → ℕ → ℕ → Generated
begins w seed calls = record { world = w; told = []; lines = []; fabric = new_fabric 32 (seeded seed); made = 0; left = calls }

module _ (seed calls boxes : ℕ) (w : World) (first : IsFirst generated_settings boxes w) where
  begins_so : (answers : List Answer) → run_of seed calls boxes answers ≡ rounds most_rounds generated_settings (answered answers (begins w seed calls))
  begins_so answers = ap (λ (v : World). rounds most_rounds generated_settings (record (begins w seed calls) { world = v })) (sym (first answers))

  module _ (a b : Holds) (st : World → Type 0) (p q : List PlainEntry → Type 0) (allowed : List PlainEntry → Type 0) (old : Option (List ℕ))
      (opens : a.taken ≡ appended old (settings_text generated_settings))
      (allow : (told : List PlainEntry) → p told → allowed (PlainSettings generated_settings ∷ told)) where
    -- it came to its end
    pub run_made : a.counts ≡ no_counts → q [] → HasGone (rounds most_rounds generated_settings) (λ x. x) (begins w seed calls) a b st p q
        → HasRun (run_of seed calls boxes) old b.taken allowed b.counts
    run_made none last gone =
        let whole : gone.next.told ≡ gone.told = gone.tells in
        record {
          end = gone.next;
          printed = wrote_more old a.taken b.taken (settings_text generated_settings) (text gone.lines) opens gone.printed
              ∙ ap (λ (l : List Given). appended old (settings_text generated_settings ++ text l)) (sym gone.has);
          is_counted = gone.counts ∙ ap (λ (l : List ℕ). counted l gone.told) none ∙ ap (λ (l : List PlainEntry). counted no_counts l) (sym whole);
          allow = subst (λ (l : List PlainEntry). allowed (PlainSettings generated_settings ∷ l)) (append-nil gone.told ∙ sym whole)
              (allow (gone.told ++ []) (gone.allowed [] last));
          same =
              λ later. ap (λ (l : List PlainEntry). run_of seed calls boxes (shown l ++ later)) whole
              ∙ (begins_so (shown gone.told ++ later) ∙ gone.same later);
        }

    -- it stopped in its midst
    pub run_stopped : (new : Option (List ℕ)) → HasStopped (rounds most_rounds generated_settings) (begins w seed calls) a.taken new p
        → IsPartMade (run_of seed calls boxes) (schedule_text generated_settings) old new allowed
    run_stopped new stopped = record {
      told = stopped.told;
      allow = allow stopped.told stopped.allowed;
      is_first = λ later. subst (λ (x : Generated). IsFirstTold x [] stopped.told) (sym (begins_so (shown stopped.told ++ later))) (stopped.is_first later);
      front = λ later.
          let run = rounds most_rounds generated_settings (answered (shown stopped.told ++ later) (begins w seed calls)) in
          front_same old new (settings_text generated_settings ++ text run.lines) _
          (ap (schedule_text generated_settings) (sym (begins_so (shown stopped.told ++ later))))
          (front_after old a.taken new (settings_text generated_settings) (text run.lines) opens (stopped.front later run.lines refl));
    }

-- a front of the settings' lines was printed, or nothing
pub settings_part : (run : Run) (old new : Option (List ℕ)) (allowed : List PlainEntry → Type 0) → allowed (PlainSettings generated_settings ∷ [])
    → TookFront old new (settings_text generated_settings) → IsPartMade run (schedule_text generated_settings) old new allowed
settings_part run old new allowed allow front =
    record {
      told = [];
      allow = allow;
      is_first = λ later. record { rest = (run later).told; tells = refl };
      front = λ later. front_wide old new (settings_text generated_settings) _ front;
    }

pub nothing_part : (run : Run) (to : Generated → List ℕ) (old : Option (List ℕ)) (allowed : List PlainEntry → Type 0)
    → allowed (PlainSettings generated_settings ∷ []) → IsPartMade run to old old allowed
nothing_part run to old allowed allow =
    record { told = []; allow = allow; is_first = λ later. record { rest = (run later).told; tells = refl }; front = λ later. front_none old (to (run later)) }

module _ (run : Run) (old new : Option (List ℕ)) (allowed : List PlainEntry → Type 0) (counts : List ℕ) (h : HasRun run old new allowed counts) where
  whole_is : run (shown h.end.told) ≡ answered [] h.end
  whole_is = ap run (sym (append-nil (shown h.end.told))) ∙ h.same []

  told_is : (run (shown h.end.told)).told ≡ h.end.told
  told_is = ap (λ (g : Generated). g.told) whole_is

  -- its schedule was printed
  pub schedule_made : IsMade run (schedule_text generated_settings) old new allowed
  schedule_made = record {
    answers = shown h.end.told;
    printed = h.printed ∙ ap (λ (g : Generated). appended old (schedule_text generated_settings g)) (sym whole_is);
    shows = ap shown told_is;
    allow = subst (λ (l : List PlainEntry). allowed (PlainSettings generated_settings ∷ l)) (sym told_is) h.allow;
  }

  -- its summary was printed
  pub summary_made : (before after : Option (List ℕ)) → after ≡ appended before (counts_text counts)
      → IsMade run (λ g. summary_text g.told) before after allowed
  summary_made before after printed = record {
    answers = shown h.end.told;
    printed = printed ∙ ap (λ (l : List ℕ). appended before l) (ap counts_text h.is_counted ∙ (summary_counted h.end.told ∙ ap summary_text (sym told_is)));
    shows = ap shown told_is;
    allow = subst (λ (l : List PlainEntry). allowed (PlainSettings generated_settings ∷ l)) (sym told_is) h.allow;
  }

  -- a front of its summary was printed
  pub summary_part : (before after : Option (List ℕ)) → TookFront before after (counts_text counts)
      → IsPartMade run (λ g. summary_text g.told) before after allowed
  summary_part before after front = record {
    told = h.end.told;
    allow = h.allow;
    is_first = λ later. record { rest = []; tells = ap (λ (g : Generated). g.told) (h.same later) ∙ sym (append-nil h.end.told) };
    front = λ later. front_same before after (counts_text counts) _
        (ap counts_text h.is_counted ∙ (summary_counted h.end.told ∙ ap (λ (g : Generated). summary_text g.told) (sym (h.same later)))) front;
  }

-- ---- as the code does it, with the settings that it has

module _ (seed calls boxes : ℕ) (s t : Settings) (a b : Holds) (st su : World → Type 0) (p q : List PlainEntry → Type 0)
    (allowed : List PlainEntry → Type 0) (old : Option (List ℕ)) (same : s ≡ generated_settings) (stays : t ≡ s) (opened : IsOpened s boxes st)
    (fabric : a.fabric ≡ new_fabric s.hosts (seeded seed)) (left : a.left ≡ calls) (opens : a.taken ≡ appended old (settings_text s))
    (allow : (told : List PlainEntry) → p told → allowed (PlainSettings s ∷ told)) where
  first_is : IsFirst generated_settings boxes opened.first
  first_is = subst (λ (o : Settings). IsFirst o boxes opened.first) same opened.is_first

  at_first : IsAt a st (begins opened.first seed calls)
  at_first = record { world = opened.stood; fabric = fabric ∙ ap (λ (o : Settings). new_fabric o.hosts (seeded seed)) same; left = left }

  opens_so : a.taken ≡ appended old (settings_text generated_settings)
  opens_so = opens ∙ ap (λ (o : Settings). appended old (settings_text o)) same

  allow_so : (told : List PlainEntry) → p told → allowed (PlainSettings generated_settings ∷ told)
  allow_so told h = subst (λ (o : Settings). allowed (PlainSettings o ∷ told)) same (allow told h)

  pub made_here : a.counts ≡ no_counts → q [] → ((g : Generated) → IsAt a st g → HasGone (rounds most_rounds t) (λ x. x) g a b su p q)
      → HasRun (run_of seed calls boxes) old b.taken allowed b.counts
  made_here none last gone =
      run_made seed calls boxes opened.first first_is a b su p q allowed old opens_so allow_so none last
      (subst (λ (o : Settings). HasGone (rounds most_rounds o) (λ x. x) (begins opened.first seed calls) a b su p q) (stays ∙ same)
      (gone (begins opened.first seed calls) at_first))

  pub stopped_here : (new : Option (List ℕ)) → ((g : Generated) → IsAt a st g → HasStopped (rounds most_rounds t) g a.taken new p)
      → IsPartMade (run_of seed calls boxes) (schedule_text generated_settings) old new allowed
  stopped_here new stopped =
      run_stopped seed calls boxes opened.first first_is a b su p q allowed old opens_so allow_so new
      (subst (λ (o : Settings). HasStopped (rounds most_rounds o) (begins opened.first seed calls) a.taken new p) (stays ∙ same)
      (stopped (begins opened.first seed calls) at_first))

-- ---- the lines that the code plays are those of generated schedules

pub made_line : (l : Line) → IsMadeLine (given_of l)
made_line Tick = refl
made_line (Deliver number) = tt
made_line (Call t) = tt
