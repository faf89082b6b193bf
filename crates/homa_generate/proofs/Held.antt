-- A schedule that is made through a sink that holds lines back.
use Rattle.std.proofs.Common.{◌≡◌, ℕ, Option, Result, Ok, Err, List, [], ◌++◌, sym, ap, ◌∙◌, subst}
use Rattle.std.specs.Prelude.{IfOk, OnErr}
use Rattle.std.proofs.lemmas.List.{append-nil}
use Rattle.homa_io.specs.Outside.{appended, Grows, TookFront}
use Rattle.homa_io.specs.Growing.{grows_on}
use Rattle.homa_io.proofs.Fronts.{front_within, went_out}
use Rattle.homa_plain.specs.Entries.{PlainEntry}
use Rattle.homa_plain.specs.Answers.{shown}
use Rattle.homa_replay.proofs.Fronts.{front_whole, nothing_appended}
use Rattle.generated_runs.specs.Rounds.{Generated}
use Rattle.generated_runs.specs.Generated.{generated_settings, schedule_text}
use Rattle.homa_generate.specs.Made.{Run, HasRun, IsPartMade}

module _ (run : Run) (allowed : List PlainEntry → Type 0) where
  -- a run that came to its end has also come so far
  schedule_part : (old new : Option (List ℕ)) (counts : List ℕ) → HasRun run old new allowed counts
      → IsPartMade run (schedule_text generated_settings) old new allowed
  schedule_part old new counts h = record {
    told = h.end.told;
    allow = h.allow;
    is_first = λ later. record { rest = []; tells = ap (λ (g : Generated). g.told) (h.same later) ∙ sym (append-nil h.end.told) };
    front = λ later. front_whole old new (schedule_text generated_settings (run (shown h.end.told ++ later)))
        (h.printed ∙ ap (λ (g : Generated). appended old (schedule_text generated_settings g)) (sym (h.same later)));
  }

  -- however it ended, a front was put in
  pub part_any : {A : Type 0} (r : Result (List ℕ) A) (old new : Option (List ℕ)) → IfOk r (HasRun run old new allowed)
      → OnErr r (IsPartMade run (schedule_text generated_settings) old new allowed) → IsPartMade run (schedule_text generated_settings) old new allowed
  part_any (Ok counts) old new ran part = schedule_part old new counts ran
  part_any (Err stop) old new ran part = part

  -- it came to its end where it answers counts
  pub ran_to_end : {A : Type 0} (r : Result (List ℕ) A) (counts : List ℕ) (old new : Option (List ℕ)) → r ≡ Ok counts
      → IfOk r (HasRun run old new allowed) → HasRun run old new allowed counts
  ran_to_end r counts old new e ran = subst (λ s. IfOk s (HasRun run old new allowed)) e ran

  module _ (old mid new : Option (List ℕ)) (before held last : List ℕ) (none : before ≡ []) (whole : appended new last ≡ appended mid held) where
    -- what was put in went out whole
    pub held_made : last ≡ [] → (counts : List ℕ) → HasRun run (appended old before) (appended mid held) allowed counts → HasRun run old new allowed counts
    held_made gone counts h = record {
      end = h.end;
      printed = went_out old mid new before held (schedule_text generated_settings h.end) none h.printed
          (nothing_appended new ∙ ap (λ (l : List ℕ). appended new l) (sym gone) ∙ whole);
      is_counted = h.is_counted;
      allow = h.allow;
      same = h.same;
    }

    -- what went out is a front
    pub held_part : Grows old mid → Grows mid new → IsPartMade run (schedule_text generated_settings) (appended old before) (appended mid held) allowed
        → IsPartMade run (schedule_text generated_settings) old new allowed
    held_part a b h = record {
      told = h.told;
      allow = h.allow;
      is_first = h.is_first;
      front = λ later.
          let text = schedule_text generated_settings (run (shown h.told ++ later)) in
          front_within old new before last text [] text (grows_on _ _ _ a b) none
          (subst (λ (o : Option (List ℕ)). TookFront (appended old before) o text) (sym whole) (h.front later)) (append-nil text);
    }
