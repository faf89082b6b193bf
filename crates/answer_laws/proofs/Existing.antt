-- Runs for which there is a list of answers that the run itself shows and its boxes may give.
use Rattle.std.proofs.Common.{◌≡◌, ℕ, suc, ◌-◌, ◌≤◌, Option, Some, List, [], ◌∷◌, ◌++◌, length, refl, sym, ap, subst, ◌∙◌, arith, append_assoc, ◌⊎◌, inl, inr}
use Rattle.std.proofs.lemmas.List.{append-nil, length-map, length-take-le, length-drop, length-replicate}
use Rattle.std.specs.Prelude.{drop, take, map, replicate}
use Rattle.std.specs.Option.{option_map}
use Rattle.homa_plain.specs.declared.settings.Settings.{Settings}
use Rattle.homa_plain.specs.declared.fault.WorldFault.{WorldFault}
use Rattle.homa_plain.specs.Entries.{PlainEntry, PlainSettings}
use Rattle.homa_plain.specs.Script.{Opening, Opened, Unopened, opening, most_bytes}
use Rattle.homa_plain.specs.Rules.{Answer}
use Rattle.homa_plain.specs.World.{World, After, Outcome, Done, Refused, outcome, next_answer, new_world, new_hosts}
use Rattle.homa_plain.specs.Replay.{Happening, Run, carried, replay, replay_opened}
use Rattle.homa_plain.specs.Answers.{answering, shown}
use Rattle.generated_runs.proofs.Carried.{by_outcome, first_event, no_event}
use Rattle.event_laws.proofs.Names.{new_named}
use Rattle.step_moves.proofs.Names.{length-new}
use Rattle.trace_laws.specs.Replays.{events_in}
use Rattle.trace_laws.proofs.Openings.{opening_valid}
use Rattle.trace_laws.proofs.Obeyed.{replay_told}
use Rattle.box_laws.specs.Boxes.{Allows, counted, all_counted, may_tell}
use Rattle.box_laws.specs.First.{AreAllowed}
use Rattle.answer_laws.specs.Answers.{MayAnswerSo}
use Rattle.answer_laws.proofs.Told.{shown-append}
use Rattle.answer_laws.proofs.Seats.{AllNamed, AllFull}
use Rattle.answer_laws.proofs.Cases.{Stands}
use Rattle.answer_laws.proofs.Answering.{AnswersAlways, Halts, Passes, Answers, verdict}
use Rattle.answer_laws.proofs.Runs.{Rest, with_rest, told_none, told_stop, told_on, Goes, first_seats, first_spares, opened, first_world}
use Rattle.answer_laws.specs.Exactly.{SomeAnswers}

-- a list of answers from a world on, which what is told with it shows, and the boxes allow
pub record HasSome {A : Type 0} (allows : Allows A) (seats : List (Option (A × ℕ))) (spares : List (A × ℕ))
    (tells : List Answer → List PlainEntry) : Type 0 where
  pub answers : List Answer
  pub goes : Goes allows seats spares answers (tells answers)

module _ {A : Type 0} (allows : Allows A) (always : AnswersAlways allows) (s : Settings) (patient : 1 ≤ s.resend) where
  -- what comes behind events has a list, whatever world they make and whatever they tell
  abbrev pub HasSomeRest : Rest → Type 0
  HasSomeRest rest =
      (w : World) (seats : List (Option (A × ℕ))) (spares : List (A × ℕ)) (told : List PlainEntry) → Stands w seats spares
      → HasSome allows seats spares (λ cs. rest (answering cs w) told)

  -- these events with what comes behind them have a list
  abbrev pub HasSomeRun : List Happening → Rest → Type 0
  HasSomeRun es rest =
      (w : World) (seats : List (Option (A × ℕ))) (spares : List (A × ℕ)) → Stands w seats spares
      → HasSome allows seats spares (λ cs. with_rest rest (carried s (answering cs w) es))

  module _ (e : Happening) (es : List Happening) (further : (rest : Rest) → HasSomeRest rest → HasSomeRun es rest) (rest : Rest) (some : HasSomeRest rest)
      (w : World) (seats : List (Option (A × ℕ))) (spares : List (A × ℕ)) where
    abbrev first : List Answer → Outcome
    first cs = outcome s (answering cs w) e.event e.bytes

    abbrev All : Type 0
    All = HasSome allows seats spares (λ cs. with_rest rest (carried s (answering cs w) (e ∷ es)))

    -- what comes behind the other events
    abbrev later : List PlainEntry → Rest
    later told v more = rest v (told ++ more)

    some_later : (told : List PlainEntry) → HasSomeRest (later told)
    some_later told v xs ys more = some v xs ys (told ++ more)

    halted : Stands w seats spares → Halts first → All
    halted st h =
        let r = some w seats spares [] st in
        let f = h.refused r.answers in
        record { answers = r.answers; goes = subst (Goes allows seats spares r.answers) (sym (told_stop rest s (answering r.answers w) e es f.0 f.1)) r.goes }

    -- behind an event that was carried out
    went : (cs left : List Answer) (next : World) (told : List PlainEntry) → first cs ≡ Done (record { world = answering left next; told = told })
        → (shown (told ++ with_rest (later told) (carried s (answering left next) es)) ≡ cs)
        → may_tell allows seats spares (told ++ with_rest (later told) (carried s (answering left next) es))
        → All
    went cs left next told is shows allowed = record {
      answers = cs;
      goes = subst (Goes allows seats spares cs) (sym (told_on rest s (answering cs w) e es (record { world = answering left next; told = told }) is))
          (record { shows = shows; allowed = allowed });
    }

    passed : Passes allows seats spares first → All
    passed q =
        let r = further (later q.told) (some_later q.told) q.next q.seats' q.spares' q.stands in
        let more : List PlainEntry = with_rest (later q.told) (carried s (answering r.answers q.next) es) in
        went r.answers r.answers q.next q.told (q.done r.answers)
        (shown-append q.told more ∙ (ap (λ xs. xs ++ shown more) q.none ∙ r.goes.shows)) (q.back more r.goes.allowed)

    answered : Answers allows seats spares first → All
    answered k =
        let r = further (later k.told) (some_later k.told) k.next k.seats' spares k.stands in
        let more : List PlainEntry = with_rest (later k.told) (carried s (answering r.answers k.next) es) in
        went (k.answer ∷ r.answers) r.answers k.next k.told (k.done r.answers)
        (shown-append k.told more ∙ (ap (λ xs. xs ++ shown more) k.shows ∙ ap (λ xs. k.answer ∷ xs) r.goes.shows)) (k.back more r.goes.allowed)

    one_more : Stands w seats spares → Halts first ⊎ (Passes allows seats spares first ⊎ Answers allows seats spares first) → All
    one_more st (inl h) = halted st h
    one_more st (inr (inl q)) = passed q
    one_more st (inr (inr k)) = answered k

  -- events with what comes behind them have a list, where what comes behind them has
  pub some_list : (es : List Happening) (rest : Rest) → HasSomeRest rest → HasSomeRun es rest
  some_list [] rest some w seats spares st =
      let r = some w seats spares [] st in
      record { answers = r.answers; goes = subst (Goes allows seats spares r.answers) (sym (told_none rest s (answering r.answers w))) r.goes }
  some_list (e ∷ es) rest some w seats spares st =
      one_more e es (λ next more. some_list es next more) rest some w seats spares st (verdict allows always s patient w seats spares st e.event e.bytes)

-- ---- a replay

-- nothing comes behind its last event
abbrev no_rest : Rest
no_rest w told = []

module _ {A : Type 0} (served : A → ℕ) (allows : Allows A) (always : AnswersAlways allows) (boxes : List A) (bytes : List ℕ)
    (enough : 32 ≤ length boxes) where
  told_unopened : (answers : List Answer) (o : Opening) → opening most_bytes bytes ≡ o
      → (replay bytes answers (length boxes)).told ≡ (replay_opened o answers (length boxes)).told
  unfolding replay
  told_unopened answers o e = ap (λ (p : Opening). (replay_opened p answers (length boxes)).told) e

  pub some_replay : SomeAnswers served allows boxes bytes
  some_replay = by_opening (opening most_bytes bytes) refl where
    by_opening : (o : Opening) → opening most_bytes bytes ≡ o → SomeAnswers served allows boxes bytes
    by_opening (Unopened refusal) e =
        let none = told_unopened [] (Unopened refusal) e in
        record { answers = []; are = (ap shown none, subst (AreAllowed served allows boxes) (sym none) refl) }
    by_opening (Opened s steps) e =
        let valid = opening_valid bytes s steps e in
        let fits : s.hosts ≤ length boxes = omega (arith, valid.in_range.1, enough) in
        let w : World = new_world s (replicate s.hosts 1) 0 (length boxes) [] in
        let es : List Happening = events_in s.hosts steps.steps in
        let told : (cs : List Answer) → (replay bytes cs (length boxes)).told ≡ PlainSettings s ∷ with_rest no_rest (carried s (answering cs w) es)
        = λ cs. replay_told bytes s steps cs (length boxes) e
        ∙ (ap (λ (v : World). PlainSettings s ∷ (carried s v es).told) (first_world s (length boxes) cs)
        ∙ ap (λ l. PlainSettings s ∷ l) (sym (append-nil (carried s (answering cs w) es).told))) in
        let r = some_list allows always s valid.in_range.2.2.2.2.2.2.0 es no_rest
        (λ v xs ys said st. record { answers = []; goes = record { shows = refl; allowed = tt } })
        w (first_seats served s boxes fits) (first_spares served s boxes fits) (opened served s boxes fits) in
        record {
          answers = r.answers;
          are = (ap shown (told r.answers) ∙ r.goes.shows, subst (AreAllowed served allows boxes) (sym (told r.answers)) r.goes.allowed);
        }
