-- Runs with two lists of answers, each of which the run itself shows.
use Rattle.std.proofs.Common.{◌≡◌, ℕ, suc, ◌-◌, ◌≤◌, Option, Some, List, [], ◌∷◌, ◌++◌, length, refl, sym, ap, subst, ◌∙◌, arith, append_assoc, ◌⊎◌, inl, inr}
use Rattle.std.proofs.lemmas.List.{append-nil, length-map, length-take-le, length-drop, length-replicate}
use Rattle.std.specs.Prelude.{drop, take, map, replicate}
use Rattle.std.specs.Option.{option_map}
use Rattle.homa_plain.specs.declared.settings.Settings.{Settings}
use Rattle.homa_plain.specs.declared.fault.WorldFault.{WorldFault}
use Rattle.homa_plain.specs.Entries.{PlainEntry, PlainSettings}
use Rattle.homa_plain.specs.Script.{Opening, Opened, Unopened, opening, most_bytes}
use Rattle.homa_plain.specs.Rules.{Answer}
use Rattle.homa_plain.specs.World.{World, After, Outcome, Done, Refused, outcome, next_answer, new_world, new_hosts}
use Rattle.homa_plain.specs.Replay.{Happening, Run, carried, replay, replay_opened}
use Rattle.homa_plain.specs.Answers.{answering, shown}
use Rattle.generated_runs.proofs.Carried.{by_outcome, first_event, no_event}
use Rattle.event_laws.proofs.Names.{new_named}
use Rattle.step_moves.proofs.Names.{length-new}
use Rattle.trace_laws.specs.Replays.{events_in}
use Rattle.trace_laws.proofs.Openings.{opening_valid}
use Rattle.trace_laws.proofs.Obeyed.{replay_told}
use Rattle.box_laws.specs.Boxes.{Allows, counted, all_counted, may_tell}
use Rattle.box_laws.specs.First.{AreAllowed}
use Rattle.answer_laws.specs.Answers.{MayAnswerSo}
use Rattle.answer_laws.proofs.OneWay.{AnswersOneWay}
use Rattle.answer_laws.proofs.Told.{shown-append}
use Rattle.answer_laws.proofs.Seats.{AllNamed, AllFull}
use Rattle.answer_laws.proofs.Cases.{Stands, Stops, Quiet, Asks, verdict}

-- what comes behind events, by the world that they make and by what they tell
abbrev pub Rest : Type 0
Rest = World → List PlainEntry → List PlainEntry

-- what a run tells of events and behind them
abbrev pub with_rest : Rest → Run → List PlainEntry
with_rest rest run = run.told ++ rest run.world run.told

module _ (rest : Rest) (s : Settings) (w : World) where
  -- behind the last event, where the first one is refused, and where it is carried out
  pub told_none : with_rest rest (carried s w []) ≡ rest w []
  told_none = ap (with_rest rest) (no_event s w)

  pub told_stop : (e : Happening) (es : List Happening) (f : WorldFault) → outcome s w e.event e.bytes ≡ Refused f
      → with_rest rest (carried s w (e ∷ es)) ≡ rest w []
  told_stop e es f is = ap (with_rest rest) (first_event s w e es ∙ ap (by_outcome s w es) is)

  pub told_on : (e : Happening) (es : List Happening) (a : After) → outcome s w e.event e.bytes ≡ Done a
      → with_rest rest (carried s w (e ∷ es)) ≡ a.told ++ with_rest (λ v told. rest v (a.told ++ told)) (carried s a.world es)
  told_on e es a is =
      let run = carried s a.world es in
      ap (with_rest rest) (first_event s w e es ∙ ap (by_outcome s w es) is) ∙ append_assoc a.told run.told (rest run.world (a.told ++ run.told))

-- these lines show these answers, and the boxes allow them
pub record Goes {A : Type 0} (allows : Allows A) (seats : List (Option (A × ℕ))) (spares : List (A × ℕ)) (these : List Answer)
    (told : List PlainEntry) : Type 0 where
  pub shows : shown told ≡ these
  pub allowed : may_tell allows seats spares told

-- from a world on two lists of answers are one, where what is told with each of them shows it and the boxes allow it
abbrev pub HasOneList : {A : Type 0} → Allows A → List (Option (A × ℕ)) → List (A × ℕ) → World → (World → List PlainEntry) → Type 0
HasOneList allows seats spares w tells =
    (these those : List Answer) → Goes allows seats spares these (tells (answering these w))
    → Goes allows seats spares those (tells (answering those w)) → these ≡ those

module _ {A : Type 0} (allows : Allows A) (one_way : AnswersOneWay allows) (s : Settings) (patient : 1 ≤ s.resend) where
  -- what comes behind events has one list, whatever world they make and whatever they tell
  abbrev pub HasOneRest : Rest → Type 0
  HasOneRest rest =
      (w : World) (seats : List (Option (A × ℕ))) (spares : List (A × ℕ)) (told : List PlainEntry) → Stands w seats spares
      → HasOneList allows seats spares w (λ v. rest v told)

  -- these events with what comes behind them have one list
  abbrev pub HasOneRun : List Happening → Rest → Type 0
  HasOneRun es rest =
      (w : World) (seats : List (Option (A × ℕ))) (spares : List (A × ℕ)) → Stands w seats spares
      → HasOneList allows seats spares w (λ v. with_rest rest (carried s v es))

  module _ (e : Happening) (es : List Happening) (further : (rest : Rest) → HasOneRest rest → HasOneRun es rest) (rest : Rest) (one : HasOneRest rest)
      (w : World) (seats : List (Option (A × ℕ))) (spares : List (A × ℕ)) (these those : List Answer) where
    -- what becomes of the first event, and what is told of all
    abbrev first : List Answer → Outcome
    first cs = outcome s (answering cs w) e.event e.bytes

    abbrev GoesOn : List Answer → Type 0
    GoesOn cs = Goes allows seats spares cs (with_rest rest (carried s (answering cs w) (e ∷ es)))

    -- what comes behind the other events
    abbrev later : List PlainEntry → Rest
    later told v more = rest v (told ++ more)

    one_later : (told : List PlainEntry) → HasOneRest (later told)
    one_later told v xs ys more = one v xs ys (told ++ more)

    stopped : Stands w seats spares → Stops (first these) (first those) → GoesOn these → GoesOn those → these ≡ those
    stopped st q a b = one w seats spares [] st these those (goes these q.cause q.first a) (goes those q.other q.second b) where
      goes : (cs : List Answer) (f : WorldFault) → first cs ≡ Refused f → GoesOn cs → Goes allows seats spares cs (rest (answering cs w) [])
      goes cs f is g = subst (Goes allows seats spares cs) (told_stop rest s (answering cs w) e es f is) g

    went_on : (cs : List Answer) (a : After) → first cs ≡ Done a → GoesOn cs
        → Goes allows seats spares cs (a.told ++ with_rest (later a.told) (carried s a.world es))
    went_on cs a is g = subst (Goes allows seats spares cs) (told_on rest s (answering cs w) e es a is) g

    quiet : Quiet allows seats spares these those (first these) (first those) → GoesOn these → GoesOn those → these ≡ those
    quiet q a b =
        further (later q.told) (one_later q.told) q.next q.seats' q.spares' q.stands these those (goes these q.first a) (goes those q.second b) where
          goes : (cs : List Answer) → first cs ≡ Done (record { world = answering cs q.next; told = q.told }) → GoesOn cs
              → Goes allows q.seats' q.spares' cs (with_rest (later q.told) (carried s (answering cs q.next) es))
          goes cs is g =
              let more : List PlainEntry = with_rest (later q.told) (carried s (answering cs q.next) es) in
              let here = went_on cs (record { world = answering cs q.next; told = q.told }) is g in
              record {
                shows = sym (shown-append q.told more ∙ ap (λ xs. xs ++ shown more) q.none) ∙ here.shows;
                allowed = q.passes more here.allowed;
              }

    asked : Asks allows seats spares these those (first these) (first those) → GoesOn these → GoesOn those → these ≡ those
    asked k a b =
        let more : List PlainEntry = with_rest (later k.told) (carried s (answering (drop 1 these) k.next) es) in
        let more' : List PlainEntry = with_rest (later k.told') (carried s (answering (drop 1 those) k.next') es) in
        let again : List PlainEntry = with_rest (later k.told) (carried s (answering (drop 1 those) k.next) es) in
        let here = went_on these (record { world = answering (drop 1 these) k.next; told = k.told }) k.first a in
        let there = went_on those (record { world = answering (drop 1 those) k.next'; told = k.told' }) k.second b in
        let head : next_answer these ∷ shown more ≡ these = sym (shown-append k.told more ∙ ap (λ xs. xs ++ shown more) k.shows) ∙ here.shows in
        let head' : next_answer those ∷ shown more' ≡ those = sym (shown-append k.told' more' ∙ ap (λ xs. xs ++ shown more') k.shows') ∙ there.shows in
        let same : next_answer these ≡ next_answer those = k.same more more' here.allowed there.allowed in
        let both = k.alike same in
        let e' : again ≡ more' =
        ap (λ (v : World). with_rest (later k.told) (carried s (answering (drop 1 those) v) es)) both.0
        ∙ ap (λ (l : List PlainEntry). with_rest (later l) (carried s (answering (drop 1 those) k.next') es)) both.1 in
        let tail : shown more ≡ drop 1 these = ap (drop 1) head in
        let tail' : shown more' ≡ drop 1 those = ap (drop 1) head' in
        let may : may_tell allows seats spares (k.told ++ again) =
        subst (may_tell allows seats spares) (ap (λ xs. xs ++ more') (sym both.1) ∙ ap (λ xs. k.told ++ xs) (sym e')) there.allowed in
        let rest_same : drop 1 these ≡ drop 1 those =
        further (later k.told) (one_later k.told) k.next k.seats' spares k.stands (drop 1 these) (drop 1 those)
        (record { shows = tail; allowed = k.passes more here.allowed }) (record { shows = ap shown e' ∙ tail'; allowed = k.passes again may }) in
        sym head
        ∙ (ap (λ xs. next_answer these ∷ xs) (tail ∙ rest_same ∙ sym tail')
        ∙ (ap (λ x. x ∷ shown more') same ∙ head'))

    one_more : Stands w seats spares
        → Stops (first these) (first those)
        ⊎ (Quiet allows seats spares these those (first these) (first those) ⊎ Asks allows seats spares these those (first these) (first those))
        → GoesOn these → GoesOn those → these ≡ those
    one_more st (inl q) a b = stopped st q a b
    one_more st (inr (inl q)) a b = quiet q a b
    one_more st (inr (inr k)) a b = asked k a b

  -- events with what comes behind them have one list, where what comes behind them has
  pub one_list : (es : List Happening) (rest : Rest) → HasOneRest rest → HasOneRun es rest
  one_list [] rest one w seats spares st these those a b = one w seats spares [] st these those (goes these a) (goes those b) where
    goes : (cs : List Answer) → Goes allows seats spares cs (with_rest rest (carried s (answering cs w) []))
        → Goes allows seats spares cs (rest (answering cs w) [])
    goes cs g = subst (Goes allows seats spares cs) (told_none rest s (answering cs w)) g
  one_list (e ∷ es) rest one w seats spares st these those a b =
      one_more e es (λ next more. one_list es next more) rest one w seats spares these those st
      (verdict allows one_way s patient w seats spares st these those e.event e.bytes) a b

-- ---- a world just opened

named_new : (s : Settings) (n : ℕ) (incs : List ℕ) → AllNamed n (new_hosts s n incs)
named_new s n [] = tt
named_new s n (inc ∷ incs) = (new_named s (record { 0 = n }) inc 0, named_new s (suc n) incs)

module _ {A : Type 0} (served : A → ℕ) (s : Settings) (boxes : List A) (enough : s.hosts ≤ length boxes) where
  full_seats : (xs : List A) → AllFull (all_counted served (map Some xs))
  full_seats [] = tt
  full_seats (x ∷ xs) = full_seats xs

  -- the boxes at their hosts, and the spare ones
  abbrev pub first_seats : List (Option (A × ℕ))
  first_seats = all_counted served (map Some (take s.hosts boxes))

  abbrev pub first_spares : List (A × ℕ)
  first_spares = map (counted served) (drop s.hosts boxes)

  pub opened : Stands (new_world s (replicate s.hosts 1) 0 (length boxes) []) first_seats first_spares
  unfolding new_world
  opened = record {
    names = named_new s 0 (replicate s.hosts 1);
    many = length-map (map Some (take s.hosts boxes)) (option_map (counted served))
        ∙ (length-map (take s.hosts boxes) Some
        ∙ (length-take-le s.hosts boxes enough ∙ sym (length-new s 0 (replicate s.hosts 1) ∙ length-replicate s.hosts 1)));
    boxed = full_seats (take s.hosts boxes);
    spare = ap (λ n. length boxes - n) (length-replicate s.hosts 1) ∙ sym (length-map (drop s.hosts boxes) (counted served) ∙ length-drop s.hosts boxes);
  }

pub first_world : (s : Settings) (boxes : ℕ) (answers : List Answer)
    → new_world s (replicate s.hosts 1) 0 boxes answers ≡ answering answers (new_world s (replicate s.hosts 1) 0 boxes [])
unfolding new_world
first_world s boxes answers = refl

-- ---- a replay

-- nothing comes behind its last event
abbrev no_rest : Rest
no_rest w told = []

module _ {A : Type 0} (served : A → ℕ) (allows : Allows A) (one_way : AnswersOneWay allows) (boxes : List A) (bytes : List ℕ)
    (enough : 32 ≤ length boxes) where
  told_unopened : (answers : List Answer) (o : Opening) → opening most_bytes bytes ≡ o
      → (replay bytes answers (length boxes)).told ≡ (replay_opened o answers (length boxes)).told
  unfolding replay
  told_unopened answers o e = ap (λ (p : Opening). (replay_opened p answers (length boxes)).told) e

  pub one_replay : (these those : List Answer) → MayAnswerSo served allows boxes bytes these → MayAnswerSo served allows boxes bytes those → these ≡ those
  one_replay these those a b = by_opening (opening most_bytes bytes) refl where
    by_opening : (o : Opening) → opening most_bytes bytes ≡ o → these ≡ those
    by_opening (Unopened refusal) e =
        sym a.0 ∙ (ap shown (told_unopened these (Unopened refusal) e) ∙ (sym (ap shown (told_unopened those (Unopened refusal) e)) ∙ b.0))
    by_opening (Opened s steps) e =
        let valid = opening_valid bytes s steps e in
        let fits : s.hosts ≤ length boxes = omega (arith, valid.in_range.1, enough) in
        let w : World = new_world s (replicate s.hosts 1) 0 (length boxes) [] in
        let es : List Happening = events_in s.hosts steps.steps in
        let told : (cs : List Answer) → (replay bytes cs (length boxes)).told ≡ PlainSettings s ∷ with_rest no_rest (carried s (answering cs w) es)
        = λ cs. replay_told bytes s steps cs (length boxes) e
        ∙ (ap (λ (v : World). PlainSettings s ∷ (carried s v es).told) (first_world s (length boxes) cs)
        ∙ ap (λ l. PlainSettings s ∷ l) (sym (append-nil (carried s (answering cs w) es).told))) in
        let goes : (cs : List Answer) → MayAnswerSo served allows boxes bytes cs
        → Goes allows (first_seats served s boxes fits) (first_spares served s boxes fits) cs (with_rest no_rest (carried s (answering cs w) es))
        = λ cs m. record { shows = sym (ap shown (told cs)) ∙ m.0; allowed = subst (AreAllowed served allows boxes) (told cs) m.1 } in
        one_list allows one_way s valid.in_range.2.2.2.2.2.2.0 es no_rest (λ v xs ys said st cs ds c d. sym c.shows ∙ d.shows)
        w (first_seats served s boxes fits) (first_spares served s boxes fits) (opened served s boxes fits) these those (goes these a) (goes those b)
