-- The lines behind `go`, in the world that `go` opens, are the rest of the replay.
use Rattle.std.proofs.Common.{◌≡◌, ◌⊎◌, inl, inr, ℕ, Bool, true, false, Option, Some, Result, Ok, Err, List, [], ◌∷◌, ◌++◌, refl, sym, ap, ◌∙◌}
use Rattle.std.proofs.Common.{subst, append_assoc}
use Rattle.std.specs.Prelude.{IfErr, IsErrAnd, OnOk}
use Rattle.std.specs.List.{flat_map}
use Rattle.std.proofs.lemmas.List.{append-nil}
use Rattle.homa_io.specs.Outside.{appended, Grows}
use Rattle.homa_io.specs.Growing.{grows_on}
use Rattle.homa_io.proofs.Fronts.{front_within, went_out}
use Rattle.homa_plain.specs.declared.settings.Settings.{Settings}
use Rattle.homa_plain.specs.Entries.{PlainEntry, PlainSettings}
use Rattle.homa_plain.specs.Text.{line_text}
use Rattle.homa_plain.specs.Script.{Opening, Opened, opening, most_bytes}
use Rattle.homa_plain.specs.Rules.{Answer}
use Rattle.homa_plain.specs.World.{World}
use Rattle.homa_plain.specs.Replay.{Replay, replay, replay_opened, replayed, with_told}
use Rattle.script_lines.specs.Place.{Place}
use Rattle.homa_script.specs.Steps.{steps_left}
use Rattle.script_lines.specs.Read.{IsRead}
use Rattle.script_lines.proofs.ReadParts.{none_left}
use Rattle.homa_plain.specs.Answers.{shown}
use Rattle.homa_replay.specs.Stream.{is_refusal}
use Rattle.homa_replay.specs.OpenWorld.{IsFirst}
use Rattle.homa_replay.specs.Lines.{text_of, IsFront}
use Rattle.homa_replay.specs.Stops.{prints_all}
use Rattle.homa_replay.specs.declared.stop.Stop.{Stop}
use Rattle.homa_replay.specs.Progress.{Whole, replay_of, left_at, ArePrinted, AreParts}
use Rattle.homa_replay.specs.Replayed.{IsReplayed}
use Rattle.homa_replay.proofs.Fronts.{nothing_appended, wrote_more}
use Rattle.homa_replay.proofs.Fars.{far_start, fars_part}
use Rattle.homa_replay.proofs.Plays.{text-with_told, printed_more, front_of, front_begins, front_behind}

module _ (boxes : ℕ) (left left2 old mid new : Option (List ℕ)) (s : Settings) (w : World) (place : Place) (p q : List PlainEntry → Type 0)
    (read : (bytes : List ℕ) → left ≡ Some bytes → IsRead bytes left2 (opening most_bytes) (λ more. Opened s (steps_left place more)))
    (line : mid ≡ appended old (line_text (PlainSettings s))) (first : IsFirst s boxes w)
    (allow : (told : List PlainEntry) → q told → p (PlainSettings s ∷ told)) where
  -- the line of the settings, and then the rest
  rest_of : (came more : List ℕ) (answers : List Answer) → opening most_bytes (came ++ more) ≡ Opened s (steps_left place more)
      → replay_of boxes (came ++ more) answers ≡ with_told (PlainSettings s ∷ []) (left_at s w 0 place more answers)
  unfolding replay
  rest_of came more answers e =
      ap (λ (o : Opening). replay_opened o answers boxes) e
      ∙ ap (λ (v : World). with_told (PlainSettings s ∷ []) (replayed s v 0 (steps_left place more).steps (steps_left place more).refused))
      (sym (first answers))

  -- what was taken with the line of the settings
  with_line : (r : Replay) → appended mid (text_of r) ≡ appended old (text_of (with_told (PlainSettings s ∷ []) r))
  with_line r =
      wrote_more old mid (appended mid (text_of r)) (line_text (PlainSettings s)) (text_of r) line refl
      ∙ ap (λ (l : List ℕ). appended old l)
      (ap (λ (l : List ℕ). l ++ text_of r) (sym (append-nil (line_text (PlainSettings s)))) ∙ sym (text-with_told (PlainSettings s ∷ []) r))

  pub composed_printed : (accepted : Bool) → ArePrinted (left_at s w 0 place) left2 mid new q accepted → ArePrinted (replay_of boxes) left old new p accepted
  composed_printed accepted inner = λ bytes h.
      let r = read bytes h in
      let d = inner r.rest r.has_left in
      let all : replay_of boxes bytes d.answers ≡ with_told (PlainSettings s ∷ []) (left_at s w 0 place r.rest d.answers) =
      ap (λ (l : List ℕ). replay_of boxes l d.answers) r.split ∙ rest_of r.came r.rest d.answers (r.same r.rest r.nothing) in
      record {
        answers = d.answers;
        text = d.text ∙ (with_line (left_at s w 0 place r.rest d.answers) ∙ ap (λ (x : Replay). appended old (text_of x)) (sym all));
        shows = ap (λ (x : Replay). shown x.told) all ∙ d.shows;
        allowed = subst (λ (x : Replay). p x.told) (sym all) (allow (left_at s w 0 place r.rest d.answers).told d.allowed);
        verdict = ap (λ (x : Replay). is_refusal x.end) all ∙ d.verdict;
      }

  -- the line of the settings, as what was told first
  settings_line : mid ≡ appended old (flat_map line_text (PlainSettings s ∷ []))
  settings_line = line ∙ ap (λ (l : List ℕ). appended old l) (sym (append-nil (line_text (PlainSettings s))))

  -- a front of the rest is a front of the whole
  front_whole : (told : List PlainEntry) (came more : List ℕ) (answers : List Answer) → opening most_bytes (came ++ more) ≡ Opened s (steps_left place more)
      → IsFront (left_at s w 0 place more answers) told mid new → IsFront (replay_of boxes (came ++ more) answers) (PlainSettings s ∷ told) old new
  front_whole told came more answers e f =
      front_of old new (PlainSettings s ∷ told) _ _ (sym (rest_of came more answers e))
      (front_behind old mid new (PlainSettings s ∷ []) told (left_at s w 0 place more answers) settings_line f)

  -- of all that may come, or of all that came
  either_whole : (ended : Bool) (came more rest : List ℕ) (told : List PlainEntry) → (ended ≡ true → more ++ rest ≡ [])
      → ((later : List ℕ) → (ended ≡ true → later ≡ []) → opening most_bytes (came ++ later) ≡ Opened s (steps_left place later))
      → ((later : List ℕ) (answers : List Answer) → IsFront (left_at s w 0 place (more ++ later) (shown told ++ answers)) told mid new)
      ⊎ ((rest ≡ []) × ((answers : List Answer) → IsFront (left_at s w 0 place more (shown told ++ answers)) told mid new))
      → ((later : List ℕ) (answers : List Answer)
      → IsFront (replay_of boxes ((came ++ more) ++ later) (shown told ++ answers)) (PlainSettings s ∷ told) old new)
      ⊎ ((rest ≡ []) × ((answers : List Answer) → IsFront (replay_of boxes (came ++ more) (shown told ++ answers)) (PlainSettings s ∷ told) old new))
  either_whole false came more rest told none e (inl f) =
      inl (λ later answers. subst (λ (l : List ℕ). IsFront (replay_of boxes l (shown told ++ answers)) (PlainSettings s ∷ told) old new)
      (sym (append_assoc came more later))
      (front_whole told came (more ++ later) (shown told ++ answers) (e (more ++ later) (λ k. absurd cc)) (f later answers)))
  either_whole false came more rest told none e (inr f) =
      inr (f.0, λ answers. front_whole told came more (shown told ++ answers) (e more (λ k. absurd cc)) (f.1 answers))
  either_whole true came more rest told none e (inl f) =
      let both = none_left more rest (none refl) in
      inr (
        both.1,
        λ answers. front_whole told came more (shown told ++ answers) (e more (λ k. both.0))
            (subst (λ (l : List ℕ). IsFront (left_at s w 0 place l (shown told ++ answers)) told mid new) (append-nil more) (f [] answers)),
      )
  either_whole true came more rest told none e (inr f) =
      let both = none_left more rest (none refl) in
      inr (f.0, λ answers. front_whole told came more (shown told ++ answers) (e more (λ k. both.0)) (f.1 answers))

  pub composed_parts : (left3 : Option (List ℕ)) (all : Bool) → AreParts (left_at s w 0 place) left2 left3 mid new q all
      → AreParts (replay_of boxes) left left3 old new p all
  composed_parts left3 all inner = λ bytes h.
      let r = read bytes h in
      let d = inner r.rest r.has_left in
      record {
        came = r.came ++ d.came;
        rest = d.rest;
        split = r.split ∙ (ap (λ (l : List ℕ). r.came ++ l) d.split ∙ sym (append_assoc r.came d.came d.rest));
        has_left = d.has_left;
        part = record {
          told = PlainSettings s ∷ d.part.told;
          allowed = allow d.part.told d.part.allowed;
          printed = λ k. printed_more old mid new (PlainSettings s ∷ []) d.part.told settings_line (d.part.printed k);
          front = either_whole r.ended r.came d.came d.rest d.part.told (λ k. sym d.split ∙ r.nothing k) r.same d.part.front;
        };
      }

-- ---- what else is allowed

pub printed_allowed : (whole : Whole) (first old new : Option (List ℕ)) (p q : List PlainEntry → Type 0) (accepted : Bool)
    → ((told : List PlainEntry) → p told → q told) → ArePrinted whole first old new p accepted → ArePrinted whole first old new q accepted
printed_allowed whole first old new p q accepted f d = λ bytes h.
    let r = d bytes h in
    record { answers = r.answers; text = r.text; shows = r.shows; allowed = f (whole bytes r.answers).told r.allowed; verdict = r.verdict }

pub parts_allowed : (whole : Whole) (first left old new : Option (List ℕ)) (p q : List PlainEntry → Type 0) (all : Bool)
    → ((told : List PlainEntry) → p told → q told) → AreParts whole first left old new p all → AreParts whole first left old new q all
parts_allowed whole first left old new p q all f d = λ bytes h.
    let r = d bytes h in
    record {
      came = r.came;
      rest = r.rest;
      split = r.split;
      has_left = r.has_left;
      part = record { told = r.part.told; allowed = f r.part.told r.part.allowed; printed = r.part.printed; front = r.part.front };
    }

-- nothing was read or printed yet
pub parts_none : (whole : Whole) (first old : Option (List ℕ)) (p : List PlainEntry → Type 0) (all : Bool) → p [] → AreParts whole first first old old p all
parts_none whole first old p all none =
    fars_part whole first first old old p p old whole [] all (λ bytes e. far_start whole bytes first old p e) none (λ _. nothing_appended old)
    (λ more later. front_begins old (whole more later))

-- the settings are those of the world
pub parts_settings : (s t : Settings) (w : World) (place : Place) (first left old new : Option (List ℕ)) (p : List PlainEntry → Type 0) (all : Bool) → s ≡ t
    → AreParts (left_at s w 0 place) first left old new p all → AreParts (left_at t w 0 place) first left old new p all
parts_settings s t w place first left old new p all e d = subst (λ (x : Settings). AreParts (left_at x w 0 place) first left old new p all) e d

pub printed_settings : (s t : Settings) (w : World) (place : Place) (first old new : Option (List ℕ)) (p : List PlainEntry → Type 0) (accepted : Bool)
    → s ≡ t → ArePrinted (left_at s w 0 place) first old new p accepted → ArePrinted (left_at t w 0 place) first old new p accepted
printed_settings s t w place first old new p accepted e d = subst (λ (x : Settings). ArePrinted (left_at x w 0 place) first old new p accepted) e d

-- ---- through a sink that holds lines back

-- nothing is held any more
pub all_out : (below new : Option (List ℕ)) (held last : List ℕ) → last ≡ [] → appended new last ≡ appended below held → new ≡ appended below held
all_out below new held last out e = nothing_appended new ∙ (ap (λ (l : List ℕ). appended new l) (sym out) ∙ e)

-- all went out
pub printed_below : (whole : Whole) (first old below new : Option (List ℕ)) (before held : List ℕ) (p : List PlainEntry → Type 0) (accepted : Bool)
    → before ≡ [] → new ≡ appended below held
    → ArePrinted whole first (appended old before) (appended below held) p accepted → ArePrinted whole first old new p accepted
printed_below whole first old below new before held p accepted none e d = λ bytes h.
    let r = d bytes h in
    record {
      answers = r.answers;
      text = went_out old below new before held (text_of (whole bytes r.answers)) none r.text e;
      shows = r.shows;
      allowed = r.allowed;
      verdict = r.verdict;
    }

either_map : {A B C D : Type 0} → (A → C) → (B → D) → A ⊎ B → C ⊎ D
either_map f g (inl a) = inl (f a)
either_map f g (inr b) = inr (g b)

-- the rest of a front, where only a part of what was put in went out
front_below : (old new : Option (List ℕ)) (before held : List ℕ) (told : List PlainEntry) (r : Replay) → before ≡ [] → Grows old new
    → IsFront r told (appended old before) (appended new held) → IsFront r told old new
front_below old new before held told r none g f = record {
  rest = f.rest;
  tells = f.tells;
  took = front_within old new before held (text_of r) [] (text_of r) g none f.took (append-nil (text_of r));
}

-- what went out is a front; where `all` says so, nothing is held any more
pub parts_below : (whole : Whole) (first left old new : Option (List ℕ)) (before held : List ℕ) (p : List PlainEntry → Type 0) (some all : Bool) → before ≡ []
    → Grows old new → (all ≡ true → (some ≡ true) × (held ≡ []))
    → AreParts whole first left (appended old before) (appended new held) p some → AreParts whole first left old new p all
parts_below whole first left old new before held p some all none g out d = λ bytes h.
    let r = d bytes h in
    record {
      came = r.came;
      rest = r.rest;
      split = r.split;
      has_left = r.has_left;
      part = record {
        told = r.part.told;
        allowed = r.part.allowed;
        printed = λ k.
            let e = out k in
            went_out old new new before held (flat_map line_text r.part.told) none (r.part.printed e.0) (nothing_appended new
            ∙ ap (λ (l : List ℕ). appended new l) (sym e.1));
        front = either_map
            (λ f. λ more later. front_below old new before held r.part.told _ none g (f more later))
            (λ f. (f.0, λ later. front_below old new before held r.part.told _ none g (f.1 later)))
            r.part.front;
      };
    }

-- and more of it went out in the end
pub parts_written : (whole : Whole) (first left old mid new : Option (List ℕ)) (before held last : List ℕ) (p : List PlainEntry → Type 0) (some all : Bool)
    → before ≡ [] → Grows old mid → Grows mid new
    → appended new last ≡ appended mid held → (all ≡ true → (some ≡ true) × (last ≡ []))
    → AreParts whole first left (appended old before) (appended mid held) p some → AreParts whole first left old new p all
parts_written whole first left old mid new before held last p some all none a b e out d =
    parts_below whole first left old new before last p some all none (grows_on _ _ _ a b) out
    (subst (λ (o : Option (List ℕ)). AreParts whole first left (appended old before) o p some) (sym e) d)

-- these lines needn't have been printed whole
less : (whole : Whole) (first left old new : Option (List ℕ)) (p : List PlainEntry → Type 0) (all : Bool) → AreParts whole first left old new p all
    → AreParts whole first left old new p false
less whole first left old new p all d = λ bytes h.
    let r = d bytes h in
    record {
      came = r.came;
      rest = r.rest;
      split = r.split;
      has_left = r.has_left;
      part = record { told = r.part.told; allowed = r.part.allowed; printed = λ k. absurd cc; front = r.part.front };
    }

pub parts_at : (r : Result Bool Stop) (stop : Stop) (whole : Whole) (first left old new : Option (List ℕ)) (p : List PlainEntry → Type 0) → r ≡ Err stop
    → IfErr r (λ s. AreParts whole first left old new p (prints_all s)) → AreParts whole first left old new p (prints_all stop)
parts_at r stop whole first left old new p e d = subst (λ x. IfErr x (λ s. AreParts whole first left old new p (prints_all s))) e d

-- whatever was answered, a front was printed
pub parts_any : (r : Result Bool Stop) (whole : Whole) (first left old new : Option (List ℕ)) (p : List PlainEntry → Type 0)
    → OnOk r (AreParts whole first left old new p false)
    → IfErr r (λ stop. AreParts whole first left old new p (prints_all stop)) → AreParts whole first left old new p false
parts_any (Ok accepted) whole first left old new p f d = f
parts_any (Err stop) whole first left old new p f d = less whole first left old new p (prints_all stop) d

-- it stopped
pub replayed_part : {boxes : ℕ} {p : List PlainEntry → Type 0} {first left old new : Option (List ℕ)} (r : Result Bool Stop) (stop : Stop)
    → IsErrAnd r (λ y. y ≡ stop) → AreParts (replay_of boxes) first left old new p (prints_all stop) → IsReplayed boxes p first left old new r
replayed_part (Ok accepted) stop h part = absurd h
replayed_part {boxes} {p} {first} {left} {old} {new} (Err y) stop h part = record {
  printed = tt;
  to_end = λ k. absurd cc;
  behind = λ k. absurd cc;
  part = subst (λ (z : Stop). AreParts (replay_of boxes) first left old new p (prints_all z)) (sym h) part;
}
