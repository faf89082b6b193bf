-- What a node printed are lines that obey all laws.
use Rattle.std.proofs.Common.{◌≡◌, ◌⊎◌, inl, inr, ℕ, true, false, Option, List, [], ◌++◌, refl, sym, ap, ◌∙◌, subst}
use Rattle.std.specs.List.{AllByRecursion}
use Rattle.std.proofs.lemmas.List.{append-nil}
use Rattle.homa_io.specs.Outside.{TookFront}
use Rattle.homa_plain.specs.Entries.{PlainEntry}
use Rattle.homa_plain.specs.Rules.{Answer}
use Rattle.homa_plain.specs.Answers.{shown}
use Rattle.homa_plain.specs.Script.{most_bytes}
use Rattle.node_runs.specs.Script.{Setup, Calls, Opening, Opened, Unopened, opening}
use Rattle.node_runs.specs.Course.{Receive, End, node_run}
use Rattle.node_runs.specs.Replayed.{IsAnswer}
use Rattle.node_runs.specs.Texts.{entries, node_text}
use Rattle.node_output.specs.Traces.{Around, IsWhole, IsBrokenOff, IsEndCut, IsFrontOf, node_telling}
use Rattle.node_trace_laws.proofs.Taken.{whole_texts, fronts}
use Rattle.node_print_laws.specs.Printed.{is_opened, OpensNode, AreFair, TookAll, TookSome, WholePrintsObey, PartPrintsObey}

-- a script that is opened has a setup and calls
record IsOpen (o : Opening) : Type 0 where
  setup : Setup
  calls : Calls
  is : o ≡ Opened setup calls

opened_is : (o : Opening) → is_opened o ≡ true → IsOpen o
opened_is (Opened setup calls) e = record { setup = setup; calls = calls; is = refl }
opened_is (Unopened refusal) e = absurd (let no : false ≡ true = e in cc)

module _ (may_tell : List PlainEntry → Type 0) (fair : (told : List PlainEntry) → may_tell told → AreFair told) (bytes : List ℕ)
    (opens : OpensNode bytes) (old new : Around) where
  open_is : IsOpen (opening most_bytes bytes)
  open_is = opened_is (opening most_bytes bytes) opens

  -- the answers that are shown are such as services give
  answers_fair : (told : List PlainEntry) (answers : List Answer) → may_tell told → shown told ≡ answers → AllByRecursion IsAnswer answers
  answers_fair told answers allowed shows = subst (AllByRecursion IsAnswer) shows (fair told allowed)

  pub whole_obeys : (end : End) → IsWhole may_tell bytes old new end → TookAll bytes old new
  whole_obeys end w = record {
    answers = w.answers;
    ticks = w.ticks;
    gave = w.gave;
    given = w.from.given;
    taken = whole_texts bytes open_is.setup open_is.calls w.answers w.ticks w.gave open_is.is
        (answers_fair _ w.answers w.from.allowed w.from.shows) w.from.rises old.taken new.taken w.text;
  }

  end_cut_obeys : IsEndCut may_tell node_telling bytes old new → TookSome bytes old new
  end_cut_obeys w = record {
    answers = w.answers;
    ticks = w.ticks;
    gave = w.gave;
    given = w.from.given;
    taken = fronts bytes open_is.setup open_is.calls w.answers w.ticks w.gave open_is.is
        (answers_fair _ w.answers w.from.allowed w.from.shows) w.from.rises old.taken new.taken w.text;
  }

  module _ (left : Option (List ℕ)) (w : IsBrokenOff may_tell node_telling bytes left old new) where
    -- the run of all bytes and of what was given is one that begins so
    front_there : (b : List ℕ) → b ≡ bytes
        → IsFrontOf node_text (λ r. r.sent) (node_run b (w.answers ++ []) (w.ticks ++ []) (w.gave ++ [])) w.reports old new
        → TookFront old.taken new.taken (node_text (node_run bytes w.answers w.ticks w.gave))
    front_there b e f =
        subst (λ (xs : List ℕ). TookFront old.taken new.taken (node_text (node_run xs w.answers w.ticks w.gave))) e
        (subst (λ (xs : List Answer). TookFront old.taken new.taken (node_text (node_run b xs w.ticks w.gave))) (append-nil w.answers)
        (subst (λ (xs : List ℕ). TookFront old.taken new.taken (node_text (node_run b (w.answers ++ []) xs w.gave))) (append-nil w.ticks)
        (subst (λ (xs : List Receive). TookFront old.taken new.taken (node_text (node_run b (w.answers ++ []) (w.ticks ++ []) xs)))
        (append-nil w.gave) f.text)))

    by_front : ((more : List ℕ) (later : List Answer) (on : List ℕ) (next : List Receive)
        → IsFrontOf node_text (λ r. r.sent) (node_run (w.came ++ more) (w.answers ++ later) (w.ticks ++ on) (w.gave ++ next)) w.reports old new)
        ⊎ ((w.rest ≡ []) × ((later : List Answer) (on : List ℕ) (next : List Receive)
        → IsFrontOf node_text (λ r. r.sent) (node_run w.came (w.answers ++ later) (w.ticks ++ on) (w.gave ++ next)) w.reports old new))
        → TookFront old.taken new.taken (node_text (node_run bytes w.answers w.ticks w.gave))
    by_front (inl f) = front_there (w.came ++ w.rest) (sym w.split) (f w.rest [] [] [])
    by_front (inr f) = front_there w.came (sym (append-nil w.came) ∙ (ap (λ (xs : List ℕ). w.came ++ xs) (sym f.0) ∙ sym w.split)) (f.1 [] [] [])

    broken_obeys : TookSome bytes old new
    broken_obeys = record {
      answers = w.answers;
      ticks = w.ticks;
      gave = w.gave;
      given = w.from.given;
      taken = fronts bytes open_is.setup open_is.calls w.answers w.ticks w.gave open_is.is
          (answers_fair (entries w.reports) w.answers w.from.allowed w.from.shows) w.from.rises old.taken new.taken (by_front w.front);
    }

  pub part_obeys : (left : Option (List ℕ)) → IsBrokenOff may_tell node_telling bytes left old new ⊎ IsEndCut may_tell node_telling bytes old new
      → TookSome bytes old new
  part_obeys left (inl w) = broken_obeys left w
  part_obeys left (inr w) = end_cut_obeys w

pub wholes : WholePrintsObey
wholes bytes opens old new end w = whole_obeys AreFair (λ told fair. fair) bytes opens old new end w

pub parts : PartPrintsObey
parts bytes opens left old new w = part_obeys AreFair (λ told fair. fair) bytes opens old new left w
