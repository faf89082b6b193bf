-- The lines of a step, and what boxes allow of them.
use Rattle.std.proofs.Common.{◌≡◌, ℕ, suc, true, false, Option, List, [], ◌∷◌, ◌++◌, refl, ap, ◌∙◌, arith}
use Rattle.std.specs.List.{AllByRecursion}
use Rattle.homa_plain.specs.declared.id.CallId.{CallId}
use Rattle.homa_plain.specs.declared.id.HostId.{HostId}
use Rattle.homa_plain.specs.Entries.{PlainEntry, PlainRun, PlainRestart}
use Rattle.homa_plain.specs.Host.{Told, Says, Sends, entries_from}
use Rattle.homa_plain.specs.Steps.{has_run}
use Rattle.homa_plain.specs.Answers.{shown}
use Rattle.step_laws.specs.StepLaws.{run_count}
use Rattle.event_laws.specs.Named.{IsOfStep}
use Rattle.box_laws.specs.Boxes.{Allows, may_tell}

pub shown-append : (xs ys : List PlainEntry) → shown (xs ++ ys) ≡ shown xs ++ shown ys
shown-append [] ys = refl
shown-append (PlainRun host id service request response hold ∷ xs) ys = ap (λ these. record { bytes = response; hold = hold } ∷ these) (shown-append xs ys)
shown-append (x ∷ xs) ys = shown-append xs ys

-- lines without a `run` line show no answer
pub shown-quiet : (n : ℕ) (told : List Told) → run_count told ≡ 0 → shown (entries_from n told) ≡ []
shown-quiet n [] none = refl
shown-quiet n (Sends p ∷ told) none = shown-quiet (suc n) told none
shown-quiet n (Says e ∷ told) none = by_entry e none (λ f. shown-quiet n told f) where
  by_entry : (e : PlainEntry) → run_count (Says e ∷ told) ≡ 0 → (run_count told ≡ 0 → shown (entries_from n told) ≡ []) → shown (e ∷ entries_from n told) ≡ []
  by_entry (PlainRun host id service request response hold) none rest = absurd (omega (arith, none))
  by_entry e none rest = rest none

pub of_parts : (xs ys : List Told) → AllByRecursion IsOfStep (xs ++ ys) → AllByRecursion IsOfStep xs × AllByRecursion IsOfStep ys
of_parts [] ys all = (tt, all)
of_parts (x ∷ xs) ys all = let r = of_parts xs ys all.1 in ((all.0, r.0), r.1)

module _ {A : Type 0} (allows : Allows A) (spares : List (A × ℕ)) where
  -- behind lines without a `run` line and without a restart
  pub passed : (seats : List (Option (A × ℕ))) (n : ℕ) (told : List Told) (more : List PlainEntry) → AllByRecursion IsOfStep told → run_count told ≡ 0
      → may_tell allows seats spares (entries_from n told ++ more) → may_tell allows seats spares more
  passed seats n [] more own none may = may
  passed seats n (Sends p ∷ told) more own none may = passed seats (suc n) told more own.1 none may.1
  passed seats n (Says e ∷ told) more own none may = by_entry e own.0 none may (λ f m. passed seats n told more own.1 f m) where
    by_entry : (e : PlainEntry) → IsOfStep (Says e) → run_count (Says e ∷ told) ≡ 0 → may_tell allows seats spares (e ∷ (entries_from n told ++ more))
        → (run_count told ≡ 0 → may_tell allows seats spares (entries_from n told ++ more) → may_tell allows seats spares more)
        → may_tell allows seats spares more
    by_entry (PlainRun host id service request response hold) o none may rest = absurd (omega (arith, none))
    by_entry (PlainRestart host inc) o none may rest = absurd o
    by_entry e o none may rest = rest none may.1

-- the first RUN that is told
pub record Found (told : List Told) : Type 0 where
  pub before : List Told
  pub host : HostId
  pub id : CallId
  pub service : ℕ
  pub request : List ℕ
  pub response : List ℕ
  pub hold : ℕ
  pub after : List Told
  pub is : told ≡ before ++ (Says (PlainRun host id service request response hold) ∷ after)
  pub quiet : run_count before ≡ 0

further : (t : Told) (told : List Told) → ((ts : List Told) → run_count (t ∷ ts) ≡ run_count ts) → Found told → Found (t ∷ told)
further t told calm f = record {
  before = t ∷ f.before;
  host = f.host;
  id = f.id;
  service = f.service;
  request = f.request;
  response = f.response;
  hold = f.hold;
  after = f.after;
  is = ap (λ ts. t ∷ ts) f.is;
  quiet = calm f.before ∙ f.quiet;
}

pub found : (told : List Told) → has_run told ≡ true → Found told
found [] e = absurd (let no : false ≡ true = e in cc)
found (Sends p ∷ told) e = further (Sends p) told (λ ts. refl) (found told e)
found (Says e ∷ told) is = by_entry e is (λ f. found told f) where
  by_entry : (e : PlainEntry) → has_run (Says e ∷ told) ≡ true → (has_run told ≡ true → Found told) → Found (Says e ∷ told)
  by_entry (PlainRun host id service request response hold) is rest =
      record {
        before = [];
        host = host;
        id = id;
        service = service;
        request = request;
        response = response;
        hold = hold;
        after = told;
        is = refl;
        quiet = refl;
      }
  by_entry e is rest = further (Says e) told (λ ts. refl) (rest is)

-- told without a RUN
pub no_run : (told : List Told) → has_run told ≡ false → run_count told ≡ 0
no_run [] e = refl
no_run (Sends p ∷ told) e = no_run told e
no_run (Says e ∷ told) is = by_entry e is (λ f. no_run told f) where
  by_entry : (e : PlainEntry) → has_run (Says e ∷ told) ≡ false → (has_run told ≡ false → run_count told ≡ 0) → run_count (Says e ∷ told) ≡ 0
  by_entry (PlainRun host id service request response hold) is rest = absurd (let no : true ≡ false = is in cc)
  by_entry e is rest = rest is
