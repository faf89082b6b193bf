-- Judging line by line finds the first line that breaks a law.
use Rattle.std.proofs.Common.{◌≡◌, ℕ, ◌+◌, Bool, true, false, not, cond, Decides, ◌↔◌, List, [], ◌∷◌, ◌++◌, length, Option, Some, None, refl, ap}
use Rattle.std.proofs.Common.{subst, ◌∙◌, arith}
use Rattle.homa_plain.specs.Entries.{PlainEntry}
use Rattle.trace_rules.specs.View.{View, nothing_seen}
use Rattle.trace_rules.specs.Seen.{seen, seen_all}
use Rattle.trace_rules.specs.Shape.{Shape}
use Rattle.trace_rules.specs.Laws.{Holds, Once, Returned, HandedUp, Fails}
use Rattle.trace_rules.specs.Granting.{Granting}
use Rattle.trace_rules.specs.Judge.{has_shape, runs_once, returns_answer, hands_up, fails_in_time, grants_chosen, Clause, ShapeClause, OnceClause}
use Rattle.trace_rules.specs.Judge.{ReturnedClause, HandedUpClause, FailsClause, GrantingClause, judged, found_or, first_from, first_broken, Obeys}
use Rattle.trace_rules.specs.Judge.{FailsFirst, IsFirstBroken}
use Rattle.trace_rules.proofs.LawTests.{shape_is, once_is, returned_is, handed_up_is, fails_is, granting_is}

-- ---- one line

-- a test that isn't passed, of a fact that doesn't hold
unmet : (b : Bool) (P : Type 0) → Decides b P → (¬ P) → b ≡ false
unmet true P d n = absurd (n (d.0 refl))
unmet false P d n = refl

failed : (b : Bool) (P : Type 0) → Decides b P → b ≡ false → ¬ P
failed b P d e h = cc (d.1 h)

-- what a judgement says of its line
abbrev Judges : View → PlainEntry → Option Clause → Type 0
Judges v line None = Obeys v line
Judges v line (Some clause) = FailsFirst v line clause

-- the clauses one behind the other
by_clauses : (a b c d e f : Bool) (A B C D E F : Type 0) (P : Option Clause → Type 0) → Decides a A → Decides b B → Decides c C → Decides d D
    → Decides e E → Decides f F
    → ((¬ A) → P (Some ShapeClause)) → (A → (¬ B) → P (Some OnceClause)) → (A → B → (¬ C) → P (Some ReturnedClause))
    → (A → B → C → (¬ D) → P (Some HandedUpClause))
    → (A → B → C → D → (¬ E) → P (Some FailsClause)) → (A → B → C → D → E → (¬ F) → P (Some GrantingClause)) → (A → B → C → D → E → F → P None)
    → P (cond (not a) (Some ShapeClause)
    (cond (not b) (Some OnceClause)
    (cond (not c) (Some ReturnedClause) (cond (not d) (Some HandedUpClause) (cond (not e) (Some FailsClause) (cond (not f) (Some GrantingClause) None))))))
by_clauses false b c d e f A B C D E F P da db dc dd de df s o r h t g all = s (failed false A da refl)
by_clauses true false c d e f A B C D E F P da db dc dd de df s o r h t g all = o (da.0 refl) (failed false B db refl)
by_clauses true true false d e f A B C D E F P da db dc dd de df s o r h t g all = r (da.0 refl) (db.0 refl) (failed false C dc refl)
by_clauses true true true false e f A B C D E F P da db dc dd de df s o r h t g all = h (da.0 refl) (db.0 refl) (dc.0 refl) (failed false D dd refl)
by_clauses true true true true false f A B C D E F P da db dc dd de df s o r h t g all =
    t (da.0 refl) (db.0 refl) (dc.0 refl) (dd.0 refl) (failed false E de refl)
by_clauses true true true true true false A B C D E F P da db dc dd de df s o r h t g all =
    g (da.0 refl) (db.0 refl) (dc.0 refl) (dd.0 refl) (de.0 refl) (failed false F df refl)
by_clauses true true true true true true A B C D E F P da db dc dd de df s o r h t g all =
    all (da.0 refl) (db.0 refl) (dc.0 refl) (dd.0 refl) (de.0 refl) (df.0 refl)

judged_is : (v : View) (line : PlainEntry) → Judges v line (judged v line)
unfolding judged
judged_is v line =
    by_clauses (has_shape v line) (runs_once v line) (returns_answer v line) (hands_up v line) (fails_in_time v line) (grants_chosen v line)
    (Shape v line) (Once v line) (Returned v line) (HandedUp v line) (Fails v line) (Granting v line) (Judges v line)
    (shape_is v line) (once_is v line) (returned_is v line) (handed_up_is v line) (fails_is v line) (granting_is v line)
    (λ s. s) (λ s o. (s, o)) (λ s o r. (s, o, r)) (λ s o r h. (s, o, r, h)) (λ s o r h f. (s, o, r, h, f)) (λ s o r h f g. (s, o, r, h, f, g))
    (λ s o r h f g. record { shape = s; once = o; returned = r; handed_up = h; fails = f; granting = g })

judged-none : (v : View) (line : PlainEntry) → Obeys v line → judged v line ≡ None
unfolding judged
judged-none v line all =
    rw (
      (shape_is v line).1 all.shape,
      (once_is v line).1 all.once,
      (returned_is v line).1 all.returned,
      (handed_up_is v line).1 all.handed_up,
      (fails_is v line).1 all.fails,
      (granting_is v line).1 all.granting,
    ) refl

judged-some : (v : View) (line : PlainEntry) (clause : Clause) → FailsFirst v line clause → judged v line ≡ Some clause
unfolding judged
judged-some v line ShapeClause f = rw (unmet _ _ (shape_is v line) f) refl
judged-some v line OnceClause f = rw ((shape_is v line).1 f.0, unmet _ _ (once_is v line) f.1) refl
judged-some v line ReturnedClause f = rw ((shape_is v line).1 f.0, (once_is v line).1 f.1, unmet _ _ (returned_is v line) f.2) refl
judged-some v line HandedUpClause f = rw ((shape_is v line).1 f.0, (once_is v line).1 f.1, (returned_is v line).1 f.2, unmet _ _ (handed_up_is v line) f.3) refl
judged-some v line FailsClause f =
    rw ((shape_is v line).1 f.0, (once_is v line).1 f.1, (returned_is v line).1 f.2, (handed_up_is v line).1 f.3, unmet _ _ (fails_is v line) f.4) refl
judged-some v line GrantingClause f =
    rw (
      (shape_is v line).1 f.0,
      (once_is v line).1 f.1,
      (returned_is v line).1 f.2,
      (handed_up_is v line).1 f.3,
      (fails_is v line).1 f.4,
      unmet _ _ (granting_is v line) f.5,
    ) refl

-- ---- many lines

-- each line has its place
place-seen : (v : View) (line : PlainEntry) → (seen v line).place ≡ v.place + 1
unfolding seen
place-seen v line = refl

-- line k is the first that breaks a law behind lines that said v, and this clause is the first that fails there
record IsBroken (v : View) (lines : List PlainEntry) (k : ℕ) (clause : Clause) : Type 0 where
  pub before : List PlainEntry
  pub line : PlainEntry
  pub behind : List PlainEntry
  pub parts : lines ≡ before ++ line ∷ behind
  pub number : k ≡ v.place + length before + 1
  pub obeyed : Holds Obeys v before
  pub broken : FailsFirst (seen_all v before) line clause

abbrev Found : View → List PlainEntry → Option (ℕ × Clause) → Type 0
Found v lines None = Holds Obeys v lines
Found v lines (Some found) = IsBroken v lines found.0 found.1

later : (v : View) (line : PlainEntry) (lines : List PlainEntry) (k : ℕ) (clause : Clause) → Obeys v line → IsBroken (seen v line) lines k clause
    → IsBroken v (line ∷ lines) k clause
later v line lines k clause here is = record {
  before = line ∷ is.before;
  line = is.line;
  behind = is.behind;
  parts = ap (λ xs. line ∷ xs) is.parts;
  number = is.number ∙ omega (arith, place-seen v line);
  obeyed = (here, is.obeyed);
  broken = is.broken;
}

next_found : (v : View) (line : PlainEntry) (lines : List PlainEntry) (c : Option Clause) (o : Option (ℕ × Clause)) → Judges v line c
    → Found (seen v line) lines o → Found v (line ∷ lines) (found_or (v.place + 1) c o)
next_found v line lines None None here rest = (here, rest)
next_found v line lines None (Some found) here rest = later v line lines found.0 found.1 here rest
next_found v line lines (Some clause) o here rest =
    record { before = []; line = line; behind = lines; parts = refl; number = omega arith; obeyed = tt; broken = here }

first_is : (lines : List PlainEntry) (v : View) → Found v lines (first_from v lines)
first_is [] v = tt
first_is (line ∷ lines) v = next_found v line lines (judged v line) (first_from (seen v line) lines) (judged_is v line) (first_is lines (seen v line))

-- where all lines obey, none is found
none-first : (lines : List PlainEntry) (v : View) → Holds Obeys v lines → first_from v lines ≡ None
none-first [] v all = refl
none-first (line ∷ lines) v all = rw (judged-none v line all.0) (none-first lines (seen v line) all.1)

-- the first that breaks a law is found
some-first : (before : List PlainEntry) (v : View) (line : PlainEntry) (behind : List PlainEntry) (clause : Clause) → Holds Obeys v before
    → FailsFirst (seen_all v before) line clause
    → first_from v (before ++ line ∷ behind) ≡ Some (v.place + length before + 1, clause)
some-first [] v line behind clause all fails = rw (judged-some v line clause fails) (ap (λ (k : ℕ). Some (k, clause)) (omega arith))
some-first (x ∷ before) v line behind clause all fails =
    rw (judged-none v x all.0) (some-first before (seen v x) line behind clause all.1 fails ∙ ap (λ (k : ℕ). Some (k, clause)) (omega (arith, place-seen v x)))

-- nothing is found exactly where all lines obey
none_by : (v : View) (lines : List PlainEntry) (o : Option (ℕ × Clause)) → o ≡ None → Found v lines o → Holds Obeys v lines
none_by v lines None e found = found
none_by v lines (Some x) e found = absurd cc

pub none_found : (lines : List PlainEntry) → (first_broken lines ≡ None) ↔ Holds Obeys nothing_seen lines
none_found lines = (λ e. none_by nothing_seen lines (first_broken lines) e (first_is lines nothing_seen), none-first lines nothing_seen)

-- a line and a clause are found exactly where they are the first
some_by : (lines : List PlainEntry) (k : ℕ) (clause : Clause) (o : Option (ℕ × Clause)) → o ≡ Some (k, clause) → Found nothing_seen lines o
    → IsFirstBroken lines k clause
some_by lines k clause None e found = absurd cc
some_by lines k clause (Some x) e found =
    let is : x ≡ (k, clause) = cc in
    let broken = subst (λ (y : ℕ × Clause). IsBroken nothing_seen lines y.0 y.1) is found in
    record {
      before = broken.before;
      line = broken.line;
      behind = broken.behind;
      parts = broken.parts;
      number = omega arith;
      obeyed = broken.obeyed;
      broken = broken.broken;
    }

pub some_found : (lines : List PlainEntry) (k : ℕ) (clause : Clause) → (first_broken lines ≡ Some (k, clause)) ↔ IsFirstBroken lines k clause
some_found lines k clause = (
  λ e. some_by lines k clause (first_broken lines) e (first_is lines nothing_seen),
  λ is. ap first_broken is.parts ∙ some-first is.before nothing_seen is.line is.behind clause is.obeyed is.broken ∙ ap (λ (n : ℕ). Some (n, clause))
      (omega arith),
)

-- ---- lists of lines

-- a law holds at lines and then at more lines
pub Holds-append : (law : View → PlainEntry → Type 0) (v : View) (xs ys : List PlainEntry) → Holds law v xs → Holds law (seen_all v xs) ys
    → Holds law v (xs ++ ys)
Holds-append law v [] ys first rest = rest
Holds-append law v (x ∷ xs) ys first rest = (first.0, Holds-append law (seen v x) xs ys first.1 rest)

pub seen_all-append : (v : View) (xs ys : List PlainEntry) → seen_all v (xs ++ ys) ≡ seen_all (seen_all v xs) ys
seen_all-append v [] ys = refl
seen_all-append v (x ∷ xs) ys = seen_all-append (seen v x) xs ys

-- all laws hold at each line exactly where each law does
pub each_law : (v : View) (lines : List PlainEntry)
    → Holds Obeys v lines ↔ (Holds Shape v lines × Holds Once v lines × Holds Returned v lines × Holds HandedUp v lines × Holds Fails v lines
    × Holds Granting v lines)
each_law v [] = (λ u. (tt, tt, tt, tt, tt, tt), λ u. tt)
each_law v (line ∷ lines) =
    let rest = each_law (seen v line) lines in (
      λ all. let h =
          rest.0 all.1 in ((all.0.shape, h.0), (all.0.once, h.1), (all.0.returned, h.2), (all.0.handed_up, h.3), (all.0.fails, h.4), (all.0.granting, h.5)),
      λ h. (
        record { shape = h.0.0; once = h.1.0; returned = h.2.0; handed_up = h.3.0; fails = h.4.0; granting = h.5.0 },
        rest.1 (h.0.1, h.1.1, h.2.1, h.3.1, h.4.1, h.5.1),
      ),
    )
