-- What the verdict says of a text.
use Rattle.std.proofs.Common.{◌≡◌, ◌≢◌, ◌<◌, ◌≤◌, ◌⊎◌, inl, inr, ◌↔◌, ℕ, ◌+◌, arith, Bool, true, false, cond, ◌||◌, List, [], ◌∷◌, ◌++◌, length}
use Rattle.std.proofs.Common.{Option, Some, None, refl, sym, ap, subst, ◌∙◌}
use Rattle.std.specs.Prelude.{nat_lt, IfSome, IfNone}
use Rattle.std.specs.Option.{option_map}
use Rattle.std.proofs.lemmas.Bool.Decides.{nat_tests}
use Rattle.homa_plain.specs.Entries.{PlainEntry}
use Rattle.homa_plain.specs.Input.{lines_of, without_feed}
use Rattle.homa_plain.specs.Text.{line_text}
use Rattle.trace_rules.specs.View.{View, nothing_seen}
use Rattle.trace_rules.specs.Seen.{seen, seen_all}
use Rattle.trace_rules.specs.Judge.{Clause, ShapeClause, judged, found_or, first_from, FailsFirst, IsFirstBroken}
use Rattle.trace_rules.proofs.LawsJudged.{none_found, some_found}
use Rattle.check_reader.specs.Forms.{entry_of}
use Rattle.check_reader.specs.Told.{Fits, IsUsual}
use Rattle.check_reader.proofs.EntryLaws.{HasLine, entry_of-takes, entry_of-again, one_entry}
use Rattle.check_verdict.specs.Verdict.{longest_line, stands_for, judged_text, seen_text, Yes, No, no_or, verdict_from, verdict_on, verdict_of}
use Rattle.homa_plain.specs.Limits.{longest_input}
use Rattle.check_verdict.specs.Text.{Tells, AreTold, bytes_in, IsTrace, FailsAt, IsFirstFailing, IsNoTrace}

-- ---- one line

-- the entry whose line it is
own : (line : List ℕ) (e f : PlainEntry) → Fits e → IsUsual e → line_text e ≡ line ++ 10 ∷ [] → HasLine line f → f ≡ e
own line e f fits usual text h = one_entry f e h.fits fits h.usual usual (h.text ∙ sym text)

read_again : (line : List ℕ) (e : PlainEntry) (o : Option PlainEntry) → Fits e → IsUsual e → line_text e ≡ line ++ 10 ∷ [] → entry_of line ≡ o → o ≡ Some e
read_again line e None fits usual text is = let some = entry_of-again line e fits text in absurd cc
read_again line e (Some f) fits usual text is = ap (λ x. Some x) (own line e f fits usual text (entry_of-takes line f is))

-- what was read of a line, by the laws of a reader
pub entry_read : {A : Type 0} (plain : A → PlainEntry) (read : Option A) (line : List ℕ) → IfSome read (λ e. line_text (plain e) ≡ line ++ 10 ∷ [])
    → IfSome read (λ e. Fits (plain e)) → IfSome read (λ e. IsUsual (plain e))
    → IfNone read ((e : PlainEntry) → Fits e → line_text e ≢ line ++ 10 ∷ []) → entry_of line ≡ option_map plain read
entry_read plain (Some e) line text fits usual none = read_again line (plain e) (entry_of line) fits usual text refl
entry_read plain None line text fits usual none = not_read (entry_of line) refl where
  not_read : (o : Option PlainEntry) → entry_of line ≡ o → o ≡ None
  not_read None e = refl
  not_read (Some f) e = let h = entry_of-takes line f e in absurd (none f h.fits h.text)

-- a line that is short and within the input
pub short_line : (read : ℕ) (line : List ℕ) → length (without_feed line) ≤ longest_line → read + length line ≤ longest_input
    → stands_for read line ≡ entry_of (without_feed line)
unfolding stands_for
short_line read line short within =
    let a : nat_lt longest_input (read + length line) ≡ false = grind (arith, nat_tests) in
    let b : nat_lt longest_line (length (without_feed line)) ≡ false = grind (arith, nat_tests) in
    rw (a, b) refl

-- one that isn't
pub over_line : (read : ℕ) (line : List ℕ) → longest_input < read + length line → stands_for read line ≡ None
unfolding stands_for
over_line read line over =
    let a : nat_lt longest_input (read + length line) ≡ true = grind (arith, nat_tests) in
    rw a refl

pub long_line : (read : ℕ) (line : List ℕ) → longest_line < length (without_feed line) → stands_for read line ≡ None
unfolding stands_for
long_line read line long =
    let b : nat_lt longest_line (length (without_feed line)) ≡ true = grind (arith, nat_tests) in
    elim (nat_lt longest_input (read + length line)) as
    (λ a. cond (a || nat_lt longest_line (length (without_feed line))) None (entry_of (without_feed line)) ≡ None)
    [ true ↦ refl | false ↦ rw b refl ]

some_by : (read : ℕ) (line : List ℕ) (e : PlainEntry) (a b : Bool) → nat_lt longest_input (read + length line) ≡ a
    → nat_lt longest_line (length (without_feed line)) ≡ b
    → cond (a || b) None (entry_of (without_feed line)) ≡ Some e → Tells read line e
some_by read line e true b p q h = absurd cc
some_by read line e false true p q h = absurd cc
some_by read line e false false p q h =
    let has = entry_of-takes (without_feed line) e h in
    record { text = has.text; fits = has.fits; usual = has.usual; short = grind (arith, nat_tests); within = grind (arith, nat_tests) }

pub some_stands : (read : ℕ) (line : List ℕ) (e : PlainEntry) → stands_for read line ≡ Some e → Tells read line e
unfolding stands_for
some_stands read line e h = some_by read line e (nat_lt longest_input (read + length line)) (nat_lt longest_line (length (without_feed line))) refl refl h

pub stands_some : (read : ℕ) (line : List ℕ) (e : PlainEntry) → Tells read line e → stands_for read line ≡ Some e
stands_some read line e t =
    short_line read line t.short t.within ∙ read_again (without_feed line) e (entry_of (without_feed line)) t.fits t.usual t.text refl

none_stands : (read : ℕ) (line : List ℕ) → stands_for read line ≡ None → (e : PlainEntry) → ¬ Tells read line e
none_stands read line h e t = let some = stands_some read line e t in absurd cc

-- ---- yes

-- what a yes says of lines
record IsYes (v : View) (read : ℕ) (lines : List (List ℕ)) (n : ℕ) : Type 0 where
  pub entries : List PlainEntry
  pub told : AreTold read lines entries
  pub obeyed : first_from v entries ≡ None
  pub count : n ≡ v.place + length entries

pub place-seen : (v : View) (line : PlainEntry) → (seen v line).place ≡ v.place + 1
unfolding seen
place-seen v line = refl

yes_line : (v : View) (read n : ℕ) (line : List ℕ) (lines : List (List ℕ)) (o : Option PlainEntry) (c : Option Clause) → stands_for read line ≡ o
    → judged_text v o ≡ c
    → no_or (v.place + 1) c (verdict_from (seen_text v o) (read + length line) lines) ≡ Yes n
    → ((u : View) → verdict_from u (read + length line) lines ≡ Yes n → IsYes u (read + length line) lines n) → IsYes v read (line ∷ lines) n
yes_line v read n line lines o (Some c) is j h rest = absurd cc
yes_line v read n line lines None None is j h rest = absurd cc
yes_line v read n line lines (Some e) None is j h rest =
    let r = rest (seen v e) h in
    record {
      entries = e ∷ r.entries;
      told = (some_stands read line e is, r.told);
      obeyed = rw j r.obeyed;
      count = r.count ∙ omega (arith, place-seen v e);
    }

yes_says : (lines : List (List ℕ)) (v : View) (read n : ℕ) → verdict_from v read lines ≡ Yes n → IsYes v read lines n
yes_says [] v read n h = record { entries = []; told = tt; obeyed = refl; count = same h ∙ omega arith } where
  same : Yes v.place ≡ Yes n → n ≡ v.place
  same e = cc
yes_says (line ∷ lines) v read n h =
    yes_line v read n line lines (stands_for read line) (judged_text v (stands_for read line)) refl refl h (λ u. yes_says lines u (read + length line) n)

none_first : (v : View) (e : PlainEntry) (es : List PlainEntry) (c : Option Clause) → judged v e ≡ c
    → found_or (v.place + 1) c (first_from (seen v e) es) ≡ None → (judged v e ≡ None) × (first_from (seen v e) es ≡ None)
none_first v e es None is h = (is, h)
none_first v e es (Some c) is h = absurd cc

says_yes : (lines : List (List ℕ)) (v : View) (read : ℕ) (entries : List PlainEntry) → AreTold read lines entries → first_from v entries ≡ None
    → verdict_from v read lines ≡ Yes (v.place + length entries)
says_yes [] v read [] told h = ap (λ n. Yes n) (omega arith)
says_yes [] v read (e ∷ es) told h = absurd told
says_yes (line ∷ lines) v read [] told h = absurd told
says_yes (line ∷ lines) v read (e ∷ es) told h =
    let both = none_first v e es (judged v e) refl h in
    rw (stands_some read line e told.0, both.0)
    (says_yes lines (seen v e) (read + length line) es told.1 both.1 ∙ ap (λ n. Yes n) (omega (arith, place-seen v e)))

-- ---- no

-- what a no says of lines
record IsNo (v : View) (read : ℕ) (lines : List (List ℕ)) (k : ℕ) (clause : Clause) : Type 0 where
  pub before : List (List ℕ)
  pub line : List ℕ
  pub behind : List (List ℕ)
  pub parts : lines ≡ before ++ line ∷ behind
  pub number : k ≡ v.place + length before + 1
  pub entries : List PlainEntry
  pub told : AreTold read before entries
  pub obeyed : first_from v entries ≡ None
  pub fails : (((e : PlainEntry) → ¬ Tells (read + bytes_in before) line e) × (clause ≡ ShapeClause))
      ⊎ ((e : PlainEntry) × Tells (read + bytes_in before) line e × (judged (seen_all v entries) e ≡ Some clause))

abbrev Fails : View → ℕ → List ℕ → Clause → Type 0
Fails v read line clause =
    (((e : PlainEntry) → ¬ Tells read line e) × (clause ≡ ShapeClause)) ⊎ ((e : PlainEntry) × Tells read line e × (judged v e ≡ Some clause))

same_no : (j k : ℕ) (c d : Clause) → No j c ≡ No k d → (j ≡ k) × (c ≡ d)
same_no j k c d h = (cc, cc)

fails_here : (v : View) (read : ℕ) (line : List ℕ) (o : Option PlainEntry) (c : Clause) → stands_for read line ≡ o → judged_text v o ≡ Some c
    → Fails v read line c
fails_here v read line None c is j = inl (none_stands read line is, cc)
fails_here v read line (Some e) c is j = inr (e, some_stands read line e is, j)

at_read : (v : View) (a b : ℕ) (line : List ℕ) (c : Clause) → a ≡ b → Fails v a line c → Fails v b line c
at_read v a b line c e f = subst (λ (n : ℕ). Fails v n line c) e f

no_line : (v : View) (read k : ℕ) (clause : Clause) (line : List ℕ) (lines : List (List ℕ)) (o : Option PlainEntry) (c : Option Clause)
    → stands_for read line ≡ o → judged_text v o ≡ c
    → no_or (v.place + 1) c (verdict_from (seen_text v o) (read + length line) lines) ≡ No k clause
    → ((u : View) → verdict_from u (read + length line) lines ≡ No k clause → IsNo u (read + length line) lines k clause) → IsNo v read (line ∷ lines) k clause
no_line v read k clause line lines o (Some c) is j h rest =
    let both = same_no (v.place + 1) k c clause h in
    record {
      before = [];
      line = line;
      behind = lines;
      parts = refl;
      number = sym both.0 ∙ omega arith;
      entries = [];
      told = tt;
      obeyed = refl;
      fails = subst (λ (d : Clause). Fails v (read + 0) line d) both.1 (at_read v read (read + 0) line c (omega arith) (fails_here v read line o c is j));
    }
no_line v read k clause line lines None None is j h rest = absurd cc
no_line v read k clause line lines (Some e) None is j h rest =
    let r = rest (seen v e) h in
    record {
      before = line ∷ r.before;
      line = r.line;
      behind = r.behind;
      parts = ap (λ xs. line ∷ xs) r.parts;
      number = r.number ∙ omega (arith, place-seen v e);
      entries = e ∷ r.entries;
      told = (some_stands read line e is, r.told);
      obeyed = rw j r.obeyed;
      fails = at_read (seen_all (seen v e) r.entries) ((read + length line) + bytes_in r.before) (read + (length line + bytes_in r.before)) r.line
          clause (omega arith) r.fails;
    }

no_says : (lines : List (List ℕ)) (v : View) (read k : ℕ) (clause : Clause) → verdict_from v read lines ≡ No k clause → IsNo v read lines k clause
no_says [] v read k clause h = absurd cc
no_says (line ∷ lines) v read k clause h =
    no_line v read k clause line lines (stands_for read line) (judged_text v (stands_for read line)) refl refl h
    (λ u. no_says lines u (read + length line) k clause)

-- ---- the clause of one line, by the clauses of lists of lines

with_last : (es : List PlainEntry) (v : View) (e : PlainEntry) (c : Clause) → first_from v es ≡ None → judged (seen_all v es) e ≡ Some c
    → first_from v (es ++ e ∷ []) ≡ Some (v.place + length es + 1, c)
with_last [] v e c h j = rw j (ap (λ (k : ℕ). Some (k, c)) (omega arith))
with_last (x ∷ es) v e c h j =
    let both = none_first v x es (judged v x) refl h in
    rw both.0 (with_last es (seen v x) e c both.1 j ∙ ap (λ (k : ℕ). Some (k, c)) (omega (arith, place-seen v x)))

same_front : {A : Type 0} (xs ys : List A) (x y : A) (zs : List A) → xs ++ x ∷ [] ≡ ys ++ y ∷ zs → length xs ≡ length ys → (xs ≡ ys) × (x ≡ y)
same_front [] [] x y zs e n = (refl, cc)
same_front [] (b ∷ ys) x y zs e n = absurd (omega (arith, n))
same_front (a ∷ xs) [] x y zs e n = absurd (omega (arith, n))
same_front {A} (a ∷ xs) (b ∷ ys) x y zs e n =
    let heads : a ≡ b = cc in
    let tails : xs ++ x ∷ [] ≡ ys ++ y ∷ zs = cc in
    let rest = same_front xs ys x y zs tails (omega (arith, n)) in
    (ap (λ (c : A). c ∷ xs) heads ∙ ap (λ (l : List A). b ∷ l) rest.0, rest.1)

fails_first : (es : List PlainEntry) (e : PlainEntry) (c : Clause) → first_from nothing_seen es ≡ None → judged (seen_all nothing_seen es) e ≡ Some c
    → FailsFirst (seen_all nothing_seen es) e c
fails_first es e c h j =
    let broken : IsFirstBroken (es ++ e ∷ []) (0 + length es + 1) c = (some_found (es ++ e ∷ []) (0 + length es + 1) c).0 (with_last es nothing_seen e c h j) in
    let same = same_front es broken.before e broken.line broken.behind broken.parts (omega (arith, broken.number)) in
    subst (λ (x : PlainEntry). FailsFirst (seen_all nothing_seen es) x c) (sym same.1)
    (subst (λ (xs : List PlainEntry). FailsFirst (seen_all nothing_seen xs) broken.line c) (sym same.0) broken.broken)

-- ---- texts

yes_text : (bytes : List ℕ) (n : ℕ) (lines : List (List ℕ)) → lines_of bytes ≡ lines → verdict_on lines ≡ Yes n → IsTrace bytes n
yes_text bytes n [] is h = absurd cc
yes_text bytes n (line ∷ lines) is h =
    let y = yes_says (line ∷ lines) nothing_seen 0 n h in
    record {
      entries = y.entries;
      told = subst (λ (ls : List (List ℕ)). AreTold 0 ls y.entries) (sym is) y.told;
      obeyed = (none_found y.entries).0 y.obeyed;
      count = y.count ∙ omega arith;
      some = positive y.entries y.told y.count;
    }
  where
    positive : (es : List PlainEntry) → AreTold 0 (line ∷ lines) es → n ≡ 0 + length es → 0 < n
    positive [] told e = absurd told
    positive (e ∷ es) told c = omega (arith, c)

text_yes : (bytes : List ℕ) (n : ℕ) (lines : List (List ℕ)) → lines_of bytes ≡ lines → IsTrace bytes n → verdict_on lines ≡ Yes n
text_yes bytes n [] is t = absurd (none t.entries (subst (λ (ls : List (List ℕ)). AreTold 0 ls t.entries) is t.told) t.count) where
  none : (es : List PlainEntry) → AreTold 0 [] es → n ≡ length es → ⊥
  none [] told c = omega (arith, c, t.some)
  none (e ∷ es) told c = told
text_yes bytes n (line ∷ lines) is t =
    says_yes (line ∷ lines) nothing_seen 0 t.entries (subst (λ (ls : List (List ℕ)). AreTold 0 ls t.entries) is t.told) ((none_found t.entries).1 t.obeyed)
    ∙ ap (λ k. Yes k) (omega (arith, t.count))

pub yes_is : (bytes : List ℕ) (n : ℕ) → (verdict_of bytes ≡ Yes n) ↔ IsTrace bytes n
yes_is bytes n = (yes_text bytes n (lines_of bytes) refl, text_yes bytes n (lines_of bytes) refl)

fails_at : (es : List PlainEntry) (read : ℕ) (line : List ℕ) (c : Clause) → first_from nothing_seen es ≡ None
    → Fails (seen_all nothing_seen es) read line c → FailsAt (seen_all nothing_seen es) read line c
fails_at es read line c h (inl none) = inl none
fails_at es read line c h (inr some) = inr (some.0, some.1, fails_first es some.0 c h some.2)

no_text : (bytes : List ℕ) (k : ℕ) (clause : Clause) (lines : List (List ℕ)) → lines_of bytes ≡ lines → verdict_on lines ≡ No k clause
    → IsNoTrace bytes k clause
no_text bytes k clause [] is h = let both = same_no 1 k ShapeClause clause h in inl (is, sym both.0, sym both.1)
no_text bytes k clause (line ∷ lines) is h =
    let n = no_says (line ∷ lines) nothing_seen 0 k clause h in
    let first : IsFirstFailing (lines_of bytes) k clause =
    record {
      before = n.before;
      line = n.line;
      behind = n.behind;
      parts = is ∙ n.parts;
      number = n.number ∙ omega arith;
      entries = n.entries;
      told = n.told;
      obeyed = (none_found n.entries).0 n.obeyed;
      fails = fails_at n.entries (bytes_in n.before) n.line clause n.obeyed
          (at_read (seen_all nothing_seen n.entries) (0 + bytes_in n.before) (bytes_in n.before) n.line clause (omega arith) n.fails);
    } in
    inr first

pub no_is : (bytes : List ℕ) (k : ℕ) (clause : Clause) → verdict_of bytes ≡ No k clause → IsNoTrace bytes k clause
no_is bytes k clause h = no_text bytes k clause (lines_of bytes) refl h
